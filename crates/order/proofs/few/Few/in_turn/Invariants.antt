use Rattle.std.proofs.Common.{length}
use Rattle.order.specs.Seen.{bit, seen}
use Rattle.order.proofs.Turns.{Turns, unplaced}
use Rattle.order.proofs.few.Few.in_turn.Given as goal

abbrev pub invariant-loop-place : goal.invariant-loop-place
invariant-loop-place l = Turns (seen l.self.units.now) l.order (bit l.placed)

abbrev pub decreases-loop-place : goal.decreases-loop-place
decreases-loop-place l = unplaced (length l.self.units.now) (bit l.placed)
