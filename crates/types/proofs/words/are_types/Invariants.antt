use Rattle.std.proofs.Common.{length}
use Rattle.types.proofs.Ends.{WholeBack}
use Rattle.types.proofs.words.are_types.Given as goal

abbrev pub invariant-loop-word : goal.invariant-loop-word
invariant-loop-word l = WholeBack l.words (length l.yielded) l.count
