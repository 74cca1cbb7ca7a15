use Rattle.std.proofs.Common.{◌+◌, ◌≤◌}
use Rattle.types.proofs.Ends.{Ending}
use Rattle.types.proofs.words.type_end.Given as goal

abbrev pub invariant-loop-i : goal.invariant-loop-i
invariant-loop-i l = Ending l.words l.i l.wanted × (l.wanted ≤ l.i + 1)
