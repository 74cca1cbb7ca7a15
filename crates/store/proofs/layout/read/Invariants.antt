use Rattle.std.proofs.Common.{◌≡◌, take}
use Rattle.store.specs.Layout.{records}
use Rattle.store.proofs.layout.read.Given as goal

-- the records so far
abbrev pub invariant-loop-i : goal.invariant-loop-i
invariant-loop-i l = take l.i l.e-items ≡ records l.store l.i
