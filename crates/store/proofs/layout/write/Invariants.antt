use Rattle.std.proofs.Common.{◌≡◌, take}
use Rattle.std.specs.List.{flat_map}
use Rattle.store.specs.Numbers.{laid}
use Rattle.store.specs.Layout.{record_bytes}
use Rattle.store.proofs.layout.write.Given as goal

-- the records so far stand behind the count
abbrev pub invariant-loop-i : goal.invariant-loop-i
invariant-loop-i l = l.store ≡ laid 1 (flat_map record_bytes (take l.i l.e-items)) l.initial.store
