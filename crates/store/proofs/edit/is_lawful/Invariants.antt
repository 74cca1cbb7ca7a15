use Rattle.std.proofs.Common.{◌≡◌, drop}
use Rattle.store.specs.Entries.{well}
use Rattle.store.proofs.edit.is_lawful.Given as goal

-- what is left decides
abbrev pub invariant-loop-i : goal.invariant-loop-i
invariant-loop-i l = well l.entries ≡ well (drop l.i l.entries)
