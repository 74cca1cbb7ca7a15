-- What an optional reference holds.
use Rattle.std.specs.Prelude.{Some, None, Option}
use Rattle.std.specs.Borrow.{Bor}

-- the contents in place of the reference to them
abbrev pub shown : {X : Type 0} → Option (Bor X) → Option X
shown None = None
shown (Some r) = Some r.now
