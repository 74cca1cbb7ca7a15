-- Names and places, as the code hands them out.
use Rattle.std.specs.Prelude.{ℕ, List, Some, None, Ok, Err, Option, Result}
use Rattle.std.specs.Borrow.{Bor}

-- the bytes in place of the reference to them
abbrev pub named_at : Option (Bor (List ℕ) × ℕ) → Option (List ℕ × ℕ)
named_at None = None
named_at (Some x) = Some (x.0.now, x.1)

-- the same behind a result
abbrev pub mentioned : {E : Type 0} → Result (Option (Bor (List ℕ) × ℕ)) E → Result (Option (List ℕ × ℕ)) E
mentioned (Ok o) = Ok (named_at o)
mentioned (Err e) = Err e

-- the places in place of the reference to them
abbrev pub held : {E : Type 0} → Result (Bor (List ℕ)) E → Result (List ℕ) E
held (Ok r) = Ok r.now
held (Err e) = Err e
