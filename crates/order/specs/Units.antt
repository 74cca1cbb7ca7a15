-- What the load order sees of the stored units. A unit goes by its place, from 0.
use Rattle.std.specs.Prelude.{ℕ, Bool, ◌&&◌, List, nat_lt}

pub record Units : Type 0 where
  -- how many units there are: they stand at the places below it
  pub count : ℕ
  -- of the unit at a place: its rank, the bytes of its name, which places it names,
  -- and whether it names a unit that is not stored
  pub rank : ℕ → ℕ
  pub name : ℕ → List ℕ
  pub marks : ℕ → ℕ → Bool
  pub lacks : ℕ → Bool

-- the unit at place i names the unit at place j, which may be itself
abbrev pub names : Units → ℕ → ℕ → Bool
names u i j = nat_lt j u.count && u.marks i j
