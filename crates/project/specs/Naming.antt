-- What the heads of a text name among the records of a directory.
use Rattle.std.specs.Prelude.{◌≡◌, ℕ, ◌/◌, ◌^◌, ◌<◌, Bool, true, false, cond, List, length, Some, None, Option, ◌==◌}
use Rattle.store.specs.declared.entry.Entry.{Entry}
use Rattle.store.specs.Entries.{found}
use Rattle.order.specs.Seen.{bit}
use Rattle.order.specs.declared.Unit.{Unit}
use Rattle.store.specs.Units.{StoredUnit}
use Rattle.cores.specs.Meaning.{Word}
use Rattle.project_rules.specs.Project.{some, first_where}
use Rattle.project.specs.declared.loading.Naming.{Naming}
use Rattle.project.specs.Loading.{head_number, heads_of, is_number, strange, unit_at, name_bytes}

-- the place among the records of the one of this number
abbrev pub seat_of : List Entry → Option ℕ → Option ℕ
seat_of es None = None
seat_of es (Some n) = found n es

-- the record at this place is the one found
abbrev pub is_seat : Option ℕ → ℕ → Bool
is_seat None j = false
is_seat (Some i) j = i == j

-- none was found
abbrev pub is_none : Option ℕ → Bool
is_none None = true
is_none (Some i) = false

-- the first place told, or this one where it is to be told and none was
abbrev pub first_or : Option ℕ → Bool → ℕ → Option ℕ
first_or (Some p) told place = Some p
first_or None told place = cond told (Some place) None

-- bit j says whether one of the heads names the record at j; the first head that names none is told
pub record NamingOf (es : List Entry) (text places : List ℕ) (r : Naming) : Type 0 where
  pub needs : (j : ℕ) → j < 16 → bit r.needs j ≡ some (λ p. is_seat (seat_of es (head_number text p)) j) places
  pub missing : r.missing ≡ first_where (λ p. is_none (seat_of es (head_number text p))) places

-- the unit at a place among the units of a store, as the load order sees it: its marks name its own units only
pub record UnitSeen (ws : List Word) (us : List StoredUnit) (i : ℕ) (r : Unit) : Type 0 where
  pub rank : r.rank ≡ (unit_at us i).rank
  pub name : r.name.now ≡ name_bytes (unit_at us i)
  pub needs : (j : ℕ) → j < length us → bit r.needs j ≡ some (λ p. is_number (head_number (unit_at us i).text p) (unit_at us j).name) (heads_of ws (unit_at us i).text)
  pub within : r.needs / 2 ^ length us ≡ 0
  pub misses : r.misses ≡ some (strange us (unit_at us i).text) (heads_of ws (unit_at us i).text)
