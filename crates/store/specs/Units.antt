-- The units that a store holds.
use Rattle.std.specs.Prelude.{◌≡◌, ℕ, suc, ◌+◌, ◌*◌, ◌<◌, ◌≤◌, cond, ◌≢◌, ◌⊎◌, ◌↔◌, List, [], ◌∷◌, map, length, get_or, take, drop, Option, MatchOption, ◌==◌, slice_index_or}
use Rattle.std.specs.List.{range_with_len}
use Rattle.std.specs.Borrow.{Bor}
use Rattle.store.specs.declared.entry.Entry.{Entry}
use Rattle.store.specs.Entries.{blank, entered, vacated}
use Rattle.store.specs.Layout.{stored}

-- a unit: its name as a number, how many bytes the name has and where in the text it stands, its rank, and its text
pub record StoredUnit : Type 0 where
  pub name : ℕ
  pub size : ℕ
  pub place : ℕ
  pub rank : ℕ
  pub text : List ℕ

-- the place in the store from which the text of the k-th unit stands
abbrev pub slot : ℕ → ℕ
slot k = 1536 + 4000 * k

-- the unit of a record and a text
abbrev pub unit_of_entry : Entry → List ℕ → StoredUnit
unit_of_entry e text = record { name = e.name; size = e.size; place = e.place; rank = e.rank; text = text }

-- the unit of the k-th record
abbrev pub unit_held_at : List Entry → List ℕ → ℕ → StoredUnit
unit_held_at es s k = unit_of_entry (slice_index_or es k blank) (take (get_or es k blank).span (drop (slot k) s))

-- the units of records, with their texts in a store
unfoldable pub held : List Entry → List ℕ → List StoredUnit
held es s = map (unit_held_at es s) (range_with_len 0 (length es))

-- the units of a store
abbrev pub units : List ℕ → List StoredUnit
units s = held (stored s) s

-- what no unit is
abbrev pub no_unit : StoredUnit
no_unit = unit_of_entry blank []

-- the place of the unit of this name; the count of units where there is none
abbrev pub seat_in : ℕ → List StoredUnit → ℕ
seat_in n [] = 0
seat_in n (u ∷ us) = cond (u.name == n) 0 (suc (seat_in n us))

-- a unit put among others: in place of the one of its name, or behind the last
abbrev pub put_in : StoredUnit → List StoredUnit → List StoredUnit
put_in u us = entered (seat_in u.name us) u us

-- the unit of a name taken out: the last one takes its place
abbrev pub taken_out : ℕ → List StoredUnit → List StoredUnit
taken_out n us = vacated (seat_in n us) no_unit us

-- a part of the store from a place on, beside that place
abbrev pub PartAt : List ℕ → ℕ → Bor (List ℕ) × ℕ → Type 0
PartAt s at p = (p.1 ≡ at) × (p.0.now ≡ take (length p.0.now) (drop at s))

-- the text of the k-th unit, as the part of the store that holds it
abbrev pub TextOf : List ℕ → ℕ → Option (Bor (List ℕ) × ℕ) → Type 0
TextOf s k r = MatchOption r (length (units s) ≤ k) (λ p. (k < length (units s)) × (p.0.now ≡ (get_or (units s) k no_unit).text) × PartAt s (slot k) p)

-- the name of the k-th unit, as the part of the store that holds it
abbrev pub NameOf : List ℕ → ℕ → Option (Bor (List ℕ) × ℕ) → Type 0
NameOf s k r =
    MatchOption r (length (units s) ≤ k) (λ p.
    (k < length (units s))
    × (p.0.now ≡ take (get_or (units s) k no_unit).size (drop (get_or (units s) k no_unit).place (get_or (units s) k no_unit).text))
    × PartAt s (slot k + (get_or (units s) k no_unit).place) p)

-- a unit is among others
abbrev pub Among : StoredUnit → List StoredUnit → Type 0
Among u us = (k : ℕ) × (k < length us) × (slice_index_or us k no_unit ≡ u)

-- no two units have one name
abbrev pub Once : List StoredUnit → Type 0
Once us = (i j : ℕ) → i < length us → j < length us → (get_or us i no_unit).name ≡ (get_or us j no_unit).name → i ≡ j

-- what the units of every store keep: at most 16, no two of one name, each name of 1 to 16 bytes within a text of at most 4,000
pub record Kept (us : List StoredUnit) : Type 0 where
  pub few : length us ≤ 16
  pub once : Once us
  pub bounds : (k : ℕ) → k < length us →
      (0 < (get_or us k no_unit).size) × ((get_or us k no_unit).size ≤ 16) × ((get_or us k no_unit).place + (get_or us k no_unit).size ≤ length (get_or us k no_unit).text) × (length (get_or us k no_unit).text ≤ 4000)

-- the units are this one, and those before that have another name
abbrev pub Replaced : StoredUnit → List StoredUnit → List StoredUnit → Type 0
Replaced u before after = (v : StoredUnit) → Among v after ↔ ((v ≡ u) ⊎ (Among v before × (v.name ≢ u.name)))

-- the units are those before that have another name
abbrev pub Removed : ℕ → List StoredUnit → List StoredUnit → Type 0
Removed n before after = (v : StoredUnit) → Among v after ↔ (Among v before × (v.name ≢ n))
