-- The load order, built by picking the next unit again and again.
use Rattle.std.specs.Prelude.{◌≡◌, ℕ, zero, suc, ◌<◌, Bool, true, false, not, ◌&&◌, ◌||◌, ◌⊎◌, List, [], ◌∷◌, Some, None, Option, ◌==◌, nat_lt}
use Rattle.order.specs.Units.{Units, names}
use Rattle.order.specs.Compare.{TupleFirst, earlier, tuple}
use Rattle.order.specs.Least.{best}

-- the unit at i is ready: there is one, it is not placed, and all units that it names are placed
pub record Ready (u : Units) (placed : ℕ → Bool) (i : ℕ) : Type 0 where
  pub unit : i < u.count
  pub unplaced : placed i ≡ false
  pub stored : u.lacks i ≡ false
  pub behind : (j : ℕ) → names u i j ≡ true → placed j ≡ true

-- the tuple is that of the least ready unit, and there is none exactly when no unit is ready
abbrev pub Picked : Units → (ℕ → Bool) → Option (ℕ × ℕ) → Type 0
Picked u placed None = (i : ℕ) → Ready u placed i → ⊥
Picked u placed (Some t) =
    (t.0 ≡ u.rank t.1) × Ready u placed t.1
    × ((j : ℕ) → Ready u placed j → (j ≡ t.1) ⊎ TupleFirst u t (tuple u j))

-- the same as computed: a test passes at each place below n
abbrev pub all_below : ℕ → (ℕ → Bool) → Bool
all_below zero test = true
all_below (suc n) test = test n && all_below n test

-- each unit that the unit at i names is placed
abbrev pub named_placed : Units → (ℕ → Bool) → ℕ → Bool
named_placed u placed i = not (u.lacks i) && all_below u.count (λ j. not (names u i j) || placed j)

-- the unit at i is ready
abbrev pub ready : Units → (ℕ → Bool) → ℕ → Bool
ready u placed i = nat_lt i u.count && (not (placed i) && named_placed u placed i)

-- the next unit: of those that are ready, the least by rank and then by name
abbrev pub next : Units → (ℕ → Bool) → Option ℕ
next u placed = best (ready u placed) (earlier u) u.count

-- the places of a list
abbrev pub has : List ℕ → ℕ → Bool
has [] j = false
has (i ∷ is) j = i == j || has is j

-- one more place
abbrev pub also : (ℕ → Bool) → ℕ → ℕ → Bool
also placed i j = i == j || placed j

-- the place picked, and then what follows it
abbrev pub turn : Option ℕ → (ℕ → List ℕ) → List ℕ
turn None more = []
turn (Some i) more = i ∷ more i

-- the next n units, each picked with those before it placed
abbrev pub picks : Units → ℕ → (ℕ → Bool) → List ℕ
picks u zero placed = []
picks u (suc n) placed = turn (next u placed) (λ i. picks u n (also placed i))

-- the load order: no unit is placed at first
abbrev pub load_order : Units → List ℕ
load_order u = picks u u.count (has [])
