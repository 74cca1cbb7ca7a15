-- Which of two units comes first: the one of least rank, then the one of least name.
use Rattle.std.specs.Prelude.{◌≡◌, ℕ, ◌<◌, Bool, true, false, cond, ◌⊎◌, List, [], ◌∷◌, nat_lt}
use Rattle.std.specs.declared.cmp.Ordering.TheVariants.{Less, Equal, Greater}
use Rattle.std.specs.declared.cmp.Ordering.{Ordering}
use Rattle.std.specs.Ordering.{ordering_then}
use Rattle.order.specs.Units.{Units}

-- a name is less than another byte by byte, and less than any longer one that it begins
abbrev pub NameLess : List ℕ → List ℕ → Type 0
NameLess [] [] = ⊥
NameLess [] (y ∷ ys) = Unit {0}
NameLess (x ∷ xs) [] = ⊥
NameLess (x ∷ xs) (y ∷ ys) = (x < y) ⊎ ((x ≡ y) × NameLess xs ys)

-- the unit at i is less than the one at j by rank, and at equal rank by name
abbrev pub UnitLess : Units → ℕ → ℕ → Type 0
UnitLess u i j = (u.rank i < u.rank j) ⊎ ((u.rank i ≡ u.rank j) × NameLess (u.name i) (u.name j))

-- the unit at i comes before the one at j by name; units of one name go by their places
abbrev pub NameFirst : Units → ℕ → ℕ → Type 0
NameFirst u i j = NameLess (u.name i) (u.name j) ⊎ ((u.name i ≡ u.name j) × (i < j))

-- of two tuples of rank and place, the first comes before the second: by rank, then by name
abbrev pub TupleFirst : Units → ℕ × ℕ → ℕ × ℕ → Type 0
TupleFirst u a b = (a.0 < b.0) ⊎ ((a.0 ≡ b.0) × NameFirst u a.1 b.1)

-- no two units have the same name
abbrev pub Distinct : Units → Type 0
Distinct u = (i j : ℕ) → i < u.count → j < u.count → u.name i ≡ u.name j → i ≡ j

-- the same comparisons as computed: two numbers
abbrev pub number : ℕ → ℕ → Ordering
number m n = cond (nat_lt m n) Less (cond (nat_lt n m) Greater Equal)

-- two names, by the first byte at which they differ, else by which one ends first
abbrev pub compared : List ℕ → List ℕ → Ordering
compared [] [] = Equal
compared [] (y ∷ ys) = Less
compared (x ∷ xs) [] = Greater
compared (x ∷ xs) (y ∷ ys) = ordering_then (number x y) (compared xs ys)

-- true at `Less`, false at `Greater`, and at `Equal` what comes next
abbrev pub settled : Ordering → Bool → Bool
settled Less b = true
settled Equal b = b
settled Greater b = false

-- two places, by the names of their units
abbrev pub by_name : Units → ℕ → ℕ → Bool
by_name u i j = settled (compared (u.name i) (u.name j)) (nat_lt i j)

-- two tuples of rank and place
abbrev pub tuple_before : Units → ℕ × ℕ → ℕ × ℕ → Bool
tuple_before u a b = settled (number a.0 b.0) (by_name u a.1 b.1)

-- the tuple of the unit at a place
abbrev pub tuple : Units → ℕ → ℕ × ℕ
tuple u i = (u.rank i, i)

-- two places, by their units' ranks and names
abbrev pub earlier : Units → ℕ → ℕ → Bool
earlier u i j = tuple_before u (tuple u i) (tuple u j)
