-- What a load order is, and what is promised of the one that is told: relations, in the words of the rule.
use Rattle.std.specs.Prelude.{◌≡◌, ℕ, ◌<◌, true, false, ◌⊎◌, ◌↔◌, List, ◌∷◌, ◌++◌}
use Rattle.order.specs.Units.{Units, names}
use Rattle.order.specs.Compare.{UnitLess, NameFirst, Distinct}
use Rattle.order.specs.Picking.{has}
use Rattle.order.specs.Reaching.{Reaches}

-- a list of places is a load order when it has each unit once, and each behind every unit that it names
pub record LoadOrder (u : Units) (ps : List ℕ) : Type 0 where
  pub units : (i : ℕ) → has ps i ≡ true → i < u.count
  pub every : (i : ℕ) → i < u.count → has ps i ≡ true
  pub once : (front : List ℕ) (i : ℕ) (rest : List ℕ) → ps ≡ front ++ i ∷ rest → has front i ≡ false
  pub behind : (front : List ℕ) (i : ℕ) (rest : List ℕ) → ps ≡ front ++ i ∷ rest
      → (u.lacks i ≡ false) × ((j : ℕ) → names u i j ≡ true → has front j ≡ true)

-- ps is less than qs where the two first differ, by rank and then by name
pub record Smaller (u : Units) (ps qs : List ℕ) : Type 0 where
  pub front : List ℕ
  pub p : ℕ
  pub ps_rest : List ℕ
  pub q : ℕ
  pub qs_rest : List ℕ
  pub ps_is : ps ≡ front ++ p ∷ ps_rest
  pub qs_is : qs ≡ front ++ q ∷ qs_rest
  pub less : UnitLess u p q

-- every other load order is greater where the two first differ
abbrev pub Least : Units → List ℕ → Type 0
Least u ps = Distinct u → (qs : List ℕ) → LoadOrder u qs → (qs ≡ ps) ⊎ Smaller u ps qs

-- every unit that is named is stored
abbrev pub Complete : Units → Type 0
Complete u = (i : ℕ) → i < u.count → u.lacks i ≡ false

-- no unit reaches itself by naming
abbrev pub Acyclic : Units → Type 0
Acyclic u = (i : ℕ) → Reaches u i i → ⊥

-- the unit at i is the least-named one with a property
pub record LeastNamed (u : Units) (P : ℕ → Type 0) (i : ℕ) : Type 0 where
  pub unit : i < u.count
  pub told : P i
  pub least : (j : ℕ) → j < u.count → P j → (j ≡ i) ⊎ NameFirst u i j

-- units have a load order exactly when none is missing and none reaches itself
abbrev pub ExistsExactly : Type 0
ExistsExactly = (u : Units) → ((ps : List ℕ) × LoadOrder u ps) ↔ (Complete u × Acyclic u)
