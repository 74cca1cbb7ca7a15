-- What holds of the check of a project and of fit, over every core whose rule keeps the law of cores.
use Rattle.std.specs.Prelude.{◌≡◌, ℕ, ◌<◌, ◌≤◌, true, ◌⊎◌, ◌↔◌, List, [], ◌∷◌, ◌++◌, length, Ok, Err, Result}
use Rattle.types.specs.Types.{Name, Ty}
use Rattle.cores.specs.Meaning.{Outcome}
use Rattle.cores.specs.declared.interface.Operation.{Operation}
use Rattle.order.specs.Units.{names}
use Rattle.order.specs.Units.{Units as Seen}
use Rattle.order.specs.Picking.{has}
use Rattle.order.specs.Reaching.{Reaches}
use Rattle.order.specs.declared.Order.{Order}
use Rattle.order.specs.declared.Fault.{Fault as Unarranged}
use Rattle.order.specs.declared.Fault.TheVariants.{TooMany, Missing, Cycle}
use Rattle.order.specs.Answer.{arranged}
use Rattle.order.specs.Law.{LoadOrder, Smaller, Least, LeastNamed}
use Rattle.rules.specs.Lookup.{Env}
use Rattle.rules.specs.Syntax.{SignatureText, signature_of}
use Rattle.rules.specs.Naming.{signature_names}
use Rattle.rules.specs.Projects.{more_units, Loads, DerivedFor}
use Rattle.checker.specs.Faults.{Fault, number_of, fault}
use Rattle.checker.specs.Modules.{check_module}
use Rattle.checker.specs.Units.{Known, accepted, refused, check_units}
use Rattle.checker.specs.Written.{OnceSig, OnceModule}
use Rattle.project_rules.specs.Project.{ProjectUnit, unit_at, name_at, heads_at, seen, order_of, units_at}
use Rattle.project_rules.specs.Check.{ProjectAnswer, right, lacking, circular, wrong, NotSizeOf, IsRight, of_units, lacking_at, circular_at, check_project}
use Rattle.project_rules.specs.Fit.{FitAnswer, fits, not_there, not_before, unfit, FitNotSize, SaysYes, before, fit_from, fit_project}

-- an element stands in a list
abbrev pub Among : {A : Type 0} → A → List A → Type 0
Among a [] = ⊥
Among a (b ∷ rest) = (b ≡ a) ⊎ Among a rest

-- no two units have one name
abbrev pub DistinctNames : List ProjectUnit → Type 0
DistinctNames us = (i j : ℕ) → i < length us → j < length us → name_at us i ≡ name_at us j → i ≡ j

-- no two units have one name, and each unit declares each sort and name once
pub record OnceProject (us : List ProjectUnit) : Type 0 where
  pub distinct : DistinctNames us
  pub once : (i : ℕ) → i < length us → OnceModule (unit_at us i).body

-- a unit of the project has this name
abbrev pub Present : List ProjectUnit → Name → Type 0
Present us x = (j : ℕ) × (j < length us) × (name_at us j ≡ x)

-- the unit at a place has a head that names no unit of the project
abbrev pub Lacks : List ProjectUnit → ℕ → Type 0
Lacks us i = (h : Name × ℕ) × Among h (heads_at us i) × (Present us h.0 → ⊥)

-- the unit at a place has a head that names the unit at another, or at the same
abbrev pub Names : List ProjectUnit → ℕ → ℕ → Type 0
Names us i j = (j < length us) × ((h : Name × ℕ) × Among h (heads_at us i) × (h.0 ≡ name_at us j))

-- what the load order sees of a project is what the heads of its units say
abbrev pub ViewMeans : Type 0
ViewMeans =
    (us : List ProjectUnit) (i : ℕ) →
    ((j : ℕ) → (names (seen us) i j ≡ true) ↔ Names us i j) × (((seen us).lacks i ≡ true) ↔ Lacks us i)

-- the project's signatures are derived: it has a least load order, and each unit in turn, in that order, gets a signature derived with
-- those of the units before it, by all six rules
pub record Derived {C : Type 0} (rule : Operation → List Ty → Outcome C) (us : List ProjectUnit) : Type 0 where
  pub order : List ℕ
  pub ordered : LoadOrder (seen us) order
  pub least : Least (seen us) order
  pub known : Env
  pub loads : Loads rule true (units_at us order) known

-- a check that does not answer size accepts exactly when the project's signatures are derived
abbrev pub AcceptanceLaw : {C : Type 0} → (Operation → List Ty → Outcome C) → Type 0
AcceptanceLaw rule =
    (us : List ProjectUnit) → OnceProject us → NotSizeOf (check_project rule us) → IsRight (check_project rule us) ↔ Derived rule us

-- every head of a unit names a unit before it in a list of places
abbrev pub HeadsBefore : List ProjectUnit → List ℕ → Type 0
HeadsBefore us ps =
    (front : List ℕ) (i : ℕ) (rest : List ℕ) → ps ≡ front ++ i ∷ rest →
    (h : Name × ℕ) → Among h (heads_at us i) → (j : ℕ) × (has front j ≡ true) × (name_at us j ≡ h.0)

-- an accepted project's load order has each unit once, behind every unit that it names, and every other such order is greater where the
-- two first differ, by rank and then by name
abbrev pub OrderLaw : {C : Type 0} → (Operation → List Ty → Outcome C) → Type 0
OrderLaw rule =
    (us : List ProjectUnit) (k : Known) → DistinctNames us → check_project rule us ≡ right k →
    LoadOrder (seen us) (order_of us) × HeadsBefore us (order_of us)
    × ((qs : List ℕ) → LoadOrder (seen us) qs → (qs ≡ order_of us) ⊎ Smaller (seen us) (order_of us) qs)

-- the first head of a text whose name has not a property stands at a place
pub record FirstHead (Fine : Name → Type 0) (hs : List (Name × ℕ)) (place : ℕ) : Type 0 where
  pub front : List (Name × ℕ)
  pub name : Name
  pub rest : List (Name × ℕ)
  pub heads : hs ≡ front ++ (name, place) ∷ rest
  pub fails : Fine name → ⊥
  pub earlier : (h : Name × ℕ) → Among h front → Fine h.0

-- a project has no load order
abbrev pub NoOrder : List ProjectUnit → Type 0
NoOrder us = (ps : List ℕ) → LoadOrder (seen us) ps → ⊥

-- the first unit in load order that is not right: those before it are, and this is its first fault with them known, of number 12 to 16
pub record FirstWrong {C : Type 0} (rule : Operation → List Ty → Outcome C) (us : List ProjectUnit) (ps : List ℕ) (x : Name) (e : Fault C) : Type 0 where
  pub front : List ℕ
  pub place : ℕ
  pub rest : List ℕ
  pub order : ps ≡ front ++ place ∷ rest
  pub name : name_at us place ≡ x
  pub known : Known
  pub others : check_units rule (units_at us front) ≡ accepted known
  pub refuses : check_module rule known.scope known.next (unit_at us place).body ≡ fault e
  pub number : (12 ≤ number_of e) × (number_of e ≤ 16)

-- what an answer says: 10 tells the least-named unit that names one that is not there, at its first such head; 11 the least-named unit that
-- reaches itself, and then each unit named is there; no load order exists in these two cases. Else the units were checked in a load order,
-- and a refusal tells the first of them that is not right
abbrev pub Means : {C : Type 0} → (Operation → List Ty → Outcome C) → List ProjectUnit → ProjectAnswer C → Type 0
Means rule us (right k) = LoadOrder (seen us) (order_of us) × (check_units rule (units_at us (order_of us)) ≡ accepted k)
Means rule us (lacking x place) =
    (i : ℕ) × (name_at us i ≡ x) × LeastNamed (seen us) (Lacks us) i × FirstHead (Present us) (heads_at us i) place × NoOrder us
Means rule us (circular x) =
    (i : ℕ) × (name_at us i ≡ x) × LeastNamed (seen us) (λ j. Reaches (seen us) j j) i
    × ((j : ℕ) → j < length us → Lacks us j → ⊥) × NoOrder us
Means rule us (wrong x e) =
    LoadOrder (seen us) (order_of us) × (check_units rule (units_at us (order_of us)) ≡ refused x e) × FirstWrong rule us (order_of us) x e

-- every answer of a check says so
abbrev pub AnswersMean : {C : Type 0} → (Operation → List Ty → Outcome C) → Type 0
AnswersMean rule = (us : List ProjectUnit) → Means rule us (check_project rule us)

-- two views of units agree: in how many there are, and at their places
pub record Agree (v w : Seen) : Type 0 where
  pub count : v.count ≡ w.count
  pub ranks : (i : ℕ) → i < v.count → v.rank i ≡ w.rank i
  pub called : (i : ℕ) → i < v.count → v.name i ≡ w.name i
  pub marked : (i j : ℕ) → i < v.count → j < v.count → v.marks i j ≡ w.marks i j
  pub lack : (i : ℕ) → i < v.count → v.lacks i ≡ w.lacks i

-- what the check answers, from what arranging answered
abbrev pub ByArranging : {C : Type 0} → (Operation → List Ty → Outcome C) → List ProjectUnit → Result Order Unarranged → ProjectAnswer C → Type 0
ByArranging rule us (Ok o) a = a ≡ of_units (check_units rule (units_at us o))
ByArranging rule us (Err TooMany) a = 16 < length us
ByArranging rule us (Err (Missing i)) a = a ≡ lacking_at us i
ByArranging rule us (Err (Cycle i)) a = a ≡ circular_at us i

-- the check of up to 16 units follows from what arranging answers for any view that agrees with the project's
abbrev pub ArrangingLaw : {C : Type 0} → (Operation → List Ty → Outcome C) → Type 0
ArrangingLaw rule =
    (us : List ProjectUnit) (v : Seen) → Agree v (seen us) → ByArranging rule us (arranged v) (check_project rule us)

-- a place behind the words of the unit at i and of those before it in the load order
abbrev pub BehindWords : {C : Type 0} → (Operation → List Ty → Outcome C) → List ProjectUnit → ℕ → ℕ → Type 0
BehindWords rule us i q =
    (k : Known) → check_units rule (more_units (units_at us (before us i)) (unit_at us i)) ≡ accepted k → k.next ≤ q

-- of a checked project: fit that does not answer size says yes exactly of the signatures that the six rules derive for the unit, with the
-- units before it known; the words of the text may begin anywhere behind those of the unit and of the units before it
abbrev pub FitAnywhere : {C : Type 0} → (Operation → List Ty → Outcome C) → Type 0
FitAnywhere rule =
    (us : List ProjectUnit) (k : Known) → OnceProject us → check_project rule us ≡ right k →
    (i : ℕ) → i < length us → (s : SignatureText) → OnceSig s → (q : ℕ) → BehindWords rule us i q →
    FitNotSize (fit_from rule us q (name_at us i) s) →
    SaysYes (fit_from rule us q (name_at us i) s) ↔ DerivedFor rule (units_at us (before us i)) (unit_at us i) (signature_of s)

-- the same of fit with the words of the text behind those of all units
abbrev pub FitLaw : {C : Type 0} → (Operation → List Ty → Outcome C) → Type 0
FitLaw rule =
    (us : List ProjectUnit) (k : Known) → OnceProject us → check_project rule us ≡ right k →
    (i : ℕ) → i < length us → (s : SignatureText) → OnceSig s → FitNotSize (fit_project rule us k (name_at us i) s) →
    SaysYes (fit_project rule us k (name_at us i) s) ↔ DerivedFor rule (units_at us (before us i)) (unit_at us i) (signature_of s)

-- a unit at one of these places has this name
abbrev pub PresentAt : List ProjectUnit → List ℕ → Name → Type 0
PresentAt us is x = (j : ℕ) × (has is j ≡ true) × (name_at us j ≡ x)

-- the unit of a name, and the units before it in the load order
pub record Stands (us : List ProjectUnit) (x : Name) (i : ℕ) : Type 0 where
  pub there : i < length us
  pub name : name_at us i ≡ x
  pub behind : List ℕ
  pub order : order_of us ≡ before us i ++ i ∷ behind

-- what an answer of fit says: 8 that no unit has the name; 10 tells the first head of the text that names no unit before the given one;
-- else every head names one before it, and a refusal is 12, 15 or 16
abbrev pub FitMeans : {C : Type 0} → List ProjectUnit → Name → SignatureText → FitAnswer C → Type 0
FitMeans us x s fits = (i : ℕ) × Stands us x i × ((h : Name × ℕ) → Among h (signature_names s) → PresentAt us (before us i) h.0)
FitMeans us x s not_there = Present us x → ⊥
FitMeans us x s (not_before place) = (i : ℕ) × Stands us x i × FirstHead (PresentAt us (before us i)) (signature_names s) place
FitMeans us x s (unfit e) =
    (i : ℕ) × Stands us x i × ((h : Name × ℕ) → Among h (signature_names s) → PresentAt us (before us i) h.0)
    × ((number_of e ≡ 12) ⊎ ((number_of e ≡ 15) ⊎ (number_of e ≡ 16)))

-- every answer of a fit in a checked project says so
abbrev pub FitAnswersMean : {C : Type 0} → (Operation → List Ty → Outcome C) → Type 0
FitAnswersMean rule =
    (us : List ProjectUnit) (k : Known) → check_project rule us ≡ right k →
    (q : ℕ) (x : Name) (s : SignatureText) → FitMeans us x s (fit_from rule us q x s)

-- two lists have the same units; where no two units of a list have one name, the one is then the other in another order
abbrev pub SameUnits : List ProjectUnit → List ProjectUnit → Type 0
SameUnits us vs = (u : ProjectUnit) → Among u us ↔ Among u vs

-- the order of the list does not matter, neither to the check nor, where it accepts, to fit
abbrev pub ListOrderFree : {C : Type 0} → (Operation → List Ty → Outcome C) → Type 0
ListOrderFree rule =
    (us vs : List ProjectUnit) → DistinctNames us → DistinctNames vs → SameUnits us vs →
    (check_project rule us ≡ check_project rule vs)
    × ((k : Known) → check_project rule us ≡ right k → (q : ℕ) (x : Name) (s : SignatureText) → fit_from rule us q x s ≡ fit_from rule vs q x s)
