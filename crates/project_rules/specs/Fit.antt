-- Whether a signature, given as a text, is one that a unit of a checked project has.
use Rattle.std.specs.Prelude.{◌≡◌, ℕ, suc, Bool, cond, not, List, [], ◌∷◌, Some, None, Option, ◌==◌}
use Rattle.std.specs.Str.{bytes_eq}
use Rattle.types.specs.Types.{Name, Ty}
use Rattle.cores.specs.Meaning.{Outcome}
use Rattle.cores.specs.declared.interface.Operation.{Operation}
use Rattle.rules.specs.Signatures.{on_some}
use Rattle.rules.specs.Syntax.{SignatureText, CompilationUnit}
use Rattle.rules.specs.Naming.{signature_names}
use Rattle.checker.specs.Faults.{Fault, number_of, Answer, ok, fault, and_then}
use Rattle.checker.specs.Modules.{check_module}
use Rattle.checker.specs.Units.{Known, CheckAnswer, accepted, refused, check_units, fit}
use Rattle.project_rules.specs.Project.{ProjectUnit, some, first_where, name_at, unit_at, order_of, units_at}

-- yes; or no unit has the name; or the text has a head, at this place, that names no unit before the given one; or a fault of the checker
pub data FitAnswer (C : Type 0) : Type 0 where
  fits : FitAnswer C
  not_there : FitAnswer C
  not_before : ℕ → FitAnswer C
  unfit : Fault C → FitAnswer C

-- the number of a refusal
abbrev pub fit_number : {C : Type 0} → FitAnswer C → Option ℕ
fit_number fits = None
fit_number not_there = Some 8
fit_number (not_before place) = Some 10
fit_number (unfit e) = Some (number_of e)

-- an answer that is not size
abbrev pub FitNotSize : {C : Type 0} → FitAnswer C → Type 0
FitNotSize a = fit_number a ≡ Some 16 → ⊥

-- an answer that says yes
abbrev pub SaysYes : {C : Type 0} → FitAnswer C → Type 0
SaysYes fits = Unit {0}
SaysYes not_there = ⊥
SaysYes (not_before place) = ⊥
SaysYes (unfit e) = ⊥

-- the place of the first unit of a name
abbrev pub place_of : Name → List ProjectUnit → Option ℕ
place_of x [] = None
place_of x (u ∷ us) = cond (bytes_eq u.text.name x) (Some 0) (on_some suc (place_of x us))

-- what stands in a list before a place
abbrev pub up_to : ℕ → List ℕ → List ℕ
up_to i [] = []
up_to i (j ∷ js) = cond (j == i) [] (j ∷ up_to i js)

-- the places before a place in the load order
abbrev pub before : List ProjectUnit → ℕ → List ℕ
before us i = up_to i (order_of us)

-- one of the units at some places has this name
abbrev pub one_named : List ProjectUnit → List ℕ → Name → Bool
one_named us is x = some (λ j. bytes_eq (name_at us j) x) is

-- a head that names none of the units before the one at a place
abbrev pub not_before_it : List ProjectUnit → ℕ → Name × ℕ → Bool
not_before_it us i h = not (one_named us (before us i) h.0)

-- the checker's answer
abbrev pub of_fit : {C : Type 0} → Answer C (Unit {0}) → FitAnswer C
of_fit (ok y) = fits
of_fit (fault e) = unfit e

-- the text against the unit's own signature, with the units before it known; in a checked project these and the unit are right
abbrev pub fit_known : {C : Type 0} → (Operation → List Ty → Outcome C) → CheckAnswer C → ℕ → CompilationUnit → SignatureText → FitAnswer C
fit_known rule (accepted k) q u s =
    of_fit (and_then (check_module rule k.scope k.next u.body) (λ g. fit k.scope q g s))
fit_known rule (refused x e) q u s = unfit e

-- the refusal of a head, if there is one to refuse, else what comes next
abbrev pub unless_head : {C : Type 0} → Option (Name × ℕ) → FitAnswer C → FitAnswer C
unless_head None more = more
unless_head (Some h) more = not_before h.1

-- for the unit at a place: the heads of the text, then the checker's questions
abbrev pub fit_at : {C : Type 0} → (Operation → List Ty → Outcome C) → List ProjectUnit → ℕ → SignatureText → ℕ → FitAnswer C
fit_at rule us q s i =
    unless_head (first_where (not_before_it us i) (signature_names s))
    (fit_known rule (check_units rule (units_at us (before us i))) q (unit_at us i) s)

-- what comes next of a unit that was looked for
abbrev pub unless_absent : {C : Type 0} → Option ℕ → (ℕ → FitAnswer C) → FitAnswer C
unless_absent None more = not_there
unless_absent (Some i) more = more i

-- for the unit of a name, the words of the text from a place on
abbrev pub fit_from : {C : Type 0} → (Operation → List Ty → Outcome C) → List ProjectUnit → ℕ → Name → SignatureText → FitAnswer C
fit_from rule us q x s = unless_absent (place_of x us) (fit_at rule us q s)

-- in a project that was checked, and what was then known: the words of the text behind those of all units
abbrev pub fit_project : {C : Type 0} → (Operation → List Ty → Outcome C) → List ProjectUnit → Known → Name → SignatureText → FitAnswer C
fit_project rule us k x s = fit_from rule us k.next x s
