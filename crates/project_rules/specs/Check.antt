-- The check of a whole project.
use Rattle.std.specs.Prelude.{◌≡◌, ℕ, List, Some, None, Option}
use Rattle.types.specs.Types.{Name, Ty}
use Rattle.cores.specs.Meaning.{Outcome}
use Rattle.cores.specs.declared.interface.Operation.{Operation}
use Rattle.order.specs.Reaching.{missing, cycle}
use Rattle.checker.specs.Faults.{Fault, number_of}
use Rattle.checker.specs.Units.{Known, CheckAnswer, accepted, refused, check_units}
use Rattle.project_rules.specs.Project.{ProjectUnit, name_at, seen, first_lacking, order_of, units_at}

-- all units are right together, with what is then known; or a unit names one that is not in the project, told with the place of its first
-- such head; or a unit reaches itself by naming; or a unit is not right, told with its first fault
pub data ProjectAnswer (C : Type 0) : Type 0 where
  right : Known → ProjectAnswer C
  lacking : Name → ℕ → ProjectAnswer C
  circular : Name → ProjectAnswer C
  wrong : Name → Fault C → ProjectAnswer C

-- the number of a refusal
abbrev pub number_in : {C : Type 0} → ProjectAnswer C → Option ℕ
number_in (right k) = None
number_in (lacking x place) = Some 10
number_in (circular x) = Some 11
number_in (wrong x e) = Some (number_of e)

-- an answer that is not size
abbrev pub NotSizeOf : {C : Type 0} → ProjectAnswer C → Type 0
NotSizeOf a = number_in a ≡ Some 16 → ⊥

-- an answer that accepts
abbrev pub IsRight : {C : Type 0} → ProjectAnswer C → Type 0
IsRight (right k) = Unit {0}
IsRight (lacking x place) = ⊥
IsRight (circular x) = ⊥
IsRight (wrong x e) = ⊥

-- the refusal that tells a unit, if there is one to tell, else what comes next
abbrev pub unless_told : {C : Type 0} → Option ℕ → (ℕ → ProjectAnswer C) → ProjectAnswer C → ProjectAnswer C
unless_told None tells more = more
unless_told (Some i) tells more = tells i

-- what the check of the units in turn answered
abbrev pub of_units : {C : Type 0} → CheckAnswer C → ProjectAnswer C
of_units (accepted k) = right k
of_units (refused x e) = wrong x e

-- the unit at a place names one that is not there
abbrev pub lacking_at : {C : Type 0} → List ProjectUnit → ℕ → ProjectAnswer C
lacking_at us i = lacking (name_at us i) (first_lacking us i)

-- the unit at a place reaches itself
abbrev pub circular_at : {C : Type 0} → List ProjectUnit → ℕ → ProjectAnswer C
circular_at us i = circular (name_at us i)

-- the units in load order, each with those before it known
abbrev pub check_in_turn : {C : Type 0} → (Operation → List Ty → Outcome C) → List ProjectUnit → ProjectAnswer C
check_in_turn rule us = of_units (check_units rule (units_at us (order_of us)))

-- first whether each unit named is there, then whether no unit reaches itself, then the units in turn
abbrev pub check_project : {C : Type 0} → (Operation → List Ty → Outcome C) → List ProjectUnit → ProjectAnswer C
check_project rule us =
    unless_told (missing (seen us)) (lacking_at us) (unless_told (cycle (seen us)) (circular_at us) (check_in_turn rule us))
