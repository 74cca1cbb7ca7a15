-- What the checker answers: what was asked for, or the first no.
use Rattle.std.specs.Prelude.{ℕ, cond, Some, None, Option}
use Rattle.types.specs.Types.{Name, Ty}
use Rattle.checker.specs.Numbered.{Sig, small_type, small_sig}

-- why a signature does not match: a component is missing, a value or a defined type is another, or a functor stands against a structure
pub data Mismatch : Type 0 where
  missing : Mismatch
  other_value : Mismatch
  other_type : Mismatch
  other_kind : Mismatch

-- its cause as a number
abbrev pub cause_of : Mismatch → ℕ
cause_of missing = 1
cause_of other_value = 2
cause_of other_type = 3
cause_of other_kind = 4

-- a no, with the place asked about: a head that names no unit before this one, a path that does not lead to the sort wanted, a refusal
-- of the core with its whole cause, no functor to apply, no match with the component reached, or over the limit of size
pub data Fault (C : Type 0) : Type 0 where
  unknown_unit : ℕ → Fault C
  no_path : ℕ → Fault C
  refused_by_core : ℕ → C → Fault C
  no_functor : ℕ → Fault C
  no_match : ℕ → Option Name → Mismatch → Fault C
  too_large : ℕ → Fault C

-- its number
abbrev pub number_of : {C : Type 0} → Fault C → ℕ
number_of (unknown_unit place) = 10
number_of (no_path place) = 12
number_of (refused_by_core place c) = 13
number_of (no_functor place) = 14
number_of (no_match place x m) = 15
number_of (too_large place) = 16

-- its place
abbrev pub place_of : {C : Type 0} → Fault C → ℕ
place_of (unknown_unit place) = place
place_of (no_path place) = place
place_of (refused_by_core place c) = place
place_of (no_functor place) = place
place_of (no_match place x m) = place
place_of (too_large place) = place

-- its component: only a mismatch has one, and only where a component was reached
abbrev pub component_of : {C : Type 0} → Fault C → Option Name
component_of (unknown_unit place) = None
component_of (no_path place) = None
component_of (refused_by_core place c) = None
component_of (no_functor place) = None
component_of (no_match place x m) = x
component_of (too_large place) = None

-- the cause that a fault tells: none, a mismatch's number, or the core's own
pub data Cause (C : Type 0) : Type 0 where
  no_cause : Cause C
  matching : ℕ → Cause C
  of_core : C → Cause C

-- its cause
abbrev pub cause_in : {C : Type 0} → Fault C → Cause C
cause_in (unknown_unit place) = no_cause
cause_in (no_path place) = no_cause
cause_in (refused_by_core place c) = of_core c
cause_in (no_functor place) = no_cause
cause_in (no_match place x m) = matching (cause_of m)
cause_in (too_large place) = no_cause

-- what was asked for, or a fault
pub data Answer (C : Type 0) (A : Type 0) : Type 0 where
  ok : A → Answer C A
  fault : Fault C → Answer C A

-- one question after another: the first no ends it
abbrev pub and_then : {C A B : Type 0} → Answer C A → (A → Answer C B) → Answer C B
and_then (ok a) f = f a
and_then (fault e) f = fault e

-- a path leads to what was wanted, or it is a fault at its place
abbrev pub leads_to : {C A : Type 0} → ℕ → Option A → Answer C A
leads_to place (Some a) = ok a
leads_to place None = fault (no_path place)

-- a type within its limit
abbrev pub ask_type : {C : Type 0} → ℕ → Ty → Answer C Ty
ask_type place t = cond (small_type t) (ok t) (fault (too_large place))

-- a signature within its limit
abbrev pub ask_sig : {C : Type 0} → ℕ → Sig → Answer C Sig
ask_sig place s = cond (small_sig s) (ok s) (fault (too_large place))
