-- Units in load order, and whether a signature fits a unit.
use Rattle.std.specs.Prelude.{ℕ, ◌+◌, List, Some, None, Option}
use Rattle.types.specs.Types.{Name, unit, binder, ModulePath, at, dot, Ty}
use Rattle.cores.specs.Meaning.{Outcome}
use Rattle.cores.specs.declared.interface.Operation.{Operation}
use Rattle.rules.specs.Signatures.{first_of}
use Rattle.rules.specs.Syntax.{TypeText, path_text, label_text0, label_text1, label_text2, SignatureText, sig_text, functor_text, SpecTexts, no_specs, more_specs, SpecText, abstract_spec, defined_spec, value_spec, module_spec, CompilationUnit}
use Rattle.rules.specs.Projects.{Units, no_units, more_units}
use Rattle.checker.specs.Numbered.{Sig, size_of}
use Rattle.checker.specs.Scope.{Scope, nothing, with_unit_of}
use Rattle.checker.specs.Comparing.{match_sigs}
use Rattle.checker.specs.Faults.{Fault, unknown_unit, Answer, ok, fault, and_then}
use Rattle.checker.specs.Texts.{check_sig}
use Rattle.checker.specs.Modules.{matches, check_module}

-- what is known behind some units: their signatures, and where the next words begin
pub record Known : Type 0 where
  pub scope : Scope
  pub next : ℕ

-- all units are right, or the first unit that is not, with its first fault
pub data CheckAnswer (C : Type 0) : Type 0 where
  accepted : Known → CheckAnswer C
  refused : Name → Fault C → CheckAnswer C

-- one more unit, its words behind those of the units before
abbrev pub after_unit : {C : Type 0} → Name → Known → Answer C Sig → CheckAnswer C
after_unit x k (ok s) = accepted (record { scope = with_unit_of x s k.scope; next = k.next + size_of s })
after_unit x k (fault e) = refused x e

-- a unit behind others, if these are right
abbrev pub check_next : {C : Type 0} → (Operation → List Ty → Outcome C) → CompilationUnit → CheckAnswer C → CheckAnswer C
check_next rule u (accepted k) = after_unit u.name k (check_module rule k.scope k.next u.body)
check_next rule u (refused x e) = refused x e

-- the units of a project in load order, each with those before it known
abbrev pub check_units : {C : Type 0} → (Operation → List Ty → Outcome C) → Units → CheckAnswer C
check_units rule no_units = accepted (record { scope = nothing; next = 0 })
check_units rule (more_units us u) = check_next rule u (check_units rule us)

-- the place, where nothing is known there
abbrev pub unknown_here : ℕ → Option Sig → Option ℕ
unknown_here place (Some s) = None
unknown_here place None = Some place

-- the place, if the head of the path there names a unit that is not known
abbrev pub unknown_in : Scope → ℕ → ModulePath → Option ℕ
unknown_in Γ place (at (binder n)) = None
unknown_in Γ place (at (unit x)) = unknown_here place (Γ (unit x))
unknown_in Γ place (dot p x) = unknown_in Γ place p

-- the first such place in a written type
abbrev pub unknown_in_type : Scope → TypeText → Option ℕ
unknown_in_type Γ (path_text place p x) = unknown_in Γ place p
unknown_in_type Γ (label_text0 place l) = None
unknown_in_type Γ (label_text1 place l t) = unknown_in_type Γ t
unknown_in_type Γ (label_text2 place l t u) = first_of (unknown_in_type Γ t) (unknown_in_type Γ u)

-- the first such place in a written signature
abbrev mutual
  pub unknown_in_sig : Scope → SignatureText → Option ℕ
  unknown_in_sig Γ (sig_text place c) = unknown_in_specs Γ c
  unknown_in_sig Γ (functor_text place s r) = first_of (unknown_in_sig Γ s) (unknown_in_sig Γ r)

  pub unknown_in_specs : Scope → SpecTexts → Option ℕ
  unknown_in_specs Γ no_specs = None
  unknown_in_specs Γ (more_specs c x d) = first_of (unknown_in_specs Γ c) (unknown_in_spec Γ d)

  pub unknown_in_spec : Scope → SpecText → Option ℕ
  unknown_in_spec Γ abstract_spec = None
  unknown_in_spec Γ (defined_spec t) = unknown_in_type Γ t
  unknown_in_spec Γ (value_spec t) = unknown_in_type Γ t
  unknown_in_spec Γ (module_spec s) = unknown_in_sig Γ s

-- every unit named is known, or the first head that names another
abbrev pub all_known : {C : Type 0} → Option ℕ → Answer C (Unit {0})
all_known None = ok tt
all_known (Some place) = fault (unknown_unit place)

-- whether a written signature fits a unit of signature g, with the units before it known, the words of the text from a place on:
-- it names only known units, then its own questions, then the match, told at place 0
abbrev pub fit : {C : Type 0} → Scope → ℕ → Sig → SignatureText → Answer C (Unit {0})
fit Γ q g s =
    and_then (all_known (unknown_in_sig Γ s)) (λ _.
    and_then (check_sig Γ q s) (λ w.
    and_then (matches 0 (match_sigs g w)) (λ σ. ok tt)))
