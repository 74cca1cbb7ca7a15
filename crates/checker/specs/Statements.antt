-- What holds of the checker, over every core whose rule keeps the law of cores.
use Rattle.std.specs.Prelude.{◌≡◌, ℕ, ◌+◌, ◌≤◌, true, false, ◌↔◌, List, [], ◌∷◌, map, Some, None, Option, ◌≢◌}
use Rattle.types.specs.Types.{Name, ModulePath, named, Ty, leaf}
use Rattle.cores.specs.Meaning.{Outcome, gives, refuses}
use Rattle.cores.specs.declared.interface.Operation.{Operation}
use Rattle.rules.specs.Signatures.{a_type, a_value, Signature, Declaration, value}
use Rattle.rules.specs.Lookup.{Env, At, Has, Normal}
use Rattle.rules.specs.Syntax.{SignatureText, signature_of, Module, CompilationUnit}
use Rattle.rules.specs.Projects.{Units, no_units, more_units, Loads, DerivedFor}
use Rattle.checker.specs.Numbered.{Sig, size_of, Placed}
use Rattle.checker.specs.Meanings.{Meaning, meant}
use Rattle.checker.specs.Scope.{Scope, module_at, type_at, value_at}
use Rattle.checker.specs.Faults.{Fault, number_of, Answer, ok, fault}
use Rattle.checker.specs.Texts.{check_sig}
use Rattle.checker.specs.Modules.{check_module}
use Rattle.checker.specs.Units.{Known, CheckAnswer, accepted, refused, check_units, fit}
use Rattle.checker.specs.Standing.{NoPaths, StandsFor, Like, Called, ScopeStands, Reached}
use Rattle.checker.specs.Written.{OnceSig, OnceModule}

-- no unit has this name
abbrev pub Unnamed : Name → Units → Type 0
Unnamed x no_units = Unit {0}
Unnamed x (more_units us u) = Unnamed x us × (u.name ≢ x)

-- no name comes twice, and each unit declares each sort and name once
abbrev pub OnceUnits : Units → Type 0
OnceUnits no_units = Unit {0}
OnceUnits (more_units us u) = OnceUnits us × Unnamed u.name us × OnceModule u.body

-- a fault that is not size
abbrev pub NotSize : {C : Type 0} → Fault C → Type 0
NotSize e = number_of e ≡ 16 → ⊥

-- an answer that is not size
abbrev pub NoSize : {C : Type 0} → CheckAnswer C → Type 0
NoSize (accepted k) = Unit {0}
NoSize (refused x e) = NotSize e

-- an answer that accepts
abbrev pub Accepts : {C : Type 0} → CheckAnswer C → Type 0
Accepts (accepted k) = Unit {0}
Accepts (refused x e) = ⊥

-- an accepted project has signatures derived without the sixth rule, and those of the checker stand for them;
-- a project refused by another number than size has no derived signatures, even with the sixth rule
abbrev pub Decided : {C : Type 0} → (Operation → List Ty → Outcome C) → Units → CheckAnswer C → Type 0
Decided rule us (accepted k) = (Γ : Env) × (ρ : Meaning) × Loads rule false us Γ × ScopeStands k.scope Γ ρ
Decided rule us (refused x e) = NotSize e → (Γ : Env) → Loads rule true us Γ → ⊥

abbrev pub CheckDecides : {C : Type 0} → (Operation → List Ty → Outcome C) → Type 0
CheckDecides rule = (us : Units) → OnceUnits us → Decided rule us (check_units rule us)

-- a check that does not answer size accepts exactly when the six rules derive signatures for all units
abbrev pub AcceptanceLaw : {C : Type 0} → (Operation → List Ty → Outcome C) → Type 0
AcceptanceLaw rule =
    (us : Units) → OnceUnits us → NoSize (check_units rule us) → Accepts (check_units rule us) ↔ ((Γ : Env) × Loads rule true us Γ)

-- fit says yes of signatures that the six rules derive for the unit, and, if not by size, no of those that they do not
abbrev pub FitDecided : {C : Type 0} → (Operation → List Ty → Outcome C) → Units → CompilationUnit → SignatureText → Answer C (Unit {0}) → Type 0
FitDecided rule us u s (ok y) = DerivedFor rule us u (signature_of s)
FitDecided rule us u s (fault e) = NotSize e → DerivedFor rule us u (signature_of s) → ⊥

-- for a unit behind units that are accepted, its own signature g, and a text whose words begin behind both
abbrev pub FitLaw : {C : Type 0} → (Operation → List Ty → Outcome C) → Type 0
FitLaw rule =
    (us : Units) (u : CompilationUnit) (k : Known) (g : Sig) (q : ℕ) (s : SignatureText) → OnceUnits (more_units us u) → OnceSig s →
    check_units rule us ≡ accepted k → check_module rule k.scope k.next u.body ≡ ok g → k.next + size_of g ≤ q →
    FitDecided rule us u s (fit k.scope q g s)

-- numbered types whose names are normal forms
abbrev pub Good : Env → Meaning → List Ty → Type 0
Good Γ ρ [] = Unit {0}
Good Γ ρ (t ∷ ts) = NoPaths t × Normal Γ (meant ρ t) (meant ρ t) × Good Γ ρ ts

-- a path to a module leads nowhere, or to what stands for a signature there
abbrev pub ModuleLeads : Option Sig → ModulePath → Env → Meaning → Type 0
ModuleLeads None p Γ ρ = (s : Signature) → At Γ p s → ⊥
ModuleLeads (Some n) p Γ ρ = (s : Signature) × At Γ p s × Like n s Γ ρ × Called p n ρ

-- a path to a type leads nowhere, or to what stands for its normal form
abbrev pub TypeLeads : Option Ty → ModulePath → Name → Env → Meaning → Type 0
TypeLeads None p x Γ ρ = (d : Declaration) → Has Γ p a_type x d → ⊥
TypeLeads (Some t) p x Γ ρ = StandsFor t (leaf (named p x)) Γ ρ

-- a path to a value leads nowhere, or to what stands for the normal form of its type
abbrev pub ValueLeads : Option Ty → ModulePath → Name → Env → Meaning → Type 0
ValueLeads None p x Γ ρ = (t : Ty) → Has Γ p a_value x (value t) → ⊥
ValueLeads (Some t) p x Γ ρ = (u : Ty) × Has Γ p a_value x (value u) × StandsFor t u Γ ρ

-- what the rule says of numbered types, and of their names
abbrev pub RuleSays : {C : Type 0} → Env → Meaning → Outcome C → Outcome C → Type 0
RuleSays Γ ρ (gives t) o = (o ≡ gives (meant ρ t)) × Good Γ ρ (t ∷ [])
RuleSays Γ ρ (refuses c) o = (u : Ty) → o ≢ gives u

-- in a scope that stands for an environment, a path leads to a module, a type or a value exactly when it does in the environment;
-- so 12 is told only where the path does not lead to the sort wanted
abbrev pub PathsLeadAlike : Type 0
PathsLeadAlike =
    (G : Scope) (Γ : Env) (ρ : Meaning) → ScopeStands G Γ ρ → (p : ModulePath) (x : Name) →
    ModuleLeads (module_at G p) p Γ ρ × TypeLeads (type_at G p x) p x Γ ρ × ValueLeads (value_at G p x) p x Γ ρ

-- what the rule gives for numbered types it gives for their normal forms, and where it refuses them it gives nothing for these;
-- so 13 is told only where the rule refuses the normal forms
abbrev pub RefusalsMean : {C : Type 0} → (Operation → List Ty → Outcome C) → Type 0
RefusalsMean {C} rule =
    (G : Scope) (Γ : Env) (ρ : Meaning) → ScopeStands G Γ ρ → Reached G Γ ρ → (o : Operation) (ts : List Ty) → Good Γ ρ ts →
    RuleSays Γ ρ (rule o ts) (rule o (map (meant ρ) ts))

-- an answer, if it is a signature, has the places of its components for its numbers
abbrev pub AnswerPlaced : {C : Type 0} → ℕ → Answer C Sig → Type 0
AnswerPlaced q (ok n) = Placed q n
AnswerPlaced q (fault e) = Unit {0}

-- whatever the scope, the numbers of a signature made for a place are the places of its components, of modules and of written signatures
abbrev pub NumbersArePlaces : {C : Type 0} → (Operation → List Ty → Outcome C) → Type 0
NumbersArePlaces {C} rule =
    (G : Scope) (q : ℕ) → ((m : Module) → AnswerPlaced q (check_module rule G q m)) × ((s : SignatureText) → AnswerPlaced {C = C} q (check_sig G q s))
