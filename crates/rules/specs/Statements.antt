-- What holds of the rules, over every core whose rule keeps the law of cores.
use Rattle.std.specs.Prelude.{◌≡◌, ℕ, Bool, true, false, ◌↔◌, List, map, Some, None, Ok, Err}
use Rattle.types.specs.Types.{Head, ModulePath, Ty}
use Rattle.cores.specs.Meaning.{Outcome, gives}
use Rattle.cores.specs.declared.interface.Operation.{Operation}
use Rattle.rules.specs.Signatures.{Signature}
use Rattle.rules.specs.Lookup.{Env, At, Normal}
use Rattle.rules.specs.Soundness.{Leads, Sound}
use Rattle.rules.specs.Matching.{Offers, Matches}
use Rattle.rules.specs.Strengthening.{strengthen}
use Rattle.rules.specs.Syntax.{Module, CompilationUnit, SignatureText, signature_of}
use Rattle.rules.specs.Rules.{Derives}
use Rattle.rules.specs.Environments.{Built}
use Rattle.rules.specs.Projects.{Units, Loads, DerivedFor, Own, FitsUnit}
use Rattle.rules.specs.Checker.{normalize, check, check_units, fits}
use Rattle.rules.specs.Failures.{Tidy, FirstFailure}
use Rattle.rules.specs.Sizes.{in_numbers, Laid, AllNormal}
use Rattle.rules.specs.Refusals.{Question, ModuleAsks, No}
use Rattle.rules.specs.Faults.{Mismatch, mismatch, Fault, run_module, Known, run_units, run_unit, run_fit, is_accepted, is_size, is_unit_size}

-- a type whose paths lead to types has exactly one normal form
abbrev pub NormalFormsExist : Type 0
NormalFormsExist =
    (Γ : Env) → Built Γ → (t : Ty) → Leads Γ t → (n : Ty) × Normal Γ t n × ((m : Ty) → Normal Γ t m → m ≡ n)

-- matching is reflexive on sound signatures
abbrev pub MatchingReflexive : Type 0
MatchingReflexive = (Γ : Env) → Built Γ → (s : Signature) → Sound Γ s → Matches Γ s s

-- and transitive
abbrev pub MatchingTransitive : Type 0
MatchingTransitive =
    (Γ : Env) → Built Γ → (a b c : Signature) → Sound Γ a → Sound Γ b → Sound Γ c → Matches Γ a b → Matches Γ b c → Matches Γ a c

-- a path's strengthened signature matches exactly what the path offers
abbrev pub StrengtheningExact : Type 0
StrengtheningExact =
    (Γ : Env) → Built Γ → (p : ModulePath) (s w : Signature) → At Γ p s → Sound Γ w → Offers Γ p w ↔ Matches Γ (strengthen p s) w

-- what is derived is sound
abbrev pub DerivedIsSound : {C : Type 0} → (Operation → List Ty → Outcome C) → Type 0
DerivedIsSound rule =
    (free : Bool) (Γ : Env) → Built Γ → (m : Module) (s : Signature) → Derives rule free Γ m s → Sound Γ s

-- without the sixth rule a module has at most one signature
abbrev pub OneSignature : {C : Type 0} → (Operation → List Ty → Outcome C) → Type 0
OneSignature rule =
    (Γ : Env) (m : Module) (s w : Signature) → Derives rule false Γ m s → Derives rule false Γ m w → s ≡ w

-- with the sixth rule a module has exactly the sound signatures that its signature without that rule matches
abbrev pub SixthRuleLast : {C : Type 0} → (Operation → List Ty → Outcome C) → Type 0
SixthRuleLast rule =
    (Γ : Env) → Built Γ → (m : Module) (s : Signature) →
    Derives rule true Γ m s ↔ ((g : Signature) × Derives rule false Γ m g × Sound Γ s × Matches Γ g s)

-- the units have derived signatures exactly when they have such without the sixth rule
abbrev pub LoadsAlike : {C : Type 0} → (Operation → List Ty → Outcome C) → Type 0
LoadsAlike rule = (us : Units) → ((Γ : Env) × Loads rule true us Γ) ↔ ((Γ : Env) × Loads rule false us Γ)

-- a signature is derived for a unit exactly when it is sound and the unit's own signature matches it
abbrev pub DerivedExactly : {C : Type 0} → (Operation → List Ty → Outcome C) → Type 0
DerivedExactly rule = (us : Units) (u : CompilationUnit) (s : Signature) → DerivedFor rule us u s ↔ FitsUnit rule us u s

-- a unit has at most one own signature, with one environment of the units before it
abbrev pub OwnIsOne : {C : Type 0} → (Operation → List Ty → Outcome C) → Type 0
OwnIsOne rule =
    (us : Units) (u : CompilationUnit) (Γ Δ : Env) (s w : Signature) → Own rule us u Γ s → Own rule us u Δ w → (Γ ≡ Δ) × (s ≡ w)

-- the own signature is derived for the unit, and matches each that is
abbrev pub OwnIsLeast : {C : Type 0} → (Operation → List Ty → Outcome C) → Type 0
OwnIsLeast rule =
    (us : Units) (u : CompilationUnit) (Γ : Env) (g : Signature) → Own rule us u Γ g →
    DerivedFor rule us u g × ((s : Signature) → DerivedFor rule us u s → Sound Γ s × Matches Γ g s)

-- the units have derived signatures exactly when the checker accepts them
abbrev pub CheckDecides : {C : Type 0} → (Operation → List Ty → Outcome C) → Type 0
CheckDecides rule = (us : Units) → ((Γ : Env) × Loads rule true us Γ) ↔ ((Γ : Env) × (check_units rule us ≡ Some Γ))

-- a signature is derived for a unit exactly when the checker says that it fits
abbrev pub FitDecides : {C : Type 0} → (Operation → List Ty → Outcome C) → Type 0
FitDecides rule = (us : Units) (u : CompilationUnit) (s : Signature) → DerivedFor rule us u s ↔ (fits rule us u s ≡ true)

-- the checker's signature of a unit and the unit's own match each other
abbrev pub CheckedIsOwn : {C : Type 0} → (Operation → List Ty → Outcome C) → Type 0
CheckedIsOwn rule =
    (us : Units) (u : CompilationUnit) (Γ Δ : Env) (s g : Signature) →
    check_units rule us ≡ Some Γ → check rule Γ u.body ≡ Some s → Own rule us u Δ g → Matches Δ g s × Matches Δ s g

-- the units have derived signatures exactly when the checker with faults accepts them, unless it refuses a size
abbrev pub RunDecides : {C : Type 0} → (Operation → List Ty → Outcome C) → Type 0
RunDecides rule =
    (us : Units) → is_unit_size (run_units rule us) ≡ false → ((Γ : Env) × Loads rule true us Γ) ↔ (is_accepted (run_units rule us) ≡ true)

-- a written signature is derived for an accepted unit exactly when it fits, unless a size is refused
abbrev pub RunFitDecides : {C : Type 0} → (Operation → List Ty → Outcome C) → Type 0
RunFitDecides {C} rule =
    (us : Units) (u : CompilationUnit) (w : Known) (g : Signature) (t : SignatureText) →
    run_units rule us ≡ Ok w → run_unit rule w u ≡ Ok g → is_size (run_fit {C = C} w g t) ≡ false →
    DerivedFor rule us u (signature_of t) ↔ (is_accepted (run_fit {C = C} w g t) ≡ true)

-- where a signature in normal form does not match a sound one, the mismatch that is told is the first
abbrev pub MismatchIsFirst : Type 0
MismatchIsFirst =
    (Γ : Env) → Tidy Γ → (a b : Signature) → normalize Γ a ≡ Some a → Sound Γ b → (m : Mismatch) →
    mismatch Γ a b ≡ Some m → FirstFailure Γ None a b m

-- and where none is told, it matches
abbrev pub NoMismatchMatches : Type 0
NoMismatchMatches =
    (Γ : Env) → Tidy Γ → (a b : Signature) → normalize Γ a ≡ Some a → Sound Γ b → (mismatch Γ a b ≡ None) ↔ Matches Γ a b

-- a fault tells a question that the text asks and that is answered no
abbrev pub RefusalsMean : {C : Type 0} → (Operation → List Ty → Outcome C) → Type 0
RefusalsMean {C} rule =
    (from : Head → ℕ) (Γ : Env) (k : ℕ) (m : Module) (f : Fault C) → Tidy Γ → Laid from Γ k → run_module rule from Γ k m ≡ Err f →
    (q : Question) × ModuleAsks rule from Γ k m q × No rule q f

-- what accepted units make known is in normal form and stands apart in the row, and the signature of the next accepted unit is in normal form
abbrev pub KnownIsTidy : {C : Type 0} → (Operation → List Ty → Outcome C) → Type 0
KnownIsTidy rule =
    (us : Units) (w : Known) → run_units rule us ≡ Ok w →
    Tidy w.signatures × Laid w.stand w.signatures w.length ×
    ((u : CompilationUnit) (g : Signature) → run_unit rule w u ≡ Ok g → normalize w.signatures g ≡ Some g)

-- a rule takes normal forms exactly when it takes them with numbers for abstract types, and gives the same with numbers
abbrev pub NumbersExact : {C : Type 0} → (Operation → List Ty → Outcome C) → Type 0
NumbersExact rule =
    (from : Head → ℕ) (Γ : Env) (k : ℕ) → Laid from Γ k → (o : Operation) (ns : List Ty) → AllNormal Γ ns → (t : Ty) →
    (rule o (map (in_numbers from Γ) ns) ≡ gives t) ↔ ((u : Ty) × (rule o ns ≡ gives u) × (in_numbers from Γ u ≡ t))
