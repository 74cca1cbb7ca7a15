-- Projects: units in load order, each derived with those before it known.
use Rattle.std.specs.Prelude.{◌≡◌, Bool, true, false, List, None}
use Rattle.types.specs.Types.{unit, Ty}
use Rattle.cores.specs.Meaning.{Outcome}
use Rattle.cores.specs.declared.interface.Operation.{Operation}
use Rattle.rules.specs.Signatures.{Signature}
use Rattle.rules.specs.Lookup.{Env}
use Rattle.rules.specs.Soundness.{Sound}
use Rattle.rules.specs.Matching.{Matches}
use Rattle.rules.specs.Syntax.{CompilationUnit}
use Rattle.rules.specs.Rules.{Derives}
use Rattle.rules.specs.Environments.{unknown, with_unit}

-- units in load order, the last one outermost
pub data Units : Type 0 where
  no_units : Units
  more_units : Units → CompilationUnit → Units

-- each unit in turn gets a signature derived with those of the units before it, and no name comes twice
pub data Loads {C : Type 0} (rule : Operation → List Ty → Outcome C) (free : Bool) : Units → Env → Type 0 where
  start : Loads rule free no_units unknown
  next :
      {us : Units} {u : CompilationUnit} {Γ : Env} (s : Signature) →
      Loads rule free us Γ → Γ (unit u.name) ≡ None → Derives rule free Γ u.body s →
      Loads rule free (more_units us u) (with_unit u.name s Γ)

-- a signature is derived for a unit behind these units, whatever those behind it get
pub record DerivedFor {C : Type 0} (rule : Operation → List Ty → Outcome C) (us : Units) (u : CompilationUnit) (s : Signature) : Type 0 where
  pub known : Env
  pub before : Loads rule true us known
  pub derived : Derives rule true known u.body s

-- the unit's own signature, and what is known of the units before it: derived without the sixth rule
pub record Own {C : Type 0} (rule : Operation → List Ty → Outcome C) (us : Units) (u : CompilationUnit) (Γ : Env) (s : Signature) : Type 0 where
  pub before : Loads rule false us Γ
  pub derived : Derives rule false Γ u.body s

-- a signature fits a unit: it is sound, and the unit's own signature matches it
pub record FitsUnit {C : Type 0} (rule : Operation → List Ty → Outcome C) (us : Units) (u : CompilationUnit) (s : Signature) : Type 0 where
  pub known : Env
  pub least : Signature
  pub own : Own rule us u known least
  pub sound : Sound known s
  pub matches : Matches known least s
