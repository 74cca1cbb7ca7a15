-- Numbered signatures stand for signatures with paths: a naming says what path, or what type, each number is called in an environment.
use Rattle.std.specs.Prelude.{◌≡◌, ℕ, Some, None, Option}
use Rattle.types.specs.Types.{Name, Head, ModulePath, at, dot, named, numbered, Ty, leaf, label0, label1, label2}
use Rattle.rules.specs.Signatures.{Signature, structure, functor, Components, empty, more, Declaration, abstract, defined, value, nested}
use Rattle.rules.specs.Substitution.{innermost, out, on_type}
use Rattle.rules.specs.Lookup.{Env, extend, Normal}
use Rattle.checker.specs.Numbered.{Sig, sig, functor_sig, Parts, no_parts, more_parts, Part, abstract_part, defined_part, value_part, module_part}
use Rattle.checker.specs.Meanings.{Meaning, bind, meant}
use Rattle.checker.specs.Scope.{Scope, type_at}

-- no leaf is a path
abbrev pub NoPaths : Ty → Type 0
NoPaths (leaf (named p x)) = ⊥
NoPaths (leaf (numbered n)) = Unit {0}
NoPaths (label0 l) = Unit {0}
NoPaths (label1 l t) = NoPaths t
NoPaths (label2 l t u) = NoPaths t × NoPaths u

-- a numbered type stands for a type when, with its numbers called by the naming, it is the type's normal form
abbrev pub StandsFor : Ty → Ty → Env → Meaning → Type 0
StandsFor n t Γ ρ = NoPaths n × Normal Γ t (meant ρ n)

-- the own abstract types of a signature, not those inside functors, are called by their paths from p
abbrev mutual
  pub calls : ModulePath → Sig → Meaning → Meaning
  calls p (sig c) ρ = calls_all p c ρ
  calls p (functor_sig s r) ρ = ρ

  pub calls_all : ModulePath → Parts → Meaning → Meaning
  calls_all p no_parts ρ = ρ
  calls_all p (more_parts c x d) ρ = calls_one p x d (calls_all p c ρ)

  pub calls_one : ModulePath → Name → Part → Meaning → Meaning
  calls_one p x (abstract_part n) ρ = bind n (leaf (named p x)) ρ
  calls_one p x (defined_part t) ρ = ρ
  calls_one p x (value_part t) ρ = ρ
  calls_one p x (module_part s) ρ = calls (dot p x) s ρ

-- the naming under one more binder of this signature
abbrev pub entered : Sig → Meaning → Meaning
entered s ρ = calls innermost s (λ n. on_type out (ρ n))

-- a numbered signature stands for a signature: component by component, each with those before it known
abbrev mutual
  pub Like : Sig → Signature → Env → Meaning → Type 0
  Like (sig c) (structure g) Γ ρ = LikeAll c g Γ ρ
  Like (sig c) (functor s r) Γ ρ = ⊥
  Like (functor_sig s r) (structure g) Γ ρ = ⊥
  Like (functor_sig s r) (functor s' r') Γ ρ = Like s s' Γ ρ × Like r r' (extend Γ s') (entered s ρ)

  pub LikeAll : Parts → Components → Env → Meaning → Type 0
  LikeAll no_parts empty Γ ρ = Unit {0}
  LikeAll no_parts (more g y d) Γ ρ = ⊥
  LikeAll (more_parts c x e) empty Γ ρ = ⊥
  LikeAll (more_parts c x e) (more g y d) Γ ρ = LikeAll c g Γ ρ × (x ≡ y) × LikeOne e d (extend Γ (structure g)) (entered (sig c) ρ)

  pub LikeOne : Part → Declaration → Env → Meaning → Type 0
  LikeOne (abstract_part n) abstract Γ ρ = Unit {0}
  LikeOne (abstract_part n) (defined u) Γ ρ = ⊥
  LikeOne (abstract_part n) (value u) Γ ρ = ⊥
  LikeOne (abstract_part n) (nested s) Γ ρ = ⊥
  LikeOne (defined_part t) abstract Γ ρ = ⊥
  LikeOne (defined_part t) (defined u) Γ ρ = StandsFor t u Γ ρ
  LikeOne (defined_part t) (value u) Γ ρ = ⊥
  LikeOne (defined_part t) (nested s) Γ ρ = ⊥
  LikeOne (value_part t) abstract Γ ρ = ⊥
  LikeOne (value_part t) (defined u) Γ ρ = ⊥
  LikeOne (value_part t) (value u) Γ ρ = StandsFor t u Γ ρ
  LikeOne (value_part t) (nested s) Γ ρ = ⊥
  LikeOne (module_part n) abstract Γ ρ = ⊥
  LikeOne (module_part n) (defined u) Γ ρ = ⊥
  LikeOne (module_part n) (value u) Γ ρ = ⊥
  LikeOne (module_part n) (nested s) Γ ρ = Like n s Γ ρ

-- the naming calls the own abstract types of the signature at a path by their paths
abbrev mutual
  pub Called : ModulePath → Sig → Meaning → Type 0
  Called p (sig c) ρ = CalledAll p c ρ
  Called p (functor_sig s r) ρ = Unit {0}

  pub CalledAll : ModulePath → Parts → Meaning → Type 0
  CalledAll p no_parts ρ = Unit {0}
  CalledAll p (more_parts c x d) ρ = CalledAll p c ρ × CalledOne p x d ρ

  pub CalledOne : ModulePath → Name → Part → Meaning → Type 0
  CalledOne p x (abstract_part n) ρ = ρ n ≡ leaf (named p x)
  CalledOne p x (defined_part t) ρ = Unit {0}
  CalledOne p x (value_part t) ρ = Unit {0}
  CalledOne p x (module_part s) ρ = Called (dot p x) s ρ

-- what is known of a head in a scope stands for what is known of it in an environment
abbrev pub HeadStands : Option Sig → Option Signature → Head → Env → Meaning → Type 0
HeadStands None None h Γ ρ = Unit {0}
HeadStands None (Some s) h Γ ρ = ⊥
HeadStands (Some n) None h Γ ρ = ⊥
HeadStands (Some n) (Some s) h Γ ρ = Like n s Γ ρ × Called (at h) n ρ

-- a scope stands for an environment
abbrev pub ScopeStands : Scope → Env → Meaning → Type 0
ScopeStands G Γ ρ = (h : Head) → HeadStands (G h) (Γ h) h Γ ρ

-- each number whose name is a normal form is called by a path that leads to it in the scope
abbrev pub Reached : Scope → Env → Meaning → Type 0
Reached G Γ ρ = (n : ℕ) → Normal Γ (ρ n) (ρ n) → (p : ModulePath) × (x : Name) × (ρ n ≡ leaf (named p x)) × (type_at G p x ≡ Some (leaf (numbered n)))
