-- Matching and soundness again, in a wording that proofs need: where an abstract type is wanted, or a path to a type is asked for,
-- there is a normal form. In sound environments this is the same as the wording of the rules.
use Rattle.std.proofs.Common.{◌≡◌, Some, None}
use Rattle.types.specs.Types.{Name, Head, ModulePath, dot, named, Ty, leaf}
use Rattle.rules.specs.Signatures.{a_value, sort_of, Signature, structure, functor, Components, empty, more, Declaration, abstract, defined, value, nested, find}
use Rattle.rules.specs.Substitution.{innermost, reading, on_components}
use Rattle.rules.specs.Lookup.{Env, extend, At, Has, Normal}

-- a type has a normal form
abbrev pub Typed : Env → Ty → Type 0
Typed Γ t = (n : Ty) × Normal Γ t n

mutual
  -- as Offers
  pub data Gives : Env → ModulePath → Signature → Type 0 where
    g_structure :
        {Γ : Env} {p : ModulePath} {c : Components} (g : Components) →
        At Γ p (structure g) → GivesAll Γ p (on_components (reading p) c) → Gives Γ p (structure c)
    g_functor :
        {Γ : Env} {p : ModulePath} {s r : Signature} (f : Signature) →
        At Γ p f → Fits Γ f (functor s r) → Gives Γ p (functor s r)

  -- as OffersAll, but an abstract type has a normal form
  pub data GivesAll : Env → ModulePath → Components → Type 0 where
    g_none : {Γ : Env} {p : ModulePath} → GivesAll Γ p empty
    g_abstract :
        {Γ : Env} {p : ModulePath} {c : Components} {x : Name} (n : Ty) →
        GivesAll Γ p c → Normal Γ (leaf (named p x)) n → GivesAll Γ p (more c x abstract)
    g_defined :
        {Γ : Env} {p : ModulePath} {c : Components} {x : Name} {t : Ty} (n : Ty) →
        GivesAll Γ p c → Normal Γ (leaf (named p x)) n → Normal Γ t n → GivesAll Γ p (more c x (defined t))
    g_value :
        {Γ : Env} {p : ModulePath} {c : Components} {x : Name} {t : Ty} (u n : Ty) →
        GivesAll Γ p c → Has Γ p a_value x (value u) → Normal Γ u n → Normal Γ t n → GivesAll Γ p (more c x (value t))
    g_nested :
        {Γ : Env} {p : ModulePath} {c : Components} {x : Name} {s : Signature} →
        GivesAll Γ p c → Gives Γ (dot p x) s → GivesAll Γ p (more c x (nested s))

  -- as Matches
  pub data Fits : Env → Signature → Signature → Type 0 where
    f_structure :
        {Γ : Env} {g c : Components} →
        GivesAll (extend Γ (structure g)) innermost c → Fits Γ (structure g) (structure c)
    f_functor :
        {Γ : Env} {s r s' r' : Signature} →
        Fits Γ s' s → Fits (extend Γ s') r r' → Fits Γ (functor s r) (functor s' r')

-- as Sound, but every type has a normal form
abbrev mutual
  pub Proper : Env → Signature → Type 0
  Proper Γ (structure c) = ProperAll Γ c
  Proper Γ (functor s r) = Proper Γ s × Proper (extend Γ s) r

  pub ProperAll : Env → Components → Type 0
  ProperAll Γ empty = Unit {0}
  ProperAll Γ (more c x d) =
      ProperAll Γ c × (find (sort_of d) x c ≡ None) × ProperOne (extend Γ (structure c)) d

  pub ProperOne : Env → Declaration → Type 0
  ProperOne Γ abstract = Unit {0}
  ProperOne Γ (defined t) = Typed Γ t
  ProperOne Γ (value t) = Typed Γ t
  ProperOne Γ (nested s) = Proper Γ s

-- every signature that is known is proper
abbrev pub ProperEnv : Env → Type 0
ProperEnv Γ = (h : Head) (s : Signature) → Γ h ≡ Some s → Proper Γ s
