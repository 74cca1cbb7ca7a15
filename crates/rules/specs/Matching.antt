-- Matching: what a module has against what is wanted of it.
use Rattle.types.specs.Types.{Name, ModulePath, dot, named, Ty, leaf}
use Rattle.rules.specs.Signatures.{a_type, a_value, Signature, structure, functor, Components, empty, more, Declaration, abstract, defined, value, nested}
use Rattle.rules.specs.Substitution.{innermost, reading, on_components}
use Rattle.rules.specs.Lookup.{Env, extend, At, Has, Same}

mutual
  -- the path has what the signature wants: a structure every component, read as the path's; a functor as functors match
  pub data Offers : Env → ModulePath → Signature → Type 0 where
    structures :
        {Γ : Env} {p : ModulePath} {c : Components} (g : Components) →
        At Γ p (structure g) → OffersAll Γ p (on_components (reading p) c) → Offers Γ p (structure c)
    functors :
        {Γ : Env} {p : ModulePath} {s r : Signature} (f : Signature) →
        At Γ p f → Matches Γ f (functor s r) → Offers Γ p (functor s r)

  -- the structure at the path has each of these components, already read as the path's: of that sort and name;
  -- a type that is defined is the same, an abstract one asks no more; a value has the same type; a module offers its signature
  pub data OffersAll : Env → ModulePath → Components → Type 0 where
    none : {Γ : Env} {p : ModulePath} → OffersAll Γ p empty
    any_type :
        {Γ : Env} {p : ModulePath} {c : Components} {x : Name} (d : Declaration) →
        OffersAll Γ p c → Has Γ p a_type x d → OffersAll Γ p (more c x abstract)
    same_type :
        {Γ : Env} {p : ModulePath} {c : Components} {x : Name} {t : Ty} →
        OffersAll Γ p c → Same Γ (leaf (named p x)) t → OffersAll Γ p (more c x (defined t))
    same_value :
        {Γ : Env} {p : ModulePath} {c : Components} {x : Name} {t : Ty} (u : Ty) →
        OffersAll Γ p c → Has Γ p a_value x (value u) → Same Γ u t → OffersAll Γ p (more c x (value t))
    sub_module :
        {Γ : Env} {p : ModulePath} {c : Components} {x : Name} {s : Signature} →
        OffersAll Γ p c → Offers Γ (dot p x) s → OffersAll Γ p (more c x (nested s))

  -- a signature matches another: structures at a fresh module of the first; functors when the parameter wanted matches
  -- the parameter given and, with the parameter wanted known, the result given matches the result wanted
  pub data Matches : Env → Signature → Signature → Type 0 where
    fresh :
        {Γ : Env} {g c : Components} →
        OffersAll (extend Γ (structure g)) innermost c → Matches Γ (structure g) (structure c)
    crossed :
        {Γ : Env} {s r s' r' : Signature} →
        Matches Γ s' s → Matches (extend Γ s') r r' → Matches Γ (functor s r) (functor s' r')
