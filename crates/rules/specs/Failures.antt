-- What a mismatch means: the first component, in the order of the signature wanted, that is lacking, and why.
use Rattle.std.specs.Prelude.{◌≡◌, Some, None, Option}
use Rattle.types.specs.Types.{Name, unit, ModulePath, dot, named, Ty, leaf}
use Rattle.rules.specs.Signatures.{a_type, a_value, Signature, structure, functor, Components, more, Declaration, defined, value, nested, sort_of}
use Rattle.rules.specs.Substitution.{innermost, reading, on_components}
use Rattle.rules.specs.Lookup.{Env, extend, At, Has, Same}
use Rattle.rules.specs.Matching.{OffersAll, Matches}
use Rattle.rules.specs.Environments.{unknown, with_unit}
use Rattle.rules.specs.Checker.{normalize}
use Rattle.rules.specs.Faults.{Mismatch}

-- an environment built up from nothing, in which every signature is in normal form
pub data Tidy : Env → Type 0 where
  nothing_yet : Tidy unknown
  a_unit : {Γ : Env} (x : Name) (s : Signature) → Tidy Γ → Γ (unit x) ≡ None → normalize Γ s ≡ Some s → Tidy (with_unit x s Γ)
  a_binder : {Γ : Env} (s : Signature) → Tidy Γ → normalize Γ s ≡ Some s → Tidy (extend Γ s)

mutual
  -- a signature first fails to match another at m; w is the component around both
  pub data FirstFailure : Env → Option Name → Signature → Signature → Mismatch → Type 0 where
    in_structure :
        {Γ : Env} {w : Option Name} {g c : Components} {m : Mismatch} →
        FirstLack (extend Γ (structure g)) innermost c m → FirstFailure Γ w (structure g) (structure c) m
    functor_wanted :
        {Γ : Env} {w : Option Name} {g : Components} {s r : Signature} →
        FirstFailure Γ w (structure g) (functor s r) (record { component = w; cause = 4 })
    structure_wanted :
        {Γ : Env} {w : Option Name} {s r : Signature} {c : Components} →
        FirstFailure Γ w (functor s r) (structure c) (record { component = w; cause = 4 })
    -- the parameter wanted, in normal form, against the parameter given
    in_parameter :
        {Γ : Env} {w : Option Name} {s r u v : Signature} {m : Mismatch} (a : Signature) →
        normalize Γ u ≡ Some a → FirstFailure Γ w a s m → FirstFailure Γ w (functor s r) (functor u v) m
    -- the parameters match; the result given, in normal form, against the result wanted
    in_result :
        {Γ : Env} {w : Option Name} {s r u v : Signature} {m : Mismatch} (a b : Signature) →
        normalize Γ u ≡ Some a → Matches Γ a s → normalize (extend Γ a) r ≡ Some b → FirstFailure (extend Γ a) w b v m →
        FirstFailure Γ w (functor s r) (functor u v) m

  -- the structure at a path first lacks m of these components, already read as the path's
  pub data FirstLack : Env → ModulePath → Components → Mismatch → Type 0 where
    earlier :
        {Γ : Env} {p : ModulePath} {c : Components} {x : Name} {d : Declaration} {m : Mismatch} →
        FirstLack Γ p c m → FirstLack Γ p (more c x d) m
    -- 1: those before are there, and this sort and name is not
    absent :
        {Γ : Env} {p : ModulePath} {c : Components} {x : Name} {d : Declaration} →
        OffersAll Γ p c → ((e : Declaration) → Has Γ p (sort_of d) x e → ⊥) →
        FirstLack Γ p (more c x d) (record { component = Some x; cause = 1 })
    -- 2: a value of another type
    other_value :
        {Γ : Env} {p : ModulePath} {c : Components} {x : Name} {t : Ty} (u : Ty) →
        OffersAll Γ p c → Has Γ p a_value x (value u) → (Same Γ u t → ⊥) →
        FirstLack Γ p (more c x (value t)) (record { component = Some x; cause = 2 })
    -- 3: another type
    other_type :
        {Γ : Env} {p : ModulePath} {c : Components} {x : Name} {t : Ty} (e : Declaration) →
        OffersAll Γ p c → Has Γ p a_type x e → (Same Γ (leaf (named p x)) t → ⊥) →
        FirstLack Γ p (more c x (defined t)) (record { component = Some x; cause = 3 })
    -- a module that is there and fails in itself
    in_module :
        {Γ : Env} {p : ModulePath} {c : Components} {x : Name} {s : Signature} {m : Mismatch} (g : Signature) →
        OffersAll Γ p c → At Γ (dot p x) g → ModuleLacks Γ (dot p x) (Some x) g s m → FirstLack Γ p (more c x (nested s)) m

  -- the module of signature g at a path first lacks m of a signature
  pub data ModuleLacks : Env → ModulePath → Option Name → Signature → Signature → Mismatch → Type 0 where
    -- 4: a functor where a structure is wanted
    not_structure :
        {Γ : Env} {p : ModulePath} {w : Option Name} {a b : Signature} {c : Components} →
        ModuleLacks Γ p w (functor a b) (structure c) (record { component = w; cause = 4 })
    in_components :
        {Γ : Env} {p : ModulePath} {w : Option Name} {g c : Components} {m : Mismatch} →
        FirstLack Γ p (on_components (reading p) c) m → ModuleLacks Γ p w (structure g) (structure c) m
    against_functor :
        {Γ : Env} {p : ModulePath} {w : Option Name} {g s r : Signature} {m : Mismatch} →
        FirstFailure Γ w g (functor s r) m → ModuleLacks Γ p w g (functor s r) m
