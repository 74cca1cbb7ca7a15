-- Proper signatures along substitutions, and what proper environments know.
use Rattle.std.proofs.Common.{◌≡◌, ◌⊎◌, Some, None, sym, ap, ◌∙◌, subst, inl, inr}
use Rattle.types.specs.Types.{Name, ModulePath, at, named, leaf}
use Rattle.rules.specs.Signatures.{Sort, a_type, a_module, Signature, structure, functor, Components, empty, more, Declaration, abstract, defined, value, nested, sort_of, find}
use Rattle.rules.specs.Substitution.{Substitution, out, lift, reading, on_signature, on_components, on_declaration}
use Rattle.rules.specs.Lookup.{Env, extend, At, head, inside, Has, opaque, unfolds}
use Rattle.rules.proofs.Algebra.{signature_id, sort_on}
use Rattle.rules.proofs.Finding.{find_on_none, find_cases, find_sort, Begins, all, onward}
use Rattle.rules.proofs.Inner.{Typed, Proper, ProperAll, ProperOne, ProperEnv}
use Rattle.rules.proofs.Along.{extend_cases, typed_along}
use Rattle.rules.proofs.Exact.{longer}
use Rattle.rules.proofs.Transitive.{Knows, knows_laws, knows_exact}
use Rattle.rules.proofs.Knowing.{Along, lift_along, out_along, reading_along}

mutual
  pub proper_along : (s : Signature) (Γ' Γ : Env) (θ : Substitution) → Along θ Γ' Γ → Proper Γ' s → Proper Γ (on_signature θ s)
  proper_along (structure c) Γ' Γ θ k w = proper_all_along c Γ' Γ θ k w
  proper_along (functor s r) Γ' Γ θ k w = (
    proper_along s Γ' Γ θ k w.0,
    proper_along r (extend Γ' s) (extend Γ (on_signature θ s)) (lift θ) (lift_along θ Γ' Γ s k) w.1,
  )

  proper_all_along : (c : Components) (Γ' Γ : Env) (θ : Substitution) → Along θ Γ' Γ → ProperAll Γ' c → ProperAll Γ (on_components (lift θ) c)
  proper_all_along empty Γ' Γ θ k w = tt
  proper_all_along (more c x d) Γ' Γ θ k w = (
    proper_all_along c Γ' Γ θ k w.0,
    ap (λ s. find s x (on_components (lift θ) c)) (sort_on (lift θ) d) ∙ find_on_none (lift θ) (sort_of d) x c w.1,
    proper_one_along d (extend Γ' (structure c)) (extend Γ (on_signature θ (structure c))) (lift θ) (lift_along θ Γ' Γ (structure c) k) w.2,
  )

  pub proper_one_along : (d : Declaration) (Γ' Γ : Env) (θ : Substitution) → Along θ Γ' Γ → ProperOne Γ' d → ProperOne Γ (on_declaration θ d)
  proper_one_along abstract Γ' Γ θ k w = tt
  proper_one_along (defined t) Γ' Γ θ k w = typed_along Knows knows_laws w θ Γ k
  proper_one_along (value t) Γ' Γ θ k w = typed_along Knows knows_laws w θ Γ k
  proper_one_along (nested s) Γ' Γ θ k w = proper_along s Γ' Γ θ k w

pub proper_finer : (Γ' Γ : Env) (s : Signature) → Along at Γ' Γ → Proper Γ' s → Proper Γ s
proper_finer Γ' Γ s k w = subst (Proper Γ) (signature_id s) (proper_along s Γ' Γ at k w)

pub proper_extend : (Γ : Env) (s : Signature) → ProperEnv Γ → Proper Γ s → ProperEnv (extend Γ s)
proper_extend Γ s e w =
    extend_cases Γ s (λ h t. Proper (extend Γ s) t) (proper_along s Γ (extend Γ s) out (out_along Γ s) w)
    (λ h t f. proper_along t Γ (extend Γ s) out (out_along Γ s) (e h t f))

-- what is found among proper components is proper where those before it are known
pub proper_found :
    (Γ : Env) (c : Components) → ProperAll Γ c → (s : Sort) (x : Name) (d : Declaration) → find s x c ≡ Some d →
    (b : Components) × Begins b c × ProperOne (extend Γ (structure b)) d
proper_found Γ empty w s x d f = cc
proper_found Γ (more c y e) w s x d f = go (proper_found Γ c w.0 s x d) (find_cases c y e s x d f)
  where
    go :
        (find s x c ≡ Some d → (b : Components) × Begins b c × ProperOne (extend Γ (structure b)) d) →
        (find s x c ≡ Some d) ⊎ ((find s x c ≡ None) × (e ≡ d) × (sort_of e ≡ s) × (y ≡ x)) →
        (b : Components) × Begins b (more c y e) × ProperOne (extend Γ (structure b)) d
    go ih (inl f') = let v = ih f' in (v.0, onward v.1, v.2)
    go ih (inr r) = (c, onward all, subst (ProperOne (extend Γ (structure c))) r.1 w.2)

-- and so it is proper read at a path that leads to them
pub proper_component :
    (Γ : Env) (p : ModulePath) (c : Components) → At Γ p (structure c) → ProperAll Γ c → (s : Sort) (x : Name) (d : Declaration) →
    find s x c ≡ Some d → ProperOne Γ (on_declaration (reading p) d)
proper_component Γ p c a w s x d f =
    let v = proper_found Γ c w s x d f in
    proper_one_along d (extend Γ (structure v.0)) Γ (reading p)
    (reading_along Γ p (structure v.0) (knows_exact (structure c, a, longer v.1))) v.2

pub proper_at : {Γ : Env} {p : ModulePath} {s : Signature} → ProperEnv Γ → At Γ p s → Proper Γ s
proper_at e (head {h = h} {s = s} f) = e h s f
proper_at {Γ} e (inside {p = p} {x = x} c d a f r) =
    subst (Proper Γ) r (proper_component Γ p c a (proper_at e a) a_module x (nested d) f)

pub proper_has : {Γ : Env} {p : ModulePath} {s : Sort} {x : Name} {d : Declaration} → ProperEnv Γ → Has Γ p s x d → ProperOne Γ d
proper_has {Γ} {p} {s} {x} {d} e h =
    subst (ProperOne Γ) h.reads
    (proper_component Γ p h.components h.leads (proper_at e h.leads) s x h.declared h.found)

pub has_sort : {Γ : Env} {p : ModulePath} {s : Sort} {x : Name} {d : Declaration} → Has Γ p s x d → sort_of d ≡ s
has_sort {Γ} {p} {s} {x} {d} h =
    ap sort_of (sym h.reads) ∙ (sort_on (reading p) h.declared ∙ find_sort h.components s x h.declared h.found)

-- every path that leads to a type has a normal form
pub has_typed : (Γ : Env) (p : ModulePath) (x : Name) (d : Declaration) → ProperEnv Γ → Has Γ p a_type x d → Typed Γ (leaf (named p x))
has_typed Γ p x abstract e h = (leaf (named p x), opaque h)
has_typed Γ p x (defined t) e h = let w = proper_has e h in (w.0, unfolds t h w.1)
has_typed Γ p x (value t) e h = let q = has_sort h in cc
has_typed Γ p x (nested s) e h = let q = has_sort h in cc
