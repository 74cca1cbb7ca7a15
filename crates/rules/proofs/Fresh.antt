-- Paths under one more binder: either they begin at it, or they are paths from outside.
use Rattle.std.proofs.Common.{◌≡◌, zero, suc, ◌⊎◌, Some, refl, ap, ◌∙◌, subst, inl, inr}
use Rattle.types.specs.Types.{Name, unit, binder, ModulePath, at, dot}
use Rattle.rules.specs.Signatures.{Sort, a_type, a_module, Signature, structure, functor, Components, Declaration, abstract, nested, find}
use Rattle.rules.specs.Substitution.{Substitution, under, on_path, out, lift, reading, on_signature, on_components, on_declaration}
use Rattle.rules.specs.Lookup.{Env, extend, At, head, inside, Has}
use Rattle.rules.proofs.Algebra.{signature_reading_on, declaration_reading_on}
use Rattle.rules.proofs.Finding.{find_off}
use Rattle.rules.proofs.Along.{was_some, was_nested, was_abstract}

-- a path that begins at the innermost binder
pub data Fresh : ModulePath → Type 0 where
  fresh_head : Fresh (at (binder zero))
  fresh_dot : {p : ModulePath} {x : Name} → Fresh p → Fresh (dot p x)

pub split : (p : ModulePath) → ((q : ModulePath) × (on_path out q ≡ p)) ⊎ Fresh p
split (at (unit u)) = inl (at (unit u), refl)
split (at (binder zero)) = inr fresh_head
split (at (binder (suc n))) = inl (at (binder n), refl)
split (dot p x) = go (split p)
  where
    go : ((q : ModulePath) × (on_path out q ≡ p)) ⊎ Fresh p → ((q : ModulePath) × (on_path out q ≡ dot p x)) ⊎ Fresh (dot p x)
    go (inl w) = inl (dot w.0 x, ap (λ z. dot z x) w.1)
    go (inr f) = inr (fresh_dot f)

-- what is put for the other heads does not matter to it
pub fresh_under : {p : ModulePath} → Fresh p → (q : ModulePath) (θ σ : Substitution) → on_path (under q θ) p ≡ on_path (under q σ) p
fresh_under fresh_head q θ σ = refl
fresh_under (fresh_dot {x = x} f) q θ σ = ap (λ z. dot z x) (fresh_under f q θ σ)

pub was_structure : (θ : Substitution) (s : Signature) (c : Components) → on_signature θ s ≡ structure c → (b : Components) × (s ≡ structure b) × (on_components (lift θ) b ≡ c)
was_structure θ (structure b) c e = (b, refl, cc)
was_structure θ (functor s r) c e = cc

-- a path from outside leads where it led
pub at_outside :
    (p : ModulePath) (Γ : Env) (g s : Signature) → At (extend Γ g) (on_path out p) s → (t : Signature) × At Γ p t × (on_signature out t ≡ s)
at_outside (at (unit u)) Γ g s (head e) = let w = was_some (on_signature out) (Γ (unit u)) s e in (w.0, head w.1, w.2)
at_outside (at (binder n)) Γ g s (head e) = let w = was_some (on_signature out) (Γ (binder n)) s e in (w.0, head w.1, w.2)
at_outside (dot p x) Γ g s (inside c d a f r) =
    let w = at_outside p Γ g (structure c) a in
    let v = was_structure out w.0 c w.2 in
    let f' : find a_module x (on_components (lift out) v.0) ≡ Some (nested d) = ap (find a_module x) v.2 ∙ f in
    let y = find_off (lift out) a_module x v.0 (nested d) f' in
    let z = was_nested (lift out) y.0 d y.2 in (
      on_signature (reading p) z.0,
      inside v.0 z.0 (subst (At Γ p) v.1 w.1) (y.1 ∙ ap Some z.1) refl,
      signature_reading_on out p z.0 ∙ (ap (on_signature (reading (on_path out p))) z.2 ∙ r),
    )

pub has_outside :
    (p : ModulePath) (Γ : Env) (g : Signature) (s : Sort) (x : Name) (d : Declaration) → Has (extend Γ g) (on_path out p) s x d →
    (e : Declaration) × Has Γ p s x e × (on_declaration out e ≡ d)
has_outside p Γ g s x d h =
    let c = h.components in
    let w = at_outside p Γ g (structure c) h.leads in
    let v = was_structure out w.0 c w.2 in
    let f' : find s x (on_components (lift out) v.0) ≡ Some h.declared = ap (find s x) v.2 ∙ h.found in
    let y = find_off (lift out) s x v.0 h.declared f' in (
      on_declaration (reading p) y.0,
      record { components = v.0; declared = y.0; leads = subst (At Γ p) v.1 w.1; found = y.1; reads = refl },
      declaration_reading_on out p y.0 ∙ (ap (on_declaration (reading (on_path out p))) y.2 ∙ h.reads),
    )

pub abstract_outside : (p : ModulePath) (Γ : Env) (g : Signature) (x : Name) → Has (extend Γ g) (on_path out p) a_type x abstract → Has Γ p a_type x abstract
abstract_outside p Γ g x h =
    let w = has_outside p Γ g a_type x abstract h in subst (Has Γ p a_type x) (was_abstract out w.0 w.2) w.1
