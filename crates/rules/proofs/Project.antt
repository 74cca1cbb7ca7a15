-- Units one after the other: with the sixth rule and without it.
use Rattle.std.proofs.Common.{◌≡◌, ℕ, Bool, true, false, cond, List, Some, None, sym, refl, ap, ◌∙◌, subst, ap₂, subst₂, Option}
use Rattle.std.specs.Str.{bytes_eq}
use Rattle.std.proofs.lemmas.Slice.Eq.{bytes_eq-Decides}
use Rattle.types.specs.Types.{Name, Head, unit, binder, at, Ty}
use Rattle.cores.specs.Meaning.{Outcome, Stable}
use Rattle.cores.specs.declared.interface.Operation.{Operation}
use Rattle.rules.specs.Signatures.{Signature}
use Rattle.rules.specs.Substitution.{on_signature}
use Rattle.rules.specs.Lookup.{Env, head}
use Rattle.rules.specs.Syntax.{Module, Items}
use Rattle.rules.specs.Rules.{Derives, by_path, by_items, by_functor, by_application, by_signature, by_matching, DerivesAll, no_item, type_too, let_too, module_too}
use Rattle.rules.specs.Environments.{unknown, with_unit, Built, nothing_yet, a_unit, a_binder}
use Rattle.rules.specs.Projects.{Units, Loads, start, next}
use Rattle.rules.proofs.Algebra.{signature_id}
use Rattle.rules.proofs.Finding.{same_bytes_self}
use Rattle.rules.proofs.Inner.{Fits, Proper, ProperEnv}
use Rattle.rules.proofs.Transitive.{Knows, knows_gives}
use Rattle.rules.proofs.Knowing.{Along, knows_at, knows_along, at_fits, fits_finer}
use Rattle.rules.proofs.Properness.{proper_finer, proper_extend}
use Rattle.rules.proofs.Wording.{sound_proper}
use Rattle.rules.proofs.Derived.{derives_proper, derives_unique}
use Rattle.rules.proofs.Principal.{principal}

-- what is known with one more unit
pub unit_cases :
    (x : Name) (s : Signature) (Γ : Env) (P : Head → Signature → Type 0) →
    P (unit x) s → ((h : Head) (t : Signature) → Γ h ≡ Some t → P h t) →
    (h : Head) (t : Signature) → with_unit x s Γ h ≡ Some t → P h t
unit_cases x s Γ P z o (unit y) t = go (bytes_eq x y) refl
  where
    go : (b : Bool) → bytes_eq x y ≡ b → cond b (Some s) (Γ (unit y)) ≡ Some t → P (unit y) t
    go true q e =
        let i : s ≡ t = cc in
        subst₂ (λ a b. P (unit a) b) ((bytes_eq-Decides x y).0 q) i z
    go false q e = o (unit y) t e
unit_cases x s Γ P z o (binder n) t = o (binder n) t

unit_here : (x : Name) (s : Signature) (Γ : Env) → with_unit x s Γ (unit x) ≡ Some s
unit_here x s Γ = ap (λ b. cond b (Some s) (Γ (unit x))) (same_bytes_self x)

-- what is known stays known with one more name, if that was not known
pub one_more_kept :
    {A : Type 0} (x : Name) (s : A) (f : Name → Option A) → f x ≡ None → (y : Name) (t : A) → f y ≡ Some t → cond (bytes_eq x y) (Some s) (f y) ≡ Some t
one_more_kept x s f n y t e = go (bytes_eq x y) refl
  where
    go : (b : Bool) → bytes_eq x y ≡ b → cond b (Some s) (f y) ≡ Some t
    go true q =
        let i = (bytes_eq-Decides x y).0 q in
        let j : f x ≡ Some t = ap f i ∙ e in
        cc
    go false q = e

pub unit_kept : (x : Name) (s : Signature) (Γ : Env) → Γ (unit x) ≡ None → (h : Head) (t : Signature) → Γ h ≡ Some t → with_unit x s Γ h ≡ Some t
unit_kept x s Γ f (unit y) t e = one_more_kept x s (λ z. Γ (unit z)) f y t e
unit_kept x s Γ f (binder n) t e = e

pub unit_along : (x : Name) (s : Signature) (Γ : Env) → Γ (unit x) ≡ None → Along at Γ (with_unit x s Γ)
unit_along x s Γ f h t e =
    subst (Knows (with_unit x s Γ) (at h)) (sym (signature_id t)) (knows_at (head (unit_kept x s Γ f h t e)))

pub unit_proper : (x : Name) (s : Signature) (Γ : Env) → Γ (unit x) ≡ None → ProperEnv Γ → Proper Γ s → ProperEnv (with_unit x s Γ)
unit_proper x s Γ f e w =
    unit_cases x s Γ (λ h t. Proper (with_unit x s Γ) t) (proper_finer Γ (with_unit x s Γ) s (unit_along x s Γ f) w)
    (λ h t i. proper_finer Γ (with_unit x s Γ) t (unit_along x s Γ f) (e h t i))

pub none_proper : ProperEnv unknown
none_proper h s e = cc

pub built_proper : {Γ : Env} → Built Γ → ProperEnv Γ
built_proper nothing_yet = none_proper
built_proper (a_unit {Γ = Γ} x s b f w) = unit_proper x s Γ f (built_proper b) (sound_proper s Γ (built_proper b) w)
built_proper (a_binder {Γ = Γ} s b w) = proper_extend Γ s (built_proper b) (sound_proper s Γ (built_proper b) w)

-- a finer environment, each with one more unit
pub finer_unit :
    (x : Name) (s' s : Signature) (Γ' Γ : Env) → Γ (unit x) ≡ None → Along at Γ' Γ → Fits Γ s s' → Along at (with_unit x s' Γ') (with_unit x s Γ)
finer_unit x s' s Γ' Γ f k m =
    unit_cases x s' Γ' (λ h t. Knows Γ+ (at h) (on_signature at t))
    (subst (Knows Γ+ (at (unit x))) (sym (signature_id s'))
    (knows_gives (at_fits (head (unit_here x s Γ)) (fits_finer (unit_along x s Γ f) m))))
    (λ h t e. subst (λ z. Knows Γ+ (at h) z) (signature_id (on_signature at t))
    (knows_along Γ Γ+ at (at h) (on_signature at t) (unit_along x s Γ f) (k h t e)))
  where
    Γ+ : Env
    Γ+ = with_unit x s Γ

-- units that are not known
pub none_kept : (x : Name) (s' s : Signature) (Γ' Γ : Env) → ((h : Head) → Γ' h ≡ None → Γ h ≡ None) → (h : Head) → with_unit x s' Γ' h ≡ None → with_unit x s Γ h ≡ None
none_kept x s' s Γ' Γ o (unit y) = go (bytes_eq x y)
  where
    go : (b : Bool) → cond b (Some s') (Γ' (unit y)) ≡ None → cond b (Some s) (Γ (unit y)) ≡ None
    go true e = cc
    go false e = o (unit y) e
none_kept x s' s Γ' Γ o (binder n) = o (binder n)

-- without the sixth rule is with it
mutual
  pub derives_freely : {C : Type 0} {rule : Operation → List Ty → Outcome C} {Γ : Env} {m : Module} {s : Signature} → Derives rule false Γ m s → Derives rule true Γ m s
  derives_freely (by_path s a) = by_path s a
  derives_freely (by_items d) = by_items (derives_all_freely d)
  derives_freely (by_functor w d) = by_functor w (derives_freely d)
  derives_freely (by_application s r a d i m) = by_application s r a (derives_freely d) i m
  derives_freely (by_signature g d w m) = by_signature g (derives_freely d) w m
  derives_freely (by_matching g f d w m) = by_matching g refl (derives_freely d) w m

  derives_all_freely : {C : Type 0} {rule : Operation → List Ty → Outcome C} {Γ : Env} {is : Items} {c : Rattle.rules.specs.Signatures.Components} → DerivesAll rule false Γ is c → DerivesAll rule true Γ is c
  derives_all_freely no_item = no_item
  derives_all_freely (type_too d u l) = type_too (derives_all_freely d) u l
  derives_all_freely (let_too d u h) = let_too (derives_all_freely d) u h
  derives_all_freely (module_too d u m) = module_too (derives_all_freely d) u (derives_freely m)

pub loads_freely : {C : Type 0} {rule : Operation → List Ty → Outcome C} {us : Units} {Γ : Env} → Loads rule false us Γ → Loads rule true us Γ
loads_freely start = start
loads_freely (next s l f d) = next s (loads_freely l) f (derives_freely d)

-- without it there is one environment
pub loads_unique : {C : Type 0} {rule : Operation → List Ty → Outcome C} {us : Units} {Γ Δ : Env} → Loads rule false us Γ → Loads rule false us Δ → Γ ≡ Δ
loads_unique start start = refl
loads_unique {rule = rule} (next {u = u} s l f d) (next s' l' f' d') =
    let q = loads_unique l l' in
    ap₂ (λ a b. with_unit u.name a b) (derives_unique rule d (subst (λ z. Derives rule false z u.body s') (sym q) d')) q

module _ {C : Type 0} (n : ℕ) (rule : Operation → List Ty → Outcome C) (law : Stable n rule) where
  pub loads_proper : {free : Bool} {us : Units} {Γ : Env} → Loads rule free us Γ → ProperEnv Γ
  loads_proper start = none_proper
  loads_proper (next {u = u} {Γ = Γ} s l f d) =
      unit_proper u.name s Γ f (loads_proper l) (derives_proper n rule law d (loads_proper l))

  pub loads_principal :
      {free : Bool} {us : Units} {Γ' : Env} → Loads rule free us Γ' →
      (Γ : Env) × Loads rule false us Γ × Along at Γ' Γ × ((h : Head) → Γ' h ≡ None → Γ h ≡ None)
  loads_principal start = (unknown, start, (λ h s e. cc), (λ h e. e))
  loads_principal (next {u = u} {Γ = Γ'} s' l' f' d') =
      let w = loads_principal l' in
      let Γ = w.0 in
      let i = principal n rule law d' (loads_proper l') Γ (loads_proper w.1) w.2 in
      let f = w.3 (unit u.name) f' in (
        with_unit u.name i.0 Γ,
        next i.0 w.1 f i.1,
        finer_unit u.name s' i.0 Γ' Γ f w.2 i.2,
        none_kept u.name s' i.0 Γ' Γ w.3,
      )
