-- What stands for a signature stands for it along a substitution.
use Rattle.std.proofs.Common.{◌≡◌, ℕ, Bool, true, false, cond, eqb, ◌⊎◌, Some, sym, refl, ap, ◌∙◌, subst, subst₂, inl, inr}
use Rattle.types.specs.Types.{Name, ModulePath, dot, named, numbered, Ty, leaf, label0, label1, label2}
use Rattle.rules.specs.Signatures.{a_type, a_module, Signature, structure, functor, Components, empty, more, Declaration, abstract, defined, value, nested}
use Rattle.rules.specs.Substitution.{Substitution, innermost, on_path, out, lift, reading, on_type, on_signature, on_components, on_declaration}
use Rattle.rules.specs.Lookup.{Env, extend, At, head, inside, Has, Normal, opaque, unfolds, bare, part, parts}
use Rattle.rules.proofs.Algebra.{type_lift_out, signature_lift_out, signature_reading_on}
use Rattle.rules.proofs.Finding.{find_on_some, normal_unique, normal_normal}
use Rattle.rules.proofs.Along.{normal_along}
use Rattle.rules.proofs.Exact.{Exact, exact_laws, out_from}
use Rattle.rules.proofs.Along.{was_abstract}
use Rattle.rules.proofs.Transitive.{Knows, knows_laws}
use Rattle.rules.proofs.Knowing.{Along, lift_along}
use Rattle.rules.proofs.Fresh.{Fresh, fresh_head, fresh_dot, abstract_outside}
use Rattle.rules.proofs.Settling.{normal_exactly}
use Rattle.checker.specs.Numbered.{Sig, sig, functor_sig, Parts, no_parts, more_parts, Part, abstract_part, defined_part, value_part, module_part}
use Rattle.checker.specs.Meanings.{Meaning, meant}
use Rattle.checker.specs.Standing.{NoPaths, StandsFor, calls, calls_all, calls_one, entered, Like, LikeAll, LikeOne}

-- a leaf that is a normal form is an abstract type
pub normal_abstract : {Γ : Env} {t n : Ty} → Normal Γ t n → (p : ModulePath) (x : Name) → n ≡ leaf (named p x) → Has Γ p a_type x abstract
normal_abstract {Γ} (opaque {p = q} {x = y} h) p x e =
    let ep : q ≡ p = cc in
    let ex : y ≡ x = cc in
    subst₂ (λ a b. Has Γ a a_type b abstract) ep ex h
normal_abstract (unfolds t h m) p x e = normal_abstract m p x e
normal_abstract bare p x e = cc
normal_abstract (part m) p x e = cc
normal_abstract (parts m k) p x e = cc

pub normal_weaken : {Γ : Env} (g : Signature) {t n : Ty} → Normal Γ t n → Normal (extend Γ g) (on_type out t) (on_type out n)
normal_weaken {Γ} g m = normal_exactly m out (extend Γ g) (out_from Exact exact_laws Γ g)

-- a normal form from outside is one outside
pub part_of_lem : {Γ : Env} {t n : Ty} → Normal Γ t n → (l : ℕ) (u : Ty) → t ≡ label1 l u → n ≡ label1 l u → Normal Γ u u
part_of_lem (opaque h) l u e f = cc
part_of_lem (unfolds t h m) l u e f = cc
part_of_lem bare l u e f = cc
part_of_lem {Γ} (part {t = t} {n = n} m) l u e f =
    let et : t ≡ u = cc in
    let en : n ≡ u = cc in
    subst₂ (Normal Γ) et en m
part_of_lem (parts m k) l u e f = cc

pub parts_of : {Γ : Env} {t n : Ty} → Normal Γ t n → (l : ℕ) (u v : Ty) → t ≡ label2 l u v → n ≡ label2 l u v → Normal Γ u u × Normal Γ v v
parts_of (opaque h) l u v e f = cc
parts_of (unfolds t h m) l u v e f = cc
parts_of bare l u v e f = cc
parts_of (part m) l u v e f = cc
parts_of {Γ} (parts {t = t} {u = s} {n = n} {m = k} a b) l u v e f =
    let et : t ≡ u = cc in
    let en : n ≡ u = cc in
    let es : s ≡ v = cc in
    let ek : k ≡ v = cc in
    (subst₂ (Normal Γ) et en a, subst₂ (Normal Γ) es ek b)

pub no_number : {Γ : Env} {t n : Ty} → Normal Γ t n → (k : ℕ) → t ≡ leaf (numbered k) → ⊥
no_number (opaque h) k e = cc
no_number (unfolds t h m) k e = cc
no_number bare k e = cc
no_number (part m) k e = cc
no_number (parts m l) k e = cc

pub normal_outside : (t : Ty) (Γ : Env) (g : Signature) → Normal (extend Γ g) (on_type out t) (on_type out t) → Normal Γ t t
normal_outside (leaf (named p x)) Γ g m = opaque (abstract_outside p Γ g x (normal_abstract m (on_path out p) x refl))
normal_outside (leaf (numbered n)) Γ g m = absurd (no_number m n refl)
normal_outside (label0 l) Γ g m = bare
normal_outside (label1 l t) Γ g m = part (normal_outside t Γ g (part_of_lem m l (on_type out t) refl refl))
normal_outside (label2 l t u) Γ g m =
    let w = parts_of m l (on_type out t) (on_type out u) refl refl in
    parts (normal_outside t Γ g w.0) (normal_outside u Γ g w.1)

-- a number is an own one, called by its path whatever the others are called, or is called as before
abbrev pub OwnOr : (Meaning → Meaning) → ℕ → Type 0
OwnOr f n = ((q : ModulePath) × (x : Name) × Fresh q × ((ρ : Meaning) → f ρ n ≡ leaf (named q x))) ⊎ ((ρ : Meaning) → f ρ n ≡ ρ n)

both_cases :
    (c : Parts) (x : Name) (d : Part) (p : ModulePath) (n : ℕ) → OwnOr (calls_all p c) n → OwnOr (calls_one p x d) n →
    OwnOr (calls_all p (more_parts c x d)) n
both_cases c x d p n o (inl w) = inl (w.0, w.1, w.2, λ ρ. w.3 (calls_all p c ρ))
both_cases c x d p n (inl v) (inr w) = inl (v.0, v.1, v.2, λ ρ. w (calls_all p c ρ) ∙ v.3 ρ)
both_cases c x d p n (inr v) (inr w) = inr (λ ρ. w (calls_all p c ρ) ∙ v ρ)

bound_cases : (k : ℕ) (x : Name) (p : ModulePath) → Fresh p → (n : ℕ) (b : Bool) → eqb n k ≡ b → OwnOr (calls_one p x (abstract_part k)) n
bound_cases k x p f n true e = inl (p, x, f, λ ρ. ap (λ b. cond b (leaf (named p x)) (ρ n)) e)
bound_cases k x p f n false e = inr (λ ρ. ap (λ b. cond b (leaf (named p x)) (ρ n)) e)

mutual
  pub calls_cases : (s : Sig) (p : ModulePath) → Fresh p → (n : ℕ) → OwnOr (calls p s) n
  calls_cases (sig c) p f n = calls_all_cases c p f n
  calls_cases (functor_sig s r) p f n = inr (λ ρ. refl)

  calls_all_cases : (c : Parts) (p : ModulePath) → Fresh p → (n : ℕ) → OwnOr (calls_all p c) n
  calls_all_cases no_parts p f n = inr (λ ρ. refl)
  calls_all_cases (more_parts c x d) p f n = both_cases c x d p n (calls_all_cases c p f n) (calls_one_cases d x p f n)

  calls_one_cases : (d : Part) (x : Name) (p : ModulePath) → Fresh p → (n : ℕ) → OwnOr (calls_one p x d) n
  calls_one_cases (abstract_part k) x p f n = bound_cases k x p f n (eqb n k) refl
  calls_one_cases (defined_part t) x p f n = inr (λ ρ. refl)
  calls_one_cases (value_part t) x p f n = inr (λ ρ. refl)
  calls_one_cases (module_part s) x p f n = calls_cases s (dot p x) (fresh_dot f) n

-- a path from the innermost binder stays under a lifted substitution, and leads to the same
pub fresh_lift : {p : ModulePath} → Fresh p → (θ : Substitution) → on_path (lift θ) p ≡ p
fresh_lift fresh_head θ = refl
fresh_lift (fresh_dot {x = x} f) θ = ap (λ z. dot z x) (fresh_lift f θ)

pub fresh_at :
    {p : ModulePath} → Fresh p → (θ : Substitution) (Γ' Γ : Env) (s t : Signature) → At (extend Γ' s) p t →
    At (extend Γ (on_signature θ s)) p (on_signature (lift θ) t)
fresh_at fresh_head θ Γ' Γ s t (head e) =
    let q : on_signature out s ≡ t = cc in
    head (ap Some (sym (signature_lift_out θ s) ∙ ap (on_signature (lift θ)) q))
fresh_at (fresh_dot {p = p} {x = x} f) θ Γ' Γ s t (inside c d a g r) =
    inside (on_components (lift (lift θ)) c) (on_signature (lift (lift θ)) d) (fresh_at f θ Γ' Γ s (structure c) a)
    (find_on_some (lift (lift θ)) a_module x c (nested d) g)
    (ap (λ z. on_signature (reading z) (on_signature (lift (lift θ)) d)) (sym (fresh_lift f θ))
    ∙ (sym (signature_reading_on (lift θ) p d) ∙ ap (on_signature (lift θ)) r))

pub fresh_abstract :
    {p : ModulePath} → Fresh p → (θ : Substitution) (Γ' Γ : Env) (s : Signature) (x : Name) → Has (extend Γ' s) p a_type x abstract →
    Has (extend Γ (on_signature θ s)) p a_type x abstract
fresh_abstract {p} f θ Γ' Γ s x h =
    record {
      components = on_components (lift (lift θ)) h.components;
      declared = abstract;
      leads = fresh_at f θ Γ' Γ s (structure h.components) h.leads;
      found = find_on_some (lift (lift θ)) a_type x h.components abstract (h.found ∙ ap Some (was_abstract (reading p) h.declared h.reads));
      reads = refl;
    }

-- each number whose name is a normal form has the name that it gets along a substitution for its normal form
abbrev pub Carry : Substitution → Env → Meaning → Env → Meaning → Type 0
Carry θ Γ' ρ Γ υ = (n : ℕ) → Normal Γ' (ρ n) (ρ n) → Normal Γ (on_type θ (ρ n)) (υ n)

meant_carry : (t : Ty) → NoPaths t → (θ : Substitution) (Γ' : Env) (ρ : Meaning) (Γ : Env) (υ : Meaning) → Carry θ Γ' ρ Γ υ → Normal Γ' (meant ρ t) (meant ρ t) → Normal Γ (on_type θ (meant ρ t)) (meant υ t)
meant_carry (leaf (named p x)) i θ Γ' ρ Γ υ k m = absurd i
meant_carry (leaf (numbered n)) i θ Γ' ρ Γ υ k m = k n m
meant_carry (label0 l) i θ Γ' ρ Γ υ k m = bare
meant_carry (label1 l t) i θ Γ' ρ Γ υ k m = part (meant_carry t i θ Γ' ρ Γ υ k (part_of_lem m l (meant ρ t) refl refl))
meant_carry (label2 l t u) i θ Γ' ρ Γ υ k m =
    let w = parts_of m l (meant ρ t) (meant ρ u) refl refl in
    parts (meant_carry t i.0 θ Γ' ρ Γ υ k w.0) (meant_carry u i.1 θ Γ' ρ Γ υ k w.1)

pub stands_along :
    (t u : Ty) (θ : Substitution) (Γ' : Env) (ρ : Meaning) (Γ : Env) (υ : Meaning) → Along θ Γ' Γ → Carry θ Γ' ρ Γ υ →
    StandsFor t u Γ' ρ → StandsFor t (on_type θ u) Γ υ
stands_along t u θ Γ' ρ Γ υ a k s =
    let w = normal_along Knows knows_laws s.1 θ Γ a in
    let v = meant_carry t s.0 θ Γ' ρ Γ υ k (normal_normal s.1) in
    (s.0, subst (Normal Γ (on_type θ u)) (normal_unique w.2 v) w.1)

pub carry_lift :
    (n : Sig) (s : Signature) (θ : Substitution) (Γ' : Env) (ρ : Meaning) (Γ : Env) (υ : Meaning) → Carry θ Γ' ρ Γ υ →
    Carry (lift θ) (extend Γ' s) (entered n ρ) (extend Γ (on_signature θ s)) (entered n υ)
carry_lift n s θ Γ' ρ Γ υ k i = go (calls_cases n innermost fresh_head i)
  where
    go : OwnOr (calls innermost n) i → Normal (extend Γ' s) (entered n ρ i) (entered n ρ i) → Normal (extend Γ (on_signature θ s)) (on_type (lift θ) (entered n ρ i)) (entered n υ i)
    go (inl w) m =
        let q = w.0 in
        let x = w.1 in
        let e = w.3 (λ j. on_type out (ρ j)) in
        let f = w.3 (λ j. on_type out (υ j)) in
        let h = fresh_abstract w.2 θ Γ' Γ s x (normal_abstract m q x e) in
        subst₂ (Normal (extend Γ (on_signature θ s)))
        (sym (ap (on_type (lift θ)) e ∙ ap (λ z. leaf (named z x)) (fresh_lift w.2 θ))) (sym f) (opaque h)
    go (inr w) m =
        let e = w (λ j. on_type out (ρ j)) in
        let f = w (λ j. on_type out (υ j)) in
        let o = normal_outside (ρ i) Γ' s (subst₂ (Normal (extend Γ' s)) e e m) in
        subst₂ (Normal (extend Γ (on_signature θ s)))
        (sym (ap (on_type (lift θ)) e ∙ type_lift_out θ (ρ i))) (sym f) (normal_weaken (on_signature θ s) (k i o))

mutual
  pub like_along :
      (n : Sig) (s : Signature) (θ : Substitution) (Γ' : Env) (ρ : Meaning) (Γ : Env) (υ : Meaning) → Along θ Γ' Γ → Carry θ Γ' ρ Γ υ →
      Like n s Γ' ρ → Like n (on_signature θ s) Γ υ
  like_along (sig c) (structure g) θ Γ' ρ Γ υ a k l = like_all_along c g θ Γ' ρ Γ υ a k l
  like_along (sig c) (functor s r) θ Γ' ρ Γ υ a k l = l
  like_along (functor_sig n m) (structure g) θ Γ' ρ Γ υ a k l = l
  like_along (functor_sig n m) (functor s r) θ Γ' ρ Γ υ a k l = (
    like_along n s θ Γ' ρ Γ υ a k l.0,
    like_along m r (lift θ) (extend Γ' s) (entered n ρ) (extend Γ (on_signature θ s)) (entered n υ)
        (lift_along θ Γ' Γ s a) (carry_lift n s θ Γ' ρ Γ υ k) l.1,
  )

  like_all_along :
      (c : Parts) (g : Components) (θ : Substitution) (Γ' : Env) (ρ : Meaning) (Γ : Env) (υ : Meaning) → Along θ Γ' Γ → Carry θ Γ' ρ Γ υ →
      LikeAll c g Γ' ρ → LikeAll c (on_components (lift θ) g) Γ υ
  like_all_along no_parts empty θ Γ' ρ Γ υ a k l = tt
  like_all_along no_parts (more g y d) θ Γ' ρ Γ υ a k l = l
  like_all_along (more_parts c x e) empty θ Γ' ρ Γ υ a k l = l
  like_all_along (more_parts c x e) (more g y d) θ Γ' ρ Γ υ a k l = (
    like_all_along c g θ Γ' ρ Γ υ a k l.0,
    l.1,
    like_one_along e d (lift θ) (extend Γ' (structure g)) (entered (sig c) ρ) (extend Γ (on_signature θ (structure g))) (entered (sig c) υ)
        (lift_along θ Γ' Γ (structure g) a) (carry_lift (sig c) (structure g) θ Γ' ρ Γ υ k) l.2,
  )

  pub like_one_along :
      (e : Part) (d : Declaration) (θ : Substitution) (Γ' : Env) (ρ : Meaning) (Γ : Env) (υ : Meaning) → Along θ Γ' Γ → Carry θ Γ' ρ Γ υ →
      LikeOne e d Γ' ρ → LikeOne e (on_declaration θ d) Γ υ
  like_one_along (abstract_part n) abstract θ Γ' ρ Γ υ a k l = tt
  like_one_along (abstract_part n) (defined u) θ Γ' ρ Γ υ a k l = l
  like_one_along (abstract_part n) (value u) θ Γ' ρ Γ υ a k l = l
  like_one_along (abstract_part n) (nested s) θ Γ' ρ Γ υ a k l = l
  like_one_along (defined_part t) abstract θ Γ' ρ Γ υ a k l = l
  like_one_along (defined_part t) (defined u) θ Γ' ρ Γ υ a k l = stands_along t u θ Γ' ρ Γ υ a k l
  like_one_along (defined_part t) (value u) θ Γ' ρ Γ υ a k l = l
  like_one_along (defined_part t) (nested s) θ Γ' ρ Γ υ a k l = l
  like_one_along (value_part t) abstract θ Γ' ρ Γ υ a k l = l
  like_one_along (value_part t) (defined u) θ Γ' ρ Γ υ a k l = l
  like_one_along (value_part t) (value u) θ Γ' ρ Γ υ a k l = stands_along t u θ Γ' ρ Γ υ a k l
  like_one_along (value_part t) (nested s) θ Γ' ρ Γ υ a k l = l
  like_one_along (module_part n) abstract θ Γ' ρ Γ υ a k l = l
  like_one_along (module_part n) (defined u) θ Γ' ρ Γ υ a k l = l
  like_one_along (module_part n) (value u) θ Γ' ρ Γ υ a k l = l
  like_one_along (module_part n) (nested s) θ Γ' ρ Γ υ a k l = like_along n s θ Γ' ρ Γ υ a k l
