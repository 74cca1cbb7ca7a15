-- Lookup, normal forms and matching along a substitution from one environment to another, over any family K of facts
-- 'the environment knows at this path at least this signature' that keeps some laws.
use Rattle.std.proofs.Common.{◌≡◌, zero, suc, Some, None, Option, sym, refl, ap, ◌∙◌, subst}
use Rattle.types.specs.Types.{Name, Head, unit, binder, ModulePath, at, dot, named, Ty, leaf, label0, label1, label2}
use Rattle.rules.specs.Signatures.{a_type, a_value, a_module, Signature, structure, functor, Components, Declaration, abstract, defined, value, nested, find, on_some}
use Rattle.rules.specs.Substitution.{Substitution, under, outward, innermost, on_path, out, lift, reading, on_type, on_signature, on_components, on_declaration}
use Rattle.rules.specs.Lookup.{Env, extend, At, head, inside, Has, Normal, opaque, unfolds, bare, part, parts}
use Rattle.rules.proofs.Algebra.{after, signature_comp, signature_reading_on, type_reading_on, components_reading_on, signature_under_out}
use Rattle.rules.proofs.Finding.{find_on_some, normal_unique}
use Rattle.rules.proofs.Inner.{Typed, Gives, g_structure, g_functor, GivesAll, g_none, g_abstract, g_defined, g_value, g_nested, Fits, f_structure, f_functor}

-- what a declaration was before a substitution
pub was_abstract : (θ : Substitution) (d : Declaration) → on_declaration θ d ≡ abstract → d ≡ abstract
was_abstract θ abstract e = refl
was_abstract θ (defined t) e = cc
was_abstract θ (value t) e = cc
was_abstract θ (nested s) e = cc

pub was_defined : (θ : Substitution) (d : Declaration) (t : Ty) → on_declaration θ d ≡ defined t → (u : Ty) × (d ≡ defined u) × (on_type θ u ≡ t)
was_defined θ abstract t e = cc
was_defined θ (defined u) t e = (u, refl, cc)
was_defined θ (value u) t e = cc
was_defined θ (nested s) t e = cc

pub was_value : (θ : Substitution) (d : Declaration) (t : Ty) → on_declaration θ d ≡ value t → (u : Ty) × (d ≡ value u) × (on_type θ u ≡ t)
was_value θ abstract t e = cc
was_value θ (defined u) t e = cc
was_value θ (value u) t e = (u, refl, cc)
was_value θ (nested s) t e = cc

pub was_nested : (θ : Substitution) (d : Declaration) (s : Signature) → on_declaration θ d ≡ nested s → (u : Signature) × (d ≡ nested u) × (on_signature θ u ≡ s)
was_nested θ abstract t e = cc
was_nested θ (defined u) t e = cc
was_nested θ (value u) t e = cc
was_nested θ (nested s) t e = (s, refl, cc)

pub was_some : {A B : Type 0} (f : A → B) (o : Option A) (b : B) → on_some f o ≡ Some b → (a : A) × (o ≡ Some a) × (f a ≡ b)
was_some f (Some a) b e = (a, refl, cc)
was_some f None b e = cc

-- what is known in an environment with one more binder
pub extend_cases :
    (Γ : Env) (s : Signature) (P : Head → Signature → Type 0) →
    P (binder zero) (on_signature out s) →
    ((h : Head) (t : Signature) → Γ h ≡ Some t → P (outward h) (on_signature out t)) →
    (h : Head) (t : Signature) → extend Γ s h ≡ Some t → P h t
extend_cases Γ s P z o (unit u) t e =
    let w = was_some (on_signature out) (Γ (unit u)) t e in subst (P (unit u)) w.2 (o (unit u) w.0 w.1)
extend_cases Γ s P z o (binder zero) t e = let q : on_signature out s ≡ t = cc in subst (P (binder zero)) q z
extend_cases Γ s P z o (binder (suc n)) t e =
    let w = was_some (on_signature out) (Γ (binder n)) t e in subst (P (binder (suc n))) w.2 (o (binder n) w.0 w.1)

-- the laws of a family of facts
pub record Laws (K : Env → ModulePath → Signature → Type 0) : Type 0 where
  pub exact : (Γ : Env) (h : Head) (s : Signature) → Γ h ≡ Some s → K Γ (at h) s
  pub below :
      (Γ : Env) (q : ModulePath) (c : Components) (x : Name) (s : Signature) →
      K Γ q (structure c) → find a_module x c ≡ Some (nested s) → K Γ (dot q x) (on_signature (reading q) s)
  pub is_structure : (Γ : Env) (q : ModulePath) (c : Components) → K Γ q (structure c) → (g : Components) × At Γ q (structure g)
  pub of_abstract :
      (Γ : Env) (q : ModulePath) (c : Components) (x : Name) →
      K Γ q (structure c) → find a_type x c ≡ Some abstract → Typed Γ (leaf (named q x))
  pub of_defined :
      (Γ : Env) (q : ModulePath) (c : Components) (x : Name) (t n : Ty) →
      K Γ q (structure c) → find a_type x c ≡ Some (defined t) → Normal Γ (on_type (reading q) t) n → Normal Γ (leaf (named q x)) n
  pub of_value :
      (Γ : Env) (q : ModulePath) (c : Components) (x : Name) (t n : Ty) →
      K Γ q (structure c) → find a_value x c ≡ Some (value t) → Normal Γ (on_type (reading q) t) n →
      (u : Ty) × Has Γ q a_value x (value u) × Normal Γ u n
  pub of_functor :
      (Γ : Env) (q : ModulePath) (f s r : Signature) → K Γ q f → Fits Γ f (functor s r) → Gives Γ q (functor s r)
  pub weaken :
      (Γ : Env) (g : Signature) (q : ModulePath) (s : Signature) → K Γ q s → K (extend Γ g) (on_path out q) (on_signature out s)

-- a substitution from one environment to another: what the first knows of a head, the second knows of what is put for it
abbrev pub From : (Env → ModulePath → Signature → Type 0) → Substitution → Env → Env → Type 0
From K θ Γ' Γ = (h : Head) (s : Signature) → Γ' h ≡ Some s → K Γ (θ h) (on_signature θ s)

module _ (K : Env → ModulePath → Signature → Type 0) (L : Laws K) where
  pub under_from :
      (θ : Substitution) (Γ' Γ : Env) (q : ModulePath) (s : Signature) →
      From K θ Γ' Γ → K Γ q (on_signature θ s) → From K (under q θ) (extend Γ' s) Γ
  under_from θ Γ' Γ q s k z =
      extend_cases Γ' s (λ h t. K Γ (under q θ h) (on_signature (under q θ) t))
      (subst (K Γ q) (sym (signature_under_out q θ s)) z) others
    where
      others : (h : Head) (t : Signature) → Γ' h ≡ Some t → K Γ (under q θ (outward h)) (on_signature (under q θ) (on_signature out t))
      others (unit u) t e = subst (K Γ (θ (unit u))) (sym (signature_under_out q θ t)) (k (unit u) t e)
      others (binder n) t e = subst (K Γ (θ (binder n))) (sym (signature_under_out q θ t)) (k (binder n) t e)

  pub weaken_from : (θ : Substitution) (Γ' Γ : Env) (g : Signature) → From K θ Γ' Γ → From K (after out θ) Γ' (extend Γ g)
  weaken_from θ Γ' Γ g k h s e =
      subst (K (extend Γ g) (on_path out (θ h))) (signature_comp out θ s) (L.weaken Γ g (θ h) (on_signature θ s) (k h s e))

  pub lift_from : (θ : Substitution) (Γ' Γ : Env) (s : Signature) → From K θ Γ' Γ → From K (lift θ) (extend Γ' s) (extend Γ (on_signature θ s))
  lift_from θ Γ' Γ s k =
      let Γ+ = extend Γ (on_signature θ s) in
      under_from (after out θ) Γ' Γ+ innermost s (weaken_from θ Γ' Γ (on_signature θ s) k)
      (subst (K Γ+ innermost) (signature_comp out θ s) (L.exact Γ+ (binder zero) (on_signature out (on_signature θ s)) refl))

  pub at_along : {Γ' : Env} {p : ModulePath} {s : Signature} → At Γ' p s → (θ : Substitution) (Γ : Env) → From K θ Γ' Γ → K Γ (on_path θ p) (on_signature θ s)
  at_along (head {h = h} {s = s} e) θ Γ k = k h s e
  at_along (inside {p = p} {x = x} c d a f r) θ Γ k =
      subst (K Γ (dot (on_path θ p) x)) (sym (signature_reading_on θ p d) ∙ ap (on_signature θ) r)
      (L.below Γ (on_path θ p) (on_components (lift θ) c) x (on_signature (lift θ) d) (at_along a θ Γ k)
      (find_on_some (lift θ) a_module x c (nested d) f))

  -- where a path leads to a type, the path that is put for it leads to a type that is the same
  pub abstract_along : {Γ' : Env} {p : ModulePath} {x : Name} → Has Γ' p a_type x abstract → (θ : Substitution) (Γ : Env) → From K θ Γ' Γ → Typed Γ (leaf (named (on_path θ p) x))
  abstract_along {Γ'} {p} {x} h θ Γ k =
      let c = h.components in
      L.of_abstract Γ (on_path θ p) (on_components (lift θ) c) x (at_along h.leads θ Γ k)
      (find_on_some (lift θ) a_type x c abstract (h.found ∙ ap Some (was_abstract (reading p) h.declared h.reads)))

  pub defined_along :
      {Γ' : Env} {p : ModulePath} {x : Name} {t : Ty} → Has Γ' p a_type x (defined t) → (θ : Substitution) (Γ : Env) → From K θ Γ' Γ →
      (n : Ty) → Normal Γ (on_type θ t) n → Normal Γ (leaf (named (on_path θ p) x)) n
  defined_along {Γ'} {p} {x} {t} h θ Γ k n m =
      let c = h.components in
      let w = was_defined (reading p) h.declared t h.reads in
      L.of_defined Γ (on_path θ p) (on_components (lift θ) c) x (on_type (lift θ) w.0) n (at_along h.leads θ Γ k)
      (find_on_some (lift θ) a_type x c (defined w.0) (h.found ∙ ap Some w.1))
      (subst (λ z. Normal Γ z n) (sym (ap (on_type θ) w.2) ∙ type_reading_on θ p w.0) m)

  pub value_along :
      {Γ' : Env} {p : ModulePath} {x : Name} {t : Ty} → Has Γ' p a_value x (value t) → (θ : Substitution) (Γ : Env) → From K θ Γ' Γ →
      (n : Ty) → Normal Γ (on_type θ t) n → (u : Ty) × Has Γ (on_path θ p) a_value x (value u) × Normal Γ u n
  value_along {Γ'} {p} {x} {t} h θ Γ k n m =
      let c = h.components in
      let w = was_value (reading p) h.declared t h.reads in
      L.of_value Γ (on_path θ p) (on_components (lift θ) c) x (on_type (lift θ) w.0) n (at_along h.leads θ Γ k)
      (find_on_some (lift θ) a_value x c (value w.0) (h.found ∙ ap Some w.1))
      (subst (λ z. Normal Γ z n) (sym (ap (on_type θ) w.2) ∙ type_reading_on θ p w.0) m)

  pub normal_along :
      {Γ' : Env} {t n : Ty} → Normal Γ' t n → (θ : Substitution) (Γ : Env) → From K θ Γ' Γ →
      (m : Ty) × Normal Γ (on_type θ t) m × Normal Γ (on_type θ n) m
  normal_along (opaque h) θ Γ k = let w = abstract_along h θ Γ k in (w.0, w.1, w.1)
  normal_along (unfolds t h m) θ Γ k =
      let w = normal_along m θ Γ k in (w.0, defined_along h θ Γ k w.0 w.1, w.2)
  normal_along (bare {l = l}) θ Γ k = (label0 l, bare, bare)
  normal_along (part {l = l} m) θ Γ k = let w = normal_along m θ Γ k in (label1 l w.0, part w.1, part w.2)
  normal_along (parts {l = l} m n) θ Γ k =
      let w = normal_along m θ Γ k in
      let v = normal_along n θ Γ k in
      (label2 l w.0 v.0, parts w.1 v.1, parts w.2 v.2)

  pub typed_along : {Γ' : Env} {t : Ty} → Typed Γ' t → (θ : Substitution) (Γ : Env) → From K θ Γ' Γ → Typed Γ (on_type θ t)
  typed_along m θ Γ k = let w = normal_along m.1 θ Γ k in (w.0, w.1)

  -- two types with one normal form have one again
  pub same_along :
      {Γ' : Env} {t u n : Ty} → Normal Γ' t n → Normal Γ' u n → (θ : Substitution) (Γ : Env) → From K θ Γ' Γ →
      (m : Ty) × Normal Γ (on_type θ t) m × Normal Γ (on_type θ u) m
  same_along {Γ'} {t} {u} {n} a b θ Γ k =
      let w = normal_along a θ Γ k in
      let v = normal_along b θ Γ k in
      (w.0, w.1, subst (Normal Γ (on_type θ u)) (normal_unique v.2 w.2) v.1)

  mutual
    pub gives_along :
        {Γ' : Env} {p : ModulePath} {s : Signature} → Gives Γ' p s → (θ : Substitution) (Γ : Env) → From K θ Γ' Γ →
        Gives Γ (on_path θ p) (on_signature θ s)
    gives_along (g_structure {p = p} {c = c} g a m) θ Γ k =
        let w = L.is_structure Γ (on_path θ p) (on_components (lift θ) g) (at_along a θ Γ k) in
        g_structure w.0 w.1
        (subst (GivesAll Γ (on_path θ p)) (components_reading_on θ p c) (gives_all_along m θ Γ k))
    gives_along (g_functor {p = p} {s = s} {r = r} f a m) θ Γ k =
        L.of_functor Γ (on_path θ p) (on_signature θ f) (on_signature θ s) (on_signature (lift θ) r) (at_along a θ Γ k) (fits_along m θ Γ k)

    pub gives_all_along :
        {Γ' : Env} {p : ModulePath} {c : Components} → GivesAll Γ' p c → (θ : Substitution) (Γ : Env) → From K θ Γ' Γ →
        GivesAll Γ (on_path θ p) (on_components θ c)
    gives_all_along g_none θ Γ k = g_none
    gives_all_along (g_abstract n m a) θ Γ k =
        let w = normal_along a θ Γ k in g_abstract w.0 (gives_all_along m θ Γ k) w.1
    gives_all_along (g_defined n m a b) θ Γ k =
        let w = same_along a b θ Γ k in g_defined w.0 (gives_all_along m θ Γ k) w.1 w.2
    gives_all_along (g_value u n m h a b) θ Γ k =
        let w = same_along a b θ Γ k in
        let v = value_along h θ Γ k w.0 w.1 in
        g_value v.0 w.0 (gives_all_along m θ Γ k) v.1 v.2 w.2
    gives_all_along (g_nested m s) θ Γ k = g_nested (gives_all_along m θ Γ k) (gives_along s θ Γ k)

    pub fits_along :
        {Γ' : Env} {s s' : Signature} → Fits Γ' s s' → (θ : Substitution) (Γ : Env) → From K θ Γ' Γ →
        Fits Γ (on_signature θ s) (on_signature θ s')
    fits_along (f_structure {Γ = Γ'} {g = g} m) θ Γ k =
        f_structure (gives_all_along m (lift θ) (extend Γ (on_signature θ (structure g))) (lift_from θ Γ' Γ (structure g) k))
    fits_along (f_functor {Γ = Γ'} {s' = s'} a b) θ Γ k =
        f_functor (fits_along a θ Γ k) (fits_along b (lift θ) (extend Γ (on_signature θ s')) (lift_from θ Γ' Γ s' k))
