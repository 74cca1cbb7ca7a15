-- Matching along substitutions and transitivity, which need each other at functors.
use Rattle.std.proofs.Common.{◌≡◌, ℕ, zero, suc, ◌≤◌, ◌⊎◌, Some, None, subst, subst₂, inl, inr, le_refl, arith}
use Rattle.types.specs.Types.{Name, ModulePath, at, dot, named, Ty, leaf}
use Rattle.rules.specs.Signatures.{Sort, a_type, a_value, a_module, Signature, structure, functor, Components, empty, more, Declaration, abstract, defined, value, nested, sort_of, find, extent}
use Rattle.rules.specs.Substitution.{innermost, on_path, out, reading, on_type, on_signature, on_components, on_declaration}
use Rattle.rules.specs.Lookup.{Env, extend, At, Has, Normal}
use Rattle.rules.proofs.Algebra.{extent_on, signature_id, components_id}
use Rattle.rules.proofs.Finding.{find_on_some, find_cases, extent_found, normal_unique}
use Rattle.rules.proofs.Inner.{Typed, Gives, g_structure, g_functor, GivesAll, g_abstract, g_defined, g_value, g_nested, Fits, f_structure, f_functor}
use Rattle.rules.proofs.Along.{Laws, From, fits_along, gives_all_along}
use Rattle.rules.proofs.Exact.{Exact, exact_laws, gives_weaken, fits_fresh, narrow_from}

-- what is given for one declaration
abbrev pub GivesOne : Env → ModulePath → Name → Declaration → Type 0
GivesOne Γ q x abstract = Typed Γ (leaf (named q x))
GivesOne Γ q x (defined t) = (n : Ty) × Normal Γ (leaf (named q x)) n × Normal Γ t n
GivesOne Γ q x (value t) = (u : Ty) × (n : Ty) × Has Γ q a_value x (value u) × Normal Γ u n × Normal Γ t n
GivesOne Γ q x (nested s) = Gives Γ (dot q x) s

pub gives_last : (Γ : Env) (q : ModulePath) (c : Components) (x : Name) (d : Declaration) → GivesAll Γ q (more c x d) → GivesAll Γ q c × GivesOne Γ q x d
gives_last Γ q c x abstract (g_abstract n m a) = (m, (n, a))
gives_last Γ q c x (defined t) (g_defined n m a b) = (m, (n, a, b))
gives_last Γ q c x (value t) (g_value u n m h a b) = (m, (u, n, h, a, b))
gives_last Γ q c x (nested s) (g_nested m s') = (m, s')

pub gives_more : (Γ : Env) (q : ModulePath) (c : Components) (x : Name) (d : Declaration) → GivesAll Γ q c → GivesOne Γ q x d → GivesAll Γ q (more c x d)
gives_more Γ q c x abstract m o = g_abstract o.0 m o.1
gives_more Γ q c x (defined t) m o = g_defined o.0 m o.1 o.2
gives_more Γ q c x (value t) m o = g_value o.0 o.1 m o.2 o.3 o.4
gives_more Γ q c x (nested s) m o = g_nested m o

pub gives_found : (Γ : Env) (q : ModulePath) (c : Components) → GivesAll Γ q c → (s : Sort) (x : Name) (d : Declaration) → find s x c ≡ Some d → GivesOne Γ q x d
gives_found Γ q empty m s x d f = cc
gives_found Γ q (more c y e) m s x d f =
    let w = gives_last Γ q c y e m in go (gives_found Γ q c w.0 s x d) w.1 (find_cases c y e s x d f)
  where
    go :
        (find s x c ≡ Some d → GivesOne Γ q x d) → GivesOne Γ q y e →
        (find s x c ≡ Some d) ⊎ ((find s x c ≡ None) × (e ≡ d) × (sort_of e ≡ s) × (y ≡ x)) → GivesOne Γ q x d
    go ih o (inl f') = ih f'
    go ih o (inr r) = subst₂ (GivesOne Γ q) r.3 r.1 o

-- what a path gives of a wanted structure's component
pub gives_component :
    (Γ : Env) (q : ModulePath) (c : Components) → Gives Γ q (structure c) → (s : Sort) (x : Name) (d : Declaration) →
    find s x c ≡ Some d → GivesOne Γ q x (on_declaration (reading q) d)
gives_component Γ q c (g_structure g a m) s x d f =
    gives_found Γ q (on_components (reading q) c) m s x (on_declaration (reading q) d) (find_on_some (reading q) s x c d f)

pub gives_structure : (Γ : Env) (q : ModulePath) (c : Components) → Gives Γ q (structure c) → (g : Components) × At Γ q (structure g)
gives_structure Γ q c (g_structure g a m) = (g, a)

-- transitivity through functors, or through any signature, up to an extent
abbrev ThroughFunctors : ℕ → Type 0
ThroughFunctors n =
    (Γ : Env) (f s r s' r' : Signature) → extent (functor s r) ≤ n →
    Fits Γ f (functor s r) → Fits Γ (functor s r) (functor s' r') → Fits Γ f (functor s' r')

abbrev Through : ℕ → Type 0
Through n = (Γ : Env) (a b c : Signature) → extent b ≤ n → Fits Γ a b → Fits Γ b c → Fits Γ a c

-- known exactly, or given and up to an extent
abbrev pub Upto : ℕ → Env → ModulePath → Signature → Type 0
Upto n Γ q s = Exact Γ q s ⊎ (Gives Γ q s × (extent s ≤ n))

module _ (n : ℕ) (tf : ThroughFunctors n) where
  upto_below :
      (Γ : Env) (q : ModulePath) (c : Components) (x : Name) (s : Signature) →
      Upto n Γ q (structure c) → find a_module x c ≡ Some (nested s) → Upto n Γ (dot q x) (on_signature (reading q) s)
  upto_below Γ q c x s (inl k) f = inl (exact_laws.below Γ q c x s k f)
  upto_below Γ q c x s (inr k) f =
      let e = extent_on (reading q) s in
      let l = extent_found c a_module x (nested s) f in
      let m = k.1 in
      inr (gives_component Γ q c k.0 a_module x (nested s) f, omega arith)

  upto_structure : (Γ : Env) (q : ModulePath) (c : Components) → Upto n Γ q (structure c) → (g : Components) × At Γ q (structure g)
  upto_structure Γ q c (inl k) = exact_laws.is_structure Γ q c k
  upto_structure Γ q c (inr k) = gives_structure Γ q c k.0

  upto_abstract :
      (Γ : Env) (q : ModulePath) (c : Components) (x : Name) →
      Upto n Γ q (structure c) → find a_type x c ≡ Some abstract → Typed Γ (leaf (named q x))
  upto_abstract Γ q c x (inl k) f = exact_laws.of_abstract Γ q c x k f
  upto_abstract Γ q c x (inr k) f = gives_component Γ q c k.0 a_type x abstract f

  upto_defined :
      (Γ : Env) (q : ModulePath) (c : Components) (x : Name) (t m : Ty) →
      Upto n Γ q (structure c) → find a_type x c ≡ Some (defined t) → Normal Γ (on_type (reading q) t) m → Normal Γ (leaf (named q x)) m
  upto_defined Γ q c x t m (inl k) f a = exact_laws.of_defined Γ q c x t m k f a
  upto_defined Γ q c x t m (inr k) f a =
      let w = gives_component Γ q c k.0 a_type x (defined t) f in
      subst (Normal Γ (leaf (named q x))) (normal_unique w.2 a) w.1

  upto_value :
      (Γ : Env) (q : ModulePath) (c : Components) (x : Name) (t m : Ty) →
      Upto n Γ q (structure c) → find a_value x c ≡ Some (value t) → Normal Γ (on_type (reading q) t) m →
      (u : Ty) × Has Γ q a_value x (value u) × Normal Γ u m
  upto_value Γ q c x t m (inl k) f a = exact_laws.of_value Γ q c x t m k f a
  upto_value Γ q c x t m (inr k) f a =
      let w = gives_component Γ q c k.0 a_value x (value t) f in
      (w.0, w.2, subst (Normal Γ w.0) (normal_unique w.4 a) w.3)

  upto_functor : (Γ : Env) (q : ModulePath) (f s r : Signature) → Upto n Γ q f → Fits Γ f (functor s r) → Gives Γ q (functor s r)
  upto_functor Γ q f s r (inl k) m = exact_laws.of_functor Γ q f s r k m
  upto_functor Γ q (functor s₁ r₁) s r (inr k) m = go k.0
    where
      go : Gives Γ q (functor s₁ r₁) → Gives Γ q (functor s r)
      go (g_functor f a m₁) = g_functor f a (tf Γ f s₁ r₁ s r k.1 m₁ m)
  upto_functor Γ q (structure c) s r (inr k) m = elim m [ ]

  upto_weaken : (Γ : Env) (g : Signature) (q : ModulePath) (s : Signature) → Upto n Γ q s → Upto n (extend Γ g) (on_path out q) (on_signature out s)
  upto_weaken Γ g q s (inl k) = inl (exact_laws.weaken Γ g q s k)
  upto_weaken Γ g q s (inr k) =
      let e = extent_on out s in
      let l = k.1 in
      inr (gives_weaken g k.0, omega arith)

  pub upto_laws : Laws (Upto n)
  upto_laws = record {
    exact = λ Γ h s e. inl (exact_laws.exact Γ h s e);
    below = upto_below;
    is_structure = upto_structure;
    of_abstract = upto_abstract;
    of_defined = upto_defined;
    of_value = upto_value;
    of_functor = upto_functor;
    weaken = upto_weaken;
  }

  -- a fresh binder of a signature that matches
  upto_fresh : (Γ : Env) (a b : Signature) → extent b ≤ n → Fits Γ a b → From (Upto n) at (extend Γ b) (extend Γ a)
  upto_fresh Γ a b l m =
      let e = extent_on out b in
      let l' : extent (on_signature out b) ≤ n = omega arith in
      narrow_from (Upto n) upto_laws Γ a b (inr (fits_fresh m, l'))

  through : Through n
  through Γ a b c l (f_structure {g = g} {c = w} m) (f_structure {c = v} m') =
      f_structure
      (subst (GivesAll (extend Γ (structure g)) innermost) (components_id v)
      (gives_all_along (Upto n) upto_laws m' at (extend Γ (structure g)) (upto_fresh Γ (structure g) (structure w) l (f_structure m))))
  through Γ a b c l (f_functor {s = s₁} {r = r₁} {s' = s} {r' = r} p q) (f_functor {s' = s'} {r' = r'} p' q') =
      tf Γ (functor s₁ r₁) s r s' r' l (f_functor p q) (f_functor p' q')

  through_more : ThroughFunctors (suc n)
  through_more Γ f s r s' r' l (f_functor {s = s₁} {r = r₁} p q) (f_functor p' q') =
      let l₁ : extent s ≤ n = omega arith in
      let l₂ : extent r ≤ n = omega arith in
      f_functor (through Γ s' s s₁ l₁ p' p)
      (through (extend Γ s') r₁ r r' l₂
      (subst₂ (Fits (extend Γ s')) (signature_id r₁) (signature_id r)
      (fits_along (Upto n) upto_laws q at (extend Γ s') (upto_fresh Γ s' s l₁ p')))
      q')

through_functors : (n : ℕ) → ThroughFunctors n
through_functors zero = λ Γ f s r s' r' l m m'. absurd (omega arith)
through_functors (suc n) = through_more n (through_functors n)

-- matching is transitive
pub fits_trans : {Γ : Env} {a b c : Signature} → Fits Γ a b → Fits Γ b c → Fits Γ a c
fits_trans {Γ} {a} {b} {c} m m' = through (extent b) (through_functors (extent b)) Γ a b c (le_refl (extent b)) m m'

-- what is known at a path, exactly or by what it gives
abbrev pub Knows : Env → ModulePath → Signature → Type 0
Knows Γ q s = (n : ℕ) × Upto n Γ q s

pub knows_laws : Laws Knows
knows_laws = record {
  exact = λ Γ h s e. (0, (laws 0).exact Γ h s e);
  below = λ Γ q c x s k f. (k.0, (laws k.0).below Γ q c x s k.1 f);
  is_structure = λ Γ q c k. (laws k.0).is_structure Γ q c k.1;
  of_abstract = λ Γ q c x k f. (laws k.0).of_abstract Γ q c x k.1 f;
  of_defined = λ Γ q c x t n k f m. (laws k.0).of_defined Γ q c x t n k.1 f m;
  of_value = λ Γ q c x t n k f m. (laws k.0).of_value Γ q c x t n k.1 f m;
  of_functor = λ Γ q f s r k m. (laws k.0).of_functor Γ q f s r k.1 m;
  weaken = λ Γ g q s k. (k.0, (laws k.0).weaken Γ g q s k.1);
}
  where
    laws : (n : ℕ) → Laws (Upto n)
    laws n = upto_laws n (through_functors n)

pub knows_gives : {Γ : Env} {q : ModulePath} {s : Signature} → Gives Γ q s → Knows Γ q s
knows_gives {Γ} {q} {s} m = (extent s, inr (m, le_refl (extent s)))

pub knows_exact : {Γ : Env} {q : ModulePath} {s : Signature} → Exact Γ q s → Knows Γ q s
knows_exact {Γ} {q} {s} k = (0, inl k)
