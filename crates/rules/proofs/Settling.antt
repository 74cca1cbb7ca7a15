-- Settled signatures: every type in them is its own normal form. Where only such are known, one replacement normalizes a type.
use Rattle.std.proofs.Common.{◌≡◌, Bool, true, ◌⊎◌, Some, None, Option, sym, refl, ap, ◌∙◌, subst, inl, inr}
use Rattle.types.specs.Types.{Name, Head, ModulePath, at, dot, named, numbered, Ty, leaf, label0, label1, label2}
use Rattle.rules.specs.Signatures.{Sort, a_type, a_module, Signature, structure, functor, Components, empty, more, Declaration, abstract, defined, value, nested, sort_of, find, on_some}
use Rattle.rules.specs.Substitution.{Substitution, on_path, out, lift, reading, on_type, on_signature, on_components, on_declaration}
use Rattle.rules.specs.Lookup.{Env, extend, At, head, inside, Has, Normal, opaque, unfolds, bare, part, parts}
use Rattle.rules.specs.Checker.{and_then, given, unless, declared, module_of, lookup, put, normal_type}
use Rattle.rules.proofs.Algebra.{signature_id, sort_on}
use Rattle.rules.proofs.Finding.{find_on_some, find_on_none, find_cases, Begins, all, onward, normal_unique}
use Rattle.rules.proofs.Inner.{Proper, ProperAll, ProperOne, ProperEnv}
use Rattle.rules.proofs.Along.{From, under_from, lift_from, at_along, extend_cases, was_abstract, was_some, defined_along}
use Rattle.rules.proofs.Exact.{Exact, exact_laws, exact_has, exact_at, longer, out_from}
use Rattle.rules.proofs.Reflexive.{has_at}

-- as Proper, but each type is its own normal form
abbrev mutual
  pub Settled : Env → Signature → Type 0
  Settled Γ (structure c) = SettledAll Γ c
  Settled Γ (functor s r) = Settled Γ s × Settled (extend Γ s) r

  pub SettledAll : Env → Components → Type 0
  SettledAll Γ empty = Unit {0}
  SettledAll Γ (more c x d) = SettledAll Γ c × (find (sort_of d) x c ≡ None) × SettledOne (extend Γ (structure c)) d

  pub SettledOne : Env → Declaration → Type 0
  SettledOne Γ abstract = Unit {0}
  SettledOne Γ (defined t) = Normal Γ t t
  SettledOne Γ (value t) = Normal Γ t t
  SettledOne Γ (nested s) = Settled Γ s

abbrev pub SettledEnv : Env → Type 0
SettledEnv Γ = (h : Head) (s : Signature) → Γ h ≡ Some s → Settled Γ s

mutual
  pub settled_proper : (s : Signature) (Γ : Env) → Settled Γ s → Proper Γ s
  settled_proper (structure c) Γ w = settled_all_proper c Γ w
  settled_proper (functor s r) Γ w = (settled_proper s Γ w.0, settled_proper r (extend Γ s) w.1)

  settled_all_proper : (c : Components) (Γ : Env) → SettledAll Γ c → ProperAll Γ c
  settled_all_proper empty Γ w = tt
  settled_all_proper (more c x d) Γ w = (settled_all_proper c Γ w.0, w.1, settled_one_proper d (extend Γ (structure c)) w.2)

  settled_one_proper : (d : Declaration) (Γ : Env) → SettledOne Γ d → ProperOne Γ d
  settled_one_proper abstract Γ w = tt
  settled_one_proper (defined t) Γ w = (t, w)
  settled_one_proper (value t) Γ w = (t, w)
  settled_one_proper (nested s) Γ w = settled_proper s Γ w

pub settled_env_proper : (Γ : Env) → SettledEnv Γ → ProperEnv Γ
settled_env_proper Γ e h s f = settled_proper s Γ (e h s f)

-- normal forms go along where everything is known exactly
pub normal_exactly : {Γ' : Env} {t n : Ty} → Normal Γ' t n → (θ : Substitution) (Γ : Env) → From Exact θ Γ' Γ → Normal Γ (on_type θ t) (on_type θ n)
normal_exactly (opaque {p = p} {x = x} h) θ Γ k =
    let c = h.components in
    opaque (exact_has Γ (on_path θ p) (on_components (lift θ) c) a_type x abstract (at_along Exact exact_laws h.leads θ Γ k)
    (find_on_some (lift θ) a_type x c abstract (h.found ∙ ap Some (was_abstract (reading p) h.declared h.reads))))
normal_exactly (unfolds {n = n} t h m) θ Γ k = defined_along Exact exact_laws h θ Γ k (on_type θ n) (normal_exactly m θ Γ k)
normal_exactly bare θ Γ k = bare
normal_exactly (part m) θ Γ k = part (normal_exactly m θ Γ k)
normal_exactly (parts m m') θ Γ k = parts (normal_exactly m θ Γ k) (normal_exactly m' θ Γ k)

mutual
  pub settled_along : (s : Signature) (Γ' Γ : Env) (θ : Substitution) → From Exact θ Γ' Γ → Settled Γ' s → Settled Γ (on_signature θ s)
  settled_along (structure c) Γ' Γ θ k w = settled_all_along c Γ' Γ θ k w
  settled_along (functor s r) Γ' Γ θ k w = (
    settled_along s Γ' Γ θ k w.0,
    settled_along r (extend Γ' s) (extend Γ (on_signature θ s)) (lift θ) (lift_from Exact exact_laws θ Γ' Γ s k) w.1,
  )

  settled_all_along : (c : Components) (Γ' Γ : Env) (θ : Substitution) → From Exact θ Γ' Γ → SettledAll Γ' c → SettledAll Γ (on_components (lift θ) c)
  settled_all_along empty Γ' Γ θ k w = tt
  settled_all_along (more c x d) Γ' Γ θ k w = (
    settled_all_along c Γ' Γ θ k w.0,
    ap (λ s. find s x (on_components (lift θ) c)) (sort_on (lift θ) d) ∙ find_on_none (lift θ) (sort_of d) x c w.1,
    settled_one_along d (extend Γ' (structure c)) (extend Γ (on_signature θ (structure c))) (lift θ) (lift_from Exact exact_laws θ Γ' Γ (structure c) k) w.2,
  )

  settled_one_along : (d : Declaration) (Γ' Γ : Env) (θ : Substitution) → From Exact θ Γ' Γ → SettledOne Γ' d → SettledOne Γ (on_declaration θ d)
  settled_one_along abstract Γ' Γ θ k w = tt
  settled_one_along (defined t) Γ' Γ θ k w = normal_exactly w θ Γ k
  settled_one_along (value t) Γ' Γ θ k w = normal_exactly w θ Γ k
  settled_one_along (nested s) Γ' Γ θ k w = settled_along s Γ' Γ θ k w

pub settled_extend : (Γ : Env) (s : Signature) → SettledEnv Γ → Settled Γ s → SettledEnv (extend Γ s)
settled_extend Γ s e w =
    extend_cases Γ s (λ h t. Settled (extend Γ s) t) (settled_along s Γ (extend Γ s) out (out_from Exact exact_laws Γ s) w)
    (λ h t f. settled_along t Γ (extend Γ s) out (out_from Exact exact_laws Γ s) (e h t f))

pub settled_finer : (Γ' Γ : Env) (s : Signature) → From Exact at Γ' Γ → Settled Γ' s → Settled Γ s
settled_finer Γ' Γ s k w = subst (Settled Γ) (signature_id s) (settled_along s Γ' Γ at k w)

settled_found :
    (Γ : Env) (c : Components) → SettledAll Γ c → (s : Sort) (x : Name) (d : Declaration) → find s x c ≡ Some d →
    (b : Components) × Begins b c × SettledOne (extend Γ (structure b)) d
settled_found Γ empty w s x d f = cc
settled_found Γ (more c y e) w s x d f = go (settled_found Γ c w.0 s x d) (find_cases c y e s x d f)
  where
    go :
        (find s x c ≡ Some d → (b : Components) × Begins b c × SettledOne (extend Γ (structure b)) d) →
        (find s x c ≡ Some d) ⊎ ((find s x c ≡ None) × (e ≡ d) × (sort_of e ≡ s) × (y ≡ x)) →
        (b : Components) × Begins b (more c y e) × SettledOne (extend Γ (structure b)) d
    go ih (inl f') = let v = ih f' in (v.0, onward v.1, v.2)
    go ih (inr r) = (c, onward all, subst (SettledOne (extend Γ (structure c))) r.1 w.2)

settled_component :
    (Γ : Env) (p : ModulePath) (c : Components) → At Γ p (structure c) → SettledAll Γ c → (s : Sort) (x : Name) (d : Declaration) →
    find s x c ≡ Some d → SettledOne Γ (on_declaration (reading p) d)
settled_component Γ p c a w s x d f =
    let v = settled_found Γ c w s x d f in
    settled_one_along d (extend Γ (structure v.0)) Γ (reading p)
    (under_from Exact exact_laws at Γ Γ p (structure v.0)
    (λ h t e. subst (Exact Γ (at h)) (sym (signature_id t)) (exact_at (head e)))
    (subst (Exact Γ p) (sym (signature_id (structure v.0))) (structure c, a, longer v.1)))
    v.2

pub settled_at : {Γ : Env} {p : ModulePath} {s : Signature} → SettledEnv Γ → At Γ p s → Settled Γ s
settled_at e (head {h = h} {s = s} f) = e h s f
settled_at {Γ} e (inside {p = p} {x = x} c d a f r) =
    subst (Settled Γ) r (settled_component Γ p c a (settled_at e a) a_module x (nested d) f)

pub settled_has : {Γ : Env} {p : ModulePath} {s : Sort} {x : Name} {d : Declaration} → SettledEnv Γ → Has Γ p s x d → SettledOne Γ d
settled_has {Γ} {p} {s} {x} {d} e h =
    subst (SettledOne Γ) h.reads
    (settled_component Γ p h.components h.leads (settled_at e h.leads) s x h.declared h.found)

-- the functions find what the relations say
pub then_some : {A B : Type 0} (o : Option A) (f : A → Option B) (b : B) → and_then o f ≡ Some b → (a : A) × (o ≡ Some a) × (f a ≡ Some b)
then_some None f b e = cc
then_some (Some a) f b e = (a, refl, e)

pub then_is : {A B : Type 0} (o : Option A) (f : A → Option B) (a : A) (b : B) → o ≡ Some a → f a ≡ Some b → and_then o f ≡ Some b
then_is o f a b e q = ap (λ z. and_then z f) e ∙ q

pub given_true : {A : Type 0} (o : Option A) (f : A → Bool) → given o f ≡ true → (a : A) × (o ≡ Some a) × (f a ≡ true)
given_true None f e = cc
given_true (Some a) f e = (a, refl, e)

pub given_is : {A : Type 0} (o : Option A) (f : A → Bool) (a : A) → o ≡ Some a → f a ≡ true → given o f ≡ true
given_is o f a e q = ap (λ z. given z f) e ∙ q

pub unless_some : {A B : Type 0} (o : Option A) (r : Option B) (b : B) → unless o r ≡ Some b → (o ≡ None) × (r ≡ Some b)
unless_some None r b e = (refl, e)
unless_some (Some a) r b e = cc

pub unless_is : {A B : Type 0} (o : Option A) (r : Option B) (b : B) → o ≡ None → r ≡ Some b → unless o r ≡ Some b
unless_is o r b e q = ap (λ z. unless z r) e ∙ q

declared_of :
    (Γ : Env) (p : ModulePath) (s : Sort) (x : Name) (d : Declaration) → ((g : Signature) → lookup Γ p ≡ Some g → At Γ p g) →
    declared p s x (lookup Γ p) ≡ Some d → Has Γ p s x d
declared_of Γ p s x d f = go (lookup Γ p) refl
  where
    go : (o : Option Signature) → lookup Γ p ≡ o → declared p s x o ≡ Some d → Has Γ p s x d
    go None q e = cc
    go (Some (structure c)) q e =
        let w = was_some (on_declaration (reading p)) (find s x c) d e in
        record { components = c; declared = w.0; leads = f (structure c) q; found = w.1; reads = w.2 }
    go (Some (functor a b)) q e = cc

module_is : (o : Option Declaration) (s : Signature) → module_of o ≡ Some s → o ≡ Some (nested s)
module_is None s e = cc
module_is (Some abstract) s e = cc
module_is (Some (defined t)) s e = cc
module_is (Some (value t)) s e = cc
module_is (Some (nested t)) s e = cc

pub lookup_at : (Γ : Env) (p : ModulePath) (s : Signature) → lookup Γ p ≡ Some s → At Γ p s
lookup_at Γ (at h) s e = head e
lookup_at Γ (dot p x) s e =
    has_at (declared_of Γ p a_module x (nested s) (lookup_at Γ p) (module_is (declared p a_module x (lookup Γ p)) s e))

pub declared_has : (Γ : Env) (p : ModulePath) (s : Sort) (x : Name) (d : Declaration) → declared p s x (lookup Γ p) ≡ Some d → Has Γ p s x d
declared_has Γ p s x d e = declared_of Γ p s x d (lookup_at Γ p) e

declared_is : (p : ModulePath) (s : Sort) (x : Name) (o : Option Signature) (c : Components) (b d : Declaration) → o ≡ Some (structure c) → find s x c ≡ Some b → on_declaration (reading p) b ≡ d → declared p s x o ≡ Some d
declared_is p s x o c b d e f r = ap (declared p s x) e ∙ (ap (on_some (on_declaration (reading p))) f ∙ ap Some r)

pub at_lookup : {Γ : Env} {p : ModulePath} {s : Signature} → At Γ p s → lookup Γ p ≡ Some s
at_lookup (head e) = e
at_lookup {Γ} {s = s} (inside {p = p} {x = x} c d a f r) =
    ap module_of (declared_is p a_module x (lookup Γ p) c (nested d) (nested s) (at_lookup a) f (ap nested r))

pub has_declared : {Γ : Env} {p : ModulePath} {s : Sort} {x : Name} {d : Declaration} → Has Γ p s x d → declared p s x (lookup Γ p) ≡ Some d
has_declared {Γ} {p} {s} {x} {d} h =
    declared_is p s x (lookup Γ p) h.components h.declared d (at_lookup h.leads) h.found h.reads

pub normal_type_lem : (Γ : Env) (t n : Ty) → SettledEnv Γ → normal_type Γ t ≡ Some n → Normal Γ t n
normal_type_lem Γ (leaf (named p x)) n e i = go (declared p a_type x (lookup Γ p)) refl i
  where
    go : (o : Option Declaration) → declared p a_type x (lookup Γ p) ≡ o → put p x o ≡ Some n → Normal Γ (leaf (named p x)) n
    go None q i = cc
    go (Some abstract) q i =
        let j : leaf (named p x) ≡ n = cc in subst (Normal Γ (leaf (named p x))) j (opaque (declared_has Γ p a_type x abstract q))
    go (Some (defined t)) q i =
        let j : t ≡ n = cc in
        let h = declared_has Γ p a_type x (defined t) q in
        subst (Normal Γ (leaf (named p x))) j (unfolds t h (settled_has e h))
    go (Some (value t)) q i = cc
    go (Some (nested s)) q i = cc
normal_type_lem Γ (leaf (numbered k)) n e i = cc
normal_type_lem Γ (label0 l) n e i = let j : label0 l ≡ n = cc in subst (Normal Γ (label0 l)) j bare
normal_type_lem Γ (label1 l t) n e i =
    let w = was_some (label1 l) (normal_type Γ t) n i in subst (Normal Γ (label1 l t)) w.2 (part (normal_type_lem Γ t w.0 e w.1))
normal_type_lem Γ (label2 l t u) n e i =
    let w = then_some (normal_type Γ t) (λ a. on_some (label2 l a) (normal_type Γ u)) n i in
    let v = was_some (label2 l w.0) (normal_type Γ u) n w.2 in
    subst (Normal Γ (label2 l t u)) v.2 (parts (normal_type_lem Γ t w.0 e w.1) (normal_type_lem Γ u v.0 e v.1))

pub type_normal : {Γ : Env} {t n : Ty} → SettledEnv Γ → Normal Γ t n → normal_type Γ t ≡ Some n
type_normal e (opaque {p = p} {x = x} h) = ap (put p x) (has_declared h)
type_normal e (unfolds {p = p} {x = x} t h m) = ap (put p x) (has_declared h) ∙ ap Some (normal_unique (settled_has e h) m)
type_normal e bare = refl
type_normal e (part {l = l} m) = ap (on_some (label1 l)) (type_normal e m)
type_normal {Γ} e (parts {l = l} {t = t} {u = u} {n = n} {m = m} a b) =
    then_is (normal_type Γ t) (λ z. on_some (label2 l z) (normal_type Γ u)) n (label2 l n m) (type_normal e a) (ap (on_some (label2 l n)) (type_normal e b))
