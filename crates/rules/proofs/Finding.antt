-- Finding components, and that lookups and normal forms have one answer.
use Rattle.std.proofs.Common.{◌≡◌, ◌+◌, ◌≤◌, Bool, true, false, cond, ◌&&◌, ◌⊎◌, Some, None, Option, sym, refl, ap, ◌∙◌, subst, ap₂, inl, inr, arith}
use Rattle.std.specs.Str.{bytes_eq}
use Rattle.std.proofs.lemmas.Slice.Eq.{bytes_eq-Decides}
use Rattle.types.specs.Types.{Name, ModulePath, Ty, label1, label2}
use Rattle.rules.specs.Signatures.{Sort, a_type, a_value, a_module, Signature, Components, empty, more, Declaration, defined, sort_of, same_sort, first_of, on_some, find, extent_all, extent_one}
use Rattle.rules.specs.Substitution.{Substitution, on_components, on_declaration}
use Rattle.rules.specs.Lookup.{Env, At, head, inside, Has, Normal, opaque, unfolds, bare, part, parts}
use Rattle.rules.proofs.Algebra.{find_on}

pub same_sort_self : (s : Sort) → same_sort s s ≡ true
same_sort_self a_type = refl
same_sort_self a_value = refl
same_sort_self a_module = refl

pub same_sort_is : (s t : Sort) → same_sort s t ≡ true → s ≡ t
same_sort_is a_type a_type e = refl
same_sort_is a_type a_value e = cc
same_sort_is a_type a_module e = cc
same_sort_is a_value a_type e = cc
same_sort_is a_value a_value e = refl
same_sort_is a_value a_module e = cc
same_sort_is a_module a_type e = cc
same_sort_is a_module a_value e = cc
same_sort_is a_module a_module e = refl

pub same_bytes_self : (x : Name) → bytes_eq x x ≡ true
same_bytes_self x = (bytes_eq-Decides x x).1 refl

-- a declaration whose sort and name is new is found
pub find_last : (c : Components) (x : Name) (d : Declaration) → find (sort_of d) x c ≡ None → find (sort_of d) x (more c x d) ≡ Some d
find_last c x d e =
    ap₂ (λ o b. first_of o (cond b (Some d) None)) e (ap₂ (λ a b. a && b) (same_sort_self (sort_of d)) (same_bytes_self x))

pub find_more : (c : Components) (y : Name) (e : Declaration) (s : Sort) (x : Name) (d : Declaration) → find s x c ≡ Some d → find s x (more c y e) ≡ Some d
find_more c y e s x d f = ap (λ o. first_of o (cond (same_sort s (sort_of e) && bytes_eq x y) (Some e) None)) f

-- what is found was declared before, or is the last declaration
pub last_cases :
    {A : Type 0} (o : Option A) (e d : A) (s t : Sort) (x y : Name) →
    first_of o (cond (same_sort s t && bytes_eq x y) (Some e) None) ≡ Some d →
    (o ≡ Some d) ⊎ ((o ≡ None) × (e ≡ d) × (t ≡ s) × (y ≡ x))
last_cases {A} o e d s t x y = go o (same_sort s t) refl (bytes_eq x y) refl
  where
    go :
        (o : Option A) (a : Bool) → same_sort s t ≡ a → (b : Bool) → bytes_eq x y ≡ b → first_of o (cond (a && b) (Some e) None) ≡ Some d →
        (o ≡ Some d) ⊎ ((o ≡ None) × (e ≡ d) × (t ≡ s) × (y ≡ x))
    go (Some d') a p b q f = inl f
    go None true p true q f = inr (refl, cc, sym (same_sort_is s t p), sym ((bytes_eq-Decides x y).0 q))
    go None true p false q f = cc
    go None false p b q f = cc

pub find_cases :
    (c : Components) (y : Name) (e : Declaration) (s : Sort) (x : Name) (d : Declaration) →
    find s x (more c y e) ≡ Some d →
    (find s x c ≡ Some d) ⊎ ((find s x c ≡ None) × (e ≡ d) × (sort_of e ≡ s) × (y ≡ x))
find_cases c y e s x d = last_cases (find s x c) e d s (sort_of e) x y

pub find_on_some : (θ : Substitution) (s : Sort) (x : Name) (c : Components) (d : Declaration) → find s x c ≡ Some d → find s x (on_components θ c) ≡ Some (on_declaration θ d)
find_on_some θ s x c d f = find_on θ s x c ∙ ap (on_some (on_declaration θ)) f

pub find_on_none : (θ : Substitution) (s : Sort) (x : Name) (c : Components) → find s x c ≡ None → find s x (on_components θ c) ≡ None
find_on_none θ s x c f = find_on θ s x c ∙ ap (on_some (on_declaration θ)) f

pub find_off :
    (θ : Substitution) (s : Sort) (x : Name) (c : Components) (d : Declaration) →
    find s x (on_components θ c) ≡ Some d → (e : Declaration) × (find s x c ≡ Some e) × (on_declaration θ e ≡ d)
find_off θ s x c d f = go (find s x c) refl (sym (find_on θ s x c) ∙ f)
  where
    go : (o : Option Declaration) → find s x c ≡ o → on_some (on_declaration θ) o ≡ Some d → (e : Declaration) × (find s x c ≡ Some e) × (on_declaration θ e ≡ d)
    go (Some e) p q = (e, p, cc)
    go None p q = cc

pub find_sort : (c : Components) (s : Sort) (x : Name) (d : Declaration) → find s x c ≡ Some d → sort_of d ≡ s
find_sort empty s x d f = cc
find_sort (more c y e) s x d f = go (find_sort c s x d) (find_cases c y e s x d f)
  where
    go : (find s x c ≡ Some d → sort_of d ≡ s) → (find s x c ≡ Some d) ⊎ ((find s x c ≡ None) × (e ≡ d) × (sort_of e ≡ s) × (y ≡ x)) → sort_of d ≡ s
    go ih (inl f') = ih f'
    go ih (inr r) = ap sort_of (sym r.1) ∙ r.2

-- components that others begin with
pub data Begins (c : Components) : Components → Type 0 where
  all : Begins c c
  onward : {g : Components} {y : Name} {e : Declaration} → Begins c g → Begins c (more g y e)

pub find_begins : {c g : Components} → Begins c g → (s : Sort) (x : Name) (d : Declaration) → find s x c ≡ Some d → find s x g ≡ Some d
find_begins all s x d f = f
find_begins (onward {g = g} {y = y} {e = e} b) s x d f = find_more g y e s x d (find_begins b s x d f)

pub begins_on : (θ : Substitution) {c g : Components} → Begins c g → Begins (on_components θ c) (on_components θ g)
begins_on θ all = all
begins_on θ (onward b) = onward (begins_on θ b)

pub begins_before : {c : Components} {x : Name} {d : Declaration} {g : Components} → Begins (more c x d) g → Begins c g
begins_before all = onward all
begins_before (onward b) = onward (begins_before b)

-- what is found is no larger
pub extent_found : (c : Components) (s : Sort) (x : Name) (d : Declaration) → find s x c ≡ Some d → extent_one d ≤ extent_all c
extent_found empty s x d f = cc
extent_found (more c y e) s x d f = go (extent_found c s x d) (find_cases c y e s x d f)
  where
    go :
        (find s x c ≡ Some d → extent_one d ≤ extent_all c) →
        (find s x c ≡ Some d) ⊎ ((find s x c ≡ None) × (e ≡ d) × (sort_of e ≡ s) × (y ≡ x)) →
        extent_one d ≤ extent_all c + extent_one e
    go ih (inl f') = let h = ih f' in omega arith
    go ih (inr r) = let h = ap extent_one r.1 in omega arith

-- one answer
pub at_unique : {Γ : Env} {p : ModulePath} {s s' : Signature} → At Γ p s → At Γ p s' → s ≡ s'
at_unique (head e) (head e') = cc
at_unique (inside c d a f r) (inside c' d' a' f' r') = let ih = at_unique a a' in cc

pub has_unique : {Γ : Env} {p : ModulePath} {s : Sort} {x : Name} {d d' : Declaration} → Has Γ p s x d → Has Γ p s x d' → d ≡ d'
has_unique {Γ} {p} {s} {x} {d} {d'} h k =
    let e = at_unique h.leads k.leads in
    let f = h.found in
    let f' = k.found in
    let r = h.reads in
    let r' = k.reads in
    cc

pub normal_unique : {Γ : Env} {t n n' : Ty} → Normal Γ t n → Normal Γ t n' → n ≡ n'
normal_unique (opaque h) (opaque k) = refl
normal_unique (opaque h) (unfolds t k m) = let e = has_unique h k in cc
normal_unique (unfolds t h m) (opaque k) = let e = has_unique h k in cc
normal_unique {Γ} {n' = n'} (unfolds t h m) (unfolds t' k m') =
    let e : t' ≡ t = defined_same t' t (has_unique k h) in
    normal_unique m (subst (λ z. Normal Γ z n') e m')
  where
    defined_same : (a b : Ty) → defined a ≡ defined b → a ≡ b
    defined_same a b q = cc
normal_unique bare bare = refl
normal_unique (part {l = l} m) (part m') = ap (label1 l) (normal_unique m m')
normal_unique (parts {l = l} m k) (parts m' k') = ap₂ (label2 l) (normal_unique m m') (normal_unique k k')

-- a normal form is its own
pub normal_normal : {Γ : Env} {t n : Ty} → Normal Γ t n → Normal Γ n n
normal_normal (opaque h) = opaque h
normal_normal (unfolds t h m) = normal_normal m
normal_normal bare = bare
normal_normal (part m) = part (normal_normal m)
normal_normal (parts m k) = parts (normal_normal m) (normal_normal k)
