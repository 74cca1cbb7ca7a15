-- The core's law at leaves: what a rule gives for types it gives for their normal forms in another environment.
use Rattle.std.proofs.Common.{◌≡◌, ℕ, Bool, true, false, cond, ◌⊎◌, List, [], ◌∷◌, ◌++◌, map, sym, refl, ap, ◌∙◌, subst, ap₂, inl, inr}
use Rattle.types.specs.Types.{Leaf, named, Ty, leaf, label0, label1, label2, replace, replace_opaque, same_leaf}
use Rattle.types.proofs.Same.{same_equal, same_self}
use Rattle.cores.specs.Meaning.{Outcome, gives, Stable}
use Rattle.cores.specs.declared.interface.Operation.{Operation}
use Rattle.cores.specs.Rules.{map_same, replace_paths}
use Rattle.rules.specs.Lookup.{Env, Normal, opaque, unfolds, bare, part, parts}
use Rattle.rules.proofs.Finding.{normal_unique}

-- a leaf with its normal form
abbrev Entry : Env → Type 0
Entry Γ = (l : Leaf) × (n : Ty) × Normal Γ (leaf l) n

-- the normal form that a table has for a leaf, or else d
abbrev look : (Γ : Env) → List (Entry Γ) → Ty → Leaf → Ty
look Γ [] d l = d
look Γ (e ∷ es) d l = cond (same_leaf l e.0) e.1 (look Γ es d l)

look_or : (Γ : Env) (es : List (Entry Γ)) (d : Ty) (l : Leaf) → Normal Γ (leaf l) (look Γ es d l) ⊎ (look Γ es d l ≡ d)
look_or Γ [] d l = inr refl
look_or Γ (e ∷ es) d l = go (same_leaf l e.0) refl (look_or Γ es d l)
  where
    go :
        (b : Bool) → same_leaf l e.0 ≡ b → Normal Γ (leaf l) (look Γ es d l) ⊎ (look Γ es d l ≡ d) →
        Normal Γ (leaf l) (cond b e.1 (look Γ es d l)) ⊎ (cond b e.1 (look Γ es d l) ≡ d)
    go true q ih = inl (subst (λ z. Normal Γ z e.1) (sym (same_equal (leaf l) (leaf e.0) q)) e.2)
    go false q ih = ih

-- the leaf is in the table
abbrev In : (Γ : Env) → List (Entry Γ) → Leaf → Type 0
In Γ [] l = ⊥
In Γ (e ∷ es) l = (e.0 ≡ l) ⊎ In Γ es l

in_look : (Γ : Env) (es : List (Entry Γ)) (d : Ty) (l : Leaf) → In Γ es l → Normal Γ (leaf l) (look Γ es d l)
in_look Γ [] d l i = absurd i
in_look Γ (e ∷ es) d l i = go (same_leaf l e.0) refl i (in_look Γ es d l)
  where
    go :
        (b : Bool) → same_leaf l e.0 ≡ b → (e.0 ≡ l) ⊎ In Γ es l → (In Γ es l → Normal Γ (leaf l) (look Γ es d l)) →
        Normal Γ (leaf l) (cond b e.1 (look Γ es d l))
    go true q i ih = subst (λ z. Normal Γ z e.1) (sym (same_equal (leaf l) (leaf e.0) q)) e.2
    go false q (inr i) ih = ih i
    go false q (inl r) ih = let z : same_leaf l e.0 ≡ true = ap (same_leaf l) r ∙ same_self (leaf l) in cc

in_left : (Γ : Env) (es fs : List (Entry Γ)) (l : Leaf) → In Γ es l → In Γ (es ++ fs) l
in_left Γ [] fs l i = absurd i
in_left Γ (e ∷ es) fs l (inl r) = inl r
in_left Γ (e ∷ es) fs l (inr i) = inr (in_left Γ es fs l i)

in_right : (Γ : Env) (es fs : List (Entry Γ)) (l : Leaf) → In Γ fs l → In Γ (es ++ fs) l
in_right Γ [] fs l i = i
in_right Γ (e ∷ es) fs l i = inr (in_right Γ es fs l i)

-- every leaf of a type has P
abbrev pub Every : (Leaf → Type 0) → Ty → Type 0
Every P (leaf l) = P l
Every P (label0 l) = Unit {0}
Every P (label1 l t) = Every P t
Every P (label2 l t u) = Every P t × Every P u

pub every_more : {P Q : Leaf → Type 0} → ((l : Leaf) → P l → Q l) → (t : Ty) → Every P t → Every Q t
every_more f (leaf l) i = f l i
every_more f (label0 l) i = tt
every_more f (label1 l t) i = every_more f t i
every_more f (label2 l t u) i = (every_more f t i.0, every_more f u i.1)

-- every leaf of a type is in the table
abbrev Covers : (Γ : Env) → List (Entry Γ) → Ty → Type 0
Covers Γ es t = Every (In Γ es) t

-- the table of a type that has a normal form
table : {Γ : Env} {t n : Ty} → Normal Γ t n → (es : List (Entry Γ)) × Covers Γ es t
table (opaque {p = p} {x = x} h) = ((named p x, leaf (named p x), opaque h) ∷ [], inl refl)
table (unfolds {p = p} {x = x} {n = n} t h m) = ((named p x, n, unfolds t h m) ∷ [], inl refl)
table bare = ([], tt)
table (part m) = table m
table {Γ} (parts {t = t} {u = u} m k) =
    let a = table m in
    let b = table k in
    (a.0 ++ b.0, (every_more (in_left Γ a.0 b.0) t a.1, every_more (in_right Γ a.0 b.0) u b.1))

replace_is : {Γ : Env} {t n : Ty} → Normal Γ t n → (es : List (Entry Γ)) (d : Ty) → Covers Γ es t → replace (look Γ es d) t ≡ n
replace_is {Γ} (opaque {p = p} {x = x} h) es d i = normal_unique (in_look Γ es d (named p x) i) (opaque h)
replace_is {Γ} (unfolds {p = p} {x = x} t h m) es d i = normal_unique (in_look Γ es d (named p x) i) (unfolds t h m)
replace_is bare es d i = refl
replace_is (part {l = l} m) es d i = ap (label1 l) (replace_is m es d i)
replace_is (parts {l = l} m k) es d i = ap₂ (label2 l) (replace_is m es d i.0) (replace_is k es d i.1)

-- types with their normal forms
pub data Normals (Γ : Env) : List Ty → List Ty → Type 0 where
  no_normals : Normals Γ [] []
  more_normals : {t n : Ty} {ts ns : List Ty} → Normal Γ t n → Normals Γ ts ns → Normals Γ (t ∷ ts) (n ∷ ns)

abbrev CoversAll : (Γ : Env) → List (Entry Γ) → List Ty → Type 0
CoversAll Γ es [] = Unit {0}
CoversAll Γ es (t ∷ ts) = Covers Γ es t × CoversAll Γ es ts

covers_all_right : (Γ : Env) (es fs : List (Entry Γ)) (ts : List Ty) → CoversAll Γ fs ts → CoversAll Γ (es ++ fs) ts
covers_all_right Γ es fs [] i = tt
covers_all_right Γ es fs (t ∷ ts) i = (every_more (in_right Γ es fs) t i.0, covers_all_right Γ es fs ts i.1)

tables : {Γ : Env} {ts ns : List Ty} → Normals Γ ts ns → (es : List (Entry Γ)) × CoversAll Γ es ts
tables no_normals = ([], tt)
tables {Γ} (more_normals {t = t} {ts = ts} m ms) =
    let a = table m in
    let b = tables ms in
    (a.0 ++ b.0, (every_more (in_left Γ a.0 b.0) t a.1, covers_all_right Γ a.0 b.0 ts b.1))

map_replace_is : {Γ : Env} {ts ns : List Ty} → Normals Γ ts ns → (es : List (Entry Γ)) (d : Ty) → CoversAll Γ es ts → map (replace (look Γ es d)) ts ≡ ns
map_replace_is no_normals es d i = refl
map_replace_is (more_normals m ms) es d i = ap₂ (λ a b. a ∷ b) (replace_is m es d i.0) (map_replace_is ms es d i.1)

-- a type that two tables with different defaults make the same of has a normal form
two_tables :
    (Γ : Env) (es : List (Entry Γ)) (t : Ty) → replace (look Γ es (label0 0)) t ≡ replace (look Γ es (label0 1)) t →
    Normal Γ t (replace (look Γ es (label0 0)) t)
two_tables Γ es (leaf l) e = go (look_or Γ es (label0 0) l) (look_or Γ es (label0 1) l)
  where
    go :
        Normal Γ (leaf l) (look Γ es (label0 0) l) ⊎ (look Γ es (label0 0) l ≡ label0 0) →
        Normal Γ (leaf l) (look Γ es (label0 1) l) ⊎ (look Γ es (label0 1) l ≡ label0 1) →
        Normal Γ (leaf l) (look Γ es (label0 0) l)
    go (inl m) o = m
    go (inr q) (inl m) = subst (Normal Γ (leaf l)) (sym e) m
    go (inr q) (inr r) = cc
two_tables Γ es (label0 l) e = bare
two_tables Γ es (label1 l t) e = part (two_tables Γ es t (cc))
two_tables Γ es (label2 l t u) e = parts (two_tables Γ es t (cc)) (two_tables Γ es u (cc))

-- the law of cores for leaves
pub leaf_law : {C : Type 0} (n : ℕ) (rule : Operation → List Ty → Outcome C) → Stable n rule → (ρ : Leaf → Ty) (o : Operation) (ts : List Ty) (t : Ty) → rule o ts ≡ gives t → rule o (map (replace ρ) ts) ≡ gives (replace ρ t)
leaf_law n rule law ρ o ts t e =
    ap (rule o) (sym (map_same (replace_opaque n (replace ρ)) (replace ρ) (replace_paths n ρ) ts))
    ∙ (law (replace ρ) o ts t e ∙ ap gives (replace_paths n ρ t))

pub gives_is : {C : Type 0} (t u : Ty) → ◌≡◌ {A = Outcome C} (gives t) (gives u) → t ≡ u
gives_is t u e = cc

-- what the rule gives for types, it gives for their normal forms, in normal form
pub rule_along :
    {C : Type 0} (n : ℕ) (rule : Operation → List Ty → Outcome C) → Stable n rule → {Γ : Env} {ts ns : List Ty} → Normals Γ ts ns →
    (o : Operation) (t : Ty) → rule o ts ≡ gives t → (m : Ty) × (rule o ns ≡ gives m) × Normal Γ t m
rule_along n rule law {Γ} {ts} {ns} ms o t e =
    let w = tables ms in
    let ρ : Ty → Leaf → Ty = look Γ w.0 in
    let with : (d : Ty) → rule o ns ≡ gives (replace (ρ d) t) =
    λ d. ap (rule o) (sym (map_replace_is ms w.0 d w.1)) ∙ leaf_law n rule law (ρ d) o ts t e in
    let same : replace (ρ (label0 0)) t ≡ replace (ρ (label0 1)) t =
    gives_is (replace (ρ (label0 0)) t) (replace (ρ (label0 1)) t) (sym (with (label0 0)) ∙ with (label0 1)) in
    (replace (ρ (label0 0)) t, with (label0 0), two_tables Γ w.0 t same)
