-- The matching function tells whether a settled signature matches.
use Rattle.std.proofs.Common.{◌≡◌, ℕ, zero, suc, ◌+◌, ◌≤◌, Bool, true, ◌&&◌, Some, None, Option, sym, refl, ap, ◌∙◌, subst, ap₂, le_refl, arith}
use Rattle.std.proofs.lemmas.Bool.{and_parts}
use Rattle.types.specs.Types.{Name, ModulePath, dot, named, Ty, leaf}
use Rattle.types.proofs.Same.{same_equal, same_self}
use Rattle.rules.specs.Signatures.{a_type, a_value, a_module, Signature, structure, functor, Components, empty, more, Declaration, abstract, defined, value, nested, find, extent, extent_all, extent_one}
use Rattle.rules.specs.Substitution.{Substitution, under, innermost, out, lift, reading, on_type, on_signature, on_components, on_declaration}
use Rattle.rules.specs.Lookup.{Env, extend, At, head}
use Rattle.rules.specs.Checker.{given, declared, lookup, normal_type, normalize, is_structure, same_form, normal_value, offered, offered_all, offered_one, matches_to, does_match}
use Rattle.rules.proofs.Algebra.{components_id, components_reading_lift, extent_on}
use Rattle.rules.proofs.Finding.{extent_found, at_unique}
use Rattle.rules.proofs.Inner.{Gives, g_structure, g_functor, GivesAll, g_none, Fits, f_structure, f_functor, Proper, ProperAll, ProperOne}
use Rattle.rules.proofs.Along.{was_nested}
use Rattle.rules.proofs.Exact.{under_fresh}
use Rattle.rules.proofs.Transitive.{knows_gives, GivesOne, gives_last, gives_more, fits_trans}
use Rattle.rules.proofs.Knowing.{Along, out_along, under_along, fits_finer}
use Rattle.rules.proofs.Properness.{proper_along, proper_finer, has_typed}
use Rattle.rules.proofs.Converse.{normal_has, at_has, gives_at}
use Rattle.rules.proofs.Settling.{Settled, SettledEnv, settled_proper, settled_env_proper, settled_extend, settled_at, lookup_at, at_lookup, declared_has, has_declared, normal_type_lem, type_normal, given_true, given_is}
use Rattle.rules.proofs.Normalizing.{fits_along_fresh, normalize_is, normalize_proper}

is_structure_lem : (o : Option Signature) → is_structure o ≡ true → (c : Components) × (o ≡ Some (structure c))
is_structure_lem None e = cc
is_structure_lem (Some (structure c)) e = (c, refl)
is_structure_lem (Some (functor s r)) e = cc

same_form_lem : (a b : Option Ty) → same_form a b ≡ true → (n : Ty) × (a ≡ Some n) × (b ≡ Some n)
same_form_lem None b e = cc
same_form_lem (Some t) None e = cc
same_form_lem (Some t) (Some u) e = (t, refl, ap Some (sym (same_equal t u e)))

form_same : (a b : Option Ty) (n : Ty) → a ≡ Some n → b ≡ Some n → same_form a b ≡ true
form_same a b n p q = ap₂ same_form p q ∙ same_self n

pub normal_value_lem : (Γ : Env) (d : Declaration) (n : Ty) → normal_value Γ d ≡ Some n → (u : Ty) × (d ≡ value u) × (normal_type Γ u ≡ Some n)
normal_value_lem Γ abstract n e = cc
normal_value_lem Γ (defined t) n e = cc
normal_value_lem Γ (value t) n e = (t, refl, e)
normal_value_lem Γ (nested s) n e = cc

-- what is asked of the test for functors
abbrev pub Tells : (Env → Signature → Signature → Bool) → Type 0
Tells f =
    (Γ : Env) (g s r : Signature) → SettledEnv Γ → Settled Γ g → Proper Γ (functor s r) → f Γ g (functor s r) ≡ true → Fits Γ g (functor s r)

abbrev Finds : ℕ → (Env → Signature → Signature → Bool) → Type 0
Finds n f =
    (Γ : Env) (g s r : Signature) → SettledEnv Γ → Settled Γ g → Proper Γ (functor s r) → extent g + extent (functor s r) ≤ n →
    Fits Γ g (functor s r) → f Γ g (functor s r) ≡ true

-- what a nested module's signature has of extent
pub below_extent : (Γ : Env) (p : ModulePath) (x : Name) (c : Components) (g : Signature) → At Γ p (structure c) → At Γ (dot p x) g → extent g ≤ extent_all c
below_extent Γ p x c g a b =
    let h = at_has b in
    let w = was_nested (reading p) h.declared g h.reads in
    let same = at_unique h.leads a in
    let f = h.found in
    let d = w.1 in
    let f' : find a_module x c ≡ Some (nested w.0) = cc in
    let l = extent_found c a_module x (nested w.0) f' in
    let i = ap extent w.2 in
    let j = extent_on (reading p) w.0 in
    omega arith

module _ (f : Env → Signature → Signature → Bool) (tell : Tells f) where
  mutual
    offered_gives :
        (s : Signature) (Γ' Γ : Env) (θ : Substitution) (p : ModulePath) → SettledEnv Γ → Proper Γ' s → Along θ Γ' Γ →
        offered f Γ p θ s ≡ true → Gives Γ p (on_signature θ s)
    offered_gives (structure c) Γ' Γ θ p e w k q =
        let b = and_parts (is_structure (lookup Γ p)) (offered_all f Γ p (under p θ) c) q in
        let g = is_structure_lem (lookup Γ p) b.0 in
        let a = lookup_at Γ p (structure g.0) g.1 in
        g_structure g.0 a
        (subst (GivesAll Γ p) (sym (components_reading_lift p θ c)) (offered_all_gives c Γ' Γ θ p g.0 e w k a b.1))
    offered_gives (functor s r) Γ' Γ θ p e w k q =
        let g = given_true (lookup Γ p) (λ g. f Γ g (on_signature θ (functor s r))) q in
        let a = lookup_at Γ p g.0 g.1 in
        g_functor g.0 a
        (tell Γ g.0 (on_signature θ s) (on_signature (lift θ) r) e (settled_at e a) (proper_along (functor s r) Γ' Γ θ k w) g.2)

    pub offered_all_gives :
        (c : Components) (Γ' Γ : Env) (θ : Substitution) (p : ModulePath) (g : Components) → SettledEnv Γ → ProperAll Γ' c → Along θ Γ' Γ →
        At Γ p (structure g) → offered_all f Γ p (under p θ) c ≡ true → GivesAll Γ p (on_components (under p θ) c)
    offered_all_gives empty Γ' Γ θ p g e w k a q = g_none
    offered_all_gives (more c x d) Γ' Γ θ p g e w k a q =
        let b = and_parts (offered_all f Γ p (under p θ) c) (offered_one f Γ p (under p θ) x d) q in
        let m = offered_all_gives c Γ' Γ θ p g e w.0 k a b.0 in
        let k+ = under_along θ Γ' Γ p (structure c) k
        (knows_gives (g_structure g a (subst (GivesAll Γ p) (sym (components_reading_lift p θ c)) m))) in
        gives_more Γ p (on_components (under p θ) c) x (on_declaration (under p θ) d) m
        (offered_one_gives d (extend Γ' (structure c)) Γ (under p θ) p x e w.2 k+ b.1)

    offered_one_gives :
        (d : Declaration) (Γ' Γ : Env) (θ : Substitution) (p : ModulePath) (x : Name) → SettledEnv Γ → ProperOne Γ' d → Along θ Γ' Γ →
        offered_one f Γ p θ x d ≡ true → GivesOne Γ p x (on_declaration θ d)
    offered_one_gives abstract Γ' Γ θ p x e w k q =
        let b = given_true (declared p a_type x (lookup Γ p)) (λ d. true) q in
        has_typed Γ p x b.0 (settled_env_proper Γ e) (declared_has Γ p a_type x b.0 b.1)
    offered_one_gives (defined t) Γ' Γ θ p x e w k q =
        let b = same_form_lem (normal_type Γ (leaf (named p x))) (normal_type Γ (on_type θ t)) q in
        (b.0, normal_type_lem Γ (leaf (named p x)) b.0 e b.1, normal_type_lem Γ (on_type θ t) b.0 e b.2)
    offered_one_gives (value t) Γ' Γ θ p x e w k q =
        let b = given_true (declared p a_value x (lookup Γ p)) (λ d. same_form (normal_value Γ d) (normal_type Γ (on_type θ t))) q in
        let n = same_form_lem (normal_value Γ b.0) (normal_type Γ (on_type θ t)) b.2 in
        let u = normal_value_lem Γ b.0 n.0 n.1 in
        (u.0, n.0, declared_has Γ p a_value x (value u.0) (b.1 ∙ ap Some u.1), normal_type_lem Γ u.0 n.0 e u.2, normal_type_lem Γ (on_type θ t) n.0 e n.2)
    offered_one_gives (nested s) Γ' Γ θ p x e w k q = offered_gives s Γ' Γ θ (dot p x) e w k q

module _ (n : ℕ) (f : Env → Signature → Signature → Bool) (found : Finds n f) where
  mutual
    gives_offered :
        (s : Signature) (Γ' Γ : Env) (θ : Substitution) (p : ModulePath) (g : Signature) → SettledEnv Γ → Proper Γ' s → Along θ Γ' Γ → At Γ p g →
        extent g + extent s ≤ n → Gives Γ p (on_signature θ s) → offered f Γ p θ s ≡ true
    gives_offered (structure c) Γ' Γ θ p g e w k a l (g_structure b a' m) =
        let same = at_unique a a' in
        let i = ap extent same in
        let l' : extent_all b + extent_all c ≤ n = omega arith in
        ap₂ (λ y z. is_structure y && z) (at_lookup a')
        (gives_all_offered c Γ' Γ θ p b e w k a' l' (subst (GivesAll Γ p) (components_reading_lift p θ c) m))
    gives_offered (functor s r) Γ' Γ θ p g e w k a l (g_functor b a' m) =
        let same : g ≡ b = at_unique a a' in
        let i = ap extent same in
        let j = extent_on θ (functor s r) in
        let l' : extent b + extent (on_signature θ (functor s r)) ≤ n = omega arith in
        given_is (lookup Γ p) (λ g. f Γ g (on_signature θ (functor s r))) b (at_lookup a')
        (found Γ b (on_signature θ s) (on_signature (lift θ) r) e (settled_at e a') (proper_along (functor s r) Γ' Γ θ k w) l' m)

    gives_all_offered :
        (c : Components) (Γ' Γ : Env) (θ : Substitution) (p : ModulePath) (g : Components) → SettledEnv Γ → ProperAll Γ' c → Along θ Γ' Γ →
        At Γ p (structure g) → extent_all g + extent_all c ≤ n → GivesAll Γ p (on_components (under p θ) c) → offered_all f Γ p (under p θ) c ≡ true
    gives_all_offered empty Γ' Γ θ p g e w k a l m = refl
    gives_all_offered (more c x d) Γ' Γ θ p g e w k a l m =
        let v = gives_last Γ p (on_components (under p θ) c) x (on_declaration (under p θ) d) m in
        let k+ = under_along θ Γ' Γ p (structure c) k
        (knows_gives (g_structure g a (subst (GivesAll Γ p) (sym (components_reading_lift p θ c)) v.0))) in
        let l₁ : extent_all g + extent_all c ≤ n = omega arith in
        let l₂ : extent_all g + extent_one d ≤ n = omega arith in
        ap₂ (λ y z. y && z) (gives_all_offered c Γ' Γ θ p g e w.0 k a l₁ v.0)
        (gives_one_offered d (extend Γ' (structure c)) Γ (under p θ) p x g e w.2 k+ a l₂ v.1)

    gives_one_offered :
        (d : Declaration) (Γ' Γ : Env) (θ : Substitution) (p : ModulePath) (x : Name) (g : Components) → SettledEnv Γ → ProperOne Γ' d → Along θ Γ' Γ →
        At Γ p (structure g) → extent_all g + extent_one d ≤ n → GivesOne Γ p x (on_declaration θ d) → offered_one f Γ p θ x d ≡ true
    gives_one_offered abstract Γ' Γ θ p x g e w k a l m =
        let h = normal_has m.1 p x refl in given_is (declared p a_type x (lookup Γ p)) (λ d. true) h.0 (has_declared h.1) refl
    gives_one_offered (defined t) Γ' Γ θ p x g e w k a l m =
        form_same (normal_type Γ (leaf (named p x))) (normal_type Γ (on_type θ t)) m.0 (type_normal e m.1) (type_normal e m.2)
    gives_one_offered (value t) Γ' Γ θ p x g e w k a l m =
        given_is (declared p a_value x (lookup Γ p)) (λ d. same_form (normal_value Γ d) (normal_type Γ (on_type θ t))) (value m.0) (has_declared m.2)
        (form_same (normal_type Γ m.0) (normal_type Γ (on_type θ t)) m.1 (type_normal e m.3) (type_normal e m.4))
    gives_one_offered (nested s) Γ' Γ θ p x g e w k a l m =
        let b = gives_at m in
        let i = below_extent Γ p x g b.0 a b.1 in
        let l' : extent b.0 + extent s ≤ n = omega arith in
        gives_offered s Γ' Γ θ (dot p x) b.0 e w k b.1 l' m

pub matches_tells : (n : ℕ) (Γ : Env) (a b : Signature) → SettledEnv Γ → Settled Γ a → Proper Γ b → matches_to n Γ a b ≡ true → Fits Γ a b
matches_tells zero Γ a b e w v q = cc
matches_tells (suc n) Γ (structure g) (structure c) e w v q =
    let Γ+ = extend Γ (structure g) in
    let q' : offered_all (matches_to n) Γ+ innermost (under innermost out) c ≡ true =
    subst (λ θ. offered_all (matches_to n) Γ+ innermost θ c ≡ true) (sym under_fresh) q in
    let m = offered_all_gives (matches_to n) (λ Γ g s r. matches_tells n Γ g (functor s r)) c Γ Γ+ out innermost (on_components (lift out) g)
    (settled_extend Γ (structure g) e w) v (out_along Γ (structure g)) (head refl) q' in
    f_structure (subst (GivesAll Γ+ innermost) (ap (λ θ. on_components θ c) under_fresh ∙ components_id c) m)
matches_tells (suc n) Γ (structure g) (functor s r) e w v q = cc
matches_tells (suc n) Γ (functor s r) (structure c) e w v q = cc
matches_tells (suc n) Γ (functor s r) (functor s' r') e w v q =
    let x = given_true (normalize Γ s') (λ a. matches_to n Γ a s && given (normalize (extend Γ a) r) (λ b. matches_to n (extend Γ a) b r')) q in
    let a = x.0 in
    let i = normalize_is s' Γ a e x.1 in
    let y = and_parts (matches_to n Γ a s) (given (normalize (extend Γ a) r) (λ b. matches_to n (extend Γ a) b r')) x.2 in
    let first = matches_tells n Γ a s e i.settled (settled_proper s Γ w.0) y.0 in
    let z = given_true (normalize (extend Γ a) r) (λ b. matches_to n (extend Γ a) b r') y.1 in
    let e+ = settled_extend Γ a e i.settled in
    let j = normalize_is r (extend Γ a) z.0 e+ z.1 in
    let second = matches_tells n (extend Γ a) z.0 r' e+ j.settled
    (proper_finer (extend Γ s') (extend Γ a) r' (fits_along_fresh Γ a s' i.back) v.1) z.2 in
    f_functor (fits_trans i.forth first) (fits_finer (fits_along_fresh Γ s' a i.forth) (fits_trans j.forth second))

pub matches_found :
    (n : ℕ) (Γ : Env) (a b : Signature) → SettledEnv Γ → Settled Γ a → Proper Γ b → extent a + extent b ≤ n → Fits Γ a b → matches_to n Γ a b ≡ true
matches_found zero Γ (structure g) b e w v l m = absurd (omega arith)
matches_found zero Γ (functor s r) b e w v l m = absurd (omega arith)
matches_found (suc n) Γ (structure g) (structure c) e w v l (f_structure m) =
    let Γ+ = extend Γ (structure g) in
    let i = extent_on out (structure g) in
    let l' : extent_all (on_components (lift out) g) + extent_all c ≤ n = omega arith in
    subst (λ θ. offered_all (matches_to n) Γ+ innermost θ c ≡ true) under_fresh
    (gives_all_offered n (matches_to n) (λ Γ g s r. matches_found n Γ g (functor s r)) c Γ Γ+ out innermost (on_components (lift out) g)
    (settled_extend Γ (structure g) e w) v (out_along Γ (structure g)) (head refl) l'
    (subst (GivesAll Γ+ innermost) (sym (ap (λ θ. on_components θ c) under_fresh ∙ components_id c)) m))
matches_found (suc n) Γ (structure g) (functor s r) e w v l m = elim m [ ]
matches_found (suc n) Γ (functor s r) (structure c) e w v l m = elim m [ ]
matches_found (suc n) Γ (functor s r) (functor s' r') e w v l (f_functor p q) =
    let x = normalize_proper s' Γ e v.0 in
    let a = x.0 in
    let i = normalize_is s' Γ a e x.1 in
    let e+ = settled_extend Γ a e i.settled in
    let p' : Fits Γ a s = fits_trans i.back p in
    let y = normalize_proper r (extend Γ a) e+ (proper_finer (extend Γ s) (extend Γ a) r (fits_along_fresh Γ a s p') (settled_proper r (extend Γ s) w.1)) in
    let b = y.0 in
    let j = normalize_is r (extend Γ a) b e+ y.1 in
    let ia = i.extents in
    let jb = j.extents in
    let l₁ : extent a + extent s ≤ n = omega arith in
    let l₂ : extent b + extent r' ≤ n = omega arith in
    given_is (normalize Γ s') (λ a. matches_to n Γ a s && given (normalize (extend Γ a) r) (λ b. matches_to n (extend Γ a) b r')) a x.1
    (ap₂ (λ y z. y && z) (matches_found n Γ a s e i.settled (settled_proper s Γ w.0) l₁ p')
    (given_is (normalize (extend Γ a) r) (λ b. matches_to n (extend Γ a) b r') b y.1
    (matches_found n (extend Γ a) b r' e+ j.settled
    (proper_finer (extend Γ s') (extend Γ a) r' (fits_along_fresh Γ a s' i.back) v.1) l₂
    (fits_trans j.back (fits_finer (fits_along_fresh Γ a s' i.back) q)))))

pub match_tells : (Γ : Env) (a b : Signature) → SettledEnv Γ → Settled Γ a → Proper Γ b → does_match Γ a b ≡ true → Fits Γ a b
match_tells Γ a b = matches_tells (extent a + extent b) Γ a b

pub match_found : (Γ : Env) (a b : Signature) → SettledEnv Γ → Settled Γ a → Proper Γ b → Fits Γ a b → does_match Γ a b ≡ true
match_found Γ a b e w v m = matches_found (extent a + extent b) Γ a b e w v (le_refl (extent a + extent b)) m
