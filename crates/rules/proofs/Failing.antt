-- The mismatch that is told is the first.
use Rattle.std.proofs.Common.{◌≡◌, ℕ, zero, suc, ◌+◌, ◌≤◌, Bool, true, false, Some, None, Option, sym, refl, ap, ◌∙◌, subst, ap₂, le_refl, arith}
use Rattle.std.proofs.lemmas.Option.{same_Some}
use Rattle.std.specs.Option.{is_none}
use Rattle.types.specs.Types.{Name, ModulePath, dot, named, Ty, leaf}
use Rattle.types.proofs.Same.{same_self}
use Rattle.rules.specs.Signatures.{a_type, a_value, a_module, Signature, structure, functor, Components, empty, more, Declaration, abstract, defined, value, nested, first_of, extent, extent_all, extent_one}
use Rattle.rules.specs.Substitution.{Substitution, under, innermost, out, lift, on_type, on_signature, on_components, on_declaration}
use Rattle.rules.specs.Lookup.{Env, extend, At, head, Has, Same}
use Rattle.rules.specs.Checker.{declared, lookup, normal_type, normal_value, normalize, same_form, matches_to}
use Rattle.rules.specs.Matching.{OffersAll}
use Rattle.rules.specs.Faults.{Mismatch, fails, if_there, if_structure, if_same, lacks, lacks_all, lacks_one, if_normal, mismatch_to, mismatch}
use Rattle.rules.specs.Failures.{Tidy, nothing_yet, a_unit, a_binder, FirstFailure, in_structure, functor_wanted, structure_wanted, in_parameter, in_result, FirstLack, earlier, absent, other_value, other_type, in_module, ModuleLacks, not_structure, in_components, against_functor}
use Rattle.rules.proofs.Algebra.{components_id, components_reading_lift, extent_on}
use Rattle.rules.proofs.Inner.{g_structure, GivesAll, Proper, ProperAll, ProperOne}
use Rattle.rules.proofs.Exact.{under_fresh}
use Rattle.rules.proofs.Transitive.{knows_gives}
use Rattle.rules.proofs.Knowing.{Along, out_along, under_along}
use Rattle.rules.proofs.Properness.{proper_along, proper_finer, has_sort}
use Rattle.rules.proofs.Wording.{gives_all_offers, fits_matches}
use Rattle.rules.proofs.Settling.{Settled, SettledEnv, settled_proper, settled_extend, settled_at, lookup_at, at_lookup, declared_has, has_declared, type_normal}
use Rattle.rules.proofs.Normalizing.{fits_along_fresh, normalize_is, normalize_proper}
use Rattle.rules.proofs.Deciding.{Tells, offered_all_gives, below_extent, matches_tells}
use Rattle.rules.proofs.Checked.{unit_settled, none_settled}
use Rattle.rules.proofs.Mirror.{lacks_all_is, mismatch_is}

pub tidy_settled : {Γ : Env} → Tidy Γ → SettledEnv Γ
tidy_settled nothing_yet = none_settled
tidy_settled (a_unit {Γ = Γ} x s t f q) = unit_settled x s Γ f (tidy_settled t) (normalize_is s Γ s (tidy_settled t) q).settled
tidy_settled (a_binder {Γ = Γ} s t q) = settled_extend Γ s (tidy_settled t) (normalize_is s Γ s (tidy_settled t) q).settled

-- the first of two mismatches
first_cases : (a b : Option Mismatch) (m : Mismatch) → first_of a b ≡ Some m → (P : Type 0) → (a ≡ Some m → P) → (a ≡ None → b ≡ Some m → P) → P
first_cases (Some x) b m e P l r = l e
first_cases None b m e P l r = r refl e

same_true : (Γ : Env) (t u : Ty) → SettledEnv Γ → Same Γ t u → same_form (normal_type Γ t) (normal_type Γ u) ≡ true
same_true Γ t u e s = ap₂ same_form (type_normal e s.left) (type_normal e s.right) ∙ same_self s.form

-- the statement for a depth
abbrev Explains : ℕ → (Env → Option Name → Signature → Signature → Option Mismatch) → Type 0
Explains n f =
    (Γ : Env) (w : Option Name) (g s r : Signature) (m : Mismatch) → SettledEnv Γ → Settled Γ g → Proper Γ (functor s r) →
    extent g + extent (functor s r) ≤ n → f Γ w g (functor s r) ≡ Some m → FirstFailure Γ w g (functor s r) m

module _ (n : ℕ) (f : Env → Option Name → Signature → Signature → Option Mismatch) (b : Env → Signature → Signature → Bool)
    (is : (Γ : Env) (w : Option Name) (g s : Signature) → is_none (f Γ w g s) ≡ b Γ g s) (tell : Tells b) (explain : Explains n f) where
  mutual
    lacks_first :
        (s : Signature) (Γ' Γ : Env) (θ : Substitution) (p : ModulePath) (w : Option Name) (g : Signature) (m : Mismatch) → SettledEnv Γ → Proper Γ' s →
        Along θ Γ' Γ → At Γ p g → extent g + extent s ≤ n → lacks f Γ p θ w s ≡ Some m → ModuleLacks Γ p w g (on_signature θ s) m
    lacks_first (structure c) Γ' Γ θ p w (structure g) m e v k a l q =
        let q' : lacks_all f Γ p (under p θ) c ≡ Some m = sym (ap (λ o. if_there w o (if_structure w (lacks_all f Γ p (under p θ) c))) (at_lookup a)) ∙ q in
        let l' : extent_all g + extent_all c ≤ n = omega arith in
        in_components (subst (λ z. FirstLack Γ p z m) (sym (components_reading_lift p θ c)) (lacks_all_first c Γ' Γ θ p g m e v k a l' q'))
    lacks_first (structure c) Γ' Γ θ p w (functor x y) m e v k a l q =
        let q' : fails w 4 ≡ Some m = sym (ap (λ o. if_there w o (if_structure w (lacks_all f Γ p (under p θ) c))) (at_lookup a)) ∙ q in
        let i : record { component = w; cause = 4 } ≡ m = same_Some _ _ q' in
        subst (ModuleLacks Γ p w (functor x y) (on_signature θ (structure c))) i not_structure
    lacks_first (functor s r) Γ' Γ θ p w g m e v k a l q =
        let q' : f Γ w g (on_signature θ (functor s r)) ≡ Some m = sym (ap (λ o. if_there w o (λ g. f Γ w g (on_signature θ (functor s r)))) (at_lookup a)) ∙ q in
        let i = extent_on θ (functor s r) in
        let l' : extent g + extent (on_signature θ (functor s r)) ≤ n = omega arith in
        against_functor (explain Γ w g (on_signature θ s) (on_signature (lift θ) r) m e (settled_at e a) (proper_along (functor s r) Γ' Γ θ k v) l' q')

    lacks_all_first :
        (c : Components) (Γ' Γ : Env) (θ : Substitution) (p : ModulePath) (g : Components) (m : Mismatch) → SettledEnv Γ → ProperAll Γ' c →
        Along θ Γ' Γ → At Γ p (structure g) → extent_all g + extent_all c ≤ n → lacks_all f Γ p (under p θ) c ≡ Some m →
        FirstLack Γ p (on_components (under p θ) c) m
    lacks_all_first empty Γ' Γ θ p g m e v k a l q = cc
    lacks_all_first (more c x d) Γ' Γ θ p g m e v k a l q =
        let l₁ : extent_all g + extent_all c ≤ n = omega arith in
        let l₂ : extent_all g + extent_one d ≤ n = omega arith in
        first_cases (lacks_all f Γ p (under p θ) c) (lacks_one f Γ p (under p θ) x d) m q (FirstLack Γ p (on_components (under p θ) (more c x d)) m)
        (λ q'. earlier (lacks_all_first c Γ' Γ θ p g m e v.0 k a l₁ q'))
        (λ none' q'.
        let t = sym (lacks_all_is f b is c Γ p (under p θ)) ∙ ap is_none none' in
        let given' = offered_all_gives b tell c Γ' Γ θ p g e v.0 k a t in
        let k+ = under_along θ Γ' Γ p (structure c) k
        (knows_gives (g_structure g a (subst (GivesAll Γ p) (sym (components_reading_lift p θ c)) given'))) in
        lacks_one_first d (extend Γ' (structure c)) Γ (under p θ) p g (on_components (under p θ) c) x m e v.2 k+ a l₂ (gives_all_offers given') q')

    lacks_one_first :
        (d : Declaration) (Γ' Γ : Env) (θ : Substitution) (p : ModulePath) (g c : Components) (x : Name) (m : Mismatch) → SettledEnv Γ → ProperOne Γ' d →
        Along θ Γ' Γ → At Γ p (structure g) → extent_all g + extent_one d ≤ n → OffersAll Γ p c → lacks_one f Γ p θ x d ≡ Some m →
        FirstLack Γ p (more c x (on_declaration θ d)) m
    lacks_one_first abstract Γ' Γ θ p g c x m e v k a l o q = go (declared p a_type x (lookup Γ p)) refl q
      where
        go : (z : Option Declaration) → declared p a_type x (lookup Γ p) ≡ z → if_there (Some x) z (λ d. None) ≡ Some m → FirstLack Γ p (more c x abstract) m
        go None i q =
            subst (FirstLack Γ p (more c x abstract)) (same_Some _ _ q)
            (absent o (λ h' h. let j = has_declared h in cc))
        go (Some h) i q = cc
    lacks_one_first (defined t) Γ' Γ θ p g c x m e v k a l o q = go (declared p a_type x (lookup Γ p)) refl q
      where
        test : Bool
        test = same_form (normal_type Γ (leaf (named p x))) (normal_type Γ (on_type θ t))

        differs : (z : Bool) → test ≡ z → (h : Declaration) → Has Γ p a_type x h → if_same (Some x) 3 z ≡ Some m → FirstLack Γ p (more c x (defined (on_type θ t))) m
        differs true i h j q = cc
        differs false i h j q =
            subst (FirstLack Γ p (more c x (defined (on_type θ t)))) (same_Some _ _ q)
            (other_type h o j (λ s. let y = same_true Γ (leaf (named p x)) (on_type θ t) e s in cc))

        go :
            (z : Option Declaration) → declared p a_type x (lookup Γ p) ≡ z →
            if_there (Some x) z (λ d. if_same (Some x) 3 test) ≡ Some m → FirstLack Γ p (more c x (defined (on_type θ t))) m
        go None i q =
            subst (FirstLack Γ p (more c x (defined (on_type θ t)))) (same_Some _ _ q)
            (absent o (λ h' h. let j = has_declared h in cc))
        go (Some h) i q = differs test refl h (declared_has Γ p a_type x h i) q
    lacks_one_first (value t) Γ' Γ θ p g c x m e v k a l o q = go (declared p a_value x (lookup Γ p)) refl q
      where
        differs :
            (h : Declaration) → Has Γ p a_value x h → (z : Bool) → same_form (normal_value Γ h) (normal_type Γ (on_type θ t)) ≡ z →
            if_same (Some x) 2 z ≡ Some m → FirstLack Γ p (more c x (value (on_type θ t))) m
        differs abstract j z i q = let y = has_sort j in cc
        differs (defined u) j z i q = let y = has_sort j in cc
        differs (nested s) j z i q = let y = has_sort j in cc
        differs (value u) j true i q = cc
        differs (value u) j false i q =
            subst (FirstLack Γ p (more c x (value (on_type θ t)))) (same_Some _ _ q)
            (other_value u o j (λ s. let y = same_true Γ u (on_type θ t) e s in cc))

        go :
            (z : Option Declaration) → declared p a_value x (lookup Γ p) ≡ z →
            if_there (Some x) z (λ d. if_same (Some x) 2 (same_form (normal_value Γ d) (normal_type Γ (on_type θ t)))) ≡ Some m →
            FirstLack Γ p (more c x (value (on_type θ t))) m
        go None i q =
            subst (FirstLack Γ p (more c x (value (on_type θ t)))) (same_Some _ _ q)
            (absent o (λ h' h. let j = has_declared h in cc))
        go (Some h) i q = differs h (declared_has Γ p a_value x h i) (same_form (normal_value Γ h) (normal_type Γ (on_type θ t))) refl q
    lacks_one_first (nested s) Γ' Γ θ p g c x m e v k a l o q =
        go (lookup Γ (dot p x)) refl (lacks_first s Γ' Γ θ (dot p x) (Some x))
      where
        go :
            (z : Option Signature) → lookup Γ (dot p x) ≡ z →
            ((h : Signature) (m : Mismatch) → SettledEnv Γ → Proper Γ' s → Along θ Γ' Γ → At Γ (dot p x) h → extent h + extent s ≤ n →
            lacks f Γ (dot p x) θ (Some x) s ≡ Some m → ModuleLacks Γ (dot p x) (Some x) h (on_signature θ s) m) →
            FirstLack Γ p (more c x (nested (on_signature θ s))) m
        go None i ih =
            subst (FirstLack Γ p (more c x (nested (on_signature θ s)))) (same_Some _ _ (missing s i ∙ q))
            (absent o (λ h' h. nowhere h' h i))
          where
            missing : (s : Signature) → lookup Γ (dot p x) ≡ None → fails (Some x) 1 ≡ lacks f Γ (dot p x) θ (Some x) s
            missing (structure c) i = sym (ap (λ o. if_there (Some x) o (if_structure (Some x) (lacks_all f Γ (dot p x) (under (dot p x) θ) c))) i)
            missing (functor s r) i = sym (ap (λ o. if_there (Some x) o (λ g. f Γ (Some x) g (on_signature θ (functor s r)))) i)

            nowhere : (h' : Declaration) → Has Γ p a_module x h' → lookup Γ (dot p x) ≡ None → ⊥
            nowhere abstract h i = let y = has_sort h in cc
            nowhere (defined u) h i = let y = has_sort h in cc
            nowhere (value u) h i = let y = has_sort h in cc
            nowhere (nested u) h i = let y = at_lookup (Rattle.rules.proofs.Reflexive.has_at h) in cc
        go (Some h) i ih =
            let at' = lookup_at Γ (dot p x) h i in
            let j = below_extent Γ p x g h a at' in
            let l' : extent h + extent s ≤ n = omega arith in
            in_module h o at' (ih h m e v k at' l' q)

tells_to : (n : ℕ) → Tells (matches_to n)
tells_to n Γ g s r = matches_tells n Γ g (functor s r)

pub failure_first :
    (n : ℕ) (Γ : Env) (w : Option Name) (a b : Signature) (m : Mismatch) → SettledEnv Γ → Settled Γ a → Proper Γ b → extent a + extent b ≤ n →
    mismatch_to n Γ w a b ≡ Some m → FirstFailure Γ w a b m
failure_first zero Γ w (structure g) b m e u v l q = absurd (omega arith)
failure_first zero Γ w (functor s r) b m e u v l q = absurd (omega arith)
failure_first (suc n) Γ w (structure g) (structure c) m e u v l q =
    let Γ+ = extend Γ (structure g) in
    let i = extent_on out (structure g) in
    let l' : extent_all (on_components (lift out) g) + extent_all c ≤ n = omega arith in
    let q' : lacks_all (mismatch_to n) Γ+ innermost (under innermost out) c ≡ Some m =
    subst (λ θ. lacks_all (mismatch_to n) Γ+ innermost θ c ≡ Some m) (sym under_fresh) q in
    in_structure
    (subst (λ z. FirstLack Γ+ innermost z m) (ap (λ θ. on_components θ c) under_fresh ∙ components_id c)
    (lacks_all_first n (mismatch_to n) (matches_to n) (mismatch_is n) (tells_to n) (λ Γ w g s r. failure_first n Γ w g (functor s r)) c Γ Γ+ out innermost
    (on_components (lift out) g) m (settled_extend Γ (structure g) e u) v (out_along Γ (structure g)) (head refl) l' q'))
failure_first (suc n) Γ w (structure g) (functor s r) m e u v l q = subst (FirstFailure Γ w (structure g) (functor s r)) (same_Some _ _ q) functor_wanted
failure_first (suc n) Γ w (functor s r) (structure c) m e u v l q = subst (FirstFailure Γ w (functor s r) (structure c)) (same_Some _ _ q) structure_wanted
failure_first (suc n) Γ w (functor s r) (functor s' r') m e u v l q =
    let x = normalize_proper s' Γ e v.0 in
    let a = x.0 in
    let i = normalize_is s' Γ a e x.1 in
    let ia = i.extents in
    let e+ = settled_extend Γ a e i.settled in
    let l₁ : extent a + extent s ≤ n = omega arith in
    let ps = settled_proper (functor s r) Γ u in
    let q' : first_of (mismatch_to n Γ w a s) (if_normal w (normalize (extend Γ a) r) (λ b. mismatch_to n (extend Γ a) w b r')) ≡ Some m =
    sym (ap (λ o. if_normal w o (λ a. first_of (mismatch_to n Γ w a s) (if_normal w (normalize (extend Γ a) r) (λ b. mismatch_to n (extend Γ a) w b r')))) x.1) ∙ q in
    first_cases (mismatch_to n Γ w a s) (if_normal w (normalize (extend Γ a) r) (λ b. mismatch_to n (extend Γ a) w b r')) m q'
    (FirstFailure Γ w (functor s r) (functor s' r') m)
    (λ f. in_parameter a x.1 (failure_first n Γ w a s m e i.settled ps.0 l₁ f))
    (λ none' f.
    let t = sym (mismatch_is n Γ w a s) ∙ ap is_none none' in
    let p = matches_tells n Γ a s e i.settled ps.0 t in
    let y = normalize_proper r (extend Γ a) e+ (proper_finer (extend Γ s) (extend Γ a) r (fits_along_fresh Γ a s p) ps.1) in
    let b = y.0 in
    let j = normalize_is r (extend Γ a) b e+ y.1 in
    let jb = j.extents in
    let l₂ : extent b + extent r' ≤ n = omega arith in
    let f' : mismatch_to n (extend Γ a) w b r' ≡ Some m = sym (ap (λ o. if_normal w o (λ b. mismatch_to n (extend Γ a) w b r')) y.1) ∙ f in
    in_result a b x.1 (fits_matches p) y.1
    (failure_first n (extend Γ a) w b r' m e+ j.settled
    (proper_finer (extend Γ s') (extend Γ a) r' (fits_along_fresh Γ a s' i.back) v.1) l₂ f'))

pub mismatch_first :
    (Γ : Env) → Tidy Γ → (a b : Signature) → normalize Γ a ≡ Some a → Proper Γ b → (m : Mismatch) → mismatch Γ a b ≡ Some m → FirstFailure Γ None a b m
mismatch_first Γ t a b q v m f =
    let e = tidy_settled t in
    failure_first (extent a + extent b) Γ None a b m e (normalize_is a Γ a e q).settled v (le_refl (extent a + extent b)) f
