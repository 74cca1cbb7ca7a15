-- What a path gives, its strengthened signature matches. A fresh module z of the strengthened signature has no abstract type
-- outside functors, so that no normal form names it, and it behaves as the path.
use Rattle.std.proofs.Common.{◌≡◌, ◌⊎◌, Some, None, sym, refl, ap, ◌∙◌, subst, ap₂, subst₂, inl, inr}
use Rattle.std.proofs.lemmas.Option.{same_Some}
use Rattle.types.specs.Types.{Name, ModulePath, at, dot, named, Ty, leaf, label1, label2}
use Rattle.rules.specs.Signatures.{Sort, a_type, a_value, a_module, Signature, structure, functor, Components, empty, more, Declaration, abstract, defined, value, nested, sort_of, find, on_some}
use Rattle.rules.specs.Substitution.{Substitution, under, innermost, on_path, out, lift, reading, on_type, on_signature, on_components, on_declaration}
use Rattle.rules.specs.Lookup.{Env, extend, At, head, inside, Has, Normal, opaque, unfolds, bare, part, parts}
use Rattle.rules.specs.Strengthening.{strengthen, strengthen_all, strengthen_one}
use Rattle.rules.proofs.Algebra.{after, path_comp, signature_comp, signature_id, signature_reading_out, declaration_reading_on, components_reading_on, components_reading_lift, components_fresh}
use Rattle.rules.proofs.Finding.{find_cases, find_off, find_on_some, at_unique, has_unique, normal_unique, normal_normal}
use Rattle.rules.proofs.Inner.{Gives, g_structure, g_functor, GivesAll, g_none, Fits, f_structure, Proper, ProperAll, ProperOne, ProperEnv}
use Rattle.rules.proofs.Along.{was_nested, was_value, normal_along, typed_along, abstract_along}
use Rattle.rules.proofs.Exact.{at_weaken, gives_weaken}
use Rattle.rules.proofs.Transitive.{Knows, knows_laws, knows_gives, GivesOne, gives_last, gives_more, fits_trans}
use Rattle.rules.proofs.Knowing.{Along, id_along, out_along, weaken_along, under_along, reading_along, then_along}
use Rattle.rules.proofs.Properness.{proper_at, proper_has, proper_extend, has_typed}
use Rattle.rules.proofs.Fresh.{Fresh, fresh_head, fresh_dot, split, was_structure}
use Rattle.rules.proofs.Reflexive.{Agree, proper_fits, has_at, at_gives}
use Rattle.rules.proofs.Strengthened.{strengthen_on, strengthen_one_on, strengthen_find, path_reading_out, gives_strengthen, proper_strengthen}

-- no abstract type outside functors
abbrev mutual
  Transparent : Signature → Type 0
  Transparent (structure c) = TransparentAll c
  Transparent (functor s r) = Unit {0}

  TransparentAll : Components → Type 0
  TransparentAll empty = Unit {0}
  TransparentAll (more c x d) = TransparentAll c × TransparentOne d

  TransparentOne : Declaration → Type 0
  TransparentOne abstract = ⊥
  TransparentOne (defined t) = Unit {0}
  TransparentOne (value t) = Unit {0}
  TransparentOne (nested s) = Transparent s

mutual
  transparent_on : (s : Signature) (θ : Substitution) → Transparent s → Transparent (on_signature θ s)
  transparent_on (structure c) θ w = transparent_all_on c (lift θ) w
  transparent_on (functor s r) θ w = tt

  transparent_all_on : (c : Components) (θ : Substitution) → TransparentAll c → TransparentAll (on_components θ c)
  transparent_all_on empty θ w = tt
  transparent_all_on (more c x d) θ w = (transparent_all_on c θ w.0, transparent_one_on d θ w.1)

  transparent_one_on : (d : Declaration) (θ : Substitution) → TransparentOne d → TransparentOne (on_declaration θ d)
  transparent_one_on abstract θ w = w
  transparent_one_on (defined t) θ w = tt
  transparent_one_on (value t) θ w = tt
  transparent_one_on (nested s) θ w = transparent_on s θ w

mutual
  strengthen_transparent : (s : Signature) (p : ModulePath) → Transparent (strengthen p s)
  strengthen_transparent (structure c) p = strengthen_all_transparent c (on_path out p)
  strengthen_transparent (functor s r) p = tt

  strengthen_all_transparent : (c : Components) (p : ModulePath) → TransparentAll (strengthen_all p c)
  strengthen_all_transparent empty p = tt
  strengthen_all_transparent (more c x d) p = (strengthen_all_transparent c p, strengthen_one_transparent d p x)

  strengthen_one_transparent : (d : Declaration) (p : ModulePath) (x : Name) → TransparentOne (strengthen_one p x d)
  strengthen_one_transparent abstract p x = tt
  strengthen_one_transparent (defined t) p x = tt
  strengthen_one_transparent (value t) p x = tt
  strengthen_one_transparent (nested s) p x = strengthen_transparent s (dot p x)

transparent_found : (c : Components) → TransparentAll c → (s : Sort) (x : Name) (d : Declaration) → find s x c ≡ Some d → TransparentOne d
transparent_found empty w s x d f = cc
transparent_found (more c y e) w s x d f = go (transparent_found c w.0 s x d) (find_cases c y e s x d f)
  where
    go :
        (find s x c ≡ Some d → TransparentOne d) →
        (find s x c ≡ Some d) ⊎ ((find s x c ≡ None) × (e ≡ d) × (sort_of e ≡ s) × (y ≡ x)) → TransparentOne d
    go ih (inl f') = ih f'
    go ih (inr r) = subst TransparentOne r.1 w.1

-- under a fresh module of a transparent signature, paths that begin at it lead to transparent signatures
fresh_transparent : {q : ModulePath} → Fresh q → (Γ : Env) (g s : Signature) → Transparent g → At (extend Γ g) q s → Transparent s
fresh_transparent fresh_head Γ g s w (head e) = subst Transparent (same_Some _ _ e) (transparent_on g out w)
fresh_transparent (fresh_dot {p = q} {x = x} f) Γ g s w (inside c d a found r) =
    subst Transparent r
    (transparent_on d (reading q) (transparent_found c (fresh_transparent f Γ g (structure c) w a) a_module x (nested d) found))

abstract_not_fresh : (Γ : Env) (g : Signature) → Transparent g → (q : ModulePath) (x : Name) → Has (extend Γ g) q a_type x abstract → (o : ModulePath) × (on_path out o ≡ q)
abstract_not_fresh Γ g w q x h = go (split q)
  where
    go : ((o : ModulePath) × (on_path out o ≡ q)) ⊎ Fresh q → (o : ModulePath) × (on_path out o ≡ q)
    go (inl o) = o
    go (inr f) =
        let v = transparent_found h.components (fresh_transparent f Γ g (structure h.components) w h.leads) a_type x h.declared h.found in
        absurd (subst TransparentOne (Rattle.rules.proofs.Along.was_abstract (reading q) h.declared h.reads) v)

pub normal_has : {Γ : Env} {t n : Ty} → Normal Γ t n → (p : ModulePath) (x : Name) → t ≡ leaf (named p x) → (d : Declaration) × Has Γ p a_type x d
normal_has {Γ} (opaque {p = q} {x = y} h) p x e =
    let ep : q ≡ p = cc in
    let ex : y ≡ x = cc in
    (abstract, subst₂ (λ a b. Has Γ a a_type b abstract) ep ex h)
normal_has {Γ} (unfolds {p = q} {x = y} t h m) p x e =
    let ep : q ≡ p = cc in
    let ex : y ≡ x = cc in
    (defined t, subst₂ (λ a b. Has Γ a a_type b (defined t)) ep ex h)
normal_has bare p x e = cc
normal_has (part m) p x e = cc
normal_has (parts m k) p x e = cc

pub at_has : {Γ : Env} {q : ModulePath} {x : Name} {g : Signature} → At Γ (dot q x) g → Has Γ q a_module x (nested g)
at_has (inside c d a f r) = record { components = c; declared = nested d; leads = a; found = f; reads = ap nested r }

pub gives_at : {Γ : Env} {q : ModulePath} {s : Signature} → Gives Γ q s → (g : Signature) × At Γ q g
gives_at (g_structure g a m) = (structure g, a)
gives_at (g_functor f a m) = (f, a)

module _ (Γ : Env) (p : ModulePath) (s : Signature) (e : ProperEnv Γ) (a : At Γ p s) where
  -- the fresh module of the strengthened signature, and the substitution that puts the path for it
  abbrev g : Signature
  g = strengthen p s

  abbrev Γz : Env
  Γz = extend Γ g

  abbrev κ : Substitution
  κ = after out (reading p)

  proper_z : ProperEnv Γz
  proper_z = proper_extend Γ g e (proper_strengthen Γ p s (proper_at e a) a)

  along_κ : Along κ Γz Γz
  along_κ = weaken_along (reading p) Γz Γ g (reading_along Γ p g (knows_gives (gives_strengthen (at_gives Γ p s (proper_at e a) a))))

  -- it leaves alone what comes from outside
  path_outside : (q : ModulePath) → on_path κ (on_path out q) ≡ on_path out q
  path_outside q = sym (path_comp out (reading p) (on_path out q)) ∙ ap (on_path out) (path_reading_out p q)

  signature_outside : (t : Signature) → on_signature κ (on_signature out t) ≡ on_signature out t
  signature_outside t = sym (signature_comp out (reading p) (on_signature out t)) ∙ ap (on_signature out) (signature_reading_out p t)

  normal_outside : {t n : Ty} → Normal Γz t n → on_type κ n ≡ n
  normal_outside (opaque {p = q} {x = x} h) =
      let o = abstract_not_fresh Γ g (strengthen_transparent s p) q x h in
      ap (λ z. leaf (named z x)) (ap (on_path κ) (sym o.1) ∙ (path_outside o.0 ∙ o.1))
  normal_outside (unfolds t h m) = normal_outside m
  normal_outside bare = refl
  normal_outside (part {l = l} m) = ap (label1 l) (normal_outside m)
  normal_outside (parts {l = l} m k) = ap₂ (label2 l) (normal_outside m) (normal_outside k)

  -- so a type keeps its normal form when the path is put for the fresh module
  clear : {t n : Ty} → Normal Γz t n → Normal Γz (on_type κ t) n
  clear {t} {n} m =
      let v = normal_along Knows knows_laws m κ Γz along_κ in
      let same : v.0 ≡ n = normal_unique (subst (λ z. Normal Γz z v.0) (normal_outside m) v.2) (normal_normal m) in
      subst (Normal Γz (on_type κ t)) same v.1

  clear_is : {t n m : Ty} → Normal Γz t n → Normal Γz (on_type κ t) m → Normal Γz t m
  clear_is {t} {n} {m} x y = subst (Normal Γz t) (normal_unique (clear x) y) x

  agree_clear : (Γ'' : Env) (θ : Substitution) → Along θ Γ'' Γz → Agree Γ'' θ (after κ θ) Γz
  agree_clear Γ'' θ k q x h =
      let w = abstract_along Knows knows_laws h θ Γz k in
      (w.0, w.1, subst (λ z. Normal Γz (leaf (named z x)) w.0) (path_comp κ θ q) (clear w.1))

  -- a path from the fresh module, beside the path that is put for it
  abbrev Twin : ModulePath → Signature → Type 0
  Twin q t = At Γz q (strengthen (on_path κ q) t) × At Γz (on_path κ q) (on_signature κ t)

  twin_start : Twin innermost (on_signature out s)
  twin_start = (
    subst (At Γz innermost) (strengthen_on s out p) (head refl),
    subst (At Γz (on_path out p)) (sym (signature_outside s)) (at_weaken g a),
  )

  twin_component :
      (q : ModulePath) (c : Components) → Twin q (structure c) → (o : Sort) (x : Name) (d : Declaration) → find o x c ≡ Some d →
      Has Γz q o x (strengthen_one (on_path κ q) x (on_declaration (reading q) d)) × Has Γz (on_path κ q) o x (on_declaration κ (on_declaration (reading q) d))
  twin_component q c w o x d f =
      let q' = on_path κ q in (
        record {
          components = strengthen_all (on_path out q') c;
          declared = strengthen_one (on_path out q') x d;
          leads = w.0;
          found = strengthen_find (on_path out q') o x c ∙ ap (on_some (strengthen_one (on_path out q') x)) f;
          reads = strengthen_one_on d (reading q) (on_path out q') x ∙ ap (λ z. strengthen_one z x (on_declaration (reading q) d)) (path_reading_out q q');
        },
        record {
          components = on_components (lift κ) c;
          declared = on_declaration (lift κ) d;
          leads = w.1;
          found = find_on_some (lift κ) o x c d f;
          reads = sym (declaration_reading_on κ q d);
        },
      )

  -- what the other path has is declared here too
  twin_has : (q : ModulePath) (c : Components) → Twin q (structure c) → (o : Sort) (x : Name) (d : Declaration) → Has Γz (on_path κ q) o x d → (b : Declaration) × (find o x c ≡ Some b)
  twin_has q c w o x d h =
      let f = h.found in
      let same = at_unique w.1 h.leads in
      let f' : find o x (on_components (lift κ) c) ≡ Some h.declared = cc in
      let v = find_off (lift κ) o x c h.declared f' in
      (v.0, v.1)

  twin_below :
      (q : ModulePath) (c : Components) → Twin q (structure c) → (x : Name) (d : Signature) → find a_module x c ≡ Some (nested d) →
      Twin (dot q x) (on_signature (reading q) d)
  twin_below q c w x d f = let v = twin_component q c w a_module x (nested d) f in (has_at v.0, has_at v.1)

  mutual
    back :
        (t : Signature) (Γ'' : Env) (θ : Substitution) (q : ModulePath) (u : Signature) → Proper Γ'' t → Along θ Γ'' Γz → Twin q u →
        Gives Γz (on_path κ q) (on_signature κ (on_signature θ t)) → Gives Γz q (on_signature θ t)
    back (structure c) Γ'' θ q u w k v (g_structure b at' m) =
        let shape = was_structure κ u b (at_unique v.1 at') in
        let v' = subst (Twin q) shape.1 v in
        let m' : GivesAll Γz (on_path κ q) (on_components κ (on_components (under q θ) c)) =
        subst (GivesAll Γz (on_path κ q)) (sym (components_reading_on κ q (on_components (lift θ) c)) ∙ ap (on_components κ) (components_reading_lift q θ c)) m in
        g_structure (strengthen_all (on_path out (on_path κ q)) shape.0) v'.0
        (subst (GivesAll Γz q) (sym (components_reading_lift q θ c)) (back_all c Γ'' θ q shape.0 w k v' m'))
    back (functor t r) Γ'' θ q u w k v (g_functor f at' m) =
        go u v (subst (λ z. Fits Γz z (on_signature κ (on_signature θ (functor t r)))) (at_unique at' v.1) m)
      where
        go :
            (u : Signature) → Twin q u → Fits Γz (on_signature κ u) (on_signature κ (on_signature θ (functor t r))) →
            Gives Γz q (on_signature θ (functor t r))
        go (structure _) v m = elim m [ ]
        go (functor t₁ r₁) v m =
            let first : Fits Γz (functor t₁ r₁) (on_signature κ (functor t₁ r₁)) =
            subst (λ z. Fits Γz z (on_signature κ (functor t₁ r₁))) (signature_id (functor t₁ r₁))
            (proper_fits (functor t₁ r₁) Γz Γz at κ (proper_at proper_z v.0) (id_along Γz) along_κ (agree_clear Γz at (id_along Γz))) in
            let last : Fits Γz (on_signature κ (on_signature θ (functor t r))) (on_signature θ (functor t r)) =
            subst (λ z. Fits Γz z (on_signature θ (functor t r))) (sym (signature_comp κ θ (functor t r)))
            (proper_fits (functor t r) Γ'' Γz (after κ θ) θ w (then_along Γ'' Γz Γz κ θ k along_κ) k
            (Rattle.rules.proofs.Reflexive.agree_sym Γ'' θ (after κ θ) Γz (agree_clear Γ'' θ k))) in
            g_functor (functor t₁ r₁) v.0 (fits_trans first (fits_trans m last))

    back_all :
        (c : Components) (Γ'' : Env) (θ : Substitution) (q : ModulePath) (u : Components) → ProperAll Γ'' c → Along θ Γ'' Γz → Twin q (structure u) →
        GivesAll Γz (on_path κ q) (on_components κ (on_components (under q θ) c)) → GivesAll Γz q (on_components (under q θ) c)
    back_all empty Γ'' θ q u w k v m = g_none
    back_all (more c x d) Γ'' θ q u w k v m =
        let θ+ = under q θ in
        let y = gives_last Γz (on_path κ q) (on_components κ (on_components θ+ c)) x (on_declaration κ (on_declaration θ+ d)) m in
        let before = back_all c Γ'' θ q u w.0 k v y.0 in
        let k+ : Along θ+ (extend Γ'' (structure c)) Γz =
        under_along θ Γ'' Γz q (structure c) k
        (knows_gives
        (g_structure (strengthen_all (on_path out (on_path κ q)) u) v.0 (subst (GivesAll Γz q) (sym (components_reading_lift q θ c)) before))) in
        gives_more Γz q (on_components θ+ c) x (on_declaration θ+ d) before (back_one d (extend Γ'' (structure c)) θ+ q u x w.2 k+ v y.1)

    back_one :
        (d : Declaration) (Γ'' : Env) (θ : Substitution) (q : ModulePath) (u : Components) (x : Name) → ProperOne Γ'' d → Along θ Γ'' Γz → Twin q (structure u) →
        GivesOne Γz (on_path κ q) x (on_declaration κ (on_declaration θ d)) → GivesOne Γz q x (on_declaration θ d)
    back_one abstract Γ'' θ q u x w k v m =
        let h = normal_has m.1 (on_path κ q) x refl in
        let b = twin_has q u v a_type x h.0 h.1 in
        let h' = (twin_component q u v a_type x b.0 b.1).0 in
        has_typed Γz q x (strengthen_one (on_path κ q) x (on_declaration (reading q) b.0)) proper_z h'
    back_one (defined t) Γ'' θ q u x w k v m =
        let h = normal_has m.1 (on_path κ q) x refl in
        let b = twin_has q u v a_type x h.0 h.1 in
        let h' = (twin_component q u v a_type x b.0 b.1).0 in
        let n = has_typed Γz q x (strengthen_one (on_path κ q) x (on_declaration (reading q) b.0)) proper_z h' in
        let n' = typed_along Knows knows_laws w θ Γz k in
        (m.0, clear_is n.1 m.1, clear_is n'.1 m.2)
    back_one (value t) Γ'' θ q u x w k v m =
        let b = twin_has q u v a_value x (value m.0) m.2 in
        let y = twin_component q u v a_value x b.0 b.1 in
        let z = was_value κ (on_declaration (reading q) b.0) m.0 (has_unique y.1 m.2) in
        let h : Has Γz q a_value x (value z.0) = subst (λ d. Has Γz q a_value x (strengthen_one (on_path κ q) x d)) z.1 y.0 in
        let n = proper_has proper_z h in
        let n' = typed_along Knows knows_laws w θ Γz k in
        (z.0, m.1, h, clear_is n.1 (subst (λ o. Normal Γz o m.1) (sym z.2) m.3), clear_is n'.1 m.4)
    back_one (nested t) Γ'' θ q u x w k v m =
        let i = gives_at m in
        let h = at_has i.1 in
        let b = twin_has q u v a_module x (nested i.0) h in
        let y = twin_component q u v a_module x b.0 b.1 in
        let z = was_nested κ (on_declaration (reading q) b.0) i.0 (has_unique y.1 h) in
        let o = was_nested (reading q) b.0 z.0 z.1 in
        back t Γ'' θ (dot q x) (on_signature (reading q) o.0) w k (twin_below q u v x o.0 (b.1 ∙ ap Some o.1)) m

-- a fresh module that gives a structure
fits_back : (Γ : Env) (b c : Components) → Gives (extend Γ (structure b)) innermost (on_signature out (structure c)) → Fits Γ (structure b) (structure c)
fits_back Γ b c (g_structure f x m) = f_structure (subst (GivesAll (extend Γ (structure b)) innermost) (components_fresh c) m)

-- what a path gives, its strengthened signature matches
pub gives_strengthened : (s s' : Signature) (Γ : Env) (p : ModulePath) → ProperEnv Γ → At Γ p s → Proper Γ s' → Gives Γ p s' → Fits Γ (strengthen p s) s'
gives_strengthened (functor s r) (functor s' r') Γ p e a w (g_functor f at' m) = subst (λ z. Fits Γ z (functor s' r')) (at_unique at' a) m
gives_strengthened (functor s r) (structure c) Γ p e a w (g_structure b at' m) = let q = at_unique at' a in cc
gives_strengthened (structure b) (functor s' r') Γ p e a w (g_functor f at' m) =
    let m' : Fits Γ (structure b) (functor s' r') = subst (λ z. Fits Γ z (functor s' r')) (at_unique at' a) m in elim m' [ ]
gives_strengthened (structure b) (structure c) Γ p e a w m =
    let g' = strengthen p (structure b) in
    let Γ+ = extend Γ g' in
    let κ' = after out (reading p) in
    let m⁺ : Gives Γ+ (on_path out p) (on_signature κ' (on_signature out (structure c))) =
    subst (Gives Γ+ (on_path out p)) (sym (signature_outside Γ p (structure b) e a (structure c))) (gives_weaken g' m) in
    fits_back Γ (strengthen_all (on_path out p) b) c
    (back Γ p (structure b) e a (structure c) Γ out innermost (on_signature out (structure b)) w (out_along Γ g')
    (twin_start Γ p (structure b) e a) m⁺)
