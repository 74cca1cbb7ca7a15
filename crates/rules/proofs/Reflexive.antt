-- Reflexivity, in a general form: two substitutions that agree on abstract types make matching signatures out of a proper one.
use Rattle.std.proofs.Common.{◌≡◌, ◌⊎◌, Some, None, sym, refl, ap, ◌∙◌, subst, subst₂, inl, inr}
use Rattle.types.specs.Types.{Name, ModulePath, at, dot, named, Ty, leaf, label0, label1, label2}
use Rattle.rules.specs.Signatures.{a_type, a_value, a_module, Signature, structure, functor, Components, empty, more, Declaration, abstract, defined, value, nested, sort_of, find}
use Rattle.rules.specs.Substitution.{Substitution, under, innermost, on_path, out, lift, reading, on_type, on_signature, on_components, on_declaration}
use Rattle.rules.specs.Lookup.{Env, extend, At, head, inside, Has, Normal, opaque, unfolds, bare, part, parts}
use Rattle.rules.proofs.Algebra.{after, path_under_out, path_comp, signature_comp, signature_id, declaration_reading_lift, components_reading_lift, sort_on}
use Rattle.rules.proofs.Finding.{find_last, find_on_none, Begins, all, begins_before}
use Rattle.rules.proofs.Inner.{Typed, Gives, g_structure, g_functor, GivesAll, g_none, Fits, f_structure, f_functor, Proper, ProperAll, ProperOne}
use Rattle.rules.proofs.Along.{abstract_along, defined_along, normal_along}
use Rattle.rules.proofs.Exact.{exact_has, longer, fits_fresh}
use Rattle.rules.proofs.Transitive.{Knows, knows_laws, knows_gives, GivesOne, gives_more}
use Rattle.rules.proofs.Knowing.{Along, id_along, out_along, weaken_along, under_along, lift_along}
use Rattle.rules.proofs.Fresh.{Fresh, split, fresh_under, abstract_outside}

-- two substitutions make the same of each abstract type
abbrev pub Agree : Env → Substitution → Substitution → Env → Type 0
Agree Γ' θ σ Γ =
    (p : ModulePath) (x : Name) → Has Γ' p a_type x abstract →
    (n : Ty) × Normal Γ (leaf (named (on_path θ p) x)) n × Normal Γ (leaf (named (on_path σ p) x)) n

pub agree_sym : (Γ' : Env) (θ σ : Substitution) (Γ : Env) → Agree Γ' θ σ Γ → Agree Γ' σ θ Γ
agree_sym Γ' θ σ Γ a p x h = let w = a p x h in (w.0, w.2, w.1)

pub agree_self : (Γ' : Env) (θ : Substitution) (Γ : Env) → Along θ Γ' Γ → Agree Γ' θ θ Γ
agree_self Γ' θ Γ k p x h = let w = abstract_along Knows knows_laws h θ Γ k in (w.0, w.1, w.1)

-- and so of each type that has a normal form
agree_normal :
    {Γ' : Env} {t n : Ty} → Normal Γ' t n → (θ σ : Substitution) (Γ : Env) → Along θ Γ' Γ → Along σ Γ' Γ → Agree Γ' θ σ Γ →
    (m : Ty) × Normal Γ (on_type θ t) m × Normal Γ (on_type σ t) m
agree_normal (opaque {p = p} {x = x} h) θ σ Γ k l a = a p x h
agree_normal (unfolds t h m) θ σ Γ k l a =
    let w = agree_normal m θ σ Γ k l a in
    (w.0, defined_along Knows knows_laws h θ Γ k w.0 w.1, defined_along Knows knows_laws h σ Γ l w.0 w.2)
agree_normal (bare {l = n}) θ σ Γ k l a = (label0 n, bare, bare)
agree_normal (part {l = n} m) θ σ Γ k l a = let w = agree_normal m θ σ Γ k l a in (label1 n w.0, part w.1, part w.2)
agree_normal (parts {l = n} m m') θ σ Γ k l a =
    let w = agree_normal m θ σ Γ k l a in
    let v = agree_normal m' θ σ Γ k l a in
    (label2 n w.0 v.0, parts w.1 v.1, parts w.2 v.2)

-- agreement under a binder that is read as one path
agree_under :
    (Γ' : Env) (θ σ : Substitution) (Γ : Env) (q : ModulePath) (s : Signature) → Agree Γ' θ σ Γ → Along (under q θ) (extend Γ' s) Γ →
    Agree (extend Γ' s) (under q θ) (under q σ) Γ
agree_under Γ' θ σ Γ q s a k p x h = go (split p)
  where
    go :
        ((o : ModulePath) × (on_path out o ≡ p)) ⊎ Fresh p →
        (n : Ty) × Normal Γ (leaf (named (on_path (under q θ) p) x)) n × Normal Γ (leaf (named (on_path (under q σ) p) x)) n
    go (inl o) =
        let h' : Has Γ' o.0 a_type x abstract = abstract_outside o.0 Γ' s x (subst (λ z. Has (extend Γ' s) z a_type x abstract) (sym o.1) h) in
        let w = a o.0 x h' in (
          w.0,
          subst (λ z. Normal Γ (leaf (named z x)) w.0) (sym (path_under_out q θ o.0) ∙ ap (on_path (under q θ)) o.1) w.1,
          subst (λ z. Normal Γ (leaf (named z x)) w.0) (sym (path_under_out q σ o.0) ∙ ap (on_path (under q σ)) o.1) w.2,
        )
    go (inr f) =
        let w = abstract_along Knows knows_laws h (under q θ) Γ k in
        (w.0, w.1, subst (λ z. Normal Γ (leaf (named z x)) w.0) (fresh_under f q θ σ) w.1)

agree_weaken : (Γ' : Env) (θ σ : Substitution) (Γ : Env) (g : Signature) → Agree Γ' θ σ Γ → Agree Γ' (after out θ) (after out σ) (extend Γ g)
agree_weaken Γ' θ σ Γ g a p x h =
    let w = a p x h in
    let v = normal_along Knows knows_laws w.1 out (extend Γ g) (out_along Γ g) in
    let u = normal_along Knows knows_laws w.2 out (extend Γ g) (out_along Γ g) in (
      v.0,
      subst (λ z. Normal (extend Γ g) (leaf (named z x)) v.0) (path_comp out θ p) v.1,
      subst₂ (λ z n. Normal (extend Γ g) (leaf (named z x)) n) (path_comp out σ p) (same u v) u.1,
    )
  where
    same :
        {Γ : Env} {t t' n : Ty} → (u : (m : Ty) × Normal Γ t m × Normal Γ n m) → (v : (m : Ty) × Normal Γ t' m × Normal Γ n m) → u.0 ≡ v.0
    same u v = Rattle.rules.proofs.Finding.normal_unique u.2 v.2

-- a path shows a signature read along θ: defined types and values as they stand, abstract types somehow, functors as they stand
abbrev mutual
  pub Shown : Env → ModulePath → Substitution → Signature → Type 0
  Shown Γ q θ (structure c) = ((g : Components) × At Γ q (structure g)) × ShownAll Γ q (under q θ) c
  Shown Γ q θ (functor s r) = At Γ q (on_signature θ (functor s r))

  pub ShownAll : Env → ModulePath → Substitution → Components → Type 0
  ShownAll Γ q θ empty = Unit {0}
  ShownAll Γ q θ (more c x d) = ShownAll Γ q θ c × ShownOne Γ q θ x d

  pub ShownOne : Env → ModulePath → Substitution → Name → Declaration → Type 0
  ShownOne Γ q θ x abstract = Typed Γ (leaf (named q x))
  ShownOne Γ q θ x (defined t) = Has Γ q a_type x (defined (on_type θ t))
  ShownOne Γ q θ x (value t) = Has Γ q a_value x (value (on_type θ t))
  ShownOne Γ q θ x (nested s) = Shown Γ (dot q x) θ s

pub has_at : {Γ : Env} {q : ModulePath} {x : Name} {s : Signature} → Has Γ q a_module x (nested s) → At Γ (dot q x) s
has_at {Γ} {q} {x} {s} h =
    let w = Rattle.rules.proofs.Along.was_nested (reading q) h.declared s h.reads in
    inside h.components w.0 h.leads (h.found ∙ ap Some w.1) w.2

-- a path that leads to a signature shows it
mutual
  pub at_shown : (s : Signature) (Γ' Γ : Env) (θ : Substitution) (q : ModulePath) → Proper Γ' s → At Γ q (on_signature θ s) → Shown Γ q θ s
  at_shown (structure c) Γ' Γ θ q w a = ((on_components (lift θ) c, a), at_all_shown c Γ' Γ θ q (on_components (lift θ) c) w a all)
  at_shown (functor s r) Γ' Γ θ q w a = a

  at_all_shown :
      (c : Components) (Γ' Γ : Env) (θ : Substitution) (q : ModulePath) (g : Components) → ProperAll Γ' c → At Γ q (structure g) →
      Begins (on_components (lift θ) c) g → ShownAll Γ q (under q θ) c
  at_all_shown empty Γ' Γ θ q g w a b = tt
  at_all_shown (more c x d) Γ' Γ θ q g w a b =
      let new : find (sort_of (on_declaration (lift θ) d)) x (on_components (lift θ) c) ≡ None =
      ap (λ s. find s x (on_components (lift θ) c)) (sort_on (lift θ) d) ∙ find_on_none (lift θ) (sort_of d) x c w.1 in
      let h = exact_has Γ q (more (on_components (lift θ) c) x (on_declaration (lift θ) d)) (sort_of (on_declaration (lift θ) d)) x
      (on_declaration (lift θ) d) (structure g, a, longer b) (find_last (on_components (lift θ) c) x (on_declaration (lift θ) d) new) in
      let h' = subst₂ (λ s e. Has Γ q s x e) (sort_on (lift θ) d) (declaration_reading_lift q θ d) h in
      (at_all_shown c Γ' Γ θ q g w.0 a (begins_before b), at_one_shown d (extend Γ' (structure c)) Γ (under q θ) q x w.2 h')

  at_one_shown :
      (d : Declaration) (Γ' Γ : Env) (θ : Substitution) (q : ModulePath) (x : Name) → ProperOne Γ' d →
      Has Γ q (sort_of d) x (on_declaration θ d) → ShownOne Γ q θ x d
  at_one_shown abstract Γ' Γ θ q x w h = (leaf (named q x), opaque h)
  at_one_shown (defined t) Γ' Γ θ q x w h = h
  at_one_shown (value t) Γ' Γ θ q x w h = h
  at_one_shown (nested s) Γ' Γ θ q x w h = at_shown s Γ' Γ θ (dot q x) w (has_at h)

-- the statement for a signature
abbrev Meet : Signature → Type 0
Meet s =
    (Γ' Γ : Env) (θ σ : Substitution) → Proper Γ' s → Along θ Γ' Γ → Along σ Γ' Γ → Agree Γ' θ σ Γ →
    Fits Γ (on_signature θ s) (on_signature σ s)

meet_functor : (s r : Signature) → Meet s → Meet r → Meet (functor s r)
meet_functor s r ms mr Γ' Γ θ σ w k l a =
    let m : Fits Γ (on_signature σ s) (on_signature θ s) = ms Γ' Γ σ θ w.0 l k (agree_sym Γ' θ σ Γ a) in
    let Γ+ = extend Γ (on_signature σ s) in
    let k+ : Along (lift θ) (extend Γ' s) Γ+ =
    under_along (after out θ) Γ' Γ+ innermost s (weaken_along θ Γ' Γ (on_signature σ s) k)
    (subst (Knows Γ+ innermost) (signature_comp out θ s) (knows_gives (fits_fresh m))) in
    f_functor m
    (mr (extend Γ' s) Γ+ (lift θ) (lift σ) w.1 k+ (lift_along σ Γ' Γ s l)
    (agree_under Γ' (after out θ) (after out σ) Γ+ innermost s (agree_weaken Γ' θ σ Γ (on_signature σ s) a) k+))

mutual
  -- a path that shows a signature read along θ gives it read along σ
  pub shown_gives :
      (s : Signature) (Γ' Γ : Env) (θ σ : Substitution) (q : ModulePath) → Proper Γ' s → Along θ Γ' Γ → Along σ Γ' Γ → Agree Γ' θ σ Γ →
      Shown Γ q θ s → Gives Γ q (on_signature σ s)
  shown_gives (structure c) Γ' Γ θ σ q w k l a h =
      g_structure h.0.0 h.0.1
      (subst (GivesAll Γ q) (sym (components_reading_lift q σ c)) (shown_all_gives c Γ' Γ θ σ q w k l a h.0 h.1))
  shown_gives (functor s r) Γ' Γ θ σ q w k l a h =
      g_functor (on_signature θ (functor s r)) h (meet_functor s r (proper_fits s) (proper_fits r) Γ' Γ θ σ w k l a)

  pub shown_all_gives :
      (c : Components) (Γ' Γ : Env) (θ σ : Substitution) (q : ModulePath) → ProperAll Γ' c → Along θ Γ' Γ → Along σ Γ' Γ → Agree Γ' θ σ Γ →
      (g : Components) × At Γ q (structure g) → ShownAll Γ q (under q θ) c → GivesAll Γ q (on_components (under q σ) c)
  shown_all_gives empty Γ' Γ θ σ q w k l a g h = g_none
  shown_all_gives (more c x d) Γ' Γ θ σ q w k l a g h =
      let m = shown_all_gives c Γ' Γ θ σ q w.0 k l a g h.0 in
      let m' = shown_all_gives c Γ' Γ θ θ q w.0 k k (agree_self Γ' θ Γ k) g h.0 in
      let l+ : Along (under q σ) (extend Γ' (structure c)) Γ =
      under_along σ Γ' Γ q (structure c) l
      (knows_gives (g_structure g.0 g.1 (subst (GivesAll Γ q) (sym (components_reading_lift q σ c)) m))) in
      let k+ : Along (under q θ) (extend Γ' (structure c)) Γ =
      under_along θ Γ' Γ q (structure c) k
      (knows_gives (g_structure g.0 g.1 (subst (GivesAll Γ q) (sym (components_reading_lift q θ c)) m'))) in
      gives_more Γ q (on_components (under q σ) c) x (on_declaration (under q σ) d) m
      (shown_one_gives d (extend Γ' (structure c)) Γ (under q θ) (under q σ) q x w.2 k+ l+
      (agree_under Γ' θ σ Γ q (structure c) a k+) h.1)

  shown_one_gives :
      (d : Declaration) (Γ' Γ : Env) (θ σ : Substitution) (q : ModulePath) (x : Name) → ProperOne Γ' d → Along θ Γ' Γ → Along σ Γ' Γ → Agree Γ' θ σ Γ →
      ShownOne Γ q θ x d → GivesOne Γ q x (on_declaration σ d)
  shown_one_gives abstract Γ' Γ θ σ q x w k l a h = h
  shown_one_gives (defined t) Γ' Γ θ σ q x w k l a h =
      let v = agree_normal w.1 θ σ Γ k l a in (v.0, unfolds (on_type θ t) h v.1, v.2)
  shown_one_gives (value t) Γ' Γ θ σ q x w k l a h =
      let v = agree_normal w.1 θ σ Γ k l a in (on_type θ t, v.0, h, v.1, v.2)
  shown_one_gives (nested s) Γ' Γ θ σ q x w k l a h = shown_gives s Γ' Γ θ σ (dot q x) w k l a h

  -- the two readings match
  pub proper_fits : (s : Signature) → Meet s
  proper_fits (structure c) Γ' Γ θ σ w k l a =
      let Γ+ = extend Γ (on_signature θ (structure c)) in
      let shown = at_all_shown c Γ' Γ+ (after out θ) innermost (on_components (lift (after out θ)) c) w
      (subst (At Γ+ innermost) (signature_comp out θ (structure c)) (head refl)) all in
      f_structure
      (shown_all_gives c Γ' Γ+ (after out θ) (after out σ) innermost w
      (weaken_along θ Γ' Γ (on_signature θ (structure c)) k) (weaken_along σ Γ' Γ (on_signature θ (structure c)) l)
      (agree_weaken Γ' θ σ Γ (on_signature θ (structure c)) a)
      (on_components (lift out) (on_components (lift θ) c), head refl) shown)
  proper_fits (functor s r) Γ' Γ θ σ w k l a = meet_functor s r (proper_fits s) (proper_fits r) Γ' Γ θ σ w k l a

-- matching is reflexive on proper signatures
pub fits_self : (Γ : Env) (s : Signature) → Proper Γ s → Fits Γ s s
fits_self Γ s w =
    subst₂ (Fits Γ) (signature_id s) (signature_id s)
    (proper_fits s Γ Γ at at w (id_along Γ) (id_along Γ) (agree_self Γ at Γ (id_along Γ)))

-- a path gives what it leads to
pub at_gives : (Γ : Env) (p : ModulePath) (s : Signature) → Proper Γ s → At Γ p s → Gives Γ p s
at_gives Γ p s w a =
    subst (Gives Γ p) (signature_id s)
    (shown_gives s Γ Γ at at p w (id_along Γ) (id_along Γ) (agree_self Γ at Γ (id_along Γ))
    (at_shown s Γ Γ at p w (subst (At Γ p) (sym (signature_id s)) a)))
