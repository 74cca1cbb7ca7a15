-- Strengthening: it keeps signatures proper, and what a path gives of its signature it gives of the strengthened one.
use Rattle.std.proofs.Common.{◌≡◌, Bool, true, false, cond, ◌&&◌, Some, None, Option, sym, refl, ap, ◌∙◌, subst, ap₂, subst₂}
use Rattle.std.specs.Str.{bytes_eq}
use Rattle.std.proofs.lemmas.Slice.Eq.{bytes_eq-Decides}
use Rattle.types.specs.Types.{Name, ModulePath, at, dot, named, leaf}
use Rattle.rules.specs.Signatures.{Sort, Signature, structure, functor, Components, empty, more, Declaration, abstract, defined, value, nested, sort_of, same_sort, first_of, find, on_some}
use Rattle.rules.specs.Substitution.{Substitution, under, innermost, on_path, out, lift, reading, on_signature, on_components, on_declaration}
use Rattle.rules.specs.Lookup.{Env, extend, At, head, Has, unfolds}
use Rattle.rules.specs.Strengthening.{strengthen, strengthen_all, strengthen_one}
use Rattle.rules.proofs.Algebra.{after, path_under_out, path_lift_out, path_id, signature_comp, signature_id, components_reading_lift, declaration_reading_lift, sort_on}
use Rattle.rules.proofs.Finding.{find_last, find_on_none, Begins, all, begins_before}
use Rattle.rules.proofs.Inner.{Typed, Gives, g_structure, g_functor, GivesAll, g_none, g_abstract, g_defined, g_value, g_nested, Fits, Proper, ProperAll, ProperOne}
use Rattle.rules.proofs.Along.{typed_along}
use Rattle.rules.proofs.Exact.{exact_has, longer}
use Rattle.rules.proofs.Transitive.{Knows, knows_laws, knows_gives, GivesOne, gives_last}
use Rattle.rules.proofs.Knowing.{Along, id_along, out_along, weaken_along, under_along, knows_fits}
use Rattle.rules.proofs.Reflexive.{Shown, ShownAll, ShownOne, has_at, shown_gives, agree_self, at_gives}

mutual
  pub strengthen_on : (s : Signature) (θ : Substitution) (p : ModulePath) → on_signature θ (strengthen p s) ≡ strengthen (on_path θ p) (on_signature θ s)
  strengthen_on (structure c) θ p =
      ap structure (strengthen_all_on c (lift θ) (on_path out p) ∙ ap (λ q. strengthen_all q (on_components (lift θ) c)) (path_lift_out θ p))
  strengthen_on (functor s r) θ p = refl

  pub strengthen_all_on : (c : Components) (θ : Substitution) (p : ModulePath) → on_components θ (strengthen_all p c) ≡ strengthen_all (on_path θ p) (on_components θ c)
  strengthen_all_on empty θ p = refl
  strengthen_all_on (more c x d) θ p = ap₂ (λ a b. more a x b) (strengthen_all_on c θ p) (strengthen_one_on d θ p x)

  pub strengthen_one_on : (d : Declaration) (θ : Substitution) (p : ModulePath) (x : Name) → on_declaration θ (strengthen_one p x d) ≡ strengthen_one (on_path θ p) x (on_declaration θ d)
  strengthen_one_on abstract θ p x = refl
  strengthen_one_on (defined t) θ p x = refl
  strengthen_one_on (value t) θ p x = refl
  strengthen_one_on (nested s) θ p x = ap nested (strengthen_on s θ (dot p x))

pub strengthen_sort : (p : ModulePath) (x : Name) (d : Declaration) → sort_of (strengthen_one p x d) ≡ sort_of d
strengthen_sort p x abstract = refl
strengthen_sort p x (defined t) = refl
strengthen_sort p x (value t) = refl
strengthen_sort p x (nested s) = refl

first_strengthened :
    (p : ModulePath) (x y : Name) (o : Option Declaration) (d : Declaration) (a b : Bool) → bytes_eq x y ≡ b →
    first_of (on_some (strengthen_one p x) o) (cond (a && b) (Some (strengthen_one p y d)) None) ≡ on_some (strengthen_one p x) (first_of o (cond (a && b) (Some d) None))
first_strengthened p x y (Some e) d a b q = refl
first_strengthened p x y None d true true q = ap (λ z. Some (strengthen_one p z d)) (sym ((bytes_eq-Decides x y).0 q))
first_strengthened p x y None d true false q = refl
first_strengthened p x y None d false b q = refl

pub strengthen_find : (p : ModulePath) (s : Sort) (x : Name) (c : Components) → find s x (strengthen_all p c) ≡ on_some (strengthen_one p x) (find s x c)
strengthen_find p s x empty = refl
strengthen_find p s x (more c y d) =
    ap₂ (λ o z. first_of o (cond (same_sort s z && bytes_eq x y) (Some (strengthen_one p y d)) None)) (strengthen_find p s x c) (strengthen_sort p y d)
    ∙ first_strengthened p x y (find s x c) d (same_sort s (sort_of d)) (bytes_eq x y) refl

pub path_reading_out : (q p : ModulePath) → on_path (reading q) (on_path out p) ≡ p
path_reading_out q p = path_under_out q at p ∙ path_id p

-- a path that gives a signature gives it strengthened
mutual
  pub gives_strengthen : {Γ : Env} {p : ModulePath} {s : Signature} → Gives Γ p s → Gives Γ p (strengthen p s)
  gives_strengthen (g_structure {Γ = Γ} {p = p} {c = c} g a m) =
      g_structure g a
      (subst (GivesAll Γ p)
      (sym (strengthen_all_on c (reading p) (on_path out p) ∙ ap (λ q. strengthen_all q (on_components (reading p) c)) (path_reading_out p p)))
      (gives_all_strengthen m))
  gives_strengthen (g_functor f a m) = g_functor f a m

  gives_all_strengthen : {Γ : Env} {p : ModulePath} {c : Components} → GivesAll Γ p c → GivesAll Γ p (strengthen_all p c)
  gives_all_strengthen g_none = g_none
  gives_all_strengthen (g_abstract n m a) = g_defined n (gives_all_strengthen m) a a
  gives_all_strengthen (g_defined n m a b) = g_defined n (gives_all_strengthen m) a b
  gives_all_strengthen (g_value u n m h a b) = g_value u n (gives_all_strengthen m) h a b
  gives_all_strengthen (g_nested m s) = g_nested (gives_all_strengthen m) (gives_strengthen s)

-- each abstract type of a signature, outside functors, has a normal form as a type of the path
abbrev mutual
  pub Named : Env → ModulePath → Signature → Type 0
  Named Γ p (structure c) = NamedAll Γ p c
  Named Γ p (functor s r) = Unit {0}

  pub NamedAll : Env → ModulePath → Components → Type 0
  NamedAll Γ p empty = Unit {0}
  NamedAll Γ p (more c x d) = NamedAll Γ p c × NamedOne Γ p x d

  pub NamedOne : Env → ModulePath → Name → Declaration → Type 0
  NamedOne Γ p x abstract = Typed Γ (leaf (named p x))
  NamedOne Γ p x (defined t) = Unit {0}
  NamedOne Γ p x (value t) = Unit {0}
  NamedOne Γ p x (nested s) = Named Γ (dot p x) s

-- the same under one more binder
mutual
  pub named_out : (s : Signature) (Γ : Env) (g : Signature) (p : ModulePath) → Named Γ p s → Named (extend Γ g) (on_path out p) s
  named_out (structure c) Γ g p w = named_all_out c Γ g p w
  named_out (functor s r) Γ g p w = tt

  named_all_out : (c : Components) (Γ : Env) (g : Signature) (p : ModulePath) → NamedAll Γ p c → NamedAll (extend Γ g) (on_path out p) c
  named_all_out empty Γ g p w = tt
  named_all_out (more c x d) Γ g p w = (named_all_out c Γ g p w.0, named_one_out d Γ g p x w.1)

  pub named_one_out : (d : Declaration) (Γ : Env) (g : Signature) (p : ModulePath) (x : Name) → NamedOne Γ p x d → NamedOne (extend Γ g) (on_path out p) x d
  named_one_out abstract Γ g p x w = typed_along Knows knows_laws w out (extend Γ g) (out_along Γ g)
  named_one_out (defined t) Γ g p x w = tt
  named_one_out (value t) Γ g p x w = tt
  named_one_out (nested s) Γ g p x w = named_out s Γ g (dot p x) w

mutual
  pub gives_named : (s : Signature) (Γ : Env) (θ : Substitution) (p : ModulePath) → Gives Γ p (on_signature θ s) → Named Γ p s
  gives_named (structure c) Γ θ p (g_structure g a m) =
      gives_all_named c Γ (under p θ) p (subst (GivesAll Γ p) (components_reading_lift p θ c) m)
  gives_named (functor s r) Γ θ p m = tt

  gives_all_named : (c : Components) (Γ : Env) (θ : Substitution) (p : ModulePath) → GivesAll Γ p (on_components θ c) → NamedAll Γ p c
  gives_all_named empty Γ θ p m = tt
  gives_all_named (more c x d) Γ θ p m =
      let w = gives_last Γ p (on_components θ c) x (on_declaration θ d) m in
      (gives_all_named c Γ θ p w.0, gives_one_named d Γ θ p x w.1)

  gives_one_named : (d : Declaration) (Γ : Env) (θ : Substitution) (p : ModulePath) (x : Name) → GivesOne Γ p x (on_declaration θ d) → NamedOne Γ p x d
  gives_one_named abstract Γ θ p x m = m
  gives_one_named (defined t) Γ θ p x m = tt
  gives_one_named (value t) Γ θ p x m = tt
  gives_one_named (nested s) Γ θ p x m = gives_named s Γ θ (dot p x) m

-- a path of a strengthened signature shows the signature
mutual
  strengthened_shown :
      (s : Signature) (Γ' Γ : Env) (θ : Substitution) (p q : ModulePath) → Proper Γ' s → Named Γ p s →
      At Γ q (strengthen p (on_signature θ s)) → Shown Γ q θ s
  strengthened_shown (structure c) Γ' Γ θ p q w v a = (
    (strengthen_all (on_path out p) (on_components (lift θ) c), a),
    strengthened_all_shown c Γ' Γ θ p q (strengthen_all (on_path out p) (on_components (lift θ) c)) w v a all,
  )
  strengthened_shown (functor s r) Γ' Γ θ p q w v a = a

  strengthened_all_shown :
      (c : Components) (Γ' Γ : Env) (θ : Substitution) (p q : ModulePath) (g : Components) → ProperAll Γ' c → NamedAll Γ p c →
      At Γ q (structure g) → Begins (strengthen_all (on_path out p) (on_components (lift θ) c)) g → ShownAll Γ q (under q θ) c
  strengthened_all_shown empty Γ' Γ θ p q g w v a b = tt
  strengthened_all_shown (more c x d) Γ' Γ θ p q g w v a b =
      let c' = on_components (lift θ) c in
      let p' = on_path out p in
      let d' = on_declaration (lift θ) d in
      let d'' = strengthen_one p' x d' in
      let sorts : sort_of d'' ≡ sort_of d = strengthen_sort p' x d' ∙ sort_on (lift θ) d in
      let new : find (sort_of d'') x (strengthen_all p' c') ≡ None =
      ap (λ s. find s x (strengthen_all p' c')) sorts
      ∙ (strengthen_find p' (sort_of d) x c' ∙ ap (on_some (strengthen_one p' x)) (find_on_none (lift θ) (sort_of d) x c w.1)) in
      let h = exact_has Γ q (more (strengthen_all p' c') x d'') (sort_of d'') x d'' (structure g, a, longer b) (find_last (strengthen_all p' c') x d'' new) in
      let reads : on_declaration (reading q) d'' ≡ strengthen_one p x (on_declaration (under q θ) d) =
      strengthen_one_on d' (reading q) p' x
      ∙ ap₂ (λ o e. strengthen_one o x e) (path_reading_out q p) (declaration_reading_lift q θ d) in (
        strengthened_all_shown c Γ' Γ θ p q g w.0 v.0 a (begins_before b),
        strengthened_one_shown d (extend Γ' (structure c)) Γ (under q θ) p q x w.2 v.1 (subst₂ (λ s e. Has Γ q s x e) sorts reads h),
      )

  strengthened_one_shown :
      (d : Declaration) (Γ' Γ : Env) (θ : Substitution) (p q : ModulePath) (x : Name) → ProperOne Γ' d → NamedOne Γ p x d →
      Has Γ q (sort_of d) x (strengthen_one p x (on_declaration θ d)) → ShownOne Γ q θ x d
  strengthened_one_shown abstract Γ' Γ θ p q x w v h = (v.0, unfolds (leaf (named p x)) h v.1)
  strengthened_one_shown (defined t) Γ' Γ θ p q x w v h = h
  strengthened_one_shown (value t) Γ' Γ θ p q x w v h = h
  strengthened_one_shown (nested s) Γ' Γ θ p q x w v h = strengthened_shown s Γ' Γ θ (dot p x) (dot q x) w v (has_at h)

-- a structure along a substitution, and then strengthened
pub strengthened_along :
    (s : Signature) (Γ' Γ : Env) (θ : Substitution) (p : ModulePath) → Proper Γ' s → Along θ Γ' Γ → Named Γ p s →
    Along (lift θ) (extend Γ' s) (extend Γ (strengthen p (on_signature θ s)))
strengthened_along s Γ' Γ θ p w k v =
    let g = strengthen p (on_signature θ s) in
    let Γ+ = extend Γ g in
    let θ+ = after out θ in
    let k⁺ = weaken_along θ Γ' Γ g k in
    let here : At Γ+ innermost (strengthen (on_path out p) (on_signature θ+ s)) =
    subst (At Γ+ innermost) (strengthen_on (on_signature θ s) out p ∙ ap (strengthen (on_path out p)) (signature_comp out θ s)) (head refl) in
    let shown = strengthened_shown s Γ' Γ+ θ+ (on_path out p) innermost w (named_out s Γ g p v) here in
    under_along θ+ Γ' Γ+ innermost s k⁺
    (knows_gives (shown_gives s Γ' Γ+ θ+ θ+ innermost w k⁺ k⁺ (agree_self Γ' θ+ Γ+ k⁺) shown))

-- a strengthened signature is proper
mutual
  proper_strengthen' :
      (s : Signature) (Γ' Γ : Env) (θ : Substitution) (p : ModulePath) → Proper Γ' s → Along θ Γ' Γ → Named Γ p s →
      Proper Γ (on_signature θ s) → Proper Γ (strengthen p (on_signature θ s))
  proper_strengthen' (structure c) Γ' Γ θ p w k v u = proper_all_strengthen c Γ' Γ θ p w k v u
  proper_strengthen' (functor s r) Γ' Γ θ p w k v u = u

  proper_all_strengthen :
      (c : Components) (Γ' Γ : Env) (θ : Substitution) (p : ModulePath) → ProperAll Γ' c → Along θ Γ' Γ → NamedAll Γ p c →
      ProperAll Γ (on_components (lift θ) c) → ProperAll Γ (strengthen_all (on_path out p) (on_components (lift θ) c))
  proper_all_strengthen empty Γ' Γ θ p w k v u = tt
  proper_all_strengthen (more c x d) Γ' Γ θ p w k v u =
      let c' = on_components (lift θ) c in
      let p' = on_path out p in
      let d' = on_declaration (lift θ) d in
      let sorts : sort_of (strengthen_one p' x d') ≡ sort_of d = strengthen_sort p' x d' ∙ sort_on (lift θ) d in
      let g = strengthen p (structure c') in (
        proper_all_strengthen c Γ' Γ θ p w.0 k v.0 u.0,
        ap (λ s. find s x (strengthen_all p' c')) sorts
            ∙ (strengthen_find p' (sort_of d) x c' ∙ ap (on_some (strengthen_one p' x)) (find_on_none (lift θ) (sort_of d) x c w.1)),
        proper_one_strengthen d (extend Γ' (structure c)) (extend Γ g) (lift θ) p' x w.2
            (strengthened_along (structure c) Γ' Γ θ p w.0 k v.0) (named_one_out d Γ g p x v.1),
      )

  proper_one_strengthen :
      (d : Declaration) (Γ' Γ : Env) (θ : Substitution) (p : ModulePath) (x : Name) → ProperOne Γ' d → Along θ Γ' Γ → NamedOne Γ p x d →
      ProperOne Γ (strengthen_one p x (on_declaration θ d))
  proper_one_strengthen abstract Γ' Γ θ p x w k v = v
  proper_one_strengthen (defined t) Γ' Γ θ p x w k v = typed_along Knows knows_laws w θ Γ k
  proper_one_strengthen (value t) Γ' Γ θ p x w k v = typed_along Knows knows_laws w θ Γ k
  proper_one_strengthen (nested s) Γ' Γ θ p x w k v =
      proper_strengthen' s Γ' Γ θ (dot p x) w k v (Rattle.rules.proofs.Properness.proper_along s Γ' Γ θ k w)

pub proper_strengthen : (Γ : Env) (p : ModulePath) (s : Signature) → Proper Γ s → At Γ p s → Proper Γ (strengthen p s)
proper_strengthen Γ p s w a =
    let m = subst (Gives Γ p) (sym (signature_id s)) (at_gives Γ p s w a) in
    subst (λ z. Proper Γ (strengthen p z)) (signature_id s)
    (proper_strengthen' s Γ Γ at p w (id_along Γ) (gives_named s Γ at p m) (subst (Proper Γ) (sym (signature_id s)) w))

-- what the strengthened signature of a path matches, the path gives
pub strengthened_gives : (Γ : Env) (p : ModulePath) (s s' : Signature) → Proper Γ s → At Γ p s → Fits Γ (strengthen p s) s' → Gives Γ p s'
strengthened_gives Γ p s s' w a m = knows_fits Γ p (strengthen p s) s' (knows_gives (gives_strengthen (at_gives Γ p s w a))) m
