-- The order of a project's list matters neither to the check nor to fit.
use Rattle.std.proofs.Common.{◌≡◌, ℕ, ◌<◌, Bool, true, false, cond, not, ◌&&◌, ◌||◌, eqb, List, [], ◌∷◌, map, length, get_or, IfSome, Some, None, Option, sym, refl, ap, ◌∙◌, subst, ap₂}
use Rattle.std.proofs.Math.Path.{fun_ext}
use Rattle.std.specs.Str.{bytes_eq}
use Rattle.std.proofs.lemmas.Bool.{or_left, or_right, eq-eqb, ne_eqb, eqb-true, eqb-false, lt-ltb}
use Rattle.std.specs.Option.{unwrap_or}
use Rattle.std.proofs.lemmas.Bool.Decides.{same_from_decides}
use Rattle.types.specs.Types.{Name, Ty}
use Rattle.cores.specs.Meaning.{Outcome}
use Rattle.cores.specs.declared.interface.Operation.{Operation}
use Rattle.order.specs.Compare.{by_name}
use Rattle.order.specs.Picking.{has}
use Rattle.order.specs.Reaching.{cyclic, missing, cycle}
use Rattle.order.specs.Law.{LoadOrder}
use Rattle.order.proofs.LeastOf.{best_within}
use Rattle.rules.specs.Signatures.{on_some}
use Rattle.rules.specs.Syntax.{SignatureText}
use Rattle.rules.specs.Naming.{unit_names, signature_names}
use Rattle.rules.specs.Projects.{Units, no_units, more_units}
use Rattle.checker.specs.Units.{CheckAnswer, accepted, refused, check_units}
use Rattle.project_rules.specs.Project.{ProjectUnit, some, first_where, nobody, unit_at, name_at, stored, strange, seen, place_of_head, first_lacking, order_of, behind, units_at}
use Rattle.project_rules.specs.Check.{lacking, circular, unless_told, of_units, lacking_at, circular_at, check_in_turn, check_project}
use Rattle.project_rules.specs.Fit.{place_of, up_to, before, one_named, not_before_it, fit_known, unless_head, fit_at, unless_absent, fit_from}
use Rattle.project_rules.specs.Statements.{DistinctNames, Present, SameUnits, Means, ListOrderFree}
use Rattle.project_rules.proofs.Lists.{among_at, place_among}
use Rattle.project_rules.proofs.Viewing.{stored_told, stored_from}
use Rattle.project_rules.proofs.Answering.{answers_mean, right_means}
use Rattle.project_rules.proofs.Fitting.{IsPlace, place_is, place_of_lem}
use Rattle.project_rules.proofs.Carried.{Carries, one_place, load_order_carried, best_carried, cyclic_carried}

-- where the unit at a place of the first list stands in the second
abbrev to : List ProjectUnit → List ProjectUnit → ℕ → ℕ
to us vs i = unwrap_or (place_of (name_at us i) vs) 0

present_too : (us vs : List ProjectUnit) → SameUnits us vs → (x : Name) → Present us x → Present vs x
present_too us vs s x p =
    let r = place_among vs nobody (get_or us p.0 nobody) ((s (get_or us p.0 nobody)).0 (among_at us nobody p.0 p.1)) in
    (r.0, r.1, ap (λ u. u.text.name) r.2 ∙ p.2)

module _ (us vs : List ProjectUnit) (d : DistinctNames us) (d' : DistinctNames vs) (s : SameUnits us vs) where
  there : (i : ℕ) → i < length us → (to us vs i < length vs) × (get_or vs (to us vs i) nobody ≡ get_or us i nobody)
  there i l =
      let r = place_among vs nobody (get_or us i nobody) ((s (get_or us i nobody)).0 (among_at us nobody i l)) in
      let e : to us vs i ≡ r.0 =
      ap (λ x. unwrap_or (place_of x vs) 0) (sym (ap (λ u. u.text.name) r.2)) ∙ ap (λ o. unwrap_or o 0) (place_of_lem vs d' r.0 r.1) in
      (subst (λ j. j < length vs) (sym e) r.1, ap (λ j. get_or vs j nobody) e ∙ r.2)

  stored_same : (x : Name) → stored vs x ≡ stored us x
  stored_same x =
      same_from_decides (stored vs x) (stored us x) (
        (λ h. stored_from us x (present_too vs us (λ u. ((s u).1, (s u).0)) x (stored_told vs x h))),
        (λ h. stored_from vs x (present_too us vs s x (stored_told us x h))),
      ) ((λ h. h), (λ h. h))

  strange_same : strange vs ≡ strange us
  strange_same = fun_ext (λ h. ap not (stored_same h.0))

pub carries : (us vs : List ProjectUnit) → DistinctNames us → DistinctNames vs → SameUnits us vs → Carries (seen us) (seen vs) (to us vs) (to vs us)
carries us vs d d' s =
    record {
      there = λ i l. (go i l).0;
      here = λ j l. (come j l).0;
      back = returns;
      forth = λ j l. d' (to us vs (to vs us j)) j (go (to vs us j) (come j l).0).0 l
          (ap (λ u. u.text.name) ((go (to vs us j) (come j l).0).1 ∙ (come j l).1));
      ranks = λ i l. ap (λ u. u.rank) (go i l).1;
      called = λ i l. ap (λ u. u.text.name) (go i l).1;
      lack = λ i l. ap₂ (λ t u. some t (unit_names u.text)) (strange_same us vs d d' s) (go i l).1;
      marked = λ i j l m.
          ap₂ (λ a b. a && b) (lt-ltb (to us vs j) (length vs) (go j m).0 ∙ sym (lt-ltb j (length us) m))
          (ap₂ (λ (u w : ProjectUnit). some (λ h. bytes_eq h.0 w.text.name) (unit_names u.text)) (go i l).1 (go j m).1);
    }
  where
    back_same : SameUnits vs us
    back_same u = ((s u).1, (s u).0)

    go : (i : ℕ) → i < length us → (to us vs i < length vs) × (get_or vs (to us vs i) nobody ≡ get_or us i nobody)
    go = there us vs d d' s

    come : (j : ℕ) → j < length vs → (to vs us j < length us) × (get_or us (to vs us j) nobody ≡ get_or vs j nobody)
    come = there vs us d' d back_same

    returns : (i : ℕ) → i < length us → to vs us (to us vs i) ≡ i
    returns i l =
        d (to vs us (to us vs i)) i (come (to us vs i) (go i l).0).0 l
        (ap (λ u. u.text.name) ((come (to us vs i) (go i l).0).1 ∙ (go i l).1))

module _ (us vs : List ProjectUnit) (f : ℕ → ℕ) where
  -- the same units at carried places
  abbrev SameAt : List ℕ → Type 0
  SameAt is = (i : ℕ) → has is i ≡ true → unit_at vs (f i) ≡ unit_at us i

  same_behind : (is : List ℕ) (b : Units) → SameAt is → behind vs b (map f is) ≡ behind us b is
  same_behind [] b h = refl
  same_behind (i ∷ is) b h =
      ap (λ u. behind vs (more_units b u) (map f is)) (h i (or_left (eqb i i) (has is i) (eq-eqb i i refl)))
      ∙ same_behind is (more_units b (unit_at us i)) (λ j m. h j (or_right (eqb i j) (has is j) m))

  same_named : (is : List ℕ) (x : Name) → SameAt is → one_named vs (map f is) x ≡ one_named us is x
  same_named [] x h = refl
  same_named (i ∷ is) x h =
      ap₂ (λ a b. a || b) (ap (λ u. bytes_eq u.name x) (h i (or_left (eqb i i) (has is i) (eq-eqb i i refl))))
      (same_named is x (λ j m. h j (or_right (eqb i j) (has is j) m)))

-- what stands before a carried place
up_to_carried : (f : ℕ → ℕ) (i : ℕ) (l : List ℕ) → ((j : ℕ) → has l j ≡ true → f j ≡ f i → j ≡ i) → up_to (f i) (map f l) ≡ map f (up_to i l)
up_to_carried f i [] h = refl
up_to_carried f i (j ∷ l) h = go (eqb j i) refl (up_to_carried f i l (λ k m. h k (or_right (eqb j k) (has l k) m)))
  where
    go : (b : Bool) → eqb j i ≡ b → up_to (f i) (map f l) ≡ map f (up_to i l) →
        cond (eqb (f j) (f i)) [] (f j ∷ up_to (f i) (map f l)) ≡ map f (cond b [] (j ∷ up_to i l))
    go true e ih = ap (λ t. cond t [] (f j ∷ up_to (f i) (map f l))) (eq-eqb (f j) (f i) (ap f (eqb-true j i e)))
    go false e ih =
        ap (λ t. cond t [] (f j ∷ up_to (f i) (map f l))) (ne_eqb (f j) (f i) (λ k. eqb-false j i e (h j (or_left (eqb j j) (has l j) (eq-eqb j j refl)) k)))
        ∙ ap (λ z. f j ∷ z) ih

up_to_in : (i : ℕ) (l : List ℕ) (j : ℕ) → has (up_to i l) j ≡ true → has l j ≡ true
up_to_in i [] j h = h
up_to_in i (k ∷ l) j h = go (eqb k i) h (up_to_in i l j)
  where
    go : (b : Bool) → has (cond b [] (k ∷ up_to i l)) j ≡ true → (has (up_to i l) j ≡ true → has l j ≡ true) → (eqb k j || has l j) ≡ true
    go true m ih = cc
    go false m ih = over (eqb k j) m
      where
        over : (t : Bool) → (t || has (up_to i l) j) ≡ true → (t || has l j) ≡ true
        over true n = refl
        over false n = ih n

module _ {C : Type 0} (rule : Operation → List Ty → Outcome C) (us vs : List ProjectUnit) (d : DistinctNames us) (d' : DistinctNames vs) (s : SameUnits us vs) where
  f : ℕ → ℕ
  f = to us vs

  carried : Carries (seen us) (seen vs) f (to vs us)
  unfolding f
  carried = carries us vs d d' s

  unit_same : (i : ℕ) → i < length us → unit_at vs (f i) ≡ unit_at us i
  unfolding f
  unit_same i l = ap (λ u. u.text) (there us vs d d' s i l).1

  order_same : LoadOrder (seen us) (order_of us) → order_of vs ≡ map f (order_of us)
  order_same o = load_order_carried (seen us) (seen vs) f (to vs us) carried d d' o

  units_same : LoadOrder (seen us) (order_of us) → units_at us (order_of us) ≡ units_at vs (order_of vs)
  units_same o =
      sym (ap (units_at vs) (order_same o) ∙ same_behind us vs f (order_of us) no_units (λ i h. unit_same i (o.units i h)))

  first_same : (i : ℕ) → i < length us → first_lacking us i ≡ first_lacking vs (f i)
  first_same i l = sym (ap₂ (λ t u. place_of_head (first_where t (unit_names u))) (strange_same us vs d d' s) (unit_same i l))

  check_same : check_project rule us ≡ check_project rule vs
  check_same =
      go (missing (seen us)) (best_within (seen us).lacks (by_name (seen us)) (length us))
      (cycle (seen us)) (best_within (cyclic (seen us)) (by_name (seen us)) (length us))
      (check_units rule (units_at us (order_of us))) refl (answers_mean rule us)
      ∙ sym (ap₂ (λ o p. unless_told o (lacking_at vs) (unless_told p (circular_at vs) (check_in_turn rule vs)))
      (best_carried (seen us) (seen vs) f (to vs us) carried d d' (seen us).lacks (seen vs).lacks carried.lack)
      (best_carried (seen us) (seen vs) f (to vs us) carried d d' (cyclic (seen us)) (cyclic (seen vs)) (cyclic_carried (seen us) (seen vs) f (to vs us) carried)))
    where
      ordered : (a : CheckAnswer C) → Means rule us (of_units a) → LoadOrder (seen us) (order_of us)
      ordered (accepted k) m = m.0
      ordered (refused x e) m = m.0

      go : (o : Option ℕ) → IfSome o (λ i. i < length us) → (p : Option ℕ) → IfSome p (λ i. i < length us) →
          (a : CheckAnswer C) → check_units rule (units_at us (order_of us)) ≡ a →
          Means rule us (unless_told o (lacking_at us) (unless_told p (circular_at us) (of_units a))) →
          unless_told o (lacking_at us) (unless_told p (circular_at us) (check_in_turn rule us))
          ≡ unless_told (on_some f o) (lacking_at vs) (unless_told (on_some f p) (circular_at vs) (check_in_turn rule vs))
      go (Some i) l p l' a e m = ap₂ lacking (sym (ap (λ u. u.name) (unit_same i l))) (first_same i l)
      go None l (Some i) l' a e m = ap circular (sym (ap (λ u. u.name) (unit_same i l')))
      go None l None l' a e m = ap (λ z. of_units (check_units rule z)) (units_same (ordered a m))

  place_same : (x : Name) → place_of x vs ≡ on_some f (place_of x us)
  place_same x = go (place_of x us) (place_is x us)
    where
      none : (o : Option ℕ) → IsPlace x vs o → (Present us x → ⊥) → o ≡ None
      none None h n = refl
      none (Some j) h n = absurd (n (present_too vs us (λ u. ((s u).1, (s u).0)) x (j, h.0, h.1)))

      go : (o : Option ℕ) → IsPlace x us o → place_of x vs ≡ on_some f o
      go None h = none (place_of x vs) (place_is x vs) h
      go (Some i) h =
          ap (λ y. place_of y vs) (sym (ap (λ u. u.name) (unit_same i h.0) ∙ h.1)) ∙ place_of_lem vs d' (f i) (carried.there i h.0)

  before_same : LoadOrder (seen us) (order_of us) → (i : ℕ) → i < length us → before vs (f i) ≡ map f (before us i)
  before_same o i l =
      ap (up_to (f i)) (order_same o)
      ∙ up_to_carried f i (order_of us) (λ j h. one_place (seen us) (seen vs) f (to vs us) carried j i (o.units j h) l)

  fit_at_same : LoadOrder (seen us) (order_of us) → (q : ℕ) (t : SignatureText) (i : ℕ) → i < length us → fit_at rule us q t i ≡ fit_at rule vs q t (f i)
  fit_at_same o q t i l =
      sym (ap₂ (λ test more. unless_head (first_where test (signature_names t)) more) (fun_ext tests)
      (ap₂ (λ b u. fit_known rule (check_units rule b) q u t)
      (ap (units_at vs) (before_same o i l) ∙ same_behind us vs f (before us i) no_units same) (unit_same i l)))
    where
      same : SameAt us vs f (before us i)
      same j h = unit_same j (o.units j (up_to_in i (order_of us) j h))

      tests : (h : Name × ℕ) → not_before_it vs (f i) h ≡ not_before_it us i h
      tests h = ap not (ap (λ is. one_named vs is h.0) (before_same o i l) ∙ same_named us vs f (before us i) h.0 same)

  fit_same : LoadOrder (seen us) (order_of us) → (q : ℕ) (x : Name) (t : SignatureText) → fit_from rule us q x t ≡ fit_from rule vs q x t
  fit_same o q x t =
      go (place_of x us) (place_is x us) ∙ sym (ap (λ p. unless_absent p (fit_at rule vs q t)) (place_same x))
    where
      go : (p : Option ℕ) → IsPlace x us p → unless_absent p (fit_at rule us q t) ≡ unless_absent (on_some f p) (fit_at rule vs q t)
      go None h = refl
      go (Some i) h = fit_at_same o q t i h.0

pub list_order_free : {C : Type 0} (rule : Operation → List Ty → Outcome C) → ListOrderFree rule
list_order_free rule us vs d d' s =
    (check_same rule us vs d d' s, λ k e q x t. fit_same rule us vs d d' s (right_means rule us k e).0 q x t)
