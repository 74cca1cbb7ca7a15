-- The same units at other places: what is told of them, and their load order, are the same.
use Rattle.std.proofs.Common.{◌≡◌, ℕ, ◌<◌, Bool, true, false, eqb, List, [], ◌∷◌, ◌++◌, map, Some, None, Option, sym, refl, ap, ◌∙◌, subst, ap₂, subst₂, inl, inr, ⊎_elim, arith}
use Rattle.std.proofs.lemmas.Bool.{cases_Bool, both_ways, or_cases, or_left, or_right, eq-eqb, eqb-true}
use Rattle.std.proofs.lemmas.List.{map-append}
use Rattle.order.specs.Units.{Units, names}
use Rattle.order.specs.Compare.{NameLess, NameFirst, UnitLess, Distinct, by_name}
use Rattle.order.specs.Least.{best}
use Rattle.order.specs.Picking.{has, load_order}
use Rattle.order.specs.Reaching.{Reaches, direct, onward, cyclic}
use Rattle.order.specs.Law.{LoadOrder, Smaller}
use Rattle.order.proofs.LeastOf.{IsBest, best_is}
use Rattle.order.proofs.Precedence.{by_name_strict, by_name_told}
use Rattle.order.proofs.Closure.{reach_sound, reach_complete, named_below}
use Rattle.order.proofs.Runs.{has_middle, has_front, order_complete, order_acyclic}
use Rattle.order.proofs.Existence.{load_order_is}
use Rattle.order.proofs.Leastness.{load_order_least}
use Rattle.rules.specs.Signatures.{on_some}
use Rattle.project_rules.proofs.Orders.{name_one_way, smaller_one_way}

-- the units of u stand in v at the places that f tells, and g leads back
pub record Carries (u v : Units) (f g : ℕ → ℕ) : Type 0 where
  pub there : (i : ℕ) → i < u.count → f i < v.count
  pub here : (j : ℕ) → j < v.count → g j < u.count
  pub back : (i : ℕ) → i < u.count → g (f i) ≡ i
  pub forth : (j : ℕ) → j < v.count → f (g j) ≡ j
  pub ranks : (i : ℕ) → i < u.count → v.rank (f i) ≡ u.rank i
  pub called : (i : ℕ) → i < u.count → v.name (f i) ≡ u.name i
  pub lack : (i : ℕ) → i < u.count → v.lacks (f i) ≡ u.lacks i
  pub marked : (i j : ℕ) → i < u.count → j < u.count → names v (f i) (f j) ≡ names u i j

pub carries_back : (u v : Units) (f g : ℕ → ℕ) → Carries u v f g → Carries v u g f
carries_back u v f g c =
    record {
      there = c.here;
      here = c.there;
      back = c.forth;
      forth = c.back;
      ranks = λ j l. sym (c.ranks (g j) (c.here j l)) ∙ ap v.rank (c.forth j l);
      called = λ j l. sym (c.called (g j) (c.here j l)) ∙ ap v.name (c.forth j l);
      lack = λ j l. sym (c.lack (g j) (c.here j l)) ∙ ap v.lacks (c.forth j l);
      marked = λ i j l m. sym (c.marked (g i) (g j) (c.here i l) (c.here j m)) ∙ ap₂ (names v) (c.forth i l) (c.forth j m);
    }

-- places in a list that is carried over
pub has_map : (f : ℕ → ℕ) (l : List ℕ) (i : ℕ) → has l i ≡ true → has (map f l) (f i) ≡ true
has_map f [] i h = cc
has_map f (j ∷ l) i h =
    ⊎_elim (λ e. or_left (eqb (f j) (f i)) (has (map f l) (f i)) (eq-eqb (f j) (f i) (ap f (eqb-true j i e))))
    (λ m. or_right (eqb (f j) (f i)) (has (map f l) (f i)) (has_map f l i m)) (or_cases (eqb j i) (has l i) h)

pub map_has : (f : ℕ → ℕ) (l : List ℕ) (j : ℕ) → has (map f l) j ≡ true → (i : ℕ) × (has l i ≡ true) × (f i ≡ j)
map_has f [] j h = cc
map_has f (i ∷ l) j h =
    ⊎_elim (λ e. (i, or_left (eqb i i) (has l i) (eq-eqb i i refl), eqb-true (f i) j e))
    (λ m. let r = map_has f l j m in (r.0, or_right (eqb i r.0) (has l r.0) r.1, r.2)) (or_cases (eqb (f i) j) (has (map f l) j) h)

pub record MapSplit (f : ℕ → ℕ) (l front : List ℕ) (j : ℕ) (rest : List ℕ) : Type 0 where
  pub start : List ℕ
  pub place : ℕ
  pub end : List ℕ
  pub whole : l ≡ start ++ place ∷ end
  pub starts : map f start ≡ front
  pub placed : f place ≡ j
  pub ends : map f end ≡ rest

pub map_split : (f : ℕ → ℕ) (l front : List ℕ) (j : ℕ) (rest : List ℕ) → map f l ≡ front ++ j ∷ rest → MapSplit f l front j rest
map_split f [] [] j rest e = cc
map_split f [] (x ∷ front) j rest e = cc
map_split f (i ∷ l) [] j rest e = record { start = []; place = i; end = l; whole = refl; starts = refl; placed = cc; ends = cc }
map_split f (i ∷ l) (x ∷ front) j rest e = go (map_split f l front j rest (cc)) (cc)
  where
    go : MapSplit f l front j rest → f i ≡ x → MapSplit f (i ∷ l) (x ∷ front) j rest
    go r h =
        record {
          start = i ∷ r.start;
          place = r.place;
          end = r.end;
          whole = ap (λ z. i ∷ z) r.whole;
          starts = ap₂ (λ y z. y ∷ z) h r.starts;
          placed = r.placed;
          ends = r.ends;
        }

pub map_back : (f g : ℕ → ℕ) (l : List ℕ) → ((i : ℕ) → has l i ≡ true → f (g i) ≡ i) → map f (map g l) ≡ l
map_back f g [] h = refl
map_back f g (i ∷ l) h =
    ap₂ (λ y z. y ∷ z) (h i (or_left (eqb i i) (has l i) (eq-eqb i i refl))) (map_back f g l (λ j m. h j (or_right (eqb i j) (has l j) m)))

module _ (u v : Units) (f g : ℕ → ℕ) (c : Carries u v f g) where
  pub one_place : (i j : ℕ) → i < u.count → j < u.count → f i ≡ f j → i ≡ j
  one_place i j l m e = sym (c.back i l) ∙ ap g e ∙ c.back j m

  pub order_carried : (ps : List ℕ) → LoadOrder u ps → LoadOrder v (map f ps)
  order_carried ps o = record { units = inside; every = all; once = single; behind = later }
    where
      inside : (j : ℕ) → has (map f ps) j ≡ true → j < v.count
      inside j h = let r = map_has f ps j h in subst (λ z. z < v.count) r.2 (c.there r.0 (o.units r.0 r.1))

      all : (j : ℕ) → j < v.count → has (map f ps) j ≡ true
      all j l = subst (λ z. has (map f ps) z ≡ true) (c.forth j l) (has_map f ps (g j) (o.every (g j) (c.here j l)))

      single : (front : List ℕ) (j : ℕ) (rest : List ℕ) → map f ps ≡ front ++ j ∷ rest → has front j ≡ false
      single front j rest e =
          let s = map_split f ps front j rest e in
          ⊎_elim
          (λ h.
          let r = map_has f s.start j (subst (λ z. has z j ≡ true) (sym s.starts) h) in
          let a : r.0 < u.count = o.units r.0 (subst (λ z. has z r.0 ≡ true) (sym s.whole) (has_front s.start (s.place ∷ s.end) r.0 r.1)) in
          let b : s.place < u.count = o.units s.place (subst (λ z. has z s.place ≡ true) (sym s.whole) (has_middle s.start s.place s.end)) in
          absurd (both_ways (has s.start s.place) (o.once s.start s.place s.end s.whole)
          (subst (λ z. has s.start z ≡ true) (one_place r.0 s.place a b (r.2 ∙ sym s.placed)) r.1)))
          (λ h. h) (cases_Bool (has front j))

      later : (front : List ℕ) (j : ℕ) (rest : List ℕ) → map f ps ≡ front ++ j ∷ rest →
          (v.lacks j ≡ false) × ((m : ℕ) → names v j m ≡ true → has front m ≡ true)
      later front j rest e =
          let s = map_split f ps front j rest e in
          let b : s.place < u.count = o.units s.place (subst (λ z. has z s.place ≡ true) (sym s.whole) (has_middle s.start s.place s.end)) in
          let t = o.behind s.start s.place s.end s.whole in (
            sym (ap v.lacks s.placed) ∙ c.lack s.place b ∙ t.0,
            λ m n.
                let l : m < v.count = named_below v j m n in
                let y : names u s.place (g m) ≡ true =
                sym (c.marked s.place (g m) b (c.here m l)) ∙ ap₂ (names v) s.placed (c.forth m l) ∙ n in
                subst₂ (λ z w. has z w ≡ true) s.starts (c.forth m l) (has_map f s.start (g m) (t.1 (g m) y)),
          )

  pub reaches_carried : {i j : ℕ} → i < u.count → Reaches u i j → Reaches v (f i) (f j)
  reaches_carried {i} {j} l (direct n) = direct (c.marked i j l (named_below u i j n) ∙ n)
  reaches_carried l (onward {i = i} {j = m} {k = j} n r) =
      onward (c.marked i m l (named_below u i m n) ∙ n) (reaches_carried (named_below u i m n) r)

  less_carried : (i j : ℕ) → i < u.count → j < u.count → UnitLess u i j → UnitLess v (f i) (f j)
  less_carried i j l m h =
      ⊎_elim (λ r. inl (subst₂ ◌<◌ (sym (c.ranks i l)) (sym (c.ranks j m)) r))
      (λ r. inr (c.ranks i l ∙ r.0 ∙ sym (c.ranks j m), subst₂ NameLess (sym (c.called i l)) (sym (c.called j m)) r.1)) h

  pub smaller_carried : (ps qs : List ℕ) → LoadOrder u ps → LoadOrder u qs → Smaller u ps qs → Smaller v (map f ps) (map f qs)
  smaller_carried ps qs o o' s =
      record {
        front = map f s.front;
        p = f s.p;
        ps_rest = map f s.ps_rest;
        q = f s.q;
        qs_rest = map f s.qs_rest;
        ps_is = ap (map f) s.ps_is ∙ map-append f s.front (s.p ∷ s.ps_rest);
        qs_is = ap (map f) s.qs_is ∙ map-append f s.front (s.q ∷ s.qs_rest);
        less =
            less_carried s.p s.q
            (o.units s.p (subst (λ z. has z s.p ≡ true) (sym s.ps_is) (has_middle s.front s.p s.ps_rest)))
            (o'.units s.q (subst (λ z. has z s.q ≡ true) (sym s.qs_is) (has_middle s.front s.q s.qs_rest)))
            s.less;
      }

-- the load order is carried over
pub load_order_carried : (u v : Units) (f g : ℕ → ℕ) → Carries u v f g → Distinct u → Distinct v → LoadOrder u (load_order u) → load_order v ≡ map f (load_order u)
load_order_carried u v f g c d d' o =
    let o' = order_carried u v f g c (load_order u) o in
    let complete = order_complete v (map f (load_order u)) o' in
    let acyclic = order_acyclic v (map f (load_order u)) o' in
    let ov = load_order_is v complete acyclic in
    let b = carries_back u v f g c in
    let ob = order_carried v u g f b (load_order v) ov in
    let forth : map f (map g (load_order v)) ≡ load_order v = map_back f g (load_order v) (λ j h. c.forth j (ov.units j h)) in
    ⊎_elim (λ e. sym e)
    (λ s.
    ⊎_elim (λ e. sym forth ∙ ap (map f) e)
    (λ t.
    absurd (smaller_one_way v (load_order v) (map f (load_order u)) s
    (subst (Smaller v (map f (load_order u))) forth (smaller_carried u v f g c (load_order u) (map g (load_order v)) o ob t))))
    (load_order_least u (order_complete u (load_order u) o) (order_acyclic u (load_order u) o) d (map g (load_order v)) ob))
    (load_order_least v complete acyclic d' (map f (load_order u)) o')

-- the least-named marked place is carried over
pub best_carried : (u v : Units) (f g : ℕ → ℕ) → Carries u v f g → Distinct u → Distinct v → (m n : ℕ → Bool) → ((i : ℕ) → i < u.count → n (f i) ≡ m i) →
    best n (by_name v) v.count ≡ on_some f (best m (by_name u) u.count)
best_carried u v f g c d d' m n same =
    go (best m (by_name u) u.count) (best_is m (by_name u) (by_name_strict u) u.count)
    (best n (by_name v) v.count) (best_is n (by_name v) (by_name_strict v) v.count)
  where
    marks_back : (j : ℕ) → j < v.count → n j ≡ true → m (g j) ≡ true
    marks_back j l h = sym (same (g j) (c.here j l)) ∙ ap n (c.forth j l) ∙ h

    name_less : (w : Units) → Distinct w → (i j : ℕ) → i < w.count → j < w.count → NameFirst w i j → NameLess (w.name i) (w.name j)
    name_less w dw i j l k h =
        ⊎_elim (λ r. r) (λ r. let e : i ≡ j = dw i j l k r.0 in let x : i < j = r.1 in absurd (omega arith)) h

    go : (o : Option ℕ) → IsBest m (by_name u) u.count o → (p : Option ℕ) → IsBest n (by_name v) v.count p → p ≡ on_some f o
    go None a None b = refl
    go None a (Some j) b = absurd (a (g j) (c.here j b.0) (marks_back j b.0 b.1))
    go (Some i) a None b = absurd (b (f i) (c.there i a.0) (same i a.0 ∙ a.1))
    go (Some i) a (Some j) b =
        ⊎_elim (λ e. ap Some (sym e))
        (λ s.
        ⊎_elim (λ e. ap Some (sym (c.forth j b.0) ∙ ap f e))
        (λ t.
        let x = name_less v d' j (f i) b.0 (c.there i a.0) (by_name_told v j (f i) s) in
        let y = name_less u d i (g j) a.0 (c.here j b.0) (by_name_told u i (g j) t) in
        absurd (name_one_way (u.name i) (u.name (g j)) y
        (subst₂ NameLess (ap v.name (sym (c.forth j b.0)) ∙ c.called (g j) (c.here j b.0)) (c.called i a.0) x)))
        (a.2 (g j) (c.here j b.0) (marks_back j b.0 b.1)))
        (b.2 (f i) (c.there i a.0) (same i a.0 ∙ a.1))

pub cyclic_carried : (u v : Units) (f g : ℕ → ℕ) → Carries u v f g → (i : ℕ) → i < u.count → cyclic v (f i) ≡ cyclic u i
cyclic_carried u v f g c i l = go (cyclic u i) refl (cyclic v (f i)) refl
  where
    go : (a : Bool) → cyclic u i ≡ a → (b : Bool) → cyclic v (f i) ≡ b → b ≡ a
    go true e true e' = refl
    go false e false e' = refl
    go true e false e' =
        absurd (both_ways (cyclic v (f i)) e' (reach_complete v (reaches_carried u v f g c l (reach_sound u u.count i i e))))
    go false e true e' =
        absurd (both_ways (cyclic u i) e
        (reach_complete u (subst (λ z. Reaches u z z) (c.back i l)
        (reaches_carried v u g f (carries_back u v f g c) (c.there i l) (reach_sound v v.count (f i) (f i) e')))))
