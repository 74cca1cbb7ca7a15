-- Load orders, unit by unit.
use Rattle.std.proofs.Common.{◌≡◌, ℕ, zero, suc, ◌<◌, Bool, true, false, not, ◌&&◌, ◌||◌, eqb, ltb, List, [], ◌∷◌, ◌++◌, length, get_or, Decides, sym, refl, ap, ◌∙◌, subst, ⊎_elim, arith}
use mathlib.Core.Path.{fun_ext}
use Rattle.std.proofs.Math.Bool.{or_assoc, or_comm, or-false}
use Rattle.std.proofs.lemmas.List.{append_assoc, append-nil}
use Rattle.std.proofs.lemmas.Bool.{and_parts, and_from, lt-ltb, ltb-true, not-true, not_from_false, both_ways, or_cases, or_left, or_right, eq-eqb, eqb-true}
use Rattle.std.proofs.lemmas.Bool.Decides.{Decides-at}
use Rattle.order.specs.Units.{Units, names}
use Rattle.order.specs.Picking.{Ready, all_below, named_placed, ready, has, also}
use Rattle.order.specs.Reaching.{Reaches, direct, onward}
use Rattle.order.specs.Law.{LoadOrder, Complete, Acyclic}
use Rattle.order.proofs.Placed.{all_below_decides, implied, implies}
use Rattle.order.proofs.Closure.{named_below, reached_below}

-- ---- ready

module _ (u : Units) (placed : ℕ → Bool) (i : ℕ) where
  named : ℕ → Bool
  named j = not (names u i j) || placed j

  pub ready_told : ready u placed i ≡ true → Ready u placed i
  unfolding named
  ready_told h =
      let a = and_parts (ltb i u.count) (not (placed i) && named_placed u placed i) h in
      let b = and_parts (not (placed i)) (named_placed u placed i) a.1 in
      let c = and_parts (not (u.lacks i)) (all_below u.count named) b.1 in
      record {
        unit = ltb-true i u.count a.0;
        unplaced = not-true (placed i) b.0;
        stored = not-true (u.lacks i) c.0;
        behind = λ j n. implied (names u i j) (placed j) ((all_below_decides u.count named).0 c.1 j (named_below u i j n)) n;
      }

  pub ready_from : Ready u placed i → ready u placed i ≡ true
  unfolding named
  ready_from r =
      and_from (ltb i u.count) (not (placed i) && named_placed u placed i) (lt-ltb i u.count r.unit)
      (and_from (not (placed i)) (named_placed u placed i) (not_from_false (placed i) r.unplaced)
      (and_from (not (u.lacks i)) (all_below u.count named) (not_from_false (u.lacks i) r.stored)
      ((all_below_decides u.count named).1 (λ j l. implies (names u i j) (placed j) (r.behind j)))))

  -- all that is promised of an answer follows from its equation
  pub readied : (r : Bool) → r ≡ ready u placed i → record { value : r ≡ ready u placed i; law : Decides r (Ready u placed i) }
  readied r e = record { value = e; law = Decides-at r (ready u placed i) e (ready_told, ready_from) }

-- ---- places in a list

pub has_middle : (front : List ℕ) (i : ℕ) (rest : List ℕ) → has (front ++ i ∷ rest) i ≡ true
has_middle [] i rest = or_left (eqb i i) (has rest i) (eq-eqb i i refl)
has_middle (x ∷ xs) i rest = or_right (eqb x i) (has (xs ++ i ∷ rest) i) (has_middle xs i rest)

pub has_front : (front back : List ℕ) (i : ℕ) → has front i ≡ true → has (front ++ back) i ≡ true
has_front [] back i h = absurd (both_ways false refl h)
has_front (x ∷ xs) back i h =
    ⊎_elim (or_left (eqb x i) (has (xs ++ back) i))
    (λ h. or_right (eqb x i) (has (xs ++ back) i) (has_front xs back i h))
    (or_cases (eqb x i) (has xs i) h)

or_moves : (x y z : Bool) → (y || (x || z)) ≡ ((x || y) || z)
or_moves x y z = sym (or_assoc y x z) ∙ ap (λ b. b || z) (or_comm y x)

pub has_push : (front : List ℕ) (i j : ℕ) → has (front ++ i ∷ []) j ≡ also (has front) i j
has_push [] i j = refl
has_push (x ∷ xs) i j = ap (λ b. eqb x j || b) (has_push xs i j) ∙ or_moves (eqb i j) (eqb x j) (has xs j) ∙ or_assoc (eqb i j) (eqb x j) (has xs j)

pub has_at : (ps : List ℕ) (k : ℕ) → k < length ps → has ps (get_or ps k 0) ≡ true
has_at [] k l = absurd (omega arith)
has_at (x ∷ xs) zero l = or_left (eqb x x) (has xs x) (eq-eqb x x refl)
has_at (x ∷ xs) (suc k) l = or_right (eqb x (get_or xs k 0)) (has xs (get_or xs k 0)) (has_at xs k (omega arith))

-- where a place stands in a list
pub has_split : (ps : List ℕ) (i : ℕ) → has ps i ≡ true → (front : List ℕ) × (rest : List ℕ) × (ps ≡ front ++ i ∷ rest)
has_split [] i h = absurd (both_ways false refl h)
has_split (x ∷ xs) i h =
    ⊎_elim (λ e. ([], xs, ap (λ y. y ∷ xs) (eqb-true x i e)))
    (λ h. let s = has_split xs i h in (x ∷ s.0, s.1, ap (λ l. x ∷ l) s.2))
    (or_cases (eqb x i) (has xs i) h)

-- ---- each unit in turn is ready, and at the end all are placed

abbrev pub Runs : Units → (ℕ → Bool) → List ℕ → Type 0
Runs u placed [] = (i : ℕ) → i < u.count → placed i ≡ true
Runs u placed (q ∷ qs) = (ready u placed q ≡ true) × Runs u (also placed q) qs

pub runs_from : (u : Units) (ps : List ℕ) → LoadOrder u ps → (front qs : List ℕ) → ps ≡ front ++ qs → Runs u (has front) qs
runs_from u ps o front [] e = λ i l. subst (λ l. has l i ≡ true) (e ∙ append-nil front) (o.every i l)
runs_from u ps o front (q ∷ qs) e = (
  ready_from u (has front) q (record {
    unit = o.units q (subst (λ l. has l q ≡ true) (sym e) (has_middle front q qs));
    unplaced = o.once front q qs e;
    stored = (o.behind front q qs e).0;
    behind = (o.behind front q qs e).1;
  }),
  subst (λ p. Runs u p qs) (fun_ext (has_push front q))
      (runs_from u ps o (front ++ q ∷ []) qs (e ∙ sym (append_assoc front (q ∷ []) qs))),
)

runs_units : (u : Units) (placed : ℕ → Bool) (ps : List ℕ) → Runs u placed ps → (i : ℕ) → has ps i ≡ true → i < u.count
runs_units u placed [] r i h = absurd (both_ways false refl h)
runs_units u placed (q ∷ qs) r i h =
    ⊎_elim (λ e. subst (λ n. n < u.count) (eqb-true q i e) (ready_told u placed q r.0).unit)
    (runs_units u (also placed q) qs r.1 i)
    (or_cases (eqb q i) (has qs i) h)

runs_every : (u : Units) (placed : ℕ → Bool) (ps : List ℕ) → Runs u placed ps → (i : ℕ) → i < u.count → (has ps i || placed i) ≡ true
runs_every u placed [] r i l = r i l
runs_every u placed (q ∷ qs) r i l =
    sym (or_moves (eqb q i) (has qs i) (placed i)) ∙ runs_every u (also placed q) qs r.1 i l

runs_split : (u : Units) (placed : ℕ → Bool) (ps : List ℕ) → Runs u placed ps
    → (front : List ℕ) (i : ℕ) (rest : List ℕ) → ps ≡ front ++ i ∷ rest → ready u (λ j. has front j || placed j) i ≡ true
runs_split u placed [] r [] i rest e = cc
runs_split u placed [] r (f ∷ fs) i rest e = cc
runs_split u placed (q ∷ qs) r [] i rest e =
    let same : q ≡ i = cc in subst (λ n. ready u placed n ≡ true) same r.0
runs_split u placed (q ∷ qs) r (f ∷ fs) i rest e =
    let same : q ≡ f = cc in
    let tail : qs ≡ fs ++ i ∷ rest = cc in
    subst (λ p. ready u p i ≡ true)
    (fun_ext (λ j. or_moves (eqb q j) (has fs j) (placed j) ∙ ap (λ n. (eqb n j || has fs j) || placed j) same))
    (runs_split u (also placed q) qs r.1 fs i rest tail)

pub order_from : (u : Units) (ps : List ℕ) → Runs u (has []) ps → LoadOrder u ps
order_from u ps r = record {
  units = runs_units u (has []) ps r;
  every = λ i l. sym (or-false (has ps i)) ∙ runs_every u (has []) ps r i l;
  once = λ front i rest e. (ready_told u (has front) i (split front i rest e)).unplaced;
  behind = λ front i rest e. let r = ready_told u (has front) i (split front i rest e) in (r.stored, r.behind);
}
  where
    split : (front : List ℕ) (i : ℕ) (rest : List ℕ) → ps ≡ front ++ i ∷ rest → ready u (has front) i ≡ true
    split front i rest e =
        subst (λ p. ready u p i ≡ true) (fun_ext (λ j. or-false (has front j))) (runs_split u (has []) ps r front i rest e)

-- ---- units that have a load order name no missing unit, and none reaches itself

pub order_complete : (u : Units) (ps : List ℕ) → LoadOrder u ps → Complete u
order_complete u ps o i l = let s = has_split ps i (o.every i l) in (o.behind s.0 i s.1 s.2).0

reached_before : (u : Units) (ps : List ℕ) → LoadOrder u ps → {i j : ℕ} → Reaches u i j
    → (front rest : List ℕ) → ps ≡ front ++ i ∷ rest → has front j ≡ true
reached_before u ps o {i} {j} (direct n) front rest e = (o.behind front i rest e).1 j n
reached_before u ps o (onward {i = i} {j = m} {k = j} n r) front rest e =
    let s = has_split front m ((o.behind front i rest e).1 m n) in
    subst (λ l. has l j ≡ true) (sym s.2)
    (has_front s.0 (m ∷ s.1) j
    (reached_before u ps o r s.0 (s.1 ++ i ∷ rest)
    (e ∙ ap (λ l. l ++ i ∷ rest) s.2 ∙ append_assoc s.0 (m ∷ s.1) (i ∷ rest))))

pub order_acyclic : (u : Units) (ps : List ℕ) → LoadOrder u ps → Acyclic u
order_acyclic u ps o i r =
    let s = has_split ps i (o.every i (reached_below u r)) in
    both_ways (has s.0 i) (o.once s.0 i s.1 s.2) (reached_before u ps o r s.0 s.1 s.2)
