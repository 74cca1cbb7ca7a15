-- Where no unit is missing and none reaches itself, picking goes on until all units are placed.
use Rattle.std.proofs.Common.{◌≡◌, ℕ, zero, suc, ◌+◌, ◌<◌, ◌≤◌, Bool, true, false, cond, ◌||◌, ◌⊎◌, List, [], ◌∷◌, length, IfSome, Some, None, Option, sym, refl, ap, subst, ap₂, inl, inr, ⊎_elim, arith}
use Rattle.std.specs.Option.{option_map}
use Rattle.std.proofs.lemmas.Bool.{cases_Bool, both_ways, eq-eqb, ne_eqb}
use Rattle.order.specs.Units.{Units}
use Rattle.order.specs.Compare.{tuple, earlier}
use Rattle.order.specs.Picking.{Picked, ready, next, has, also, turn, picks, load_order}
use Rattle.order.specs.Reaching.{Reaches, direct, reach}
use Rattle.order.specs.Law.{LoadOrder, Complete, Acyclic}
use Rattle.order.proofs.LeastOf.{IsBest, best_is, best_within, found_mapped, last_or}
use Rattle.order.proofs.Precedence.{earlier_strict, tuple_told}
use Rattle.order.proofs.Closure.{reaches_on, reach_sound, reach_complete, named_below}
use Rattle.order.proofs.Runs.{ready_from, ready_told, Runs, order_from}

-- ---- some unit that is not placed is ready

module _ (u : Units) (complete : Complete u) (acyclic : Acyclic u) (placed : ℕ → Bool) where
  -- a unit below n that is not placed, and reaches no other such
  abbrev Lowest : ℕ → ℕ → Type 0
  Lowest n m = (m < n) × (placed m ≡ false) × ((j : ℕ) → j < n → placed j ≡ false → Reaches u m j → ⊥)

  abbrev Found : ℕ → Type 0
  Found n = ((j : ℕ) → j < n → placed j ≡ true) ⊎ ((m : ℕ) × Lowest n m)

  found_more : (n : ℕ) → Found n → Found (suc n)
  found_more n f = ⊎_elim marked unmarked (cases_Bool (placed n))
    where
      marked : placed n ≡ true → Found (suc n)
      marked p = ⊎_elim
          (λ all. inl (λ j l. ⊎_elim (λ s. subst (λ k. placed k ≡ true) (sym s) p) (all j) (last_or j n l)))
          (λ low. inr (
            low.0,
            (
              omega (arith, low.1.0),
              low.1.1,
              λ j l q r.
                  ⊎_elim (λ s. both_ways (placed n) (subst (λ k. placed k ≡ false) s q) p) (λ l. low.1.2 j l q r) (last_or j n l),
            ),
          ))
          f

      itself : (j : ℕ) → j ≡ n → Reaches u n j → ⊥
      itself j s r = acyclic n (subst (λ k. Reaches u n k) s r)

      on : (m : ℕ) → Lowest n m → placed n ≡ false → (reach u u.count m n ≡ true) ⊎ (reach u u.count m n ≡ false) → Found (suc n)
      on m low p (inl h) = inr (
        n,
        (
          omega arith,
          p,
          λ j l q r.
              ⊎_elim (λ s. itself j s r) (λ l. low.2 j l q (reaches_on u (reach_sound u u.count m n h) r)) (last_or j n l),
        ),
      )
      on m low p (inr h) = inr (
        m,
        (
          omega (arith, low.0),
          low.1,
          λ j l q r.
              ⊎_elim (λ s. both_ways (reach u u.count m n) h (reach_complete u (subst (λ k. Reaches u m k) s r))) (λ l. low.2 j l q r) (last_or j n l),
        ),
      )

      unmarked : placed n ≡ false → Found (suc n)
      unmarked p = ⊎_elim
          (λ all. inr (
            n,
            (
              omega arith,
              p,
              λ j l q r.
                  ⊎_elim (λ s. itself j s r) (λ l. both_ways (placed j) q (all j l)) (last_or j n l),
            ),
          ))
          (λ low. on low.0 low.1 p (cases_Bool (reach u u.count low.0 n)))
          f

  found_all : (n : ℕ) → Found n
  found_all zero = inl (λ j l. absurd (omega arith))
  found_all (suc n) = found_more n (found_all n)

  lowest_ready : (m : ℕ) → Lowest u.count m → ready u placed m ≡ true
  lowest_ready m low = ready_from u placed m (record {
    unit = low.0;
    unplaced = low.1;
    stored = complete m low.0;
    behind = λ j n. ⊎_elim (λ h. h) (λ h. absurd (low.2 j (named_below u m j n) h (direct n))) (cases_Bool (placed j));
  })

  pub all_or_ready : ((j : ℕ) → j < u.count → placed j ≡ true) ⊎ ((m : ℕ) × (m < u.count) × (ready u placed m ≡ true))
  all_or_ready = ⊎_elim inl (λ low. inr (low.0, low.1.0, lowest_ready low.0 low.1)) (found_all u.count)

-- the next unit, told by what it is
pub next_is : (u : Units) (placed : ℕ → Bool) → IsBest (ready u placed) (earlier u) u.count (next u placed)
next_is u placed = best_is (ready u placed) (earlier u) (earlier_strict u) u.count

picked_law : (u : Units) (placed : ℕ → Bool) (o : Option ℕ) → IsBest (ready u placed) (earlier u) u.count o
    → Picked u placed (option_map (tuple u) o)
picked_law u placed None b = λ i r. b i r.unit (ready_from u placed i r)
picked_law u placed (Some p) b = (
  refl,
  ready_told u placed p b.1,
  λ j r. ⊎_elim inl (λ e. inr (tuple_told u (tuple u p) (tuple u j) e)) (b.2 j r.unit (ready_from u placed j r)),
)

-- all that is promised of a pick follows from its equation
pub picked_all : (u : Units) (placed : ℕ → Bool) (r : Option (ℕ × ℕ)) → r ≡ option_map (tuple u) (next u placed)
    → record {
      value : r ≡ option_map (tuple u) (next u placed);
      law : Picked u placed r;
      within : IfSome r (λ t. t.1 < u.count);
    }
picked_all u placed r e = record {
  value = e;
  law = subst (Picked u placed) (sym e) (picked_law u placed (next u placed) (next_is u placed));
  within = subst (λ o. IfSome o (λ t. t.1 < u.count)) (sym e)
      (found_mapped u u.count (next u placed) (best_within (ready u placed) (earlier u) u.count));
}

-- ---- how many places below n are marked

abbrev pub digit : Bool → ℕ
digit b = cond b 1 0

digit_le : (b : Bool) → digit b ≤ 1
digit_le true = omega arith
digit_le false = omega arith

digit_true : (b : Bool) → digit b ≡ 1 → b ≡ true
digit_true true e = refl
digit_true false e = absurd (omega arith)

abbrev pub tally : ℕ → (ℕ → Bool) → ℕ
tally zero placed = 0
tally (suc n) placed = digit (placed n) + tally n placed

tally_none : (n : ℕ) → tally n (has []) ≡ 0
tally_none zero = refl
tally_none (suc n) = omega (arith, tally_none n)

tally_le : (n : ℕ) (placed : ℕ → Bool) → tally n placed ≤ n
tally_le zero placed = omega arith
tally_le (suc n) placed = omega (arith, digit_le (placed n), tally_le n placed)

tally_full : (n : ℕ) (placed : ℕ → Bool) → tally n placed ≡ n → (j : ℕ) → j < n → placed j ≡ true
tally_full zero placed e j l = absurd (omega arith)
tally_full (suc n) placed e j l =
    let d : digit (placed n) ≡ 1 = omega (arith, digit_le (placed n), tally_le n placed) in
    let t : tally n placed ≡ n = omega (arith, digit_le (placed n), tally_le n placed) in
    ⊎_elim (λ s. subst (λ k. placed k ≡ true) (sym s) (digit_true (placed n) d)) (tally_full n placed t j) (last_or j n l)

tally_all : (n : ℕ) (placed : ℕ → Bool) → ((j : ℕ) → j < n → placed j ≡ true) → tally n placed ≡ n
tally_all zero placed h = refl
tally_all (suc n) placed h =
    let d : digit (placed n) ≡ 1 = ap digit (h n (omega arith)) in
    let t : tally n placed ≡ n = tally_all n placed (λ j l. h j (omega arith)) in
    omega arith

tally_same : (n i : ℕ) (placed : ℕ → Bool) → n ≤ i → tally n (also placed i) ≡ tally n placed
tally_same zero i placed h = refl
tally_same (suc n) i placed h =
    ap₂ (λ a b. a + b) (ap (λ b. digit (b || placed n)) (ne_eqb i n (λ e. omega arith))) (tally_same n i placed (omega arith))

tally_also : (n i : ℕ) (placed : ℕ → Bool) → i < n → placed i ≡ false → tally n (also placed i) ≡ suc (tally n placed)
tally_also zero i placed l e = absurd (omega arith)
tally_also (suc n) i placed l e =
    ⊎_elim
    (λ (s : i ≡ n).
    let new : digit (also placed i n) ≡ 1 = ap (λ b. digit (b || placed n)) (eq-eqb i n s) in
    let old : digit (placed n) ≡ 0 = ap digit (subst (λ k. placed k ≡ false) s e) in
    omega (arith, new, old, tally_same n i placed (omega arith)))
    (λ (lt : i < n).
    let same : digit (also placed i n) ≡ digit (placed n) = ap (λ b. digit (b || placed n)) (ne_eqb i n (λ s. omega arith)) in
    omega (arith, same, tally_also n i placed lt e))
    (last_or i n l)

-- ---- picking to the end

pub runs_long : (u : Units) (placed : ℕ → Bool) (ps : List ℕ) → Runs u placed ps → tally u.count placed + length ps ≡ u.count
runs_long u placed [] r = omega (arith, tally_all u.count placed r)
runs_long u placed (q ∷ qs) r =
    let told = ready_told u placed q r.0 in
    omega (arith, runs_long u (also placed q) qs r.1, tally_also u.count q placed told.unit told.unplaced)

module _ (u : Units) (complete : Complete u) (acyclic : Acyclic u) where
  abbrev Goes : ℕ → Type 0
  Goes n = (placed : ℕ → Bool) → tally u.count placed + n ≡ u.count → Runs u placed (picks u n placed)

  goes_more : (n : ℕ) → Goes n → Goes (suc n)
  goes_more n goes placed e = ⊎_elim
      (λ all. absurd (omega (arith, tally_all u.count placed all)))
      (λ m. picked m.0 m.1 m.2 (next u placed) (next_is u placed))
      (all_or_ready u complete acyclic placed)
    where
      picked : (m : ℕ) → m < u.count → ready u placed m ≡ true → (o : Option ℕ) → IsBest (ready u placed) (earlier u) u.count o
          → Runs u placed (turn o (λ i. picks u n (also placed i)))
      picked m l r None best = absurd (best m l r)
      picked m l r (Some p) best = (
        best.1,
        goes (also placed p) (omega (arith, tally_also u.count p placed best.0 (ready_told u placed p best.1).unplaced)),
      )

  goes_all : (n : ℕ) → Goes n
  goes_all zero placed e = tally_full u.count placed (omega arith)
  goes_all (suc n) placed e = goes_more n (goes_all n) placed e

  pub load_order_runs : Runs u (has []) (load_order u)
  load_order_runs = goes_all u.count (has []) (omega (arith, tally_none u.count))

  pub load_order_long : length (load_order u) ≡ u.count
  load_order_long = omega (arith, tally_none u.count, runs_long u (has []) (load_order u) load_order_runs)

  pub load_order_is : LoadOrder u (load_order u)
  load_order_is = order_from u (load_order u) load_order_runs
