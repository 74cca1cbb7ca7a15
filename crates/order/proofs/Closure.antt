-- Reaching by naming, and the rows of marks that say it.
use Rattle.std.proofs.Common.{◌≡◌, ℕ, zero, suc, ◌+◌, ◌<◌, ◌≤◌, Bool, true, false, cond, ◌&&◌, ◌||◌, ltb, ◌⊎◌, List, length, get_or, set, sym, refl, ap, ◌∙◌, subst, ap₂, inl, inr, ⊎_elim, add-one, arith}
use lib.Bits.{bit_or}
use Rattle.std.proofs.Math.Bool.{or-false}
use Rattle.std.proofs.lemmas.List.{length-set, get_or-set_same, get_or-set_other, set-get_or}
use Rattle.std.proofs.lemmas.Bool.{cases_eq, lt-ltb, ltb-true, and_parts, and_from, or_cases, or_left, or_right}
use Rattle.order.specs.Units.{Units, names}
use Rattle.order.specs.Reaching.{Reaches, direct, onward, reach}
use Rattle.order.specs.Rows.{joined, Rows}
use Rattle.order.specs.Seen.{bit}
use Rattle.order.proofs.Bit.{bit_or_lem}

-- ---- rows

pub row_joined : (row k via j : ℕ) → bit row k ≡ true → bit (bit_or row via) j ≡ (bit row j || (bit row k && bit via j))
row_joined row k via j h = bit_or_lem row via j ∙ ap (λ b. bit row j || (b && bit via j)) (sym h)

pub row_kept : (row k via j : ℕ) → bit row k ≡ false → bit row j ≡ (bit row j || (bit row k && bit via j))
row_kept row k via j h = sym (or-false (bit row j)) ∙ ap (λ b. bit row j || (b && bit via j)) (sym h)

-- row via is taken up where row has bit k
pub row_through : (row k via j : ℕ) → bit (cond (bit row k) (bit_or row via) row) j ≡ (bit row j || (bit row k && bit via j))
row_through row k via j = by_bit (bit row k) refl
  where
    by_bit : (b : Bool) → bit row k ≡ b → bit (cond b (bit_or row via) row) j ≡ (bit row j || (bit row k && bit via j))
    by_bit true h = row_joined row k via j h
    by_bit false h = row_kept row k via j h

pub rows_more : (u : Units) (k : ℕ) (rows r : List ℕ) → k < u.count → u.count ≤ 16 → Rows u k rows
    → ((i j : ℕ) → i < 16 → bit (get_or r i 0) j ≡ joined rows k i j) → Rows u (k + 1) r
rows_more u k rows r kn n16 h e i j li lj =
    e i j (omega arith)
    ∙ ap₂ (λ a b. a || b) (h i j li lj) (ap₂ (λ a b. a && b) (h i k li kn) (h k j kn lj))
    ∙ ap (λ n. reach u n i j) (sym (add-one k))

-- the rows below i are joined, the others as they were
abbrev pub Through : List ℕ → ℕ → ℕ → List ℕ → Type 0
Through old k i rows =
    (length rows ≡ 16)
    × ((a j : ℕ) → a < i → bit (get_or rows a 0) j ≡ joined old k a j)
    × ((a : ℕ) → i ≤ a → get_or rows a 0 ≡ get_or old a 0)

pub through_more : (old rows : List ℕ) (k i row : ℕ) → i < 16 → Through old k i rows
    → ((j : ℕ) → bit row j ≡ joined old k i j) → Through old k (i + 1) (set rows i row)
through_more old rows k i row i16 h e = (
  length-set rows i row ∙ h.0,
  (λ a j l. ⊎_elim
      (λ (s : a ≡ i). subst (λ a. bit (get_or (set rows i row) a 0) j ≡ joined old k a j) (sym s)
      (ap (λ r. bit r j) (get_or-set_same rows i row 0 (omega (arith, h.0))) ∙ e j))
      (λ ne. ap (λ r. bit r j) (get_or-set_other rows i a row 0 ne) ∙ h.1 a j (omega arith))
      (cases_eq a i)),
  λ a l. get_or-set_other rows i a row 0 (λ s. omega arith) ∙ h.2 a (omega arith),
)

pub through_same : (old rows : List ℕ) (k i : ℕ) → i < 16 → Through old k i rows
    → ((j : ℕ) → bit (get_or rows i 0) j ≡ joined old k i j) → Through old k (i + 1) rows
through_same old rows k i i16 h e = subst (Through old k (i + 1)) (set-get_or rows i 0) (through_more old rows k i (get_or rows i 0) i16 h e)

-- the row at i takes up row k where it has bit k
pub turn_joins : (old rows rows' : List ℕ) (k i : ℕ) → i < 16 → Through old k i rows → bit (get_or rows i 0) k ≡ true
    → rows' ≡ set rows i (bit_or (get_or rows i 0) (get_or old k 0)) → Through old k (i + 1) rows'
turn_joins old rows rows' k i i16 h t e =
    subst (Through old k (i + 1)) (sym e)
    (through_more old rows k i (bit_or (get_or rows i 0) (get_or old k 0)) i16 h
    (λ j. row_joined (get_or rows i 0) k (get_or old k 0) j t ∙ ap (λ r. bit r j || (bit r k && bit (get_or old k 0) j)) (h.2 i (omega arith))))

pub turn_keeps : (old rows rows' : List ℕ) (k i : ℕ) → i < 16 → Through old k i rows → bit (get_or rows i 0) k ≡ false
    → rows' ≡ rows → Through old k (i + 1) rows'
turn_keeps old rows rows' k i i16 h t e =
    subst (Through old k (i + 1)) (sym e)
    (through_same old rows k i i16 h
    (λ j. row_kept (get_or rows i 0) k (get_or old k 0) j t ∙ ap (λ r. bit r j || (bit r k && bit (get_or old k 0) j)) (h.2 i (omega arith))))

-- the rows at first
pub rows_none : (u : Units) (rows : List ℕ) → ((i j : ℕ) → i < u.count → bit (get_or rows i 0) j ≡ u.marks i j) → Rows u 0 rows
rows_none u rows h i j li lj = h i j li ∙ ap (λ b. b && u.marks i j) (sym (lt-ltb j u.count lj))

-- ---- reaching

module _ (u : Units) where
  pub reaches_on : {i j k : ℕ} → Reaches u i j → Reaches u j k → Reaches u i k
  reaches_on (direct n) r = onward n r
  reaches_on (onward n m) r = onward n (reaches_on m r)

  pub reach_sound : (k i j : ℕ) → reach u k i j ≡ true → Reaches u i j
  reach_sound zero i j h = direct h
  reach_sound (suc k) i j h =
      ⊎_elim (reach_sound k i j)
      (λ h. let p = and_parts (reach u k i k) (reach u k k j) h in reaches_on (reach_sound k i k p.0) (reach_sound k k j p.1))
      (or_cases (reach u k i j) (reach u k i k && reach u k k j) h)

  reach_more : (k i j : ℕ) → reach u k i j ≡ true → reach u (suc k) i j ≡ true
  reach_more k i j h = or_left (reach u k i j) (reach u k i k && reach u k k j) h

  reach_by : (k i j : ℕ) → reach u k i k ≡ true → reach u k k j ≡ true → reach u (suc k) i j ≡ true
  reach_by k i j p q =
      or_right (reach u k i j) (reach u k i k && reach u k k j) (and_from (reach u k i k) (reach u k k j) p q)

  reach_cases : (k i j : ℕ) → reach u (suc k) i j ≡ true
      → (reach u k i j ≡ true) ⊎ ((reach u k i k ≡ true) × (reach u k k j ≡ true))
  reach_cases k i j h =
      ⊎_elim inl (λ h. inr (and_parts (reach u k i k) (reach u k k j) h)) (or_cases (reach u k i j) (reach u k i k && reach u k k j) h)

  -- what goes by way of a place below k is there
  abbrev Joins : ℕ → Type 0
  Joins k = (i m j : ℕ) → m < k → reach u k i m ≡ true → reach u k m j ≡ true → reach u k i j ≡ true

  joins_more : (k : ℕ) → Joins k → Joins (suc k)
  joins_more k joins i m j l p q = ⊎_elim at_k below (cases_eq m k)
    where
      to_k : reach u (suc k) i k ≡ true → reach u k i k ≡ true
      to_k h = ⊎_elim (λ h. h) (λ h. h.0) (reach_cases k i k h)

      from_k : reach u (suc k) k j ≡ true → reach u k k j ≡ true
      from_k h = ⊎_elim (λ h. h) (λ h. h.1) (reach_cases k k j h)

      at_k : m ≡ k → reach u (suc k) i j ≡ true
      at_k s =
          reach_by k i j (to_k (subst (λ m. reach u (suc k) i m ≡ true) s p)) (from_k (subst (λ m. reach u (suc k) m j ≡ true) s q))

      below : (m ≡ k → ⊥) → reach u (suc k) i j ≡ true
      below ne =
          let lt : m < k = omega arith in
          ⊎_elim
          (λ a. ⊎_elim (λ b. reach_more k i j (joins i m j lt a b))
          (λ b. reach_by k i j (joins i m k lt a b.0) b.1) (reach_cases k m j q))
          (λ a. ⊎_elim (λ b. reach_by k i j a.0 (joins k m j lt a.1 b)) (λ b. reach_by k i j a.0 b.1) (reach_cases k m j q))
          (reach_cases k i m p)

  reach_joins : (k : ℕ) → Joins k
  reach_joins zero i m j l p q = absurd (omega arith)
  reach_joins (suc k) i m j l p q = joins_more k (reach_joins k) i m j l p q

  reach_direct : (k i j : ℕ) → names u i j ≡ true → reach u k i j ≡ true
  reach_direct zero i j h = h
  reach_direct (suc k) i j h = reach_more k i j (reach_direct k i j h)

  pub named_below : (i j : ℕ) → names u i j ≡ true → j < u.count
  named_below i j h = ltb-true j u.count (and_parts (ltb j u.count) (u.marks i j) h).0

  pub reached_below : {i j : ℕ} → Reaches u i j → j < u.count
  reached_below {i} {j} (direct n) = named_below i j n
  reached_below (onward n r) = reached_below r

  pub reach_complete : {i j : ℕ} → Reaches u i j → reach u u.count i j ≡ true
  reach_complete {i} {j} (direct n) = reach_direct u.count i j n
  reach_complete (onward {i = i} {j = m} {k = j} n r) =
      reach_joins u.count i m j (named_below i m n) (reach_direct u.count i m n) (reach_complete r)
