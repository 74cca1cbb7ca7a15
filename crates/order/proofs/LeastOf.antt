-- The least of the marked places.
use Rattle.std.proofs.Common.{◌≡◌, ℕ, zero, suc, ◌+◌, ◌<◌, Bool, true, false, cond, ◌⊎◌, IfSome, Some, None, Option, sym, refl, ap, ◌∙◌, subst, ap₂, inl, inr, ⊎_elim, add-one, arith}
use Rattle.std.specs.Option.{option_map}
use Rattle.std.proofs.lemmas.Bool.{cases_eq, both_ways}
use Rattle.order.specs.Units.{Units}
use Rattle.order.specs.Compare.{tuple}
use Rattle.order.specs.Least.{kept, best}

-- ---- as a loop goes on

module _ (mark : ℕ → Bool) (before : ℕ → ℕ → Bool) where
  pub best_skips : (i : ℕ) → mark i ≡ false → best mark before i ≡ best mark before (i + 1)
  best_skips i h = ap (λ b. kept before b i (best mark before i)) (sym h) ∙ ap (best mark before) (sym (add-one i))

  pub best_keeps : (i : ℕ) → mark i ≡ true → kept before true i (best mark before i) ≡ best mark before (i + 1)
  best_keeps i h = ap (λ b. kept before b i (best mark before i)) (sym h) ∙ ap (best mark before) (sym (add-one i))

-- ---- what the least is

-- a test of which of two places comes first: it leads on, and decides between any two
pub record Strict (before : ℕ → ℕ → Bool) : Type 0 where
  pub leads : (i j k : ℕ) → before i j ≡ true → before j k ≡ true → before i k ≡ true
  pub decides : (i j : ℕ) → (i ≡ j → ⊥) → before i j ≡ false → before j i ≡ true

abbrev pub IsBest : (ℕ → Bool) → (ℕ → ℕ → Bool) → ℕ → Option ℕ → Type 0
IsBest mark before n None = (j : ℕ) → j < n → mark j ≡ true → ⊥
IsBest mark before n (Some i) =
    (i < n) × (mark i ≡ true) × ((j : ℕ) → j < n → mark j ≡ true → (j ≡ i) ⊎ (before i j ≡ true))

pub last_or : (j n : ℕ) → j < suc n → (j ≡ n) ⊎ (j < n)
last_or j n h = ⊎_elim inl (λ ne. inr (omega arith)) (cases_eq j n)

module _ (mark : ℕ → Bool) (before : ℕ → ℕ → Bool) (strict : Strict before) where
  keeps : (n : ℕ) (o : Option ℕ) → IsBest mark before n o → (b : Bool) → mark n ≡ b → IsBest mark before (suc n) (kept before b n o)
  keeps n None h false e = λ j l m. ⊎_elim (λ s. both_ways (mark n) e (subst (λ k. mark k ≡ true) s m)) (λ l. h j l m) (last_or j n l)
  keeps n None h true e = (omega arith, e, λ j l m. ⊎_elim inl (λ l. absurd (h j l m)) (last_or j n l))
  keeps n (Some i) h false e = (
    omega arith,
    h.1,
    λ j l m. ⊎_elim (λ s. absurd (both_ways (mark n) e (subst (λ k. mark k ≡ true) s m))) (λ l. h.2 j l m) (last_or j n l),
  )
  keeps n (Some i) h true e = chosen (before n i) refl
    where
      chosen : (b : Bool) → before n i ≡ b → IsBest mark before (suc n) (Some (cond b n i))
      chosen true f = (
        omega arith,
        e,
        λ j l m. ⊎_elim inl
            (λ l. ⊎_elim (λ s. inr (subst (λ k. before n k ≡ true) (sym s) f)) (λ g. inr (strict.leads n i j f g)) (h.2 j l m))
            (last_or j n l),
      )
      chosen false f = (
        omega arith,
        h.1,
        λ j l m. ⊎_elim (λ s. inr (subst (λ k. before i k ≡ true) (sym s) (strict.decides n i (λ s. omega arith) f))) (λ l. h.2 j l m) (last_or j n l),
      )

  pub best_is : (n : ℕ) → IsBest mark before n (best mark before n)
  best_is zero = λ j l m. omega arith
  best_is (suc n) = keeps n (best mark before n) (best_is n) (mark n) refl

-- the least is below n, whatever the test
pub best_within : (mark : ℕ → Bool) (before : ℕ → ℕ → Bool) (n : ℕ) → IfSome (best mark before n) (λ i. i < n)
best_within mark before zero = tt
best_within mark before (suc n) = within (best mark before n) (best_within mark before n) (mark n)
  where
    one_of : (b : Bool) (j : ℕ) → j < n → cond b n j < suc n
    one_of true j l = omega arith
    one_of false j l = omega arith

    within : (o : Option ℕ) → IfSome o (λ i. i < n) → (b : Bool) → IfSome (kept before b n o) (λ i. i < suc n)
    within None h false = tt
    within None h true = omega arith
    within (Some j) h false = omega arith
    within (Some j) h true = one_of (before n j) j h

pub found_mapped : (u : Units) (n : ℕ) (o : Option ℕ) → IfSome o (λ i. i < n) → IfSome (option_map (tuple u) o) (λ t. t.1 < n)
found_mapped u n None h = tt
found_mapped u n (Some i) h = h

-- where two tests agree below n, their least is the same
pub best_same : (mark other : ℕ → Bool) (before : ℕ → ℕ → Bool) (n : ℕ) → ((i : ℕ) → i < n → mark i ≡ other i) → best mark before n ≡ best other before n
best_same mark other before zero h = refl
best_same mark other before (suc n) h =
    ap₂ (λ b o. kept before b n o) (h n (omega arith)) (best_same mark other before n (λ i l. h i (omega arith)))
