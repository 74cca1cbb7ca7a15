-- Tests at each place below a number, and the ready units.
use Rattle.std.proofs.Common.{◌≡◌, ℕ, ◌/◌, ◌^◌, ◌<◌, ◌≤◌, Bool, true, false, not, ◌&&◌, ◌||◌, eqb, ltb, Decides, refl, ap, le_trans, div-lt_iff_lt-mul, arith, pow_pos, pow_mono}
use native.Mathlib.Nat.{div-eq_of_lt}
use lib.Bits.{bit_and}
use Rattle.std.proofs.lemmas.Bool.{lt-ltb, and_from, and_parts, both_ways, eqb-true, not-false}
use Rattle.std.proofs.lemmas.Bool.Decides.{same_from_decides, Decides-eqb, Decides-below_and}
use Rattle.order.specs.Picking.{all_below}
use Rattle.order.specs.Seen.{bit}
use Rattle.order.proofs.Bit.{and_all, bit_in_and}

pub all_below_decides : (n : ℕ) (test : ℕ → Bool) → Decides (all_below n test) ((j : ℕ) → j < n → test j ≡ true)
all_below_decides n test =
    Decides-below_and test (λ j. test j ≡ true) (λ n. all_below n test) (λ j. ((λ h. h), (λ h. h))) refl (λ n. refl) n

-- `not x || y` is an implication
pub implied : (x y : Bool) → (not x || y) ≡ true → x ≡ true → y ≡ true
implied true y h e = h
implied false y h e = absurd (both_ways false refl e)

pub implies : (x y : Bool) → (x ≡ true → y ≡ true) → (not x || y) ≡ true
implies true y h = h refl
implies false y h = refl

pub needs_below : (n m : ℕ) → m / 2 ^ n ≡ 0 → m < 2 ^ n
needs_below n m e = omega (arith, (div-lt_iff_lt-mul {k = 2 ^ n} {x = m} {y = 1} (pow_pos n)).0 (omega arith))

-- all named places are placed: as one test on the bits
pub all_placed : (n needs placed : ℕ) → needs / 2 ^ n ≡ 0
    → eqb (bit_and needs placed) needs ≡ all_below n (λ j. not (ltb j n && bit needs j) || bit placed j)
all_placed n needs placed e =
    same_from_decides (eqb (bit_and needs placed) needs) (all_below n (λ j. not (ltb j n && bit needs j) || bit placed j))
    (Decides-eqb (bit_and needs placed) needs) (
      (λ h. and_all n needs placed (needs_below n needs e) (λ j l b.
          implied (ltb j n && bit needs j) (bit placed j)
          ((all_below_decides n (λ j. not (ltb j n && bit needs j) || bit placed j)).0 h j l)
          (and_from (ltb j n) (bit needs j) (lt-ltb j n l) b))),
      (λ h. (all_below_decides n (λ j. not (ltb j n && bit needs j) || bit placed j)).1 (λ j l.
          implies (ltb j n && bit needs j) (bit placed j)
          (λ b. bit_in_and needs placed j h (and_parts (ltb j n) (bit needs j) b).1))),
    )

-- marks of 16 bits name no place from 16 on
pub none_beyond : (n m : ℕ) → m < 2 ^ 16 → 16 ≤ n → eqb (m / 2 ^ n) 0 ≡ true
none_beyond n m h l = ap (λ k. eqb k 0) (div-eq_of_lt (le_trans h (pow_mono l)))

pub all_within : (needs placed n : ℕ) → not (eqb (needs / 2 ^ n) 0) ≡ false
    → eqb (bit_and needs placed) needs ≡ all_below n (λ j. not (ltb j n && bit needs j) || bit placed j)
all_within needs placed n h = all_placed n needs placed (eqb-true (needs / 2 ^ n) 0 (not-false (eqb (needs / 2 ^ n) 0) h))
