-- The bits of a number.
use Rattle.std.proofs.Common.{◌≡◌, ℕ, suc, ◌/◌, ◌%◌, ◌^◌, ◌<◌, ◌≤◌, min, max, Bool, true, false, ◌&&◌, ◌||◌, eqb, sym, refl, ap, ◌∙◌, ⊎_elim, div-one, arith}
use native.Mathlib.Nat.{div-div-eq-div-mul, pow-succ'}
use lib.Bits.{bit_and, bit_or, and_le_l}
use Rattle.std.proofs.lemmas.Bool.{and_parts, cases_eq, eq-eqb, ne_eqb}
use Rattle.std.proofs.lemmas.Bool.Decides.{nat_tests}
use Rattle.std.proofs.lemmas.Nat.Bits.{bit_at_and, bit_at_or, bit_at-lt, bit_at_above, bit_at-pow_same, bit_at-pow_other, same_from_bits_below}
use Rattle.order.specs.Seen.{bit}

pub bit_past : (m k j : ℕ) → m < 2 ^ k → k ≤ j → bit m j ≡ false
bit_past m k j h le = ap (λ n. eqb n 1) (bit_at_above m k j h le)

pub bit_zero : (m : ℕ) → bit m 0 ≡ eqb (m % 2) 1
bit_zero m = ap (λ n. eqb (n % 2) 1) (div-one m)

pub bit_suc : (m j : ℕ) → bit m (suc j) ≡ bit (m / 2) j
bit_suc m j = ap (λ n. eqb (n % 2) 1) (ap (λ n. m / n) (pow-succ' 2 j) ∙ sym (div-div-eq-div-mul m 2 (2 ^ j)))

or_digit : (x y : ℕ) → x < 2 → y < 2 → eqb (max x y) 1 ≡ (eqb x 1 || eqb y 1)
or_digit x y hx hy = grind (arith, nat_tests)

pub bit_or_lem : (a b j : ℕ) → bit (bit_or a b) j ≡ (bit a j || bit b j)
bit_or_lem a b j =
    ap (λ n. eqb n 1) (bit_at_or a b j) ∙ or_digit (a / 2 ^ j % 2) (b / 2 ^ j % 2) (bit_at-lt a j) (bit_at-lt b j)

and_digit : (x y : ℕ) → x < 2 → y < 2 → eqb (min x y) 1 ≡ (eqb x 1 && eqb y 1)
and_digit x y hx hy = grind (arith, nat_tests)

pub bit_and_lem : (a b j : ℕ) → bit (bit_and a b) j ≡ (bit a j && bit b j)
bit_and_lem a b j =
    ap (λ n. eqb n 1) (bit_at_and a b j) ∙ and_digit (a / 2 ^ j % 2) (b / 2 ^ j % 2) (bit_at-lt a j) (bit_at-lt b j)

pub bit_pow : (k j : ℕ) → bit (2 ^ k) j ≡ eqb k j
bit_pow k j =
    ⊎_elim
    (λ e. ap (bit (2 ^ k)) (sym e) ∙ ap (λ n. eqb n 1) (bit_at-pow_same k) ∙ sym (eq-eqb k j e))
    (λ ne. ap (λ n. eqb n 1) (bit_at-pow_other k j (λ e. ne (sym e))) ∙ sym (ne_eqb k j ne))
    (cases_eq k j)

same_digit : (x y : ℕ) → x < 2 → y < 2 → eqb x 1 ≡ eqb y 1 → x ≡ y
same_digit x y hx hy h = grind (arith, nat_tests)

-- numbers below 2 ^ k are equal when their bits are
pub bits_same : (k a b : ℕ) → a < 2 ^ k → b < 2 ^ k → ((j : ℕ) → j < k → bit a j ≡ bit b j) → a ≡ b
bits_same k a b ha hb h =
    same_from_bits_below k a b ha hb
    (λ j l. same_digit (a / 2 ^ j % 2) (b / 2 ^ j % 2) (bit_at-lt a j) (bit_at-lt b j) (h j l))

and_absorbs : (x y : Bool) → (x ≡ true → y ≡ true) → (x && y) ≡ x
and_absorbs true y h = h refl
and_absorbs false y h = refl

-- the bits of a number below 2 ^ k are all set in another too
pub and_all : (k a b : ℕ) → a < 2 ^ k → ((j : ℕ) → j < k → bit a j ≡ true → bit b j ≡ true) → bit_and a b ≡ a
and_all k a b ha h =
    bits_same k (bit_and a b) a (omega (arith, and_le_l a b)) ha
    (λ j l. bit_and_lem a b j ∙ and_absorbs (bit a j) (bit b j) (h j l))

pub bit_in_and : (a b j : ℕ) → bit_and a b ≡ a → bit a j ≡ true → bit b j ≡ true
bit_in_and a b j e h =
    (and_parts (bit a j) (bit b j) (sym (bit_and_lem a b j) ∙ ap (λ n. bit n j) e ∙ h)).1
