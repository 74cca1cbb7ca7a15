-- Numbers as digits to the base 256, and back.
use Rattle.std.proofs.Common.{◌≡◌, ℕ, zero, suc, ◌+◌, ◌-◌, ◌*◌, ◌/◌, ◌%◌, ◌^◌, ◌<◌, ◌≤◌, List, [], ◌∷◌, length, get_or, take, drop, sym, refl, ap, ◌∙◌, mod-eq_of_lt, mul_assoc, mul_comm, add-mul, pow-suc, add-one, arith, lit<}
use native.Mathlib.Nat.{pow-le-pow_right, pow-zero, mod-one}
use lib.Arith.{mod-mul}
use Rattle.std.specs.Int.Digits.{number_from_digits, number_from_digits_after}
use Rattle.std.proofs.lemmas.Int.Digits.{number_more}
use Rattle.std.proofs.lemmas.List.{take_all, length-drop, get_or-drop}
use Rattle.std.specs.Int.{byte_worth, bytes_high_first, sum_through}
use Rattle.store.specs.Numbers.{spread, gather}

-- a power of 256 is positive
pub power_pos : (k : ℕ) → 0 < 256 ^ k
power_pos zero = lit< tt
power_pos (suc k) = rw (pow-suc 256 k) (omega (arith, power_pos k))

pub length_spread : (k n : ℕ) → length (spread k n) ≡ k
unfolding spread
length_spread zero n = refl
length_spread (suc k) n = ap suc (length_spread k n)

-- what stands before the digits counts for each of them
pub number_after : (n : ℕ) (ds : List ℕ) → number_from_digits_after 256 n ds ≡ n * 256 ^ length ds + number_from_digits 256 ds
number_after n [] = omega arith
number_after n (d ∷ ds) =
    number_after (n * 256 + d) ds ∙ (
    let e = number_after (0 * 256 + d) ds in
    let p = pow-suc 256 (length ds) in
    let q = add-mul (n * 256) d (256 ^ length ds) in
    let r = mul_assoc n 256 (256 ^ length ds) in
    let s : (0 * 256 + d) * 256 ^ length ds ≡ d * 256 ^ length ds = ap (λ x. x * 256 ^ length ds) (omega arith) in
    let t : n * 256 ^ suc (length ds) ≡ n * (256 * 256 ^ length ds) = ap (λ x. n * x) (p ∙ mul_comm (256 ^ length ds) 256) in
    omega arith)

-- the first digit counts for all behind it
pub number_first : (d : ℕ) (ds : List ℕ) → number_from_digits 256 (d ∷ ds) ≡ d * 256 ^ length ds + number_from_digits 256 ds
number_first d ds = number_after (0 * 256 + d) ds ∙ ap (λ x. x * 256 ^ length ds + number_from_digits 256 ds) (omega arith)

-- the digits of a number write its lowest part
pub gather_spread_mod : (k n : ℕ) → gather (spread k n) ≡ n % 256 ^ k
unfolding spread
gather_spread_mod zero n = sym (ap (λ x. n % x) (pow-zero 256) ∙ mod-one n)
gather_spread_mod (suc k) n =
    number_first ((n / 256 ^ k) % 256) (spread k n)
    ∙ (rw (length_spread k n) (ap (λ x. (n / 256 ^ k) % 256 * 256 ^ k + x) (gather_spread_mod k n)))
    ∙ sym (ap (λ x. n % x) (pow-suc 256 k ∙ mul_comm (256 ^ k) 256) ∙ mod-mul n (lit< tt) (power_pos k))

-- a number comes back from enough digits
pub gather_spread : (k n : ℕ) → n < 256 ^ k → gather (spread k n) ≡ n
gather_spread k n h = gather_spread_mod k n ∙ mod-eq_of_lt h

-- one digit more, where at most k digits are there
pub next_below : (v b i : ℕ) → v < 256 ^ i → b < 256 → v * 256 + b < 256 ^ (i + 1)
next_below v b i h small = rw (add-one i, pow-suc 256 i) (omega arith)

pub below_power : (v i k : ℕ) → v < 256 ^ i → i ≤ k → v < 256 ^ k
below_power v i k h le = omega (arith, pow-le-pow_right {n = 256} (lit< tt) le)

-- one digit more is written in front of those that stand
pub spread_more : (k n : ℕ) → spread (k + 1) n ≡ ((n / 256 ^ k) % 256) ∷ spread k n
unfolding spread
spread_more k n = rw (add-one k)

-- the digits are the bytes that the library writes, the highest first
pub high_first : (k n : ℕ) → bytes_high_first k n ≡ spread k n
unfolding spread
high_first zero n = refl
high_first (suc zero) n = let one : n ≡ n / 1 = omega arith in ap (λ m. (m % 256) ∷ []) one
high_first (suc (suc k)) n = ap (λ ds. ((n / 256 ^ suc k) % 256) ∷ ds) (high_first (suc k) n)

worth : (k b : ℕ) → byte_worth k b ≡ b * 256 ^ k
worth zero b = omega arith
worth (suc k) b = refl

shifted : (g w b : ℕ) → g * (w * 256) + b * w ≡ (g * 256 + b) * w
shifted g w b = grind arith

-- the number that the library reads of some bytes is the one of their digits
pub gathered : (k : ℕ) (bs : List ℕ) → length bs ≡ suc k → sum_through (λ i. byte_worth (k - i) (get_or bs i 0)) k ≡ gather bs
gathered k bs long =
    let none : k - k ≡ 0 = omega arith in
    so_far k (omega arith) ∙ ap (λ n. gather (take (k + 1) bs) * 256 ^ n) none ∙ (let all = take_all (k + 1) bs (omega arith) in omega (arith, ap gather all))
  where
    so_far : (j : ℕ) → j ≤ k → sum_through (λ i. byte_worth (k - i) (get_or bs i 0)) j ≡ gather (take (j + 1) bs) * 256 ^ (k - j)
    so_far zero h =
        let first : get_or bs 0 0 ≡ gather (take 1 bs) = omega (arith, number_more 256 bs 0 (omega arith)) in
        worth (k - 0) (get_or bs 0 0) ∙ ap (λ n. n * 256 ^ (k - 0)) first
    so_far (suc j) h =
        let more : k - j ≡ suc (k - suc j) = omega arith in
        let power = ap (λ n. 256 ^ n) more ∙ pow-suc 256 (k - suc j) in
        let digit = rw (add-one j) at (number_more 256 bs (j + 1) (omega arith)) in
        let g = gather (take (suc j) bs) in
        let w = 256 ^ (k - suc j) in
        let b = get_or bs (suc j) 0 in
        let before = rw (add-one j) at (so_far j (omega arith)) in
        ap (λ x. x + byte_worth (k - suc j) b) (before ∙ ap (λ x. g * x) power) ∙ ap (λ x. g * (w * 256) + x) (worth (k - suc j) b) ∙ shifted g w b ∙ ap (λ x. x * w) (sym digit)

-- a byte is a number of one digit
pub gather_one : (s : List ℕ) (k : ℕ) → k < length s → gather (take 1 (drop k s)) ≡ get_or s k 0
gather_one s k h =
    let same = get_or-drop k s 0 0 ∙ ap (λ m. get_or s m 0) (let e : k + 0 ≡ k = omega arith in e) in
    omega (arith, number_more 256 (drop k s) 0 (omega (arith, length-drop k s)), same)
