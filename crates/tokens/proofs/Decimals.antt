-- Digits one by one, and the value that they write.
use Rattle.std.proofs.Common.{◌≡◌, ℕ, zero, suc, ◌+◌, ◌-◌, ◌*◌, ◌^◌, ◌<◌, ◌≤◌, Bool, true, List, [], ◌∷◌, length, get_or, take, pow-suc, arith, lit<}
use native.Mathlib.Nat.{pow-le-pow_right}
use Rattle.std.proofs.lemmas.Bool.Decides.{nat_tests}
use Rattle.tokens.specs.Bytes.{is_digit}
use Rattle.tokens.specs.Pieces.{All}

-- what passes for all passes for each
pub all_at : (p : ℕ → Bool) (bs : List ℕ) (k : ℕ) → All p bs → k < length bs → p (get_or bs k 0) ≡ true
all_at p [] k all h = absurd (omega arith)
all_at p (b ∷ bs) zero all h = all.0
all_at p (b ∷ bs) (suc k) all h = all_at p bs k all.1 (omega arith)

-- one more that passes
pub all_more : (p : ℕ → Bool) (bs : List ℕ) (k : ℕ) → All p (take k bs) → k < length bs → p (get_or bs k 0) ≡ true → All p (take (suc k) bs)
all_more p [] k all h e = absurd (omega arith)
all_more p (b ∷ bs) zero all h e = (e, tt)
all_more p (b ∷ bs) (suc k) all h e = (all.0, all_more p bs k all.1 (omega arith) e)

-- a digit is worth at most 9
pub digit_small : (b : ℕ) → is_digit b ≡ true → (48 ≤ b) × (b - 48 ≤ 9)
digit_small b e = (grind (arith, nat_tests), grind (arith, nat_tests))

-- a value below the i-th power of ten, where at most k digits are there
pub below_power : (v i k : ℕ) → v < 10 ^ i → i ≤ k → v < 10 ^ k
below_power v i k h le = omega (arith, pow-le-pow_right {n = 10} (lit< tt) le)

-- one digit more
pub next_power : (v d i : ℕ) → v < 10 ^ i → d ≤ 9 → v * 10 + d < 10 ^ suc i
next_power v d i h small = rw (pow-suc 10 i) (omega arith)
