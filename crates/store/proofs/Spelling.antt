-- From the number of a name back to its bytes.
use Rattle.std.proofs.Common.{◌≡◌, ℕ, zero, suc, ◌+◌, ◌-◌, ◌*◌, ◌/◌, ◌%◌, ◌^◌, ◌<◌, true, cond, not, eqb, List, [], ◌∷◌, ◌++◌, length, replicate, unwrap_or, sym, refl, ap, ◌∙◌, subst, mod-lt, arith, lit<}
use lib.Arith.{digits_div, digits_mod}
use Rattle.std.specs.Int.Digits.{number_from_digits, AllBelowBase}
use Rattle.std.proofs.lemmas.Int.Digits.{number_lt}
use Rattle.std.proofs.lemmas.List.{length-append, length-replicate}
use Rattle.std.proofs.lemmas.Bool.{and_parts, not-true}
use Rattle.std.proofs.lemmas.List.Recursion.{is_position_or_len}
use Rattle.std.specs.List.{position}
use Rattle.store.proofs.Seats.{position_or}
use Rattle.store.specs.Numbers.{spread}
use Rattle.store.specs.Names.{no_zero, front, Spells, Sizes}
use Rattle.store.proofs.Digits.{number_first, length_spread, gather_spread}
use Rattle.store.proofs.Order.{number_is, name_parts}
use Rattle.store.proofs.Done.{under_pad}

-- digits of one number and one count are the same
pub digits_same : (a b : List ℕ) → length a ≡ length b → AllBelowBase 256 a → AllBelowBase 256 b → number_from_digits 256 a ≡ number_from_digits 256 b → a ≡ b
digits_same [] [] h ua ub e = refl
digits_same [] (y ∷ ys) h ua ub e = absurd (omega arith)
digits_same (x ∷ xs) [] h ua ub e = absurd (omega arith)
digits_same (x ∷ xs) (y ∷ ys) h ua ub e =
    let n : length xs ≡ length ys = omega arith in
    let w = 256 ^ length ys in
    let ex : number_from_digits 256 (x ∷ xs) ≡ x * w + number_from_digits 256 xs = number_first x xs ∙ ap (λ k. x * 256 ^ k + number_from_digits 256 xs) n in
    let lx : number_from_digits 256 xs < w = subst (λ k. number_from_digits 256 xs < 256 ^ k) n (number_lt 256 xs ua.1) in
    let ly : number_from_digits 256 ys < w = number_lt 256 ys ub.1 in
    let same : x * w + number_from_digits 256 xs ≡ y * w + number_from_digits 256 ys = sym ex ∙ e ∙ number_first y ys in
    let first : x ≡ y = sym (digits_div x lx) ∙ ap (λ v. v / w) same ∙ digits_div y ly in
    let rest : number_from_digits 256 xs ≡ number_from_digits 256 ys = sym (digits_mod x lx) ∙ ap (λ v. v % w) same ∙ digits_mod y ly in
    let more = digits_same xs ys n ua.1 ub.1 rest in cc

under_spread : (k n : ℕ) → AllBelowBase 256 (spread k n)
unfolding spread
under_spread zero n = tt
under_spread (suc k) n = (mod-lt (n / 256 ^ k) (lit< tt), under_spread k n)

pub spells : (n : ℕ) → n < 256 ^ 16 → Spells n (spread 16 n)
spells n small bs u e =
    let p = number_is bs n e in
    let q = name_parts bs p.0 in
    let pad = bs ++ replicate (16 - length bs) 0 in
    let long : length pad ≡ 16 = length-append bs (replicate (16 - length bs) 0) ∙ omega (arith, length-replicate {A = ℕ} (16 - length bs) 0, q.0) in
    digits_same (spread 16 n) pad (length_spread 16 n ∙ sym long) (under_spread 16 n) (under_pad bs (16 - length bs) u) (gather_spread 16 n small ∙ sym p.1)

-- the first zero, in the words of the library
pub front_is : (bs : List ℕ) (k : ℕ) → length bs ≡ k → unwrap_or (position (λ b. eqb b 0) bs) k ≡ front bs
front_is bs k e = position_or (λ b. eqb b 0) bs k e ∙ sym (is_position_or_len front (λ b. eqb b 0) refl (λ x xs. ap (λ n. cond (eqb x 0) 0 n) (omega arith)) bs)

front_zeros : (k : ℕ) → front (replicate k 0) ≡ 0
front_zeros zero = refl
front_zeros (suc k) = refl

-- the digits before the zeros are the name's
front_pad : (bs : List ℕ) (k : ℕ) → no_zero bs ≡ true → front (bs ++ replicate k 0) ≡ length bs
front_pad [] k z = front_zeros k
front_pad (b ∷ bs) k z =
    let two = and_parts (not (eqb b 0)) (no_zero bs) z in
    ap (λ t. cond t 0 (suc (front (bs ++ replicate k 0)))) (not-true (eqb b 0) two.0) ∙ ap suc (front_pad bs k two.1)

pub sizes : (n : ℕ) → n < 256 ^ 16 → Sizes n (front (spread 16 n))
sizes n small bs u e =
    let p = number_is bs n e in
    ap front (spells n small bs u e) ∙ front_pad bs (16 - length bs) (name_parts bs p.0).1
