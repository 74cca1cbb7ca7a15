-- The order of the numbers of names is the order of the names.
use Rattle.std.proofs.Common.{◌≡◌, ℕ, zero, suc, ◌+◌, ◌-◌, ◌*◌, ◌^◌, ◌<◌, ◌≤◌, true, not, ◌&&◌, eqb, ltb, leb, ◌⊎◌, List, [], ◌∷◌, ◌++◌, length, get_or, drop, replicate, Some, Option, sym, refl, ap, ◌∙◌, subst, inl, inr, ⊎_elim, mul-le-mul_right, mul_comm, pow-suc, arith}
use lib.Arith.{digits_lt}
use Rattle.std.specs.Int.{w128, from_be_bytes}
use Rattle.std.specs.Int.Digits.{number_from_digits, AllBelowBase}
use Rattle.std.proofs.lemmas.List.{length-append, length-replicate, length-drop, drop-replicate}
use Rattle.std.proofs.lemmas.Bool.{and_parts, leb-true, not-true, eqb-false, cases_order}
use Rattle.std.specs.List.{list_any}
use Rattle.store.proofs.Seats.{none_is}
use Rattle.store.specs.Numbers.{gather}
use Rattle.store.specs.Names.{no_zero, is_name, number_of, name_number, NameLess, Ordered}
use Rattle.std.proofs.lemmas.Option.{cond_some}
use Rattle.store.proofs.Digits.{number_first, power_pos, gathered}

-- the number of the first k bytes, with zeros behind them
val : ℕ → List ℕ → ℕ
val zero bs = 0
val (suc k) [] = 0
val (suc k) (b ∷ bs) = b * 256 ^ k + val k bs

zeros : (n : ℕ) → number_from_digits 256 (replicate n 0) ≡ 0
zeros zero = refl
zeros (suc n) = number_first 0 (replicate n 0) ∙ omega (arith, zeros n)

pad_val : (k : ℕ) (bs : List ℕ) → length bs ≤ k → gather (bs ++ replicate (k - length bs) 0) ≡ val k bs
unfolding val
pad_val zero [] h = refl
pad_val zero (b ∷ bs) h = absurd (omega arith)
pad_val (suc k) [] h = ap (λ n. number_from_digits 256 (replicate n 0)) (let e : suc k - 0 ≡ suc k = omega arith in e) ∙ zeros (suc k)
pad_val (suc k) (b ∷ bs) h =
    ap (λ n. number_from_digits 256 (b ∷ (bs ++ replicate n 0))) (let e : suc k - suc (length bs) ≡ k - length bs = omega arith in e)
    ∙ number_first b (bs ++ replicate (k - length bs) 0)
    ∙ ap (λ n. b * 256 ^ n + number_from_digits 256 (bs ++ replicate (k - length bs) 0)) (long k bs (omega arith))
    ∙ ap (λ x. b * 256 ^ k + x) (pad_val k bs (omega arith))
  where
    long : (k : ℕ) (bs : List ℕ) → length bs ≤ k → length (bs ++ replicate (k - length bs) 0) ≡ k
    long k bs h = simp (length-append, length-replicate) (omega arith)

val_lt : (k : ℕ) (bs : List ℕ) → AllBelowBase 256 bs → val k bs < 256 ^ k
unfolding val
val_lt zero bs u = power_pos 0
val_lt (suc k) [] u = power_pos (suc k)
val_lt (suc k) (b ∷ bs) u = rw (pow-suc 256 k, mul_comm (256 ^ k) 256) (digits_lt u.0 (val_lt k bs u.1))

less : (k : ℕ) (a b : List ℕ) → length a ≤ k → length b ≤ k → AllBelowBase 256 a → no_zero b ≡ true → NameLess a b → val k a < val k b
unfolding val
less k [] [] ha hb u z n = absurd n
less zero [] (y ∷ ys) ha hb u z n = absurd (omega arith)
less (suc k) [] (y ∷ ys) ha hb u z n =
    let some = eqb-false y 0 (not-true (eqb y 0) (and_parts (not (eqb y 0)) (no_zero ys) z).0) in
    let pos : 1 ≤ y = omega (arith, ⊎_elim {C = 1 ≤ y} (λ e. absurd (some e)) (λ l. ⊎_elim {C = 1 ≤ y} (λ p. omega arith) (λ p. omega arith) l) (cases_order y 0)) in
    omega (arith, power_pos k, mul-le-mul_right {m = 1} {n = y} (256 ^ k) pos)
less zero (x ∷ xs) b ha hb u z n = absurd (omega arith)
less (suc k) (x ∷ xs) [] ha hb u z n = absurd n
less (suc k) (x ∷ xs) (y ∷ ys) ha hb u z (inl lt) =
    omega (arith, val_lt k xs u.1, mul-le-mul_right {m = suc x} {n = y} (256 ^ k) lt)
less (suc k) (x ∷ xs) (y ∷ ys) ha hb u z (inr (e, n)) =
    let more = less k xs ys (omega arith) (omega arith) u.1 (and_parts (not (eqb y 0)) (no_zero ys) z).1 n in
    subst (λ w. x * 256 ^ k + val k xs < w * 256 ^ k + val k ys) e (omega arith)

-- of two lists of bytes one is less, or they are the same
ways : (a b : List ℕ) → (a ≡ b) ⊎ (NameLess a b ⊎ NameLess b a)
ways [] [] = inl refl
ways [] (y ∷ ys) = inr (inl tt)
ways (x ∷ xs) [] = inr (inr tt)
ways (x ∷ xs) (y ∷ ys) = go (cases_order x y) (ways xs ys)
  where
    go : (x ≡ y) ⊎ ((x < y) ⊎ (y < x)) → (xs ≡ ys) ⊎ (NameLess xs ys ⊎ NameLess ys xs) → ((x ∷ xs) ≡ (y ∷ ys)) ⊎ (NameLess (x ∷ xs) (y ∷ ys) ⊎ NameLess (y ∷ ys) (x ∷ xs))
    go (inr (inl l)) w = inr (inl (inl l))
    go (inr (inr g)) w = inr (inr (inl g))
    go (inl e) (inl f) = inl (cc)
    go (inl e) (inr (inl l)) = inr (inl (inr (e, l)))
    go (inl e) (inr (inr g)) = inr (inr (inr (sym e, g)))

-- what a name's number is
pub number_is : (bs : List ℕ) (m : ℕ) → name_number bs ≡ Some m → (is_name bs ≡ true) × (number_of bs ≡ m)
number_is bs m e = cond_some (is_name bs) (number_of bs) m e

pub name_parts : (bs : List ℕ) → is_name bs ≡ true → (length bs ≤ 16) × (no_zero bs ≡ true)
name_parts bs e =
    let two = and_parts (ltb 0 (length bs)) (leb (length bs) 16 && no_zero bs) e in
    let last = and_parts (leb (length bs) 16) (no_zero bs) two.1 in
    (leb-true (length bs) 16 last.0, last.1)

pub ordered : (a : List ℕ) (r : Option ℕ) → AllBelowBase 256 a → r ≡ name_number a → Ordered a r
ordered a r ua is b m n ub ea eb =
    let pa = number_is a m (sym is ∙ ea) in
    let pb = number_is b n eb in
    let qa = name_parts a pa.0 in
    let qb = name_parts b pb.0 in
    let va : m ≡ val 16 a = sym pa.1 ∙ pad_val 16 a qa.0 in
    let vb : n ≡ val 16 b = sym pb.1 ∙ pad_val 16 b qb.0 in
    let ab : NameLess a b → m < n = λ l. let k = less 16 a b qa.0 qb.0 ua qb.1 l in omega arith in
    let ba : NameLess b a → n < m = λ l. let k = less 16 b a qb.0 qa.0 ub qa.1 l in omega arith in
    let same : a ≡ b → m ≡ n = λ e. va ∙ ap (val 16) e ∙ sym vb in (
      (λ e. ⊎_elim {C = a ≡ b} (λ s. s) (λ w. ⊎_elim {C = a ≡ b} (λ l. absurd (omega (arith, ab l))) (λ l. absurd (omega (arith, ba l))) w) (ways a b)),
      (λ lt. ⊎_elim {C = NameLess a b} (λ s. absurd (omega (arith, same s))) (λ w. ⊎_elim {C = NameLess a b} (λ l. l) (λ l. absurd (omega (arith, ba l))) w) (ways a b)),
      ab,
    )

-- bytes one by one
pub under_from : (bs : List ℕ) → ((k : ℕ) → get_or bs k 0 < 256) → AllBelowBase 256 bs
under_from [] f = tt
under_from (b ∷ bs) f = (f 0, under_from bs (λ k. f (suc k)))

-- no byte is zero, in the words of the library
pub no_zero_is : (bs : List ℕ) → not (list_any (λ b. eqb b 0) bs) ≡ no_zero bs
no_zero_is = none_is no_zero (λ b. eqb b 0) refl (λ x xs. refl)

-- the number of 16 bytes of which a name is the front, and the others are zero
pub padded_number : (bs : List ℕ) → length bs ≤ 16 → from_be_bytes w128 (bs ++ drop (length bs) (replicate 16 0)) ≡ number_of bs
padded_number bs h =
    let zeros : List ℕ = replicate 16 0 in
    let rest = drop (length bs) zeros in
    let long : length (bs ++ rest) ≡ 16 = length-append bs rest ∙ omega (arith, length-drop (length bs) zeros, length-replicate {A = ℕ} 16 0) in
    gathered 15 (bs ++ rest) long ∙ ap (λ t. gather (bs ++ t)) (drop-replicate (length bs) 16 0)
