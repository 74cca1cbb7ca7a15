-- Bytes laid over others.
use Rattle.std.proofs.Common.{◌≡◌, ℕ, suc, ◌+◌, ◌-◌, ◌/◌, ◌%◌, ◌<◌, ◌≤◌, List, [], ◌∷◌, ◌++◌, length, get_or, take, drop, set, sym, refl, ap, ◌∙◌, add-one, arith}
use Rattle.std.proofs.lemmas.List.{append_assoc, length-append, length-take-le, length-drop, take-append-drop, take_more, take_at, drop_at, set_at, take-append-le, drop-append-le, take-take, drop-drop, drop-take, set_split, get_or-drop}
use Rattle.store.specs.Numbers.{laid, spread}

-- no bytes change nothing
pub laid_none : (p : ℕ) (s : List ℕ) → laid p [] s ≡ s
laid_none p s = ap (λ n. take p s ++ drop n s) (let e : p + 0 ≡ p = omega arith in e) ∙ take-append-drop p s

-- a byte written right before the bytes that are there
pub laid_more : (q r b : ℕ) (bs s : List ℕ) → r ≡ q + 1 → r + length bs ≤ length s → set (laid r bs s) q b ≡ laid q (b ∷ bs) s
laid_more q r b bs s e h =
    ap (λ r. set (laid r bs s) q b) e
    ∙ ap (λ t. set (t ++ (bs ++ drop (q + 1 + length bs) s)) q b) (take_more s q 0 (omega arith))
    ∙ ap (λ t. set t q b) (append_assoc (take q s) (get_or s q 0 ∷ []) (bs ++ drop (q + 1 + length bs) s))
    ∙ set_at (take q s) (get_or s q 0) (bs ++ drop (q + 1 + length bs) s) b q (length-take-le q s (omega arith))
    ∙ ap (λ n. take q s ++ (b ∷ (bs ++ drop n s))) (let f : q + 1 + length bs ≡ q + suc (length bs) = omega arith in f)

-- one byte written at a place
pub laid_one : (q n : ℕ) (s : List ℕ) → n < 256 → q < length s → set s q n ≡ laid q (spread 1 n) s
unfolding spread
laid_one q n s small h =
    let same : n ≡ (n / 1) % 256 = omega arith in
    set_split s q n h ∙ ap (λ b. take q s ++ (b ∷ drop (suc q) s)) same ∙ ap (λ m. take q s ++ (((n / 1) % 256) ∷ drop m s)) (sym (add-one q))

-- the bytes up to the end of those written, and the rest
split : (p : ℕ) (a s : List ℕ) → laid p a s ≡ (take p s ++ a) ++ drop (p + length a) s
split p a s = sym (append_assoc (take p s) a (drop (p + length a) s))

front : (p : ℕ) (a s : List ℕ) → p ≤ length s → length (take p s ++ a) ≡ p + length a
front p a s h = length-append (take p s) a ∙ ap (λ n. n + length a) (length-take-le p s h)

pub length_laid : (p : ℕ) (a s : List ℕ) → p + length a ≤ length s → length (laid p a s) ≡ length s
length_laid p a s h =
    ap length (split p a s) ∙ length-append (take p s ++ a) (drop (p + length a) s)
    ∙ omega (arith, front p a s (omega arith), length-drop (p + length a) s)

-- what follows the place where bytes were written
pub drop_laid : (p : ℕ) (a s : List ℕ) → p ≤ length s → drop p (laid p a s) ≡ a ++ drop (p + length a) s
drop_laid p a s h = drop_at (take p s) (a ++ drop (p + length a) s) p (length-take-le p s h)

-- the bytes written are there
pub take_laid : (p : ℕ) (a s : List ℕ) → p ≤ length s → take (length a) (drop p (laid p a s)) ≡ a
take_laid p a s h = ap (take (length a)) (drop_laid p a s h) ∙ take_at a (drop (p + length a) s) (length a) refl

-- bytes behind them stay
pub laid_behind : (p q : ℕ) (a s : List ℕ) → p + length a ≤ q → p ≤ length s → drop q (laid p a s) ≡ drop q s
laid_behind p q a s h l =
    let f = p + length a in
    let e : f + (q - f) ≡ q = omega arith in
    ap (λ n. drop n (laid p a s)) (sym e) ∙ ap (drop (f + (q - f))) (split p a s)
    ∙ sym (drop-drop (q - f) f ((take p s ++ a) ++ drop f s))
    ∙ ap (drop (q - f)) (drop_at (take p s ++ a) (drop f s) f (front p a s l))
    ∙ drop-drop (q - f) f s ∙ ap (λ n. drop n s) e

-- bytes before them stay
pub laid_before : (p q n : ℕ) (a s : List ℕ) → q + n ≤ p → p ≤ length s → take n (drop q (laid p a s)) ≡ take n (drop q s)
laid_before p q n a s h l =
    let rest = a ++ drop (p + length a) s in
    let len = length-take-le p s l in
    let e : q + (p - q) ≡ p = omega arith in
    ap (take n) (drop-append-le q (take p s) rest (omega arith))
    ∙ take-append-le n (drop q (take p s)) rest (omega (arith, length-drop q (take p s)))
    ∙ ap (λ m. take n (drop q (take m s))) (sym e)
    ∙ ap (take n) (drop-take q (p - q) s)
    ∙ take-take n (p - q) (drop q s) (omega arith)

-- bytes written right behind others
pub laid_next : (p : ℕ) (a b s : List ℕ) → p ≤ length s → laid (p + length a) b (laid p a s) ≡ laid p (a ++ b) s
laid_next p a b s h =
    let f = p + length a in
    ap (λ t. t ++ (b ++ drop (f + length b) (laid p a s))) (ap (take f) (split p a s) ∙ take_at (take p s ++ a) (drop f s) f (front p a s h))
    ∙ ap (λ t. (take p s ++ a) ++ (b ++ t)) (laid_behind p (f + length b) a s (omega arith) h)
    ∙ append_assoc (take p s) a (b ++ drop (f + length b) s)
    ∙ ap (λ t. take p s ++ t) (sym (append_assoc a b (drop (f + length b) s)))
    ∙ ap (λ n. take p s ++ ((a ++ b) ++ drop n s)) (omega_eq p a b)
  where
    omega_eq : (p : ℕ) (a b : List ℕ) → p + length a + length b ≡ p + length (a ++ b)
    omega_eq p a b = omega (arith, length-append a b)

-- the same, with the place where the first bytes end
pub laid_then : (p q : ℕ) (a b s : List ℕ) → p ≤ length s → p + length a ≡ q → laid q b (laid p a s) ≡ laid p (a ++ b) s
laid_then p q a b s h e = ap (λ n. laid n b (laid p a s)) (sym e) ∙ laid_next p a b s h

-- a byte written right behind others
pub laid_push : (p q b : ℕ) (a s : List ℕ) → p + length a ≡ q → q < length s → set (laid p a s) q b ≡ laid p (a ++ (b ∷ [])) s
laid_push p q b a s e h =
    let long = length_laid p a s (omega arith) in
    set_split (laid p a s) q b (omega arith)
    ∙ ap (λ n. take q (laid p a s) ++ (b ∷ drop n (laid p a s))) (sym (add-one q))
    ∙ laid_then p q a (b ∷ []) s (omega arith) e

-- a byte behind them
pub get_d_laid_behind : (p r : ℕ) (a s : List ℕ) → p + length a ≤ r → p ≤ length s → get_or (laid p a s) r 0 ≡ get_or s r 0
get_d_laid_behind p r a s h l =
    let same : r + 0 ≡ r = omega arith in
    ap (λ n. get_or (laid p a s) n 0) (sym same) ∙ sym (get_or-drop r (laid p a s) 0 0)
    ∙ ap (λ t. get_or t 0 0) (laid_behind p r a s h l) ∙ get_or-drop r s 0 0 ∙ ap (λ n. get_or s n 0) same
