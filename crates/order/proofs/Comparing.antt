-- Names and tuples compared.
use Rattle.std.proofs.Common.{◌≡◌, ℕ, ◌+◌, ◌<◌, min, nat_lt, List, [], ◌∷◌, length, get_or, drop, Ordering, Less, Equal, Greater, sym, refl, ap, ◌∙◌, ap₂, ⊎_elim, arith}
use Rattle.std.specs.Cmp.Lexicographic.{slice_cmp}
use Rattle.std.specs.Ordering.{MatchOrdering, nat_cmp, is_lt, ordering_then}
use Rattle.std.proofs.lemmas.List.{drop_more, drop_all}
use Rattle.std.proofs.lemmas.Bool.{cases_order}
use Rattle.std.proofs.lemmas.Bool.Decides.{nat_tests}
use Rattle.order.specs.Compare.{number, compared, settled}

-- ---- numbers

pub number_less : (m n : ℕ) → m < n → number m n ≡ Less
number_less m n h = grind (arith, nat_tests)

pub number_greater : (m n : ℕ) → n < m → number m n ≡ Greater
number_greater m n h = grind (arith, nat_tests)

pub number_equal : (m n : ℕ) → m ≡ n → number m n ≡ Equal
number_equal m n h = grind (arith, nat_tests)

pub number_ranked : (o : Ordering) (m n : ℕ) → MatchOrdering o (m < n) (m ≡ n) (n < m) → o ≡ number m n
number_ranked Less m n h = sym (number_less m n h)
number_ranked Equal m n h = sym (number_equal m n h)
number_ranked Greater m n h = sym (number_greater m n h)

-- ---- names, as the loop goes through them

pub compared_at : (a b : List ℕ) (i : ℕ) → i < length a → i < length b
    → compared (drop i a) (drop i b) ≡ ordering_then (number (get_or a i 0) (get_or b i 0)) (compared (drop (i + 1) a) (drop (i + 1) b))
compared_at a b i ha hb = ap₂ compared (drop_more a i 0 ha) (drop_more b i 0 hb)

pub compared_end : (a b : List ℕ) (i : ℕ) → i ≡ min (length a) (length b) → compared (drop i a) (drop i b) ≡ number (length a) (length b)
compared_end a b i e =
    ⊎_elim
    (λ same. ap₂ compared (drop_all i a (omega arith)) (drop_all i b (omega arith)) ∙ sym (number_equal (length a) (length b) same))
    (⊎_elim
    (λ less. ap₂ compared (drop_all i a (omega arith)) (drop_more b i 0 (omega arith)) ∙ sym (number_less (length a) (length b) less))
    (λ more. ap₂ compared (drop_more a i 0 (omega arith)) (drop_all i b (omega arith)) ∙ sym (number_greater (length a) (length b) more)))
    (cases_order (length a) (length b))

decided : (o e : Ordering) (P Q R : Type 0) → MatchOrdering o P Q R → (Q → ⊥) → o ≡ ordering_then o e
decided Less e P Q R r ne = refl
decided Equal e P Q R r ne = absurd (ne r)
decided Greater e P Q R r ne = refl

pub compared_differs : (a b : List ℕ) (i : ℕ) (o : Ordering) → i < length a → i < length b
    → MatchOrdering o (get_or a i 0 < get_or b i 0) (get_or a i 0 ≡ get_or b i 0) (get_or b i 0 < get_or a i 0) → (get_or a i 0 ≡ get_or b i 0 → ⊥)
    → compared (drop i a) (drop i b) ≡ compared a b → o ≡ compared a b
compared_differs a b i o ha hb r ne inv =
    decided o (compared (drop (i + 1) a) (drop (i + 1) b)) (get_or a i 0 < get_or b i 0) (get_or a i 0 ≡ get_or b i 0) (get_or b i 0 < get_or a i 0) r ne
    ∙ ap (λ p. ordering_then p (compared (drop (i + 1) a) (drop (i + 1) b))) (number_ranked o (get_or a i 0) (get_or b i 0) r)
    ∙ sym (compared_at a b i ha hb) ∙ inv

pub compared_goes_on : (a b : List ℕ) (i : ℕ) → i < length a → i < length b → get_or a i 0 ≡ get_or b i 0
    → compared (drop i a) (drop i b) ≡ compared a b → compared (drop (i + 1) a) (drop (i + 1) b) ≡ compared a b
compared_goes_on a b i ha hb e inv =
    ap (λ p. ordering_then p (compared (drop (i + 1) a) (drop (i + 1) b))) (sym (number_equal (get_or a i 0) (get_or b i 0) e))
    ∙ sym (compared_at a b i ha hb) ∙ inv

-- ---- as the library compares them

pub number_is : (m n : ℕ) → nat_cmp m n ≡ number m n
number_is m n = grind (arith, nat_tests)

pub compared_is : (a b : List ℕ) → slice_cmp nat_cmp a b ≡ compared a b
compared_is [] [] = refl
compared_is [] (y ∷ ys) = refl
compared_is (x ∷ xs) [] = refl
compared_is (x ∷ xs) (y ∷ ys) = ap₂ ordering_then (number_is x y) (compared_is xs ys)

-- what comes next decides where two are equal
pub settled_is : (o p : Ordering) → is_lt (ordering_then o p) ≡ settled o (is_lt p)
settled_is Less p = refl
settled_is Equal p = refl
settled_is Greater p = refl

pub number_settled : (m n : ℕ) → is_lt (nat_cmp m n) ≡ nat_lt m n
number_settled m n = grind (arith, nat_tests)
