-- Ranks and names put any two units in order.
use Rattle.std.proofs.Common.{◌≡◌, ℕ, ◌<◌, Bool, true, false, ltb, ◌⊎◌, List, [], ◌∷◌, Decides, Ordering, Less, Equal, Greater, sym, refl, ap, ◌∙◌, subst, ap₂, inl, inr, ⊎_elim, arith}
use mathlib.Core.Path.{fun_ext}
use Rattle.std.specs.Cmp.{IsTotalOrder}
use Rattle.std.specs.Ordering.{ordering_reverse, ordering_then, MatchOrdering}
use Rattle.std.proofs.lemmas.Bool.{both_ways, ltb-true, ltb-false, lt-ltb}
use Rattle.std.proofs.lemmas.Bool.Decides.{Decides-at}
use Rattle.std.proofs.lemmas.Cmp.{ranked, nat_cmp_total, nat_list_cmp_total}
use Rattle.order.specs.Units.{Units}
use Rattle.order.specs.Compare.{NameLess, UnitLess, NameFirst, TupleFirst, Distinct, number, compared, settled, by_name, tuple, tuple_before, earlier}
use Rattle.order.proofs.Comparing.{number_less, number_equal, number_is, compared_is}
use Rattle.order.proofs.LeastOf.{Strict}

-- ---- as the library's orders

number_total : IsTotalOrder number
number_total = subst IsTotalOrder (fun_ext (λ m. fun_ext (number_is m))) nat_cmp_total

compared_total : IsTotalOrder compared
compared_total = subst IsTotalOrder (fun_ext (λ a. fun_ext (compared_is a))) nat_list_cmp_total

-- ---- numbers

number_told : (m n : ℕ) (o : Ordering) → number m n ≡ o → MatchOrdering o (m < n) (m ≡ n) (n < m)
number_told m n o e = ranked m n o (sym e ∙ sym (number_is m n))

pub number_is_less : (m n : ℕ) → number m n ≡ Less → m < n
number_is_less m n e = number_told m n Less e

pub number_same : (m n : ℕ) → number m n ≡ Equal → m ≡ n
number_same m n e = number_told m n Equal e

-- ---- names

then_less : (o p : Ordering) → ordering_then o p ≡ Less → (o ≡ Less) ⊎ ((o ≡ Equal) × (p ≡ Less))
then_less Less p e = inl refl
then_less Equal p e = inr (refl, e)
then_less Greater p e = inl e

then_equal : (o p : Ordering) → ordering_then o p ≡ Equal → (o ≡ Equal) × (p ≡ Equal)
then_equal Less p e = cc
then_equal Equal p e = (refl, e)
then_equal Greater p e = cc

compared_same : (a b : List ℕ) → compared a b ≡ Equal → a ≡ b
compared_same [] [] e = refl
compared_same [] (y ∷ ys) e = cc
compared_same (x ∷ xs) [] e = cc
compared_same (x ∷ xs) (y ∷ ys) e =
    let h = then_equal (number x y) (compared xs ys) e in
    ap₂ (λ x xs. x ∷ xs) (number_same x y h.0) (compared_same xs ys h.1)

-- ---- one comparison after another

-- by a comparison of keys, and at equal keys by a test that decides
settled_strict : {A : Type 0} (cmp : A → A → Ordering) (key : ℕ → A) (test : ℕ → ℕ → Bool)
    → IsTotalOrder cmp → ((a b : A) → cmp a b ≡ Equal → a ≡ b) → Strict test
    → Strict (λ i j. settled (cmp (key i) (key j)) (test i j))
settled_strict {A} cmp key test o same s = record {
  leads = λ i j k p q. leads i j k (cmp (key i) (key j)) refl p (cmp (key j) (key k)) refl q;
  decides = λ i j ne e. decides i j ne (cmp (key i) (key j)) refl e;
}
  where
    leads : (i j k : ℕ) (a : Ordering) → cmp (key i) (key j) ≡ a → settled a (test i j) ≡ true
        → (b : Ordering) → cmp (key j) (key k) ≡ b → settled b (test j k) ≡ true
        → settled (cmp (key i) (key k)) (test i k) ≡ true
    leads i j k Less e p Less f q = ap (λ c. settled c (test i k)) (o.trans (key i) (key j) (key k) e f)
    leads i j k Less e p Equal f q =
        ap (λ c. settled c (test i k)) (ap (cmp (key i)) (sym (same (key j) (key k) f)) ∙ e)
    leads i j k Less e p Greater f q = absurd (both_ways false refl q)
    leads i j k Equal e p Less f q =
        ap (λ c. settled c (test i k)) (ap (λ a. cmp a (key k)) (same (key i) (key j) e) ∙ f)
    leads i j k Equal e p Equal f q =
        ap (λ c. settled c (test i k)) (ap (λ a. cmp a (key k)) (same (key i) (key j) e) ∙ f) ∙ s.leads i j k p q
    leads i j k Equal e p Greater f q = absurd (both_ways false refl q)
    leads i j k Greater e p b f q = absurd (both_ways false refl p)

    decides : (i j : ℕ) → (i ≡ j → ⊥) → (a : Ordering) → cmp (key i) (key j) ≡ a → settled a (test i j) ≡ false
        → settled (cmp (key j) (key i)) (test j i) ≡ true
    decides i j ne Less e f = absurd (both_ways true f refl)
    decides i j ne Equal e f =
        ap (λ c. settled c (test j i)) (o.antisymm (key j) (key i) ∙ ap ordering_reverse e) ∙ s.decides i j ne f
    decides i j ne Greater e f =
        ap (λ c. settled c (test j i)) (o.antisymm (key j) (key i) ∙ ap ordering_reverse e)

places_strict : Strict ltb
places_strict = record {
  leads = λ i j k p q. lt-ltb i k (omega (arith, ltb-true i j p, ltb-true j k q));
  decides = λ i j ne e. lt-ltb j i (omega (arith, ltb-false i j e));
}

pub by_name_strict : (u : Units) → Strict (by_name u)
by_name_strict u = settled_strict compared u.name ltb compared_total compared_same places_strict

pub earlier_strict : (u : Units) → Strict (earlier u)
earlier_strict u = settled_strict number u.rank (by_name u) number_total number_same (by_name_strict u)

-- ---- in the words of the rule

pub name_less : (a b : List ℕ) → compared a b ≡ Less → NameLess a b
name_less [] [] e = cc
name_less [] (y ∷ ys) e = tt
name_less (x ∷ xs) [] e = cc
name_less (x ∷ xs) (y ∷ ys) e =
    ⊎_elim (λ l. inl (number_is_less x y l)) (λ l. inr (number_same x y l.0, name_less xs ys l.1))
    (then_less (number x y) (compared xs ys) e)

pub name_ranked : (a b : List ℕ) → MatchOrdering (compared a b) (NameLess a b) (a ≡ b) (NameLess b a)
name_ranked a b = told (compared a b) refl
  where
    told : (o : Ordering) → compared a b ≡ o → MatchOrdering o (NameLess a b) (a ≡ b) (NameLess b a)
    told Less e = name_less a b e
    told Equal e = compared_same a b e
    told Greater e = name_less b a (compared_total.antisymm b a ∙ ap ordering_reverse e)

-- all that is promised of an answer follows from its equation
pub named : (a b : List ℕ) (o : Ordering) → o ≡ compared a b
    → record { value : o ≡ compared a b; law : MatchOrdering o (NameLess a b) (a ≡ b) (NameLess b a) }
named a b o e = record {
  value = e;
  law = subst (λ o. MatchOrdering o (NameLess a b) (a ≡ b) (NameLess b a)) (sym e) (name_ranked a b);
}

pub less_name : (a b : List ℕ) → NameLess a b → compared a b ≡ Less
less_name [] [] h = absurd h
less_name [] (y ∷ ys) h = refl
less_name (x ∷ xs) [] h = absurd h
less_name (x ∷ xs) (y ∷ ys) h =
    ⊎_elim (λ l. ap (λ o. ordering_then o (compared xs ys)) (number_less x y l))
    (λ l. ap₂ ordering_then (number_equal x y l.0) (less_name xs ys l.1)) h

compared_self : (a : List ℕ) → compared a a ≡ Equal
compared_self [] = refl
compared_self (x ∷ xs) = ap₂ ordering_then (number_equal x x refl) (compared_self xs)

pub by_name_told : (u : Units) (i j : ℕ) → by_name u i j ≡ true → NameFirst u i j
by_name_told u i j h = told (compared (u.name i) (u.name j)) refl h
  where
    told : (o : Ordering) → compared (u.name i) (u.name j) ≡ o → settled o (ltb i j) ≡ true → NameFirst u i j
    told Less e h = inl (name_less (u.name i) (u.name j) e)
    told Equal e h = inr (compared_same (u.name i) (u.name j) e, ltb-true i j h)
    told Greater e h = absurd (both_ways false refl h)

pub by_name_from : (u : Units) (i j : ℕ) → NameFirst u i j → by_name u i j ≡ true
by_name_from u i j (inl l) = ap (λ o. settled o (ltb i j)) (less_name (u.name i) (u.name j) l)
by_name_from u i j (inr s) =
    ap (λ o. settled o (ltb i j)) (sym (ap (compared (u.name i)) s.0) ∙ compared_self (u.name i)) ∙ lt-ltb i j s.1

pub tuple_told : (u : Units) (a b : ℕ × ℕ) → tuple_before u a b ≡ true → TupleFirst u a b
tuple_told u a b h = told (number a.0 b.0) refl h
  where
    told : (o : Ordering) → number a.0 b.0 ≡ o → settled o (by_name u a.1 b.1) ≡ true → TupleFirst u a b
    told Less e h = inl (number_is_less a.0 b.0 e)
    told Equal e h = inr (number_same a.0 b.0 e, by_name_told u a.1 b.1 h)
    told Greater e h = absurd (both_ways false refl h)

pub tuple_from : (u : Units) (a b : ℕ × ℕ) → TupleFirst u a b → tuple_before u a b ≡ true
tuple_from u a b (inl l) = ap (λ o. settled o (by_name u a.1 b.1)) (number_less a.0 b.0 l)
tuple_from u a b (inr s) =
    ap (λ o. settled o (by_name u a.1 b.1)) (number_equal a.0 b.0 s.0) ∙ by_name_from u a.1 b.1 s.1

-- all that is promised of an answer follows from its equation
pub preceded : (u : Units) (a b : ℕ × ℕ) (r : Bool) → r ≡ tuple_before u a b
    → record { value : r ≡ tuple_before u a b; law : Decides r (TupleFirst u a b) }
preceded u a b r e = record {
  value = e;
  law = Decides-at r (tuple_before u a b) e (tuple_told u a b, tuple_from u a b);
}

-- where no two units have one name, no place decides
pub earlier_told : (u : Units) → Distinct u → (i j : ℕ) → i < u.count → j < u.count → earlier u i j ≡ true → UnitLess u i j
earlier_told u d i j li lj h = ⊎_elim inl (λ s. inr (s.0, by_names s.1)) (tuple_told u (tuple u i) (tuple u j) h)
  where
    by_names : NameFirst u i j → NameLess (u.name i) (u.name j)
    by_names (inl l) = l
    by_names (inr s) = let same : i ≡ j = d i j li lj s.0 in absurd (omega (arith, s.1))
