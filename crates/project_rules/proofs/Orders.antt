-- There is one least load order.
use Rattle.std.proofs.Common.{◌≡◌, ℕ, ◌<◌, ◌⊎◌, List, [], ◌∷◌, ◌++◌, sym, ◌∙◌, subst, subst₂, inl, inr, ⊎_elim, arith}
use Rattle.order.specs.Units.{Units}
use Rattle.order.specs.Compare.{NameLess, UnitLess, Distinct}
use Rattle.order.specs.Law.{LoadOrder, Smaller, Least}

-- less by a number and then by something else goes one way, if that does
first_one_way : (m n : ℕ) {P Q : Type 0} → (P → Q → ⊥) → (m < n) ⊎ ((m ≡ n) × P) → (n < m) ⊎ ((n ≡ m) × Q) → ⊥
first_one_way m n f (inl h) (inl k) = omega arith
first_one_way m n f (inl h) (inr k) = omega (arith, k.0)
first_one_way m n f (inr h) (inl k) = omega (arith, h.0)
first_one_way m n f (inr h) (inr k) = f h.1 k.1

pub name_one_way : (a b : List ℕ) → NameLess a b → NameLess b a → ⊥
name_one_way [] [] h k = h
name_one_way [] (y ∷ ys) h k = k
name_one_way (x ∷ xs) [] h k = h
name_one_way (x ∷ xs) (y ∷ ys) h k = first_one_way x y (name_one_way xs ys) h k

pub unit_one_way : (u : Units) (i j : ℕ) → UnitLess u i j → UnitLess u j i → ⊥
unit_one_way u i j h k = first_one_way (u.rank i) (u.rank j) (name_one_way (u.name i) (u.name j)) h k

-- two lists cannot each be less than the other where they first differ
meets :
    (u : Units) (f g : List ℕ) (p q p' q' : ℕ) (r r' s s' : List ℕ) → f ++ p ∷ r ≡ g ++ q' ∷ s' → f ++ q ∷ r' ≡ g ++ p' ∷ s →
    UnitLess u p q → UnitLess u p' q' → ⊥
meets u [] [] p q p' q' r r' s s' a b l m =
    let c : p ≡ q' = cc in
    let d : q ≡ p' = cc in
    unit_one_way u p q l (subst₂ (UnitLess u) (sym d) (sym c) m)
meets u [] (y ∷ g) p q p' q' r r' s s' a b l m =
    let c : q ≡ p = cc in
    let n : UnitLess u p p = subst (UnitLess u p) c l in
    unit_one_way u p p n n
meets u (x ∷ f) [] p q p' q' r r' s s' a b l m =
    let c : q' ≡ p' = cc in
    let n : UnitLess u p' p' = subst (UnitLess u p') c m in
    unit_one_way u p' p' n n
meets u (x ∷ f) (y ∷ g) p q p' q' r r' s s' a b l m =
    let c : f ++ p ∷ r ≡ g ++ q' ∷ s' = cc in
    let d : f ++ q ∷ r' ≡ g ++ p' ∷ s = cc in
    meets u f g p q p' q' r r' s s' c d l m

pub smaller_one_way : (u : Units) (ps qs : List ℕ) → Smaller u ps qs → Smaller u qs ps → ⊥
smaller_one_way u ps qs a b =
    meets u a.front b.front a.p a.q b.p b.q a.ps_rest a.qs_rest b.ps_rest b.qs_rest
    (sym a.ps_is ∙ b.qs_is) (sym a.qs_is ∙ b.ps_is) a.less b.less

pub least_unique : (u : Units) → Distinct u → (ps qs : List ℕ) → LoadOrder u ps → Least u ps → LoadOrder u qs → Least u qs → ps ≡ qs
least_unique u d ps qs o l o' l' =
    ⊎_elim (λ e. sym e) (λ a. ⊎_elim (λ e. e) (λ b. absurd (smaller_one_way u ps qs a b)) (l' d ps o)) (l d qs o')
