-- Chains of iterators that keep the better of the best so far and the next.
use Rattle.std.proofs.Common.{◌≡◌, ℕ, zero, suc, ◌+◌, ◌<◌, ◌≤◌, Bool, true, false, cond, List, [], ◌∷◌, length, get_or, map, Some, None, Option, sym, refl, ap, ◌∙◌, subst, ap₂, ⊎_elim, add-one, arith}
use Rattle.std.specs.Array.{MapsFrom}
use Rattle.std.specs.Fn.{Called}
use Rattle.std.specs.Iterator.{ActsAsOnTwo, FoldTurn, ReducesItems, FoldsItems}
use Rattle.std.specs.List.{FoldsTo, fold, reduce, filter, range_with_len, enumerate_from}
use Rattle.std.specs.Option.{option_map}
use Rattle.std.proofs.iter.Yields.{gives_Drains}
use Rattle.std.proofs.lemmas.Bool.{cases_eq}
use Rattle.std.proofs.lemmas.List.{map-id}
use Rattle.std.proofs.lemmas.Iterator.{YieldsList}
use Rattle.std.proofs.lemmas.Iterator.Consumers.{reduce_from_yields_List}
use denote.Param.Members.{Mut}
use Rattle.order.specs.Units.{Units}
use Rattle.order.specs.Compare.{tuple, tuple_before, earlier}
use Rattle.order.specs.Least.{kept, best}

-- ---- `reduce`, where each call leaves the closure as it was and answers as a function does

module _ {A F : Type 0} (g : Mut F (A × (A × Unit {0})) A) (h : A → A → A) {f : F} (acts : ActsAsOnTwo g f h) where
  folds : (xs : List A) (p q : F × A) → p.0 ≡ f → FoldsTo {P = F × A} (FoldTurn g) p xs q → FoldsTo (λ p z c. c ≡ h p z) p.1 xs q.1
  folds [] p q e r = ap (λ (p : F × A). p.1) r
  folds (x ∷ xs) p q e r =
      let s = acts p.1 x r.0.1 r.0.0 (subst (λ f. Called g f (p.1, (x, tt)) r.0.1 r.0.0) e r.1) in
      (r.0.1, s.1, folds xs r.0 q s.0 r.2)

  pub reduce_from_chain : {S : Type 0} {steps : S → Option A → S → Type 0} {all : List A} (s : S) (r : Option A)
      → ReducesItems steps g s f r → YieldsList steps (λ x. x) s all → r ≡ reduce h all
  reduce_from_chain s None ran e = reduce_from_yields_List h s None ran e
  reduce_from_chain s (Some y) ran e =
      reduce_from_yields_List h s (Some y) (ran.0, ran.1, ran.3, folds ran.1 (f, ran.0) (ran.2, y) refl ran.4) e

-- ---- arrays made by such a closure

module _ {A B F : Type 0} (g : Mut F (A × Unit {0}) B) (h : A → B) {f : F} (acts : (x : A) (y : B) (q : F) → Called g f (x, tt) y q → (q ≡ f) × (y ≡ h x)) where
  pub at_map : (n i k : ℕ) (d : A) (e : B) (xs : List A) (ys : List B) (p : F) → p ≡ f → MapsFrom g p xs ys i n → i ≤ k → k < i + n
      → get_or ys k e ≡ h (get_or xs k d)
  at_map zero i k d e xs ys p s m l r = absurd (omega arith)
  at_map (suc n) i k d e xs ys p s m l r =
      let a = acts m.1 m.2 m.0 (subst (λ p. Called g p (m.1, tt) m.2 m.0) s m.5) in
      ⊎_elim
      (λ (t : k ≡ i). ap (λ k. get_or ys k e) t ∙ m.4.1 e ∙ a.1 ∙ ap h (sym (m.3.1 d)) ∙ ap (λ k. h (get_or xs k d)) (sym t))
      (λ t. at_map n (i + 1) k d e xs ys m.0 a.0 m.6 (omega arith) (omega arith))
      (cases_eq k i)

-- ---- `fold` over a range, by what each call keeps

module _ {C F : Type 0} (g : Mut F (C × (ℕ × Unit {0})) C) {f : F} (N : ℕ) (P : ℕ → C → Type 0)
    (step : (k : ℕ) (a b : C) (q : F) → k < N → P k a → Called g f (a, (k, tt)) b q → P (k + 1) b × (q ≡ f)) where
  steps_over : (n k : ℕ) (p q : F × C) → k + n ≡ N → p.0 ≡ f → P k p.1 → FoldsTo {P = F × C} (FoldTurn g) p (range_with_len k n) q → P N q.1
  steps_over zero k p q e s h r =
      let same : k ≡ N = omega arith in subst (λ n. P n q.1) same (subst (λ (p : F × C). P k p.1) r h)
  steps_over (suc n) k p q e s h r =
      let t = step k p.1 r.0.1 r.0.0 (omega arith) h (subst (λ f. Called g f (p.1, (k, tt)) r.0.1 r.0.0) s r.1) in
      steps_over n (k + 1) r.0 q (omega arith) t.1 t.0 r.2

  pub kept_over : {S : Type 0} {steps : S → Option ℕ → S → Type 0} (s : S) (a r : C) → P 0 a → FoldsItems steps g s f a r
      → YieldsList steps (λ x. x) s (range_with_len 0 N) → P N r
  kept_over {steps = steps} s a r h ran e =
      steps_over N 0 (f, a) (ran.1, r) (omega arith) refl h
      (subst (λ xs. FoldsTo {P = F × C} (FoldTurn g) (f, a) xs (ran.1, r))
      (sym (map-id ran.0) ∙ gives_Drains steps (λ x. x) ran.0 (range_with_len 0 N) s e.runs ran.2) ran.3)

-- ---- the best of the marked places is the least

abbrev pub better : {A : Type 0} → (A → A → Bool) → A → A → A
better before b x = cond (before x b) x b

module _ (mark : ℕ → Bool) (before : ℕ → ℕ → Bool) where
  -- what is kept of the best so far and the marked places from i on
  abbrev goes : Option ℕ → List ℕ → Option ℕ
  goes None xs = reduce (better before) xs
  goes (Some b) xs = Some (fold (better before) b xs)

  turned : (b : Bool) (o : Option ℕ) (i : ℕ) (xs : List ℕ) → goes o (cond b (i ∷ xs) xs) ≡ goes (kept before b i o) xs
  turned false o i xs = refl
  turned true None i xs = refl
  turned true (Some j) i xs = refl

  best_on : (n i m : ℕ) → i + n ≡ m → goes (best mark before i) (filter mark (range_with_len i n)) ≡ best mark before m
  best_on zero i m e = ends (best mark before i) ∙ ap (best mark before) (omega arith)
    where
      ends : (o : Option ℕ) → goes o [] ≡ o
      ends None = refl
      ends (Some b) = refl
  best_on (suc n) i m e =
      turned (mark i) (best mark before i) i (filter mark (range_with_len (i + 1) n))
      ∙ ap (λ k. goes (best mark before k) (filter mark (range_with_len (i + 1) n))) (sym (add-one i))
      ∙ best_on n (i + 1) m (omega arith)

  pub best_from_range : (n : ℕ) → reduce (better before) (filter mark (range_with_len 0 n)) ≡ best mark before n
  best_from_range n = best_on n 0 n (omega arith)

-- ---- marked places with what stands there

module _ {X : Type 0} (d : X) (r : X → ℕ) (mark : ℕ → Bool) (rank : ℕ → ℕ) where
  abbrev pub numbered : ℕ × X → ℕ × ℕ
  numbered p = (r p.1, p.0)

  abbrev pub placed : ℕ → ℕ × ℕ
  placed j = (rank j, j)

  pub ranked_places : (xs : List X) (i : ℕ) → ((k : ℕ) → k < length xs → r (get_or xs k d) ≡ rank (i + k))
      → map numbered (filter (λ p. mark p.0) (enumerate_from i xs))
      ≡ map placed (filter mark (range_with_len i (length xs)))
  ranked_places [] i h = refl
  ranked_places (x ∷ xs) i h =
      here (mark i) (filter (λ p. mark p.0) (enumerate_from (i + 1) xs)) (filter mark (range_with_len (i + 1) (length xs)))
      (ranked_places xs (i + 1) (λ k l. h (suc k) (omega arith) ∙ ap rank (omega arith)))
    where
      first : r x ≡ rank i
      first = h 0 (omega arith) ∙ ap rank (omega arith)

      here : (b : Bool) (l : List (ℕ × X)) (m : List ℕ) → map numbered l ≡ map placed m
          → map numbered (cond b ((i, x) ∷ l) l) ≡ map placed (cond b (i ∷ m) m)
      here false l m e = e
      here true l m e = ap₂ (λ n l. (n, i) ∷ l) first e

module _ {A B : Type 0} (t : A → B) (f : A → A → A) (g : B → B → B) (same : (b x : A) → g (t b) (t x) ≡ t (f b x)) where
  fold_mapped : (b : A) (xs : List A) → fold g (t b) (map t xs) ≡ t (fold f b xs)
  fold_mapped b [] = refl
  fold_mapped b (x ∷ xs) = ap (λ b. fold g b (map t xs)) (same b x) ∙ fold_mapped (f b x) xs

  pub reduce_mapped : (xs : List A) → reduce g (map t xs) ≡ option_map t (reduce f xs)
  reduce_mapped [] = refl
  reduce_mapped (x ∷ xs) = ap Some (fold_mapped x xs)

-- the tuples of the marked places, reduced to the one that comes first
pub best_tuple : (u : Units) (mark : ℕ → Bool) (n : ℕ)
    → reduce (better (tuple_before u)) (map (tuple u) (filter mark (range_with_len 0 n))) ≡ option_map (tuple u) (best mark (earlier u) n)
best_tuple u mark n =
    reduce_mapped (tuple u) (better (earlier u)) (better (tuple_before u)) (λ b x. same (earlier u x b) b x) (filter mark (range_with_len 0 n))
    ∙ ap (option_map (tuple u)) (best_from_range mark (earlier u) n)
  where
    same : (c : Bool) (b x : ℕ) → cond c (tuple u x) (tuple u b) ≡ tuple u (cond c x b)
    same true b x = refl
    same false b x = refl
