-- The place of a name among records, and lists changed at one place.
use Rattle.std.proofs.Common.{◌≡◌, ℕ, zero, suc, ◌+◌, ◌-◌, ◌<◌, ◌≤◌, max, Bool, true, false, cond, not, ◌&&◌, ◌||◌, eqb, ltb, List, [], ◌∷◌, ◌++◌, length, get_or, take, drop, set, sym, refl, ap, ◌∙◌, ⊎_elim, Some, None, unwrap_or, arith}
use Rattle.std.proofs.lemmas.List.{at_drop_more, set_split, take_more_set, take_more, take-take, take_all, drop_all, length-take-le, get_or-take}
use Rattle.std.proofs.lemmas.Bool.{eq-eqb, ne_eqb, cond-true, cond-false, and_left, not_from_true, not_from_false, cases_lt, lt-ltb, le-ltb, ltb-true, ltb-false}
use Rattle.std.proofs.lemmas.List.Recursion.{is_position_or_len, same_from_clauses}
use Rattle.std.proofs.lemmas.List.Sums.{prefix_len-le-length}
use Rattle.std.specs.List.{position, position_or_len, list_any}
use Rattle.std.proofs.lemmas.Option.{cond_some}
use Rattle.store.specs.declared.entry.Entry.{Entry}
use Rattle.store.specs.Entries.{seat, found, entered, vacated, clash, absent, well, sound}

pub seat_hit : (n i : ℕ) (es : List Entry) (d : Entry) → i < length es → (get_or es i d).name ≡ n → seat n (drop i es) ≡ 0
seat_hit n i es d h e =
    at_drop_more (seat n) es i d h ∙ cond-true (eqb (get_or es i d).name n) 0 (suc (seat n (drop (i + 1) es))) (eq-eqb (get_or es i d).name n e)

pub seat_miss : (n i : ℕ) (es : List Entry) (d : Entry) → i < length es → ((get_or es i d).name ≡ n → ⊥) → seat n (drop i es) ≡ suc (seat n (drop (i + 1) es))
seat_miss n i es d h e =
    at_drop_more (seat n) es i d h ∙ cond-false (eqb (get_or es i d).name n) 0 (suc (seat n (drop (i + 1) es))) (ne_eqb (get_or es i d).name n e)

pub seat_le : (n : ℕ) (es : List Entry) → seat n es ≤ length es
seat_le n [] = omega arith
seat_le n (e ∷ es) = go (eqb e.name n) (seat_le n es)
  where
    go : (t : Bool) → seat n es ≤ length es → cond t 0 (suc (seat n es)) ≤ suc (length es)
    go true more = omega arith
    go false more = omega arith

pub take_set_comm : {X : Type 0} (n i : ℕ) (x : X) (xs : List X) → take n (set xs i x) ≡ set (take n xs) i x
take_set_comm zero i x xs = refl
take_set_comm (suc n) i x [] = refl
take_set_comm (suc n) zero x (y ∷ ys) = refl
take_set_comm (suc n) (suc i) x (y ∷ ys) = ap (λ t. y ∷ t) (take_set_comm n i x ys)

-- an element written at a place up to the count, and the count
pub take_entered : {X : Type 0} (n i : ℕ) (x : X) (xs : List X) → i ≤ n → n ≤ length xs → i < length xs → take (max n (i + 1)) (set xs i x) ≡ entered i x (take n xs)
take_entered n i x xs h l r = ⊎_elim {C = take (max n (i + 1)) (set xs i x) ≡ entered i x (take n xs)} inside behind (cases_lt i n)
  where
    inside : i < n → take (max n (i + 1)) (set xs i x) ≡ entered i x (take n xs)
    inside lt =
        let long = length-take-le n xs l in
        ap (λ m. take m (set xs i x)) (let e : max n (i + 1) ≡ n = omega arith in e) ∙ take_set_comm n i x xs ∙ set_split (take n xs) i x (omega arith)

    behind : n ≤ i → take (max n (i + 1)) (set xs i x) ≡ entered i x (take n xs)
    behind le =
        let long = length-take-le n xs l in
        let same : n ≡ i = omega arith in
        ap (λ m. take m (set xs i x)) (let e : max n (i + 1) ≡ i + 1 = omega arith in e)
        ∙ take_more_set xs i x r
        ∙ ap (λ t. t ++ (x ∷ [])) (sym (take-take i n xs h))
        ∙ ap (λ t. take i (take n xs) ++ (x ∷ t)) (sym (drop_all (suc i) (take n xs) (omega arith)))

-- the last of n elements written at a place, and one less
pub take_vacated : {X : Type 0} (n i : ℕ) (d : X) (xs : List X) → 0 < n → n ≤ length xs → take (n - 1) (set xs i (get_or xs (n - 1) d)) ≡ vacated i d (take n xs)
take_vacated n i d xs h l =
    let long = length-take-le n xs l in
    take_set_comm (n - 1) i (get_or xs (n - 1) d) xs
    ∙ ap (λ t. set t i (get_or xs (n - 1) d)) (sym (take-take (n - 1) n xs (omega arith)))
    ∙ ap (λ y. set (take (n - 1) (take n xs)) i y) (sym (get_or-take n xs (n - 1) d (omega arith)))
    ∙ ap (λ m. set (take (m - 1) (take n xs)) i (get_or (take n xs) (m - 1) d)) (sym long)

-- a list is what stands before its last element, and that
pub last_split : {X : Type 0} (d : X) (xs : List X) → 0 < length xs → take (length xs - 1) xs ++ (get_or xs (length xs - 1) d ∷ []) ≡ xs
last_split d xs h =
    sym (take_more xs (length xs - 1) d (omega arith)) ∙ take_all (length xs - 1 + 1) xs (omega arith)

-- records that pass or fail a test, one by one
pub absent_hit : (n i : ℕ) (es : List Entry) (d : Entry) → i < length es → clash (get_or es i d).name n ≡ true → absent n (drop i es) ≡ false
absent_hit n i es d h e = at_drop_more (absent n) es i d h ∙ and_left (not (clash (get_or es i d).name n)) (absent n (drop (i + 1) es)) (not_from_true (clash (get_or es i d).name n) e)

pub absent_miss : (n i : ℕ) (es : List Entry) (d : Entry) → i < length es → clash (get_or es i d).name n ≡ false → absent n (drop i es) ≡ absent n (drop (i + 1) es)
absent_miss n i es d h e = at_drop_more (absent n) es i d h ∙ ap (λ t. t && absent n (drop (i + 1) es)) (not_from_false (clash (get_or es i d).name n) e)

pub well_step : (i : ℕ) (es : List Entry) (d : Entry) → i < length es → well (drop i es) ≡ (sound (get_or es i d) && (absent (get_or es i d).name (drop (i + 1) es) && well (drop (i + 1) es)))
well_step i es d h = at_drop_more well es i d h

-- the same, in the words of the library
pub position_or : {X : Type 0} (p : X → Bool) (xs : List X) (k : ℕ) → length xs ≡ k → unwrap_or (position p xs) k ≡ position_or_len p xs
position_or p xs k e =
    let at = position_or_len p xs in
    let le = prefix_len-le-length (λ x. not (p x)) xs in
    ⊎_elim {C = unwrap_or (position p xs) k ≡ at}
    (λ lt. ap (λ t. unwrap_or (cond t (Some at) None) k) (lt-ltb at (length xs) lt))
    (λ ge. ap (λ t. unwrap_or (cond t (Some at) None) k) (le-ltb at (length xs) ge) ∙ omega arith)
    (cases_lt at (length xs))

seat_is : (n : ℕ) (es : List Entry) → seat n es ≡ position_or_len (λ e. eqb e.name n) es
seat_is n es = is_position_or_len (seat n) (λ e. eqb e.name n) refl (λ x xs. ap (λ k. cond (eqb x.name n) 0 k) (omega arith)) es

pub found_is : (n : ℕ) (es : List Entry) → found n es ≡ position (λ e. eqb e.name n) es
found_is n es = rw (seat_is n es)

-- where there is none, the count of records stands for the place
pub found_or : (n k : ℕ) (es : List Entry) → length es ≡ k → unwrap_or (found n es) k ≡ seat n es
found_or n k es e = ap (λ r. unwrap_or r k) (found_is n es) ∙ position_or (λ x. eqb x.name n) es k e ∙ sym (seat_is n es)

-- a test of each element, of which none passes another
pub none_is : {X : Type 0} (F : List X → Bool) (p : X → Bool) → F [] ≡ true → ((x : X) (xs : List X) → F (x ∷ xs) ≡ (not (p x) && F xs)) → (xs : List X) → not (list_any p xs) ≡ F xs
none_is F p none step = same_from_clauses (λ xs. not (list_any p xs)) F (λ x r. not (p x) && r) (sym none) (λ x xs. apart (p x) (list_any p xs)) step
  where
    apart : (a b : Bool) → not (a || b) ≡ (not a && not b)
    apart true b = refl
    apart false b = refl

pub absent_is : (n : ℕ) (es : List Entry) → not (list_any (λ e. clash e.name n) es) ≡ absent n es
absent_is n = none_is (absent n) (λ e. clash e.name n) refl (λ x xs. refl)

-- nothing is told where the test fails
pub none_told : {X : Type 0} (t : Bool) (y : X) → None ≡ cond t (Some y) None → t ≡ false
none_told true y e = let z : ◌≡◌ {A = ℕ} 0 1 = cc in absurd (omega arith)
none_told false y e = refl

-- a place is told where there is one
pub found_told : (n i : ℕ) (es : List Entry) → Some i ≡ found n es → (seat n es < length es) × (i ≡ seat n es)
found_told n i es h = let p = cond_some (ltb (seat n es) (length es)) (seat n es) i (sym h) in (ltb-true (seat n es) (length es) p.0, sym p.1)

pub not_found : (n : ℕ) (es : List Entry) → None ≡ found n es → length es ≤ seat n es
not_found n es h = ltb-false (seat n es) (length es) (none_told (ltb (seat n es) (length es)) (seat n es) h)
