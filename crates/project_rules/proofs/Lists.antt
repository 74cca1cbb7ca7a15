-- Tests over lists, and what stands in a list.
use Rattle.std.proofs.Common.{◌≡◌, ℕ, zero, suc, ◌<◌, Bool, true, false, cond, ◌||◌, eqb, List, [], ◌∷◌, ◌++◌, length, get_or, Some, None, Option, sym, refl, ap, ◌∙◌, inl, inr, ⊎_elim, arith}
use Rattle.std.proofs.lemmas.Bool.{or_cases, or_left, or_right, or_parts, eqb-true, eq-eqb}
use Rattle.order.specs.Picking.{has}
use Rattle.rules.specs.Signatures.{first_of}
use Rattle.project_rules.specs.Project.{some, first_where}
use Rattle.project_rules.specs.Statements.{Among}

-- some element passes
pub some_told : {A : Type 0} (test : A → Bool) (l : List A) → some test l ≡ true → (a : A) × Among a l × (test a ≡ true)
some_told test [] e = cc
some_told test (b ∷ l) e =
    ⊎_elim (λ h. (b, inl refl, h)) (λ h. let r = some_told test l h in (r.0, inr r.1, r.2)) (or_cases (test b) (some test l) e)

pub some_from : {A : Type 0} (test : A → Bool) (l : List A) (a : A) → Among a l → test a ≡ true → some test l ≡ true
some_from test [] a m e = absurd m
some_from test (b ∷ l) a m e =
    ⊎_elim (λ h. or_left (test b) (some test l) (ap test h ∙ e)) (λ h. or_right (test b) (some test l) (some_from test l a h e)) m

pub none_told : {A : Type 0} (test : A → Bool) (l : List A) → some test l ≡ false → (a : A) → Among a l → test a ≡ false
none_told test [] e a m = absurd m
none_told test (b ∷ l) e a m =
    let p = or_parts (test b) (some test l) e in
    ⊎_elim (λ h. sym (ap test h) ∙ p.0) (λ h. none_told test l p.1 a h) m

-- the first that passes: none, or where it stands
abbrev pub IsFirst : {A : Type 0} → (A → Bool) → List A → Option A → Type 0
IsFirst test l None = some test l ≡ false
IsFirst {A} test l (Some a) =
    (front : List A) × (rest : List A) × (l ≡ front ++ a ∷ rest) × (test a ≡ true) × ((b : A) → Among b front → test b ≡ false)

pub first_is : {A : Type 0} (test : A → Bool) (l : List A) → IsFirst test l (first_where test l)
first_is test [] = refl
first_is {A} test (b ∷ l) = go (test b) refl (first_where test l) (first_is test l)
  where
    go : (t : Bool) → test b ≡ t → (o : Option A) → IsFirst test l o → IsFirst test (b ∷ l) (cond t (Some b) o)
    go true e o h = ([], l, refl, e, λ c m. absurd m)
    go false e None h = ap (λ z. z || some test l) e ∙ h
    go false e (Some a) h =
        (b ∷ h.0, h.1, ap (λ z. b ∷ z) h.2, h.3, λ c m. ⊎_elim (λ k. sym (ap test k) ∙ e) (λ k. h.4 c k) m)

pub first_append : {A : Type 0} (test : A → Bool) (l m : List A) → first_where test (l ++ m) ≡ first_of (first_where test l) (first_where test m)
first_append test [] m = refl
first_append {A} test (b ∷ l) m = go (test b) (first_append test l m)
  where
    go : (t : Bool) → first_where test (l ++ m) ≡ first_of (first_where test l) (first_where test m) →
        cond t (Some b) (first_where test (l ++ m)) ≡ first_of (cond t (Some b) (first_where test l)) (first_where test m)
    go true h = refl
    go false h = h

-- what stands at a place stands in the list, and the other way round
pub among_at : {A : Type 0} (l : List A) (d : A) (i : ℕ) → i < length l → Among (get_or l i d) l
among_at [] d i h = absurd (omega arith)
among_at (b ∷ l) d zero h = inl refl
among_at (b ∷ l) d (suc i) h = inr (among_at l d i (omega arith))

pub place_among : {A : Type 0} (l : List A) (d a : A) → Among a l → (i : ℕ) × (i < length l) × (get_or l i d ≡ a)
place_among [] d a m = absurd m
place_among (b ∷ l) d a m =
    ⊎_elim (λ h. (0, omega arith, h)) (λ h. let r = place_among l d a h in (suc r.0, omega (arith, r.1), r.2)) m

pub has_among : (l : List ℕ) (i : ℕ) → has l i ≡ true → Among i l
has_among [] i e = cc
has_among (j ∷ l) i e = ⊎_elim (λ h. inl (eqb-true j i h)) (λ h. inr (has_among l i h)) (or_cases (eqb j i) (has l i) e)

pub among_has : (l : List ℕ) (i : ℕ) → Among i l → has l i ≡ true
among_has [] i m = absurd m
among_has (j ∷ l) i m = ⊎_elim (λ h. or_left (eqb j i) (has l i) (eq-eqb j i h)) (λ h. or_right (eqb j i) (has l i) (among_has l i h)) m
