-- Lists changed at one place, element by element.
use Rattle.std.proofs.Common.{◌≡◌, ℕ, zero, suc, ◌-◌, ◌<◌, ◌≤◌, ◌≢◌, List, [], ◌∷◌, length, get_or, take, drop, refl, ap, ◌∙◌, arith}
use Rattle.std.proofs.lemmas.List.{length-take-le, get_or_at, get_or-set_same, get_or-set_other, get_or-take}
use Rattle.store.specs.Entries.{entered, vacated}

pub get_d_entered_same : {X : Type 0} (i : ℕ) (x d : X) (xs : List X) → i ≤ length xs → get_or (entered i x xs) i d ≡ x
get_d_entered_same i x d xs h = get_or_at (take i xs) x (drop (suc i) xs) d i (length-take-le i xs h)

pub get_d_entered_other : {X : Type 0} (i k : ℕ) (x d : X) (xs : List X) → i ≤ length xs → k ≢ i → get_or (entered i x xs) k d ≡ get_or xs k d
get_d_entered_other zero zero x d xs h ne = absurd (ne refl)
get_d_entered_other zero (suc k) x d [] h ne = refl
get_d_entered_other zero (suc k) x d (y ∷ ys) h ne = refl
get_d_entered_other (suc i) k x d [] h ne = absurd (omega arith)
get_d_entered_other (suc i) zero x d (y ∷ ys) h ne = refl
get_d_entered_other (suc i) (suc k) x d (y ∷ ys) h ne = get_d_entered_other i k x d ys (omega arith) (λ e. ne (ap suc e))

pub get_d_vacated_same : {X : Type 0} (i : ℕ) (d : X) (xs : List X) → i < length xs - 1 → (c : X) → get_or (vacated i d xs) i c ≡ get_or xs (length xs - 1) d
get_d_vacated_same i d xs h c =
    let long = length-take-le (length xs - 1) xs (omega arith) in
    get_or-set_same (take (length xs - 1) xs) i (get_or xs (length xs - 1) d) c (omega arith)

pub get_d_vacated_other : {X : Type 0} (i k : ℕ) (d : X) (xs : List X) → k < length xs - 1 → k ≢ i → (c : X) → get_or (vacated i d xs) k c ≡ get_or xs k c
get_d_vacated_other i k d xs h ne c =
    get_or-set_other (take (length xs - 1) xs) i k (get_or xs (length xs - 1) d) c ne ∙ get_or-take (length xs - 1) xs k c h
