-- An array made by calls that each keep what the next one needs.
use Rattle.std.proofs.Common.{◌≡◌, ℕ, ◌+◌, ◌<◌, ◌≤◌, zero, suc, List, get_or, sym, subst, ⊎_elim, arith}
use Rattle.std.proofs.lemmas.Bool.{cases_eq}
use Rattle.std.specs.Array.{IsFromFnResultFrom}
use Rattle.std.specs.Fn.{Called}
use denote.Param.Members.{Mut}

pub made_each : {F B : Type 0} (g : Mut F (ℕ × Unit {0}) B) (I : F → Type 0) (P : ℕ → B → Type 0) →
    ((p q : F) (i : ℕ) (y : B) → I p → Called g p (i, tt) y q → P i y × I q) →
    (n : ℕ) (f : F) (ys : List B) (a : ℕ) → I f → IsFromFnResultFrom g f ys a n → (k : ℕ) (d : B) → a ≤ k → k < a + n → P k (get_or ys k d)
made_each g I P keeps zero f ys a i made k d low high = absurd (omega arith)
made_each {F} {B} g I P keeps (suc n) f ys a i made k d low high =
    let s = keeps f made.0 a made.1 i made.3 in
    ⊎_elim {C = P k (get_or ys k d)}
    (λ here. let at : a ≡ k = here in subst (λ (m : ℕ). P m (get_or ys m d)) at (subst (P a) (sym (made.2.1 d)) s.0))
    (λ other. made_each g I P keeps n made.0 ys (a + 1) s.1 made.4 k d (omega arith) (omega arith))
    (cases_eq a k)
