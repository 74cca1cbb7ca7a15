-- The order as it is built, turn by turn.
use Rattle.std.proofs.Common.{◌≡◌, ℕ, zero, suc, ◌+◌, ◌-◌, ◌<◌, ◌≤◌, Bool, false, List, [], ◌∷◌, ◌++◌, length, Some, None, Option, sym, refl, ap, ◌∙◌, ap₂, cond, ◌||◌, ⊎_elim, arith}
use mathlib.Core.Path.{fun_ext}
use Rattle.std.proofs.lemmas.Bool.{cases_eq, eq-eqb, ne_eqb}
use Rattle.std.specs.Option.{option_map}
use Rattle.std.proofs.lemmas.List.{length-append, append_assoc, append-nil}
use Rattle.order.specs.Units.{Units}
use Rattle.order.specs.Compare.{tuple}
use Rattle.order.specs.Picking.{Ready, next, also, turn, picks, load_order}

-- how many places below n are not placed
abbrev pub unplaced : ℕ → (ℕ → Bool) → ℕ
unplaced zero placed = 0
unplaced (suc n) placed = cond (placed n) 0 1 + unplaced n placed

unplaced_none : (n : ℕ) (placed : ℕ → Bool) → ((j : ℕ) → placed j ≡ false) → unplaced n placed ≡ n
unplaced_none zero placed h = refl
unplaced_none (suc n) placed h = ap₂ (λ b k. cond b 0 1 + k) (h n) (unplaced_none n placed h) ∙ omega arith

unplaced_past : (n i : ℕ) (placed : ℕ → Bool) → n ≤ i → unplaced n (also placed i) ≡ unplaced n placed
unplaced_past zero i placed l = refl
unplaced_past (suc n) i placed l =
    ap₂ (λ b k. cond (b || placed n) 0 1 + k) (ne_eqb i n (λ e. omega arith)) (unplaced_past n i placed (omega arith))

-- one more is placed
unplaced_also : (n i : ℕ) (placed : ℕ → Bool) → i < n → placed i ≡ false → unplaced n placed ≡ unplaced n (also placed i) + 1
unplaced_also zero i placed l h = absurd (omega arith)
unplaced_also (suc n) i placed l h = ⊎_elim here (λ ne. below ne (unplaced_also n i placed (omega arith) h)) (cases_eq i n)
  where
    here : i ≡ n → unplaced (suc n) placed ≡ unplaced (suc n) (also placed i) + 1
    here e =
        ap₂ (λ b k. cond b 0 1 + k) (ap placed (sym e) ∙ h) (sym (unplaced_past n i placed (omega arith)))
        ∙ omega arith
        ∙ ap (λ b. cond (b || placed n) 0 1 + unplaced n (also placed i) + 1) (sym (eq-eqb i n e))

    below : (i ≡ n → ⊥) → unplaced n placed ≡ unplaced n (also placed i) + 1 → unplaced (suc n) placed ≡ unplaced (suc n) (also placed i) + 1
    below ne less =
        ap (λ k. cond (placed n) 0 1 + k) less
        ∙ omega arith
        ∙ ap (λ b. cond (b || placed n) 0 1 + unplaced n (also placed i) + 1) (sym (ne_eqb i n ne))

pub none_picked : (u : Units) (n : ℕ) (placed : ℕ → Bool) → next u placed ≡ None → picks u n placed ≡ []
none_picked u zero placed e = refl
none_picked u (suc n) placed e = ap (λ o. turn o (λ i. picks u n (also placed i))) e

pub all_picked : (u : Units) (k : ℕ) (placed : ℕ → Bool) → u.count ≤ k → picks u (u.count - k) placed ≡ []
all_picked u k placed h =
    let none : u.count - k ≡ 0 = omega arith in ap (λ n. picks u n placed) none

-- units are placed: their places, and what picking goes on to give
pub record Turns (u : Units) (places : List ℕ) (placed : ℕ → Bool) : Type 0 where
  pub order : places ++ picks u (unplaced u.count placed) placed ≡ load_order u
  pub left : length places + unplaced u.count placed ≡ u.count

pub turns_none : (u : Units) (placed : ℕ → Bool) → ((j : ℕ) → placed j ≡ false) → Turns u [] placed
turns_none u placed h = record {
  order = ap₂ (picks u) (unplaced_none u.count placed h) (fun_ext h);
  left = omega (arith, unplaced_none u.count placed h);
}

-- a unit that is picked was not placed, so one is left less
pub picked_left : (u : Units) (i : ℕ) (placed placed' : ℕ → Bool) → Ready u placed i
    → ((j : ℕ) → placed' j ≡ also placed i j) → unplaced u.count placed ≡ unplaced u.count placed' + 1
picked_left u i placed placed' r h =
    unplaced_also u.count i placed r.unit r.unplaced ∙ ap (λ p. unplaced u.count p + 1) (sym (fun_ext h))

pub turns_more : (u : Units) (i : ℕ) (places : List ℕ) (placed placed' : ℕ → Bool) → Ready u placed i
    → Turns u places placed → next u placed ≡ Some i → ((j : ℕ) → placed' j ≡ also placed i j)
    → Turns u (places ++ i ∷ []) placed'
turns_more u i places placed placed' r t e h = record {
  order =
      ap (λ l. (places ++ i ∷ []) ++ picks u (unplaced u.count placed') l) (fun_ext h)
      ∙ append_assoc places (i ∷ []) (picks u (unplaced u.count placed') (also placed i))
      ∙ ap (λ l. places ++ l) (sym step)
      ∙ t.order;
  left = omega (arith, t.left, length-append places (i ∷ []), picked_left u i placed placed' r h);
}
  where
    less : unplaced u.count placed ≡ suc (unplaced u.count placed')
    less = omega (arith, picked_left u i placed placed' r h)

    step : picks u (unplaced u.count placed) placed ≡ i ∷ picks u (unplaced u.count placed') (also placed i)
    step =
        ap (λ n. picks u n placed) less
        ∙ ap (λ o. turn o (λ i. picks u (unplaced u.count placed') (also placed i))) e

pub turns_stop : (u : Units) (places : List ℕ) (placed : ℕ → Bool)
    → Turns u places placed → next u placed ≡ None → places ≡ load_order u
turns_stop u places placed t e =
    sym (append-nil places) ∙ ap (λ l. places ++ l) (sym (none_picked u (unplaced u.count placed) placed e)) ∙ t.order

-- what a pick answered, without the rank
pub picked_none : (u : Units) (o : Option ℕ) → None ≡ option_map (tuple u) o → o ≡ None
picked_none u None e = refl
picked_none u (Some i) e = cc

pub picked_some : (u : Units) (o : Option ℕ) (t : ℕ × ℕ) → Some t ≡ option_map (tuple u) o → o ≡ Some t.1
picked_some u None t e = cc
picked_some u (Some i) t e = let h : t ≡ tuple u i = cc in ap (λ t. Some t.1) (sym h)
