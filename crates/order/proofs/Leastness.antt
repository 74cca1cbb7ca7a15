-- The order that picking gives is the least load order.
use Rattle.std.proofs.Common.{◌≡◌, ℕ, zero, suc, ◌<◌, Bool, true, ◌⊎◌, List, [], ◌∷◌, Some, None, Option, sym, refl, ap, ◌∙◌, subst, inl, inr, ⊎_elim}
use Rattle.std.proofs.lemmas.Bool.{both_ways}
use Rattle.order.specs.Units.{Units}
use Rattle.order.specs.Compare.{Distinct, earlier}
use Rattle.order.specs.Picking.{ready, next, has, also, turn, picks, load_order}
use Rattle.order.specs.Law.{Smaller, Least, Complete, Acyclic}
use Rattle.order.proofs.LeastOf.{IsBest}
use Rattle.order.proofs.Precedence.{earlier_told}
use Rattle.order.proofs.Runs.{ready_told, Runs, runs_from}
use Rattle.order.proofs.Existence.{next_is, load_order_runs}

smaller_behind : (u : Units) (p : ℕ) (ps qs : List ℕ) → Smaller u ps qs → Smaller u (p ∷ ps) (p ∷ qs)
smaller_behind u p ps qs s = record {
  front = p ∷ s.front;
  p = s.p;
  ps_rest = s.ps_rest;
  q = s.q;
  qs_rest = s.qs_rest;
  ps_is = ap (λ l. p ∷ l) s.ps_is;
  qs_is = ap (λ l. p ∷ l) s.qs_is;
  less = s.less;
}

module _ (u : Units) (distinct : Distinct u) where
  abbrev SameOrSmaller : List ℕ → List ℕ → Type 0
  SameOrSmaller ps qs = (qs ≡ ps) ⊎ Smaller u ps qs

  -- nothing is left to place
  ends : (placed : ℕ → Bool) (qs : List ℕ) → ((i : ℕ) → i < u.count → placed i ≡ true) → Runs u placed qs → SameOrSmaller [] qs
  ends placed [] all r = inl refl
  ends placed (q ∷ qs) all r =
      let told = ready_told u placed q r.0 in
      absurd (both_ways (placed q) told.unplaced (all q told.unit))

  abbrev Compares : ℕ → Type 0
  Compares n = (placed : ℕ → Bool) (qs : List ℕ) → Runs u placed (picks u n placed) → Runs u placed qs → SameOrSmaller (picks u n placed) qs

  picked : (n : ℕ) → Compares n → (placed : ℕ → Bool) (o : Option ℕ) → IsBest (ready u placed) (earlier u) u.count o
      → (qs : List ℕ) → Runs u placed (turn o (λ i. picks u n (also placed i))) → Runs u placed qs
      → SameOrSmaller (turn o (λ i. picks u n (also placed i))) qs
  picked n more placed None best qs a b = ends placed qs a b
  picked n more placed (Some p) best [] a b =
      let told = ready_told u placed p a.0 in
      absurd (both_ways (placed p) told.unplaced (b p told.unit))
  picked n more placed (Some p) best (q ∷ qs) a b =
      let told = ready_told u placed q b.0 in
      ⊎_elim
      (λ (s : q ≡ p). ⊎_elim
      (λ e. inl (ap (λ l. q ∷ l) e ∙ ap (λ x. x ∷ picks u n (also placed p)) s))
      (λ l. inr (subst (λ x. Smaller u (p ∷ picks u n (also placed p)) (x ∷ qs)) (sym s) (smaller_behind u p (picks u n (also placed p)) qs l)))
      (more (also placed p) qs a.1 (subst (λ x. Runs u (also placed x) qs) s b.1)))
      (λ e. inr (record {
        front = [];
        p = p;
        ps_rest = picks u n (also placed p);
        q = q;
        qs_rest = qs;
        ps_is = refl;
        qs_is = refl;
        less = earlier_told u distinct p q best.0 told.unit e;
      }))
      (best.2 q told.unit b.0)

  compares : (n : ℕ) → Compares n
  compares zero placed qs a b = ends placed qs a b
  compares (suc n) placed qs a b = picked n (compares n) placed (next u placed) (next_is u placed) qs a b

pub load_order_least : (u : Units) → Complete u → Acyclic u → Least u (load_order u)
load_order_least u complete acyclic distinct qs o =
    compares u distinct u.count (has []) qs (load_order_runs u complete acyclic) (runs_from u qs o [] qs refl)
