-- Views of units that agree are arranged alike, and the check of a project follows from what arranging answers.
use Rattle.std.proofs.Common.{◌≡◌, ℕ, zero, suc, ◌<◌, ◌≤◌, Bool, true, false, cond, not, ◌&&◌, ◌||◌, ltb, List, [], ◌∷◌, length, IfSome, Some, None, Ok, Err, Option, sym, refl, ap, ◌∙◌, subst, ap₂, arith}
use Rattle.std.proofs.lemmas.Bool.{ltb-true}
use Rattle.types.specs.Types.{Ty}
use Rattle.cores.specs.Meaning.{Outcome}
use Rattle.cores.specs.declared.interface.Operation.{Operation}
use Rattle.order.specs.declared.Fault.TheVariants.{TooMany, Missing, Cycle}
use Rattle.order.specs.Units.{Units, names}
use Rattle.order.specs.Compare.{number, compared, settled, by_name, earlier}
use Rattle.order.specs.Least.{kept, best}
use Rattle.order.specs.Picking.{all_below, ready, next, has, also, turn, picks, load_order}
use Rattle.order.specs.Reaching.{reach, cyclic, missing, cycle}
use Rattle.order.specs.Answer.{unless, arranged}
use Rattle.order.proofs.LeastOf.{best_within}
use Rattle.project_rules.specs.Project.{seen, order_of}
use Rattle.project_rules.specs.Check.{unless_told, lacking_at, circular_at, check_in_turn, check_project}
use Rattle.project_rules.specs.Statements.{Agree, ByArranging, ArrangingLaw}

-- the least marked place, by marks and a comparison that agree
best_agrees : (m m' : ℕ → Bool) (b b' : ℕ → ℕ → Bool) (n : ℕ) → ((i : ℕ) → i < n → m i ≡ m' i) → ((i j : ℕ) → i < n → j < n → b i j ≡ b' i j) →
    best m b n ≡ best m' b' n
best_agrees m m' b b' zero e f = refl
best_agrees m m' b b' (suc n) e f =
    go (m n) (best m b n) (best_within m b n)
    ∙ ap₂ (λ t o. kept b' t n o) (e n (omega arith)) (best_agrees m m' b b' n (λ i l. e i (omega arith)) (λ i j l k. f i j (omega arith) (omega arith)))
  where
    go : (t : Bool) (o : Option ℕ) → IfSome o (λ i. i < n) → kept b t n o ≡ kept b' t n o
    go false o h = refl
    go true None h = refl
    go true (Some j) h = ap (λ c. Some (cond c n j)) (f n j (omega arith) (omega arith))

all_agrees : (t t' : ℕ → Bool) (n : ℕ) → ((i : ℕ) → i < n → t i ≡ t' i) → all_below n t ≡ all_below n t'
all_agrees t t' zero e = refl
all_agrees t t' (suc n) e = ap₂ (λ a b. a && b) (e n (omega arith)) (all_agrees t t' n (λ i l. e i (omega arith)))

module _ (v w : Units) (a : Agree v w) where
  names_agree : (i j : ℕ) → i < v.count → j < v.count → names v i j ≡ names w i j
  names_agree i j l k = ap₂ (λ x y. x && y) (ap (ltb j) a.count) (a.marked i j l k)

  by_name_agrees : (i j : ℕ) → i < v.count → j < v.count → by_name v i j ≡ by_name w i j
  by_name_agrees i j l k = ap₂ (λ x y. settled (compared x y) (ltb i j)) (a.called i l) (a.called j k)

  earlier_agrees : (i j : ℕ) → i < v.count → j < v.count → earlier v i j ≡ earlier w i j
  earlier_agrees i j l k =
      ap₂ settled (ap₂ number (a.ranks i l) (a.ranks j k)) (by_name_agrees i j l k)

  reach_agrees : (k i j : ℕ) → k ≤ v.count → i < v.count → j < v.count → reach v k i j ≡ reach w k i j
  reach_agrees zero i j h l m = names_agree i j l m
  reach_agrees (suc k) i j h l m =
      ap₂ (λ x y. x || y) (reach_agrees k i j (omega arith) l m)
      (ap₂ (λ x y. x && y) (reach_agrees k i k (omega arith) l (omega arith)) (reach_agrees k k j (omega arith) (omega arith) m))

  missing_agrees : missing v ≡ missing w
  missing_agrees = best_agrees v.lacks w.lacks (by_name v) (by_name w) v.count a.lack by_name_agrees ∙ ap (best w.lacks (by_name w)) a.count

  cycle_agrees : cycle v ≡ cycle w
  cycle_agrees =
      best_agrees (cyclic v) (cyclic w) (by_name v) (by_name w) v.count
      (λ i l. reach_agrees v.count i i (omega arith) l l ∙ ap (λ n. reach w n i i) a.count) by_name_agrees
      ∙ ap (best (cyclic w) (by_name w)) a.count

  ready_agrees : (placed : ℕ → Bool) (i : ℕ) → i < v.count → ready v placed i ≡ ready w placed i
  ready_agrees placed i l =
      ap₂ (λ x y. x && (not (placed i) && y)) (ap (ltb i) a.count)
      (ap₂ (λ x y. not x && y) (a.lack i l)
      (all_agrees (λ j. not (names v i j) || placed j) (λ j. not (names w i j) || placed j) v.count (λ j k. ap (λ x. not x || placed j) (names_agree i j l k))
      ∙ ap (λ n. all_below n (λ j. not (names w i j) || placed j)) a.count))

  next_agrees : (placed : ℕ → Bool) → next v placed ≡ next w placed
  next_agrees placed =
      best_agrees (ready v placed) (ready w placed) (earlier v) (earlier w) v.count (ready_agrees placed) earlier_agrees
      ∙ ap (best (ready w placed) (earlier w)) a.count

  picks_agree : (n : ℕ) (placed : ℕ → Bool) → picks v n placed ≡ picks w n placed
  picks_agree zero placed = refl
  picks_agree (suc n) placed =
      go (next v placed) (λ i. picks_agree n (also placed i)) ∙ ap (λ o. turn o (λ i. picks w n (also placed i))) (next_agrees placed)
    where
      go : (o : Option ℕ) → ((i : ℕ) → picks v n (also placed i) ≡ picks w n (also placed i)) →
          turn o (λ i. picks v n (also placed i)) ≡ turn o (λ i. picks w n (also placed i))
      go None h = refl
      go (Some i) h = ap (λ l. i ∷ l) (h i)

  pub load_order_agrees : load_order v ≡ load_order w
  load_order_agrees = picks_agree v.count (has []) ∙ ap (λ n. picks w n (has [])) a.count

  pub arranged_agrees : arranged v ≡ arranged w
  arranged_agrees =
      ap₂ (λ n r. cond (ltb 16 n) (Err TooMany) r) a.count
      (ap₂ (λ o r. unless o Missing r) missing_agrees (ap₂ (λ o ps. unless o Cycle (Ok ps)) cycle_agrees load_order_agrees))

pub arranging_law : {C : Type 0} (rule : Operation → List Ty → Outcome C) → ArrangingLaw rule
arranging_law rule us v a =
    subst (λ r. ByArranging rule us r (check_project rule us)) (sym (arranged_agrees v (seen us) a))
    (go (ltb 16 (length us)) refl (missing (seen us)) (cycle (seen us)))
  where
    go : (b : Bool) → ltb 16 (length us) ≡ b → (o p : Option ℕ) →
        ByArranging rule us (cond b (Err TooMany) (unless o Missing (unless p Cycle (Ok (order_of us)))))
        (unless_told o (lacking_at us) (unless_told p (circular_at us) (check_in_turn rule us)))
    go true e o p = ltb-true 16 (length us) e
    go false e (Some i) p = refl
    go false e None (Some i) = refl
    go false e None None = refl
