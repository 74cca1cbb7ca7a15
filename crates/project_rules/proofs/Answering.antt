-- What the check of a project answers means what is promised.
use Rattle.std.proofs.Common.{◌≡◌, ℕ, List, length, Some, None, Option, refl, subst, ⊎_elim}
use Rattle.std.proofs.lemmas.Bool.{cases_Bool, both_ways}
use Rattle.types.specs.Types.{Ty}
use Rattle.cores.specs.Meaning.{Outcome}
use Rattle.cores.specs.declared.interface.Operation.{Operation}
use Rattle.order.specs.Compare.{by_name}
use Rattle.order.specs.Reaching.{Reaches, cyclic, missing, cycle}
use Rattle.order.specs.Law.{LoadOrder, Complete}
use Rattle.order.proofs.LeastOf.{IsBest, best_is}
use Rattle.order.proofs.Precedence.{by_name_strict}
use Rattle.order.proofs.Closure.{reach_sound, reach_complete, reached_below}
use Rattle.order.proofs.Runs.{order_complete, order_acyclic}
use Rattle.order.proofs.Existence.{load_order_is}
use Rattle.order.proofs.Leastness.{load_order_least}
use Rattle.order.proofs.Meaning.{least_named}
use Rattle.checker.specs.Units.{Known, CheckAnswer, accepted, refused, check_units}
use Rattle.project_rules.specs.Project.{ProjectUnit, seen, order_of, units_at}
use Rattle.project_rules.specs.Check.{right, unless_told, of_units, lacking_at, circular_at, check_in_turn, check_project}
use Rattle.project_rules.specs.Statements.{Lacks, Means, AnswersMean, OrderLaw}
use Rattle.project_rules.proofs.Turns.{first_wrong}
use Rattle.project_rules.proofs.Viewing.{lacks_told, lacks_from, first_lacking_lem, heads_before}

module _ {C : Type 0} (rule : Operation → List Ty → Outcome C) (us : List ProjectUnit) where
  in_turn : LoadOrder (seen us) (order_of us) → (a : CheckAnswer C) → check_units rule (units_at us (order_of us)) ≡ a → Means rule us (of_units a)
  in_turn o (accepted k) e = (o, e)
  in_turn o (refused x f) e = (o, e, first_wrong rule us (order_of us) x f e)

  circles : Complete (seen us) → (o : Option ℕ) → IsBest (cyclic (seen us)) (by_name (seen us)) (length us) o →
      Means rule us (unless_told o (circular_at us) (check_in_turn rule us))
  circles c None b =
      in_turn (load_order_is (seen us) c (λ i r. b i (reached_below (seen us) r) (reach_complete (seen us) r)))
      (check_units rule (units_at us (order_of us))) refl
  circles c (Some i) b =
      let t = least_named (seen us) (cyclic (seen us)) (λ j. Reaches (seen us) j j) (λ j. reach_sound (seen us) (length us) j j) (λ j. reach_complete (seen us)) i b in
      (i, refl, t, (λ j l m. both_ways ((seen us).lacks j) (c j l) (lacks_from us j m)), λ ps o. order_acyclic (seen us) ps o i t.told)

  absences : (o : Option ℕ) → IsBest (seen us).lacks (by_name (seen us)) (length us) o →
      Means rule us (unless_told o (lacking_at us) (unless_told (cycle (seen us)) (circular_at us) (check_in_turn rule us)))
  absences None b =
      circles (λ i l. ⊎_elim (λ h. absurd (b i l h)) (λ h. h) (cases_Bool ((seen us).lacks i)))
      (cycle (seen us)) (best_is (cyclic (seen us)) (by_name (seen us)) (by_name_strict (seen us)) (length us))
  absences (Some i) b = (
    i,
    refl,
    least_named (seen us) (seen us).lacks (Lacks us) (lacks_told us) (lacks_from us) i b,
    first_lacking_lem us i b.1,
    λ ps o. both_ways ((seen us).lacks i) (order_complete (seen us) ps o i b.0) b.1,
  )

pub answers_mean : {C : Type 0} (rule : Operation → List Ty → Outcome C) → AnswersMean rule
answers_mean rule us =
    absences rule us (missing (seen us)) (best_is (seen us).lacks (by_name (seen us)) (by_name_strict (seen us)) (length us))

-- an accepted project has a load order, and its units in that order are accepted
pub right_means : {C : Type 0} (rule : Operation → List Ty → Outcome C) (us : List ProjectUnit) (k : Known) → check_project rule us ≡ right k →
    LoadOrder (seen us) (order_of us) × (check_units rule (units_at us (order_of us)) ≡ accepted k)
right_means rule us k e = subst (Means rule us) e (answers_mean rule us)

pub order_law : {C : Type 0} (rule : Operation → List Ty → Outcome C) → OrderLaw rule
order_law rule us k d e =
    let o = (right_means rule us k e).0 in (
      o,
      heads_before us (order_of us) o,
      load_order_least (seen us) (order_complete (seen us) (order_of us) o) (order_acyclic (seen us) (order_of us) o) d,
    )
