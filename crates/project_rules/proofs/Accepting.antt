-- A check accepts exactly when the project's signatures are derived.
use Rattle.std.proofs.Common.{◌≡◌, ℕ, ◌<◌, true, eqb, List, [], ◌∷◌, ◌++◌, length, Some, sym, refl, ap, ◌∙◌, subst}
use Rattle.std.proofs.lemmas.List.{append_assoc}
use Rattle.std.proofs.lemmas.Bool.{both_ways, or_left, or_right, eq-eqb}
use Rattle.types.specs.Types.{Name, Ty}
use Rattle.cores.specs.Meaning.{Outcome, Stable}
use Rattle.cores.specs.declared.interface.Operation.{Operation}
use Rattle.order.specs.Picking.{has}
use Rattle.order.specs.Law.{LoadOrder, Least}
use Rattle.order.proofs.Runs.{has_middle, has_front, order_complete, order_acyclic}
use Rattle.order.proofs.Leastness.{load_order_least}
use Rattle.rules.specs.Projects.{Units, no_units, more_units, Loads}
use Rattle.rules.proofs.Project.{loads_freely}
use Rattle.checker.specs.Units.{CheckAnswer, accepted, refused, check_units}
use Rattle.checker.specs.Statements.{Unnamed, OnceUnits, Decided}
use Rattle.checker.proofs.Loading.{check_decides}
use Rattle.project_rules.specs.Project.{ProjectUnit, unit_at, name_at, seen, order_of, behind, units_at}
use Rattle.project_rules.specs.Check.{ProjectAnswer, right, lacking, circular, wrong, NotSizeOf, IsRight, check_project}
use Rattle.project_rules.specs.Statements.{OnceProject, Derived, Means, AcceptanceLaw}
use Rattle.project_rules.proofs.Orders.{least_unique}
use Rattle.project_rules.proofs.Turns.{behind_append}
use Rattle.project_rules.proofs.Answering.{answers_mean}

-- no unit at these places has the name
pub unnamed_behind : (us : List ProjectUnit) (x : Name) (b : Units) (is : List ℕ) → Unnamed x b →
    ((j : ℕ) → has is j ≡ true → name_at us j ≡ x → ⊥) → Unnamed x (behind us b is)
unnamed_behind us x b [] h n = h
unnamed_behind us x b (i ∷ is) h n =
    unnamed_behind us x (more_units b (unit_at us i)) is
    (h, n i (or_left (eqb i i) (has is i) (eq-eqb i i refl)))
    (λ j m. n j (or_right (eqb i j) (has is j) m))

-- a load order's units have each name once, up to each of its places
pub once_front : (us : List ProjectUnit) → OnceProject us → (ps : List ℕ) → LoadOrder (seen us) ps → (front rest : List ℕ) → ps ≡ front ++ rest →
    OnceUnits (units_at us front) → OnceUnits (behind us (units_at us front) rest)
once_front us o ps l front [] e h = h
once_front us o ps l front (i ∷ rest) e h =
    let m : i < length us = l.units i (subst (λ q. has q i ≡ true) (sym e) (has_middle front i rest)) in
    let fresh : Unnamed (name_at us i) (units_at us front) =
    unnamed_behind us (name_at us i) no_units front tt
    (λ j t n. both_ways (has front i) (l.once front i rest e)
    (subst (λ z. has front z ≡ true) (o.distinct j i (l.units j (subst (λ q. has q j ≡ true) (sym e) (has_front front (i ∷ rest) j t))) m n) t)) in
    subst (λ b. OnceUnits (behind us b rest)) (behind_append us no_units front (i ∷ []))
    (once_front us o ps l (front ++ i ∷ []) rest (e ∙ sym (append_assoc front (i ∷ []) rest))
    (subst OnceUnits (sym (behind_append us no_units front (i ∷ []))) (h, fresh, o.once i m)))

pub once_units : (us : List ProjectUnit) → OnceProject us → (ps : List ℕ) → LoadOrder (seen us) ps → OnceUnits (units_at us ps)
once_units us o ps l = once_front us o ps l [] ps refl tt

module _ {C : Type 0} (v : ℕ) (rule : Operation → List Ty → Outcome C) (law : Stable v rule) where
  pub acceptance_law : AcceptanceLaw rule
  acceptance_law us o = go (check_project rule us) (answers_mean rule us)
    where
      decided : (ps : List ℕ) → LoadOrder (seen us) ps → (a : CheckAnswer C) → check_units rule (units_at us ps) ≡ a → Decided rule (units_at us ps) a
      decided ps l a e = subst (Decided rule (units_at us ps)) e (check_decides v rule law (units_at us ps) (once_units us o ps l))

      least : LoadOrder (seen us) (order_of us) → Least (seen us) (order_of us)
      least l = load_order_least (seen us) (order_complete (seen us) (order_of us) l) (order_acyclic (seen us) (order_of us) l)

      go : (a : ProjectAnswer C) → Means rule us a → NotSizeOf a → (IsRight a → Derived rule us) × (Derived rule us → IsRight a)
      go (right k) m n =
          let d = decided (order_of us) m.0 (accepted k) m.1 in
          ((λ z. record { order = order_of us; ordered = m.0; least = least m.0; known = d.0; loads = loads_freely d.2 }), λ z. tt)
      go (lacking x place) m n = ((λ z. absurd z), λ d. absurd (m.4 d.order d.ordered))
      go (circular x) m n = ((λ z. absurd z), λ d. absurd (m.4 d.order d.ordered))
      go (wrong x e) m n = (
        (λ z. absurd z),
        λ d.
            let same : d.order ≡ order_of us = least_unique (seen us) o.distinct d.order (order_of us) d.ordered d.least m.0 (least m.0) in
            absurd (decided (order_of us) m.0 (refused x e) m.1 (λ i. n (ap Some i)) d.known
            (subst (λ ps. Loads rule true (units_at us ps) d.known) same d.loads)),
      )
