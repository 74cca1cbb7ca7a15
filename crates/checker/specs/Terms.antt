-- Terms.
use Rattle.std.specs.Prelude.{ℕ, List, [], ◌∷◌}
use Rattle.types.specs.Types.{Ty}
use Rattle.cores.specs.Meaning.{Outcome, gives, refuses}
use Rattle.cores.specs.declared.interface.Operation.{Operation}
use Rattle.cores.specs.declared.interface.Operation.TheVariants.{Literal, Function, Operator}
use Rattle.rules.specs.Syntax.{Term, variable, component, integer, operation, lambda, Terms, no_terms, more_terms}
use Rattle.rules.specs.Rules.{pick}
use Rattle.checker.specs.Scope.{Scope, value_at}
use Rattle.checker.specs.Faults.{Answer, ok, fault, refused_by_core, and_then, leads_to, ask_type}
use Rattle.checker.specs.Texts.{check_type}

-- what the core's rule says: a type within the limit, or the core's cause whole
abbrev pub judged : {C : Type 0} → ℕ → Outcome C → Answer C Ty
judged place (gives t) = ask_type place t
judged place (refuses c) = fault (refused_by_core place c)

-- the type of a term in normal form: a variable's, a value path's, or what the core's rule gives for the parts' types
abbrev mutual
  pub check_term : {C : Type 0} → (Operation → List Ty → Outcome C) → Scope → List Ty → Term → Answer C Ty
  check_term rule Γ Δ (variable place k) = leads_to place (pick Δ k)
  check_term rule Γ Δ (component place p x) = leads_to place (value_at Γ p x)
  check_term rule Γ Δ (integer place) = judged place (rule Literal [])
  check_term rule Γ Δ (operation place k ts) = and_then (check_terms rule Γ Δ ts) (λ list. judged place (rule (Operator k) list))
  check_term rule Γ Δ (lambda place t b) =
      and_then (check_type Γ t) (λ a. and_then (check_term rule Γ (a ∷ Δ) b) (λ r. judged place (rule Function (a ∷ r ∷ []))))

  pub check_terms : {C : Type 0} → (Operation → List Ty → Outcome C) → Scope → List Ty → Terms → Answer C (List Ty)
  check_terms rule Γ Δ no_terms = ok []
  check_terms rule Γ Δ (more_terms t ts) =
      and_then (check_term rule Γ Δ t) (λ a. and_then (check_terms rule Γ Δ ts) (λ list. ok (a ∷ list)))
