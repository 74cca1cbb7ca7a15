-- Units checked one after the other.
use Rattle.std.proofs.Common.{◌≡◌, ℕ, ◌≤◌, List, [], ◌∷◌, ◌++◌, sym, refl, ap, ◌∙◌, subst, arith}
use Rattle.std.proofs.lemmas.List.{append_assoc}
use Rattle.types.specs.Types.{Name, Ty}
use Rattle.cores.specs.Meaning.{Outcome}
use Rattle.cores.specs.declared.interface.Operation.{Operation}
use Rattle.rules.specs.Projects.{Units, no_units, more_units}
use Rattle.checker.specs.Numbered.{Sig}
use Rattle.checker.specs.Faults.{Fault, number_of, Answer, ok, fault}
use Rattle.checker.specs.Modules.{check_module}
use Rattle.checker.specs.Units.{Known, accepted, refused, after_unit, check_next, check_units}
use Rattle.project_rules.specs.Project.{ProjectUnit, unit_at, name_at, behind, units_at}
use Rattle.project_rules.specs.Statements.{FirstWrong}
use Rattle.project_rules.proofs.Numbers.{Only, only_module}

-- those at the front first
pub behind_append : (us : List ProjectUnit) (b : Units) (is js : List ℕ) → behind us b (is ++ js) ≡ behind us (behind us b is) js
behind_append us b [] js = refl
behind_append us b (i ∷ is) js = behind_append us (more_units b (unit_at us i)) is js

-- the checker's numbers for a unit
abbrev OfUnit : ℕ → Type 0
OfUnit n = (12 ≤ n) × (n ≤ 16)

module _ {C : Type 0} (rule : Operation → List Ty → Outcome C) (us : List ProjectUnit) where
  -- a refusal stays
  refused_on : (b : Units) (is : List ℕ) (x : Name) (e : Fault C) → check_units rule b ≡ refused x e → check_units rule (behind us b is) ≡ refused x e
  refused_on b [] x e h = h
  refused_on b (i ∷ is) x e h = refused_on (more_units b (unit_at us i)) is x e (ap (check_next rule (unit_at us i)) h)

  numbered : (k : Known) (i : ℕ) (e : Fault C) → check_module rule k.scope k.next (unit_at us i).body ≡ fault e → OfUnit (number_of e)
  numbered k i e h =
      subst (Only OfUnit) h
      (only_module C OfUnit (omega arith, omega arith) (omega arith, omega arith) (omega arith, omega arith) rule (omega arith, omega arith) (omega arith, omega arith)
      (unit_at us i).body k.scope k.next)

  wrong_behind : (front is : List ℕ) (k : Known) (x : Name) (e : Fault C) → check_units rule (units_at us front) ≡ accepted k →
      check_units rule (behind us (units_at us front) is) ≡ refused x e → FirstWrong rule us (front ++ is) x e
  wrong_behind front [] k x e h r = cc
  wrong_behind front (i ∷ is) k x e h r =
      go (check_module rule k.scope k.next (unit_at us i).body) refl (wrong_behind (front ++ i ∷ []) is)
    where
      go : (a : Answer C Sig) → check_module rule k.scope k.next (unit_at us i).body ≡ a →
          ((j : Known) (y : Name) (f : Fault C) → check_units rule (units_at us (front ++ i ∷ [])) ≡ accepted j →
          check_units rule (behind us (units_at us (front ++ i ∷ [])) is) ≡ refused y f → FirstWrong rule us ((front ++ i ∷ []) ++ is) y f) →
          FirstWrong rule us (front ++ i ∷ is) x e
      go (ok g) m ih =
          let b = behind_append us no_units front (i ∷ []) in
          let one = ap (check_next rule (unit_at us i)) h ∙ ap (after_unit (name_at us i) k) m in
          subst (λ ps. FirstWrong rule us ps x e) (append_assoc front (i ∷ []) is)
          (ih _ x e (ap (check_units rule) b ∙ one) (ap (λ z. check_units rule (behind us z is)) b ∙ r))
      go (fault f) m ih =
          let one = ap (check_next rule (unit_at us i)) h ∙ ap (after_unit (name_at us i) k) m in
          let last = sym (refused_on (more_units (units_at us front) (unit_at us i)) is (name_at us i) f one) ∙ r in
          let same : f ≡ e = cc in
          let name : name_at us i ≡ x = cc in
          let here : check_module rule k.scope k.next (unit_at us i).body ≡ fault e = m ∙ ap fault same in
          record { front = front; place = i; rest = is; order = refl; name = name; known = k; others = h; refuses = here; number = numbered k i e here }

  pub first_wrong : (ps : List ℕ) (x : Name) (e : Fault C) → check_units rule (units_at us ps) ≡ refused x e → FirstWrong rule us ps x e
  first_wrong ps x e r = wrong_behind [] ps _ x e refl r
