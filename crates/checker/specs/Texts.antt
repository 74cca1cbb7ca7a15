-- Written types and signatures.
use Rattle.std.specs.Prelude.{ℕ, suc, ◌+◌}
use Rattle.types.specs.Types.{Ty, label0, label1, label2}
use Rattle.rules.specs.Syntax.{TypeText, path_text, label_text0, label_text1, label_text2, SignatureText, sig_text, functor_text, SpecTexts, no_specs, more_specs, SpecText, abstract_spec, defined_spec, value_spec, module_spec}
use Rattle.checker.specs.Numbered.{Sig, sig, functor_sig, Parts, no_parts, more_parts, Part, abstract_part, defined_part, value_part, module_part, size_of, size_of_parts}
use Rattle.checker.specs.Scope.{Scope, inner, type_at}
use Rattle.checker.specs.Faults.{Answer, ok, and_then, leads_to, ask_type, ask_sig}

-- a written type in normal form: each path leads to a type, each label is within the limit after its parts are
abbrev pub check_type : {C : Type 0} → Scope → TypeText → Answer C Ty
check_type Γ (path_text place p x) = leads_to place (type_at Γ p x)
check_type Γ (label_text0 place l) = ask_type place (label0 l)
check_type Γ (label_text1 place l t) = and_then (check_type Γ t) (λ a. ask_type place (label1 l a))
check_type Γ (label_text2 place l t u) =
    and_then (check_type Γ t) (λ a. and_then (check_type Γ u) (λ b. ask_type place (label2 l a b)))

-- a written signature, its words from a place on: specs in order, each with those before it known, a functor's parameter before its
-- result; then its own size
abbrev mutual
  pub check_sig : {C : Type 0} → Scope → ℕ → SignatureText → Answer C Sig
  check_sig Γ q (sig_text place c) = and_then (check_specs Γ q c) (λ b. ask_sig place (sig b))
  check_sig Γ q (functor_text place s r) =
      and_then (check_sig Γ (suc q) s) (λ p.
      and_then (check_sig (inner Γ p) (suc (q + size_of p)) r) (λ b. ask_sig place (functor_sig p b)))

  pub check_specs : {C : Type 0} → Scope → ℕ → SpecTexts → Answer C Parts
  check_specs Γ q no_specs = ok no_parts
  check_specs Γ q (more_specs c x d) =
      and_then (check_specs Γ q c) (λ b.
      and_then (check_spec (inner Γ (sig b)) (q + size_of_parts b) d) (λ e. ok (more_parts b x e)))

  pub check_spec : {C : Type 0} → Scope → ℕ → SpecText → Answer C Part
  check_spec Γ q abstract_spec = ok (abstract_part q)
  check_spec Γ q (defined_spec t) = and_then (check_type Γ t) (λ a. ok (defined_part a))
  check_spec Γ q (value_spec t) = and_then (check_type Γ t) (λ a. ok (value_part a))
  check_spec Γ q (module_spec s) = and_then (check_sig Γ (suc q) s) (λ a. ok (module_part a))
