-- Modules.
use Rattle.std.specs.Prelude.{ℕ, suc, ◌+◌, List, []}
use Rattle.types.specs.Types.{ModulePath, Ty}
use Rattle.cores.specs.Meaning.{Outcome}
use Rattle.cores.specs.declared.interface.Operation.{Operation}
use Rattle.rules.specs.Syntax.{Module, module_path, struct, functor_of, applied, ascribed, Items, no_items, more_items, Item, type_item, let_item, module_item}
use Rattle.checker.specs.Numbered.{Sig, sig, functor_sig, Parts, no_parts, more_parts, Part, defined_part, value_part, module_part, size_of, size_of_parts}
use Rattle.checker.specs.Meanings.{Meaning, itself}
use Rattle.checker.specs.Copying.{copied, strengthened}
use Rattle.checker.specs.Scope.{Scope, inner, module_at}
use Rattle.checker.specs.Comparing.{Verdict, matched, differs, match_sigs}
use Rattle.checker.specs.Faults.{Answer, ok, fault, no_functor, no_match, and_then, leads_to, ask_sig}
use Rattle.checker.specs.Texts.{check_type, check_sig}
use Rattle.checker.specs.Terms.{check_term}

-- a match, or a fault at the place of what has to match
abbrev pub matches : {C : Type 0} → ℕ → Verdict → Answer C Meaning
matches place (matched σ) = ok σ
matches place (differs x m) = fault (no_match place x m)

-- the signature of a module path, its words from a place on
abbrev pub check_path : {C : Type 0} → Scope → ℕ → ℕ → ModulePath → Answer C Sig
check_path Γ q place p = and_then (leads_to place (module_at Γ p)) (λ s. ask_sig place (strengthened q s))

-- the result of an application, its words from a place on: what is applied is a functor, the argument matches its parameter, and
-- in the result the parameter's types are the argument's
abbrev pub apply_sig : {C : Type 0} → ℕ → ℕ → ℕ → Sig → Sig → Answer C Sig
apply_sig q place argument (sig c) a = fault (no_functor place)
apply_sig q place argument (functor_sig s r) a =
    and_then (matches argument (match_sigs a s)) (λ σ. ask_sig place (copied q σ r))

-- the signature of a module, its words from a place on. A signature that is written for a module was asked its size, and is moved down
-- over the module.
abbrev mutual
  pub check_module : {C : Type 0} → (Operation → List Ty → Outcome C) → Scope → ℕ → Module → Answer C Sig
  check_module rule Γ q (module_path place p) = check_path Γ q place p
  check_module rule Γ q (struct place is) = and_then (check_items rule Γ q is) (λ c. ask_sig place (sig c))
  check_module rule Γ q (functor_of place s m) =
      and_then (check_sig Γ (suc q) s) (λ p.
      and_then (check_module rule (inner Γ p) (suc (q + size_of p)) m) (λ r. ask_sig place (functor_sig p r)))
  check_module rule Γ q (applied place m argument p) =
      and_then (check_module rule Γ q m) (λ f.
      and_then (check_path Γ (q + size_of f) argument p) (λ a. apply_sig q place argument f a))
  check_module rule Γ q (ascribed place inner_place m s) =
      and_then (check_module rule Γ q m) (λ g.
      and_then (check_sig Γ (q + size_of g) s) (λ w.
      and_then (matches inner_place (match_sigs g w)) (λ σ. ok (copied q itself w))))

  -- the components of a structure, each item with those before it known
  pub check_items : {C : Type 0} → (Operation → List Ty → Outcome C) → Scope → ℕ → Items → Answer C Parts
  check_items rule Γ q no_items = ok no_parts
  check_items rule Γ q (more_items is x i) =
      and_then (check_items rule Γ q is) (λ c.
      and_then (check_item rule (inner Γ (sig c)) (q + size_of_parts c) i) (λ d. ok (more_parts c x d)))

  -- a component: a defined type, a value of its term's type, or a module
  pub check_item : {C : Type 0} → (Operation → List Ty → Outcome C) → Scope → ℕ → Item → Answer C Part
  check_item rule Γ q (type_item t) = and_then (check_type Γ t) (λ a. ok (defined_part a))
  check_item rule Γ q (let_item e) = and_then (check_term rule Γ [] e) (λ a. ok (value_part a))
  check_item rule Γ q (module_item m) = and_then (check_module rule Γ (suc q) m) (λ s. ok (module_part s))
