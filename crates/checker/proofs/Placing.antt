-- Numbers are places.
use Rattle.std.proofs.Common.{ℕ, suc, ◌+◌, Bool, true, false, cond, List, [], refl}
use Rattle.types.specs.Types.{ModulePath, Ty}
use Rattle.cores.specs.Meaning.{Outcome}
use Rattle.cores.specs.declared.interface.Operation.{Operation}
use Rattle.rules.specs.Syntax.{SignatureText, sig_text, functor_text, SpecTexts, no_specs, more_specs, SpecText, abstract_spec, defined_spec, value_spec, module_spec, Module, module_path, struct, functor_of, applied, ascribed, Items, no_items, more_items, Item, type_item, let_item, module_item}
use Rattle.checker.specs.Numbered.{Sig, sig, functor_sig, more_parts, defined_part, value_part, module_part, size_of, size_of_parts, small_sig, Placed, PlacedAll, PlacedOne}
use Rattle.checker.specs.Meanings.{itself}
use Rattle.checker.specs.Copying.{copied, strengthened}
use Rattle.checker.specs.Scope.{Scope, inner, module_at}
use Rattle.checker.specs.Comparing.{match_sigs}
use Rattle.checker.specs.Faults.{too_large, Answer, ok, fault, and_then, leads_to, ask_sig}
use Rattle.checker.specs.Texts.{check_type, check_sig, check_specs, check_spec}
use Rattle.checker.specs.Terms.{check_term}
use Rattle.checker.specs.Modules.{matches, check_path, apply_sig, check_module, check_items, check_item}
use Rattle.checker.specs.Statements.{AnswerPlaced, NumbersArePlaces}
use Rattle.checker.proofs.Copied.{copy_placed}
use Rattle.checker.proofs.Strength.{strengthened_placed}

-- what an answer has, if it is no fault
abbrev Holds : {C A : Type 0} → (A → Type 0) → Answer C A → Type 0
Holds P (ok a) = P a
Holds P (fault e) = Unit {0}

holds_then : {C A B : Type 0} (P : A → Type 0) (Q : B → Type 0) (a : Answer C A) (f : A → Answer C B) → Holds P a → ((x : A) → P x → Holds Q (f x)) → Holds Q (and_then a f)
holds_then P Q (ok a) f h k = k a h
holds_then P Q (fault e) f h k = tt

always : {C A : Type 0} (a : Answer C A) → Holds (λ x. Unit {0}) a
always (ok a) = tt
always (fault e) = tt

asked_placed : (C : Type 0) (q place : ℕ) (n : Sig) → Placed q n → Holds {C = C} (Placed q) (ask_sig place n)
asked_placed C q place n h = go (small_sig n)
  where
    go : (b : Bool) → Holds {C = C} (Placed q) (cond b (ok n) (fault (too_large place)))
    go true = h
    go false = tt

mutual
  sig_placed : (s : SignatureText) (C : Type 0) (G : Scope) (q : ℕ) → Holds {C = C} (Placed q) (check_sig G q s)
  sig_placed (sig_text place c) C G q =
      holds_then (PlacedAll q) (Placed q) (check_specs G q c) (λ b. ask_sig place (sig b)) (specs_placed c C G q) (λ b h. asked_placed C q place (sig b) h)
  sig_placed (functor_text place s r) C G q =
      holds_then (Placed (suc q)) (Placed q) (check_sig G (suc q) s) (λ p. and_then (check_sig (inner G p) (suc (q + size_of p)) r) (λ b. ask_sig place (functor_sig p b)))
      (sig_placed s C G (suc q))
      (λ p h. holds_then (Placed (suc (q + size_of p))) (Placed q) (check_sig (inner G p) (suc (q + size_of p)) r) (λ b. ask_sig place (functor_sig p b))
      (sig_placed r C (inner G p) (suc (q + size_of p))) (λ b k. asked_placed C q place (functor_sig p b) (h, k)))

  specs_placed : (c : SpecTexts) (C : Type 0) (G : Scope) (q : ℕ) → Holds {C = C} (PlacedAll q) (check_specs G q c)
  specs_placed no_specs C G q = tt
  specs_placed (more_specs c x d) C G q =
      holds_then (PlacedAll q) (PlacedAll q) (check_specs G q c) (λ b. and_then (check_spec (inner G (sig b)) (q + size_of_parts b) d) (λ e. ok (more_parts b x e)))
      (specs_placed c C G q)
      (λ b h. holds_then (PlacedOne (q + size_of_parts b)) (PlacedAll q) (check_spec (inner G (sig b)) (q + size_of_parts b) d) (λ e. ok (more_parts b x e))
      (spec_placed d C (inner G (sig b)) (q + size_of_parts b)) (λ e k. (h, k)))

  spec_placed : (d : SpecText) (C : Type 0) (G : Scope) (q : ℕ) → Holds {C = C} (PlacedOne q) (check_spec G q d)
  spec_placed abstract_spec C G q = refl
  spec_placed (defined_spec t) C G q =
      holds_then {C = C} (λ a. Unit {0}) (PlacedOne q) (check_type G t) (λ a. ok (defined_part a)) (always (check_type G t)) (λ a h. tt)
  spec_placed (value_spec t) C G q =
      holds_then {C = C} (λ a. Unit {0}) (PlacedOne q) (check_type G t) (λ a. ok (value_part a)) (always (check_type G t)) (λ a h. tt)
  spec_placed (module_spec s) C G q =
      holds_then (Placed (suc q)) (PlacedOne q) (check_sig G (suc q) s) (λ a. ok (module_part a)) (sig_placed s C G (suc q)) (λ a h. h)

path_placed : (C : Type 0) (G : Scope) (q place : ℕ) (p : ModulePath) → Holds {C = C} (Placed q) (check_path G q place p)
path_placed C G q place p =
    holds_then (λ s. Unit {0}) (Placed q) (leads_to place (module_at G p)) (λ s. ask_sig place (strengthened q s)) (always (leads_to place (module_at G p)))
    (λ s h. asked_placed C q place (strengthened q s) (strengthened_placed s q))

apply_placed : (C : Type 0) (q place argument : ℕ) (f a : Sig) → Holds {C = C} (Placed q) (apply_sig q place argument f a)
apply_placed C q place argument (sig c) a = tt
apply_placed C q place argument (functor_sig s r) a =
    holds_then (λ σ. Unit {0}) (Placed q) (matches argument (match_sigs a s)) (λ σ. ask_sig place (copied q σ r)) (always (matches argument (match_sigs a s)))
    (λ σ h. asked_placed C q place (copied q σ r) (copy_placed r q σ))

module _ {C : Type 0} (rule : Operation → List Ty → Outcome C) where
  mutual
    module_placed : (m : Module) (G : Scope) (q : ℕ) → Holds (Placed q) (check_module rule G q m)
    module_placed (module_path place p) G q = path_placed C G q place p
    module_placed (struct place is) G q =
        holds_then (PlacedAll q) (Placed q) (check_items rule G q is) (λ c. ask_sig place (sig c)) (items_placed is G q) (λ c h. asked_placed C q place (sig c) h)
    module_placed (functor_of place s m) G q =
        holds_then (Placed (suc q)) (Placed q) (check_sig G (suc q) s) (λ p. and_then (check_module rule (inner G p) (suc (q + size_of p)) m) (λ r. ask_sig place (functor_sig p r)))
        (sig_placed s C G (suc q))
        (λ p h. holds_then (Placed (suc (q + size_of p))) (Placed q) (check_module rule (inner G p) (suc (q + size_of p)) m) (λ r. ask_sig place (functor_sig p r))
        (module_placed m (inner G p) (suc (q + size_of p))) (λ r k. asked_placed C q place (functor_sig p r) (h, k)))
    module_placed (applied place m argument p) G q =
        holds_then (Placed q) (Placed q) (check_module rule G q m) (λ f. and_then (check_path G (q + size_of f) argument p) (λ a. apply_sig q place argument f a))
        (module_placed m G q)
        (λ f h. holds_then (λ a. Unit {0}) (Placed q) (check_path G (q + size_of f) argument p) (λ a. apply_sig q place argument f a)
        (always (check_path G (q + size_of f) argument p)) (λ a k. apply_placed C q place argument f a))
    module_placed (ascribed place inner_place m s) G q =
        holds_then (Placed q) (Placed q) (check_module rule G q m)
        (λ g. and_then (check_sig G (q + size_of g) s) (λ w. and_then (matches inner_place (match_sigs g w)) (λ σ. ok (copied q itself w))))
        (module_placed m G q)
        (λ g h. holds_then (λ w. Unit {0}) (Placed q) (check_sig G (q + size_of g) s) (λ w. and_then (matches inner_place (match_sigs g w)) (λ σ. ok (copied q itself w)))
        (always (check_sig G (q + size_of g) s))
        (λ w k. holds_then (λ σ. Unit {0}) (Placed q) (matches inner_place (match_sigs g w)) (λ σ. ok (copied q itself w))
        (always (matches inner_place (match_sigs g w))) (λ σ l. copy_placed w q itself)))

    items_placed : (is : Items) (G : Scope) (q : ℕ) → Holds (PlacedAll q) (check_items rule G q is)
    items_placed no_items G q = tt
    items_placed (more_items is x i) G q =
        holds_then (PlacedAll q) (PlacedAll q) (check_items rule G q is) (λ c. and_then (check_item rule (inner G (sig c)) (q + size_of_parts c) i) (λ d. ok (more_parts c x d)))
        (items_placed is G q)
        (λ c h. holds_then (PlacedOne (q + size_of_parts c)) (PlacedAll q) (check_item rule (inner G (sig c)) (q + size_of_parts c) i) (λ d. ok (more_parts c x d))
        (item_placed i (inner G (sig c)) (q + size_of_parts c)) (λ d k. (h, k)))

    item_placed : (i : Item) (G : Scope) (q : ℕ) → Holds (PlacedOne q) (check_item rule G q i)
    item_placed (type_item t) G q =
        holds_then (λ a. Unit {0}) (PlacedOne q) (check_type G t) (λ a. ok (defined_part a)) (always (check_type G t)) (λ a h. tt)
    item_placed (let_item e) G q =
        holds_then (λ a. Unit {0}) (PlacedOne q) (check_term rule G [] e) (λ a. ok (value_part a)) (always (check_term rule G [] e)) (λ a h. tt)
    item_placed (module_item m) G q =
        holds_then (Placed (suc q)) (PlacedOne q) (check_module rule G (suc q) m) (λ s. ok (module_part s)) (module_placed m G (suc q)) (λ s h. h)

  plain : (q : ℕ) (a : Answer C Sig) → Holds (Placed q) a → AnswerPlaced q a
  plain q (ok n) h = h
  plain q (fault e) h = tt

  pub numbers_are_places : NumbersArePlaces rule
  numbers_are_places G q = ((λ m. plain q (check_module rule G q m) (module_placed m G q)), λ s. plain q (check_sig G q s) (sig_placed s C G q))
