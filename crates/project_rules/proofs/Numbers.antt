-- Which numbers the checker refuses with: of a text for fit 12, 15 and 16, once every unit that it names is known; of a unit 12 to 16.
use Rattle.std.proofs.Common.{◌≡◌, ℕ, suc, ◌+◌, Bool, true, false, cond, List, [], ◌∷◌, Some, None, Option, sym, subst}
use Rattle.types.specs.Types.{ModulePath, Ty, label0, label1, label2}
use Rattle.cores.specs.Meaning.{Outcome, gives, refuses}
use Rattle.cores.specs.declared.interface.Operation.{Operation}
use Rattle.cores.specs.declared.interface.Operation.TheVariants.{Literal, Function, Operator}
use Rattle.rules.specs.Syntax.{TypeText, path_text, label_text0, label_text1, label_text2, SignatureText, sig_text, functor_text, SpecTexts, no_specs, more_specs, SpecText, abstract_spec, defined_spec, value_spec, module_spec, Term, variable, component, integer, operation, lambda, Terms, no_terms, more_terms, Module, module_path, struct, functor_of, applied, ascribed, Items, no_items, more_items, Item, type_item, let_item, module_item}
use Rattle.rules.specs.Rules.{pick}
use Rattle.checker.specs.Numbered.{Sig, sig, functor_sig, more_parts, defined_part, value_part, module_part, size_of, size_of_parts, small_type, small_sig}
use Rattle.checker.specs.Meanings.{itself}
use Rattle.checker.specs.Copying.{copied, strengthened}
use Rattle.checker.specs.Scope.{Scope, inner, module_at, type_at, value_at}
use Rattle.checker.specs.Comparing.{Verdict, matched, differs, match_sigs}
use Rattle.checker.specs.Faults.{too_large, number_of, Answer, ok, fault, and_then, leads_to, ask_type, ask_sig}
use Rattle.checker.specs.Texts.{check_type, check_sig, check_specs, check_spec}
use Rattle.checker.specs.Terms.{judged, check_term, check_terms}
use Rattle.checker.specs.Modules.{matches, check_path, apply_sig, check_module, check_items, check_item}
use Rattle.checker.specs.Units.{all_known, unknown_in_sig, fit}

-- a refusal has a number with a property
abbrev pub Only : {C A : Type 0} → (ℕ → Type 0) → Answer C A → Type 0
Only P (ok a) = Unit {0}
Only P (fault e) = P (number_of e)

module _ (C : Type 0) (P : ℕ → Type 0) (p12 : P 12) (p15 : P 15) (p16 : P 16) where
  only_then : {A B : Type 0} (a : Answer C A) (f : A → Answer C B) → Only P a → ((x : A) → Only P (f x)) → Only P (and_then a f)
  only_then (ok x) f h k = k x
  only_then (fault e) f h k = h

  only_leads : {A : Type 0} (place : ℕ) (o : Option A) → Only P (leads_to {C = C} place o)
  only_leads place (Some a) = tt
  only_leads place None = p12

  only_cond : {A : Type 0} (place : ℕ) (b : Bool) (x : A) → Only {C = C} P (cond b (ok x) (fault (too_large place)))
  only_cond place true x = tt
  only_cond place false x = p16

  only_type : (Γ : Scope) (t : TypeText) → Only P (check_type {C = C} Γ t)
  only_type Γ (path_text place p x) = only_leads place (type_at Γ p x)
  only_type Γ (label_text0 place l) = only_cond place (small_type (label0 l)) (label0 l)
  only_type Γ (label_text1 place l t) =
      only_then (check_type Γ t) (λ a. ask_type place (label1 l a)) (only_type Γ t) (λ a. only_cond place (small_type (label1 l a)) (label1 l a))
  only_type Γ (label_text2 place l t u) =
      only_then (check_type Γ t) (λ a. and_then (check_type Γ u) (λ b. ask_type place (label2 l a b))) (only_type Γ t)
      (λ a. only_then (check_type Γ u) (λ b. ask_type place (label2 l a b)) (only_type Γ u) (λ b. only_cond place (small_type (label2 l a b)) (label2 l a b)))

  mutual
    only_sig : (s : SignatureText) (Γ : Scope) (q : ℕ) → Only P (check_sig {C = C} Γ q s)
    only_sig (sig_text place c) Γ q =
        only_then (check_specs Γ q c) (λ b. ask_sig place (sig b)) (only_specs c Γ q) (λ b. only_cond place (small_sig (sig b)) (sig b))
    only_sig (functor_text place s r) Γ q =
        only_then (check_sig Γ (suc q) s) (λ p. and_then (check_sig (inner Γ p) (suc (q + size_of p)) r) (λ b. ask_sig place (functor_sig p b)))
        (only_sig s Γ (suc q))
        (λ p. only_then (check_sig (inner Γ p) (suc (q + size_of p)) r) (λ b. ask_sig place (functor_sig p b)) (only_sig r (inner Γ p) (suc (q + size_of p)))
        (λ b. only_cond place (small_sig (functor_sig p b)) (functor_sig p b)))

    only_specs : (c : SpecTexts) (Γ : Scope) (q : ℕ) → Only P (check_specs {C = C} Γ q c)
    only_specs no_specs Γ q = tt
    only_specs (more_specs c x d) Γ q =
        only_then (check_specs Γ q c) (λ b. and_then (check_spec (inner Γ (sig b)) (q + size_of_parts b) d) (λ e. ok (more_parts b x e))) (only_specs c Γ q)
        (λ b. only_then (check_spec (inner Γ (sig b)) (q + size_of_parts b) d) (λ e. ok (more_parts b x e)) (only_spec d (inner Γ (sig b)) (q + size_of_parts b)) (λ e. tt))

    only_spec : (d : SpecText) (Γ : Scope) (q : ℕ) → Only P (check_spec {C = C} Γ q d)
    only_spec abstract_spec Γ q = tt
    only_spec (defined_spec t) Γ q = only_then (check_type Γ t) (λ a. ok (defined_part a)) (only_type Γ t) (λ a. tt)
    only_spec (value_spec t) Γ q = only_then (check_type Γ t) (λ a. ok (value_part a)) (only_type Γ t) (λ a. tt)
    only_spec (module_spec s) Γ q = only_then (check_sig Γ (suc q) s) (λ a. ok (module_part a)) (only_sig s Γ (suc q)) (λ a. tt)

  only_match : (place : ℕ) (v : Verdict) → Only P (matches {C = C} place v)
  only_match place (matched σ) = tt
  only_match place (differs x m) = p15

  pub only_fit : (Γ : Scope) (q : ℕ) (g : Sig) (s : SignatureText) → unknown_in_sig Γ s ≡ None → Only P (fit {C = C} Γ q g s)
  only_fit Γ q g s e =
      subst (λ o. Only {C = C} P (and_then (all_known o) (λ z. and_then (check_sig Γ q s) (λ w. and_then (matches 0 (match_sigs g w)) (λ σ. ok (tt {0})))))) (sym e)
      (only_then (check_sig Γ q s) (λ w. and_then (matches 0 (match_sigs g w)) (λ σ. ok (tt {0}))) (only_sig s Γ q)
      (λ w. only_then (matches 0 (match_sigs g w)) (λ σ. ok (tt {0})) (only_match 0 (match_sigs g w)) (λ σ. tt)))

  module _ (rule : Operation → List Ty → Outcome C) (p13 : P 13) (p14 : P 14) where
    only_judged : (place : ℕ) (o : Outcome C) → Only P (judged place o)
    only_judged place (gives t) = only_cond place (small_type t) t
    only_judged place (refuses c) = p13

    mutual
      only_term : (e : Term) (Γ : Scope) (Δ : List Ty) → Only P (check_term rule Γ Δ e)
      only_term (variable place k) Γ Δ = only_leads place (pick Δ k)
      only_term (component place p x) Γ Δ = only_leads place (value_at Γ p x)
      only_term (integer place) Γ Δ = only_judged place (rule Literal [])
      only_term (operation place k ts) Γ Δ =
          only_then (check_terms rule Γ Δ ts) (λ list. judged place (rule (Operator k) list)) (only_terms ts Γ Δ) (λ list. only_judged place (rule (Operator k) list))
      only_term (lambda place t b) Γ Δ =
          only_then (check_type Γ t) (λ a. and_then (check_term rule Γ (a ∷ Δ) b) (λ r. judged place (rule Function (a ∷ r ∷ [])))) (only_type Γ t)
          (λ a. only_then (check_term rule Γ (a ∷ Δ) b) (λ r. judged place (rule Function (a ∷ r ∷ []))) (only_term b Γ (a ∷ Δ))
          (λ r. only_judged place (rule Function (a ∷ r ∷ []))))

      only_terms : (ts : Terms) (Γ : Scope) (Δ : List Ty) → Only P (check_terms rule Γ Δ ts)
      only_terms no_terms Γ Δ = tt
      only_terms (more_terms t ts) Γ Δ =
          only_then (check_term rule Γ Δ t) (λ a. and_then (check_terms rule Γ Δ ts) (λ list. ok (a ∷ list))) (only_term t Γ Δ)
          (λ a. only_then (check_terms rule Γ Δ ts) (λ list. ok (a ∷ list)) (only_terms ts Γ Δ) (λ list. tt))

    only_path : (Γ : Scope) (q place : ℕ) (p : ModulePath) → Only P (check_path {C = C} Γ q place p)
    only_path Γ q place p =
        only_then (leads_to place (module_at Γ p)) (λ s. ask_sig place (strengthened q s)) (only_leads place (module_at Γ p))
        (λ s. only_cond place (small_sig (strengthened q s)) (strengthened q s))

    only_apply : (q place argument : ℕ) (f a : Sig) → Only P (apply_sig {C = C} q place argument f a)
    only_apply q place argument (sig c) a = p14
    only_apply q place argument (functor_sig s r) a =
        only_then (matches argument (match_sigs a s)) (λ σ. ask_sig place (copied q σ r)) (only_match argument (match_sigs a s))
        (λ σ. only_cond place (small_sig (copied q σ r)) (copied q σ r))

    mutual
      pub only_module : (m : Module) (Γ : Scope) (q : ℕ) → Only P (check_module rule Γ q m)
      only_module (module_path place p) Γ q = only_path Γ q place p
      only_module (struct place is) Γ q =
          only_then (check_items rule Γ q is) (λ c. ask_sig place (sig c)) (only_items is Γ q) (λ c. only_cond place (small_sig (sig c)) (sig c))
      only_module (functor_of place s m) Γ q =
          only_then (check_sig Γ (suc q) s) (λ p. and_then (check_module rule (inner Γ p) (suc (q + size_of p)) m) (λ r. ask_sig place (functor_sig p r))) (only_sig s Γ (suc q))
          (λ p. only_then (check_module rule (inner Γ p) (suc (q + size_of p)) m) (λ r. ask_sig place (functor_sig p r)) (only_module m (inner Γ p) (suc (q + size_of p)))
          (λ r. only_cond place (small_sig (functor_sig p r)) (functor_sig p r)))
      only_module (applied place m argument p) Γ q =
          only_then (check_module rule Γ q m) (λ f. and_then (check_path Γ (q + size_of f) argument p) (λ a. apply_sig q place argument f a)) (only_module m Γ q)
          (λ f. only_then (check_path Γ (q + size_of f) argument p) (λ a. apply_sig q place argument f a) (only_path Γ (q + size_of f) argument p)
          (λ a. only_apply q place argument f a))
      only_module (ascribed place there m s) Γ q =
          only_then (check_module rule Γ q m)
          (λ g. and_then (check_sig Γ (q + size_of g) s) (λ w. and_then (matches there (match_sigs g w)) (λ σ. ok (copied q itself w)))) (only_module m Γ q)
          (λ g. only_then (check_sig Γ (q + size_of g) s) (λ w. and_then (matches there (match_sigs g w)) (λ σ. ok (copied q itself w))) (only_sig s Γ (q + size_of g))
          (λ w. only_then (matches there (match_sigs g w)) (λ σ. ok (copied q itself w)) (only_match there (match_sigs g w)) (λ σ. tt)))

      only_items : (is : Items) (Γ : Scope) (q : ℕ) → Only P (check_items rule Γ q is)
      only_items no_items Γ q = tt
      only_items (more_items is x i) Γ q =
          only_then (check_items rule Γ q is) (λ c. and_then (check_item rule (inner Γ (sig c)) (q + size_of_parts c) i) (λ d. ok (more_parts c x d))) (only_items is Γ q)
          (λ c. only_then (check_item rule (inner Γ (sig c)) (q + size_of_parts c) i) (λ d. ok (more_parts c x d))
          (only_item i (inner Γ (sig c)) (q + size_of_parts c)) (λ d. tt))

      only_item : (i : Item) (Γ : Scope) (q : ℕ) → Only P (check_item rule Γ q i)
      only_item (type_item t) Γ q = only_then (check_type Γ t) (λ a. ok (defined_part a)) (only_type Γ t) (λ a. tt)
      only_item (let_item e) Γ q = only_then (check_term rule Γ [] e) (λ a. ok (value_part a)) (only_term e Γ []) (λ a. tt)
      only_item (module_item m) Γ q = only_then (check_module rule Γ (suc q) m) (λ s. ok (module_part s)) (only_module m Γ (suc q)) (λ s. tt)
