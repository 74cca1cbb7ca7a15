-- What a fault means: a question that the text asks, in text order and parts before wholes, and that is answered no.
use Rattle.std.specs.Prelude.{◌≡◌, ℕ, suc, ◌+◌, false, List, [], ◌∷◌, map, Some, None, Ok}
use Rattle.types.specs.Types.{Name, Head, ModulePath, named, Ty, leaf, label0, label1, label2}
use Rattle.cores.specs.Meaning.{Outcome, gives, refuses}
use Rattle.cores.specs.declared.interface.Operation.{Operation}
use Rattle.cores.specs.declared.interface.Operation.TheVariants.{Literal, Function, Operator}
use Rattle.rules.specs.Signatures.{Sort, a_type, a_value, Signature, structure, functor, Components, Declaration, value, sort_of, find}
use Rattle.rules.specs.Substitution.{under, reading, on_signature}
use Rattle.rules.specs.Lookup.{Env, extend, At, Has}
use Rattle.rules.specs.Strengthening.{strengthen}
use Rattle.rules.specs.Syntax.{TypeText, path_text, label_text0, label_text1, label_text2, type_of, SignatureText, sig_text, functor_text, SpecTexts, more_specs, SpecText, defined_spec, value_spec, module_spec, components_of, declaration_of, Term, variable, component, integer, operation, lambda, Terms, more_terms, Module, module_path, struct, functor_of, applied, ascribed, Items, more_items, Item, type_item, let_item, module_item}
use Rattle.rules.specs.Rules.{pick, item_sort}
use Rattle.rules.specs.Checker.{normal_type, normalize}
use Rattle.rules.specs.Sizes.{signature_size, components_size, small_type, small_signature, in_numbers}
use Rattle.rules.specs.Faults.{Mismatch, Fault, no_way, refused_types, no_functor, no_match, too_large, twice, run_type, run_signature, run_specs, run_term, run_terms, run_path, run_module, run_items}
use Rattle.rules.specs.Failures.{FirstFailure}

-- the questions that a text asks, each with its place and with what is known there
pub data Question : Type 0 where
  -- does the path lead to a type, to a value, to a module? is the variable there?
  to_type : Env → ℕ → ModulePath → Name → Question
  to_value : Env → ℕ → ModulePath → Name → Question
  to_module : Env → ℕ → ModulePath → Question
  to_variable : List Ty → ℕ → ℕ → Question
  -- does the core take these types? in normal form, and the same with numbers for abstract types
  of_core : ℕ → Operation → List Ty → List Ty → Question
  -- is what is applied, of this signature, a functor?
  of_functor : ℕ → Signature → Question
  -- does the first signature match the second?
  of_match : Env → ℕ → Signature → Signature → Question
  -- is the type, or the signature, within its limit?
  of_type : ℕ → Ty → Question
  of_signature : ℕ → Signature → Question
  -- is the sort and name new among these components?
  of_name : Sort → Name → Components → Question

-- a question is answered no, and this fault tells it
pub data No {C : Type 0} (rule : Operation → List Ty → Outcome C) : Question → Fault C → Type 0 where
  no_type : {Γ : Env} {place : ℕ} {p : ModulePath} {x : Name} → ((d : Declaration) → Has Γ p a_type x d → ⊥) → No rule (to_type Γ place p x) (no_way place)
  no_value : {Γ : Env} {place : ℕ} {p : ModulePath} {x : Name} → ((t : Ty) → Has Γ p a_value x (value t) → ⊥) → No rule (to_value Γ place p x) (no_way place)
  no_module : {Γ : Env} {place : ℕ} {p : ModulePath} → ((s : Signature) → At Γ p s → ⊥) → No rule (to_module Γ place p) (no_way place)
  no_variable : {Δ : List Ty} {place k : ℕ} → pick Δ k ≡ None → No rule (to_variable Δ place k) (no_way place)
  -- the rule refuses the normal forms, and those with numbers for abstract types, whose cause is told
  core_refuses :
      {place : ℕ} {o : Operation} {ns ms : List Ty} (c e : C) → rule o ns ≡ refuses c → rule o ms ≡ refuses e → No rule (of_core place o ns ms) (refused_types place e)
  applied_structure : {place : ℕ} {c : Components} → No rule (of_functor place (structure c)) (no_functor place)
  fails_first : {Γ : Env} {place : ℕ} {a b : Signature} {m : Mismatch} → FirstFailure Γ None a b m → No rule (of_match Γ place a b) (no_match place m)
  type_over : {place : ℕ} {t : Ty} → small_type t ≡ false → No rule (of_type place t) (too_large place)
  signature_over : {place : ℕ} {s : Signature} → small_signature s ≡ false → No rule (of_signature place s) (too_large place)
  declared_before : {s : Sort} {x : Name} {c : Components} (d : Declaration) → find s x c ≡ Some d → No rule (of_name s x c) (twice x)

-- a written type asks a question, once those before are answered yes
pub data TypeAsks (C : Type 0) (Γ : Env) : TypeText → Question → Type 0 where
  path : {place : ℕ} {p : ModulePath} {x : Name} → TypeAsks C Γ (path_text place p x) (to_type Γ place p x)
  path_size : {place : ℕ} {p : ModulePath} {x : Name} (n : Ty) → normal_type Γ (leaf (named p x)) ≡ Some n → TypeAsks C Γ (path_text place p x) (of_type place n)
  plain_size : {place l : ℕ} → TypeAsks C Γ (label_text0 place l) (of_type place (label0 l))
  part : {place l : ℕ} {t : TypeText} {q : Question} → TypeAsks C Γ t q → TypeAsks C Γ (label_text1 place l t) q
  part_size : {place l : ℕ} {t : TypeText} (n : Ty) → run_type {C = C} Γ t ≡ Ok n → TypeAsks C Γ (label_text1 place l t) (of_type place (label1 l n))
  first : {place l : ℕ} {t u : TypeText} {q : Question} → TypeAsks C Γ t q → TypeAsks C Γ (label_text2 place l t u) q
  second : {place l : ℕ} {t u : TypeText} {q : Question} (n : Ty) → run_type {C = C} Γ t ≡ Ok n → TypeAsks C Γ u q → TypeAsks C Γ (label_text2 place l t u) q
  parts_size :
      {place l : ℕ} {t u : TypeText} (n m : Ty) → run_type {C = C} Γ t ≡ Ok n → run_type {C = C} Γ u ≡ Ok m →
      TypeAsks C Γ (label_text2 place l t u) (of_type place (label2 l n m))

mutual
  -- a written signature asks a question
  pub data SignatureAsks (C : Type 0) : Env → SignatureText → Question → Type 0 where
    specs : {Γ : Env} {place : ℕ} {c : SpecTexts} {q : Question} → SpecsAsk C Γ c q → SignatureAsks C Γ (sig_text place c) q
    specs_size :
        {Γ : Env} {place : ℕ} {c : SpecTexts} (b : Components) → run_specs {C = C} Γ c ≡ Ok b →
        SignatureAsks C Γ (sig_text place c) (of_signature place (structure b))
    parameter : {Γ : Env} {place : ℕ} {s r : SignatureText} {q : Question} → SignatureAsks C Γ s q → SignatureAsks C Γ (functor_text place s r) q
    result :
        {Γ : Env} {place : ℕ} {s r : SignatureText} {q : Question} (a : Signature) → run_signature {C = C} Γ s ≡ Ok a →
        SignatureAsks C (extend Γ a) r q → SignatureAsks C Γ (functor_text place s r) q
    functor_text_size :
        {Γ : Env} {place : ℕ} {s r : SignatureText} (a b : Signature) → run_signature {C = C} Γ s ≡ Ok a → run_signature {C = C} (extend Γ a) r ≡ Ok b →
        SignatureAsks C Γ (functor_text place s r) (of_signature place (functor a b))

  pub data SpecsAsk (C : Type 0) : Env → SpecTexts → Question → Type 0 where
    spec_before : {Γ : Env} {c : SpecTexts} {x : Name} {d : SpecText} {q : Question} → SpecsAsk C Γ c q → SpecsAsk C Γ (more_specs c x d) q
    spec_new :
        {Γ : Env} {c : SpecTexts} {x : Name} {d : SpecText} (b : Components) → run_specs {C = C} Γ c ≡ Ok b →
        SpecsAsk C Γ (more_specs c x d) (of_name (sort_of (declaration_of d)) x (components_of c))
    spec_last :
        {Γ : Env} {c : SpecTexts} {x : Name} {d : SpecText} {q : Question} (b : Components) → run_specs {C = C} Γ c ≡ Ok b →
        SpecAsks C (extend Γ (structure b)) d q → SpecsAsk C Γ (more_specs c x d) q

  pub data SpecAsks (C : Type 0) : Env → SpecText → Question → Type 0 where
    in_defined : {Γ : Env} {t : TypeText} {q : Question} → TypeAsks C Γ t q → SpecAsks C Γ (defined_spec t) q
    in_value : {Γ : Env} {t : TypeText} {q : Question} → TypeAsks C Γ t q → SpecAsks C Γ (value_spec t) q
    in_module : {Γ : Env} {s : SignatureText} {q : Question} → SignatureAsks C Γ s q → SpecAsks C Γ (module_spec s) q

mutual
  -- a term asks a question; `numbers` puts numbers for abstract types
  pub data TermAsks {C : Type 0} (rule : Operation → List Ty → Outcome C) (numbers : Ty → Ty) (Γ : Env) : List Ty → Term → Question → Type 0 where
    ask_variable : {Δ : List Ty} {place k : ℕ} → TermAsks rule numbers Γ Δ (variable place k) (to_variable Δ place k)
    ask_value : {Δ : List Ty} {place : ℕ} {p : ModulePath} {x : Name} → TermAsks rule numbers Γ Δ (component place p x) (to_value Γ place p x)
    ask_literal : {Δ : List Ty} {place : ℕ} → TermAsks rule numbers Γ Δ (integer place) (of_core place Literal [] [])
    literal_size : {Δ : List Ty} {place : ℕ} (n : Ty) → rule Literal [] ≡ gives n → TermAsks rule numbers Γ Δ (integer place) (of_type place n)
    in_arguments : {Δ : List Ty} {place k : ℕ} {ts : Terms} {q : Question} → TermsAsk rule numbers Γ Δ ts q → TermAsks rule numbers Γ Δ (operation place k ts) q
    ask_operator :
        {Δ : List Ty} {place k : ℕ} {ts : Terms} (ns : List Ty) → run_terms rule numbers Γ Δ ts ≡ Ok ns →
        TermAsks rule numbers Γ Δ (operation place k ts) (of_core place (Operator k) ns (map numbers ns))
    operator_size :
        {Δ : List Ty} {place k : ℕ} {ts : Terms} (ns : List Ty) (n : Ty) → run_terms rule numbers Γ Δ ts ≡ Ok ns → rule (Operator k) ns ≡ gives n →
        TermAsks rule numbers Γ Δ (operation place k ts) (of_type place n)
    in_parameter : {Δ : List Ty} {place : ℕ} {t : TypeText} {b : Term} {q : Question} → TypeAsks C Γ t q → TermAsks rule numbers Γ Δ (lambda place t b) q
    in_body :
        {Δ : List Ty} {place : ℕ} {t : TypeText} {b : Term} {q : Question} (a : Ty) → run_type {C = C} Γ t ≡ Ok a →
        TermAsks rule numbers Γ (type_of t ∷ Δ) b q → TermAsks rule numbers Γ Δ (lambda place t b) q
    ask_function :
        {Δ : List Ty} {place : ℕ} {t : TypeText} {b : Term} (a r : Ty) → run_type {C = C} Γ t ≡ Ok a → run_term rule numbers Γ (type_of t ∷ Δ) b ≡ Ok r →
        TermAsks rule numbers Γ Δ (lambda place t b) (of_core place Function (a ∷ r ∷ []) (map numbers (a ∷ r ∷ [])))
    function_size :
        {Δ : List Ty} {place : ℕ} {t : TypeText} {b : Term} (a r n : Ty) → run_type {C = C} Γ t ≡ Ok a → run_term rule numbers Γ (type_of t ∷ Δ) b ≡ Ok r →
        rule Function (a ∷ r ∷ []) ≡ gives n → TermAsks rule numbers Γ Δ (lambda place t b) (of_type place n)

  pub data TermsAsk {C : Type 0} (rule : Operation → List Ty → Outcome C) (numbers : Ty → Ty) (Γ : Env) : List Ty → Terms → Question → Type 0 where
    in_first : {Δ : List Ty} {t : Term} {ts : Terms} {q : Question} → TermAsks rule numbers Γ Δ t q → TermsAsk rule numbers Γ Δ (more_terms t ts) q
    in_later :
        {Δ : List Ty} {t : Term} {ts : Terms} {q : Question} (n : Ty) → run_term rule numbers Γ Δ t ≡ Ok n → TermsAsk rule numbers Γ Δ ts q →
        TermsAsk rule numbers Γ Δ (more_terms t ts) q

-- a module path asks a question
pub data PathAsks (Γ : Env) (place : ℕ) (p : ModulePath) : Question → Type 0 where
  ask_module : PathAsks Γ place p (to_module Γ place p)
  module_size : (s n : Signature) → At Γ p s → normalize Γ (strengthen p s) ≡ Some n → PathAsks Γ place p (of_signature place n)

mutual
  -- a module asks a question; its signature will stand at row position k, and those of heads where `from` says
  pub data ModuleAsks {C : Type 0} (rule : Operation → List Ty → Outcome C) : (Head → ℕ) → Env → ℕ → Module → Question → Type 0 where
    of_path : {from : Head → ℕ} {Γ : Env} {k place : ℕ} {p : ModulePath} {q : Question} → PathAsks Γ place p q → ModuleAsks rule from Γ k (module_path place p) q
    in_items : {from : Head → ℕ} {Γ : Env} {k place : ℕ} {is : Items} {q : Question} → ItemsAsk rule from Γ k is q → ModuleAsks rule from Γ k (struct place is) q
    struct_size :
        {from : Head → ℕ} {Γ : Env} {k place : ℕ} {is : Items} (c : Components) → run_items rule from Γ k is ≡ Ok c →
        ModuleAsks rule from Γ k (struct place is) (of_signature place (structure c))
    in_parameter_signature :
        {from : Head → ℕ} {Γ : Env} {k place : ℕ} {s : SignatureText} {m : Module} {q : Question} → SignatureAsks C Γ s q →
        ModuleAsks rule from Γ k (functor_of place s m) q
    in_functor_body :
        {from : Head → ℕ} {Γ : Env} {k place : ℕ} {s : SignatureText} {m : Module} {q : Question} (a : Signature) → run_signature {C = C} Γ s ≡ Ok a →
        ModuleAsks rule (under (suc k) from) (extend Γ a) (suc (k + signature_size a)) m q → ModuleAsks rule from Γ k (functor_of place s m) q
    functor_size :
        {from : Head → ℕ} {Γ : Env} {k place : ℕ} {s : SignatureText} {m : Module} (a r : Signature) → run_signature {C = C} Γ s ≡ Ok a →
        run_module rule (under (suc k) from) (extend Γ a) (suc (k + signature_size a)) m ≡ Ok r →
        ModuleAsks rule from Γ k (functor_of place s m) (of_signature place (functor a r))
    in_applied :
        {from : Head → ℕ} {Γ : Env} {k place argument : ℕ} {m : Module} {p : ModulePath} {q : Question} → ModuleAsks rule from Γ k m q →
        ModuleAsks rule from Γ k (applied place m argument p) q
    in_argument :
        {from : Head → ℕ} {Γ : Env} {k place argument : ℕ} {m : Module} {p : ModulePath} {q : Question} (f : Signature) → run_module rule from Γ k m ≡ Ok f →
        PathAsks Γ argument p q → ModuleAsks rule from Γ k (applied place m argument p) q
    ask_functor :
        {from : Head → ℕ} {Γ : Env} {k place argument : ℕ} {m : Module} {p : ModulePath} (f b : Signature) → run_module rule from Γ k m ≡ Ok f →
        run_path {C = C} Γ argument p ≡ Ok b → ModuleAsks rule from Γ k (applied place m argument p) (of_functor place f)
    argument_matches :
        {from : Head → ℕ} {Γ : Env} {k place argument : ℕ} {m : Module} {p : ModulePath} (s r b : Signature) → run_module rule from Γ k m ≡ Ok (functor s r) →
        run_path {C = C} Γ argument p ≡ Ok b → ModuleAsks rule from Γ k (applied place m argument p) (of_match Γ argument b s)
    result_size :
        {from : Head → ℕ} {Γ : Env} {k place argument : ℕ} {m : Module} {p : ModulePath} (s r n : Signature) → run_module rule from Γ k m ≡ Ok (functor s r) →
        normalize Γ (on_signature (reading p) r) ≡ Some n → ModuleAsks rule from Γ k (applied place m argument p) (of_signature place n)
    in_ascribed :
        {from : Head → ℕ} {Γ : Env} {k place inner : ℕ} {m : Module} {s : SignatureText} {q : Question} → ModuleAsks rule from Γ k m q →
        ModuleAsks rule from Γ k (ascribed place inner m s) q
    in_signature :
        {from : Head → ℕ} {Γ : Env} {k place inner : ℕ} {m : Module} {s : SignatureText} {q : Question} (g : Signature) → run_module rule from Γ k m ≡ Ok g →
        SignatureAsks C Γ s q → ModuleAsks rule from Γ k (ascribed place inner m s) q
    module_matches :
        {from : Head → ℕ} {Γ : Env} {k place inner : ℕ} {m : Module} {s : SignatureText} (g a : Signature) → run_module rule from Γ k m ≡ Ok g →
        run_signature {C = C} Γ s ≡ Ok a → ModuleAsks rule from Γ k (ascribed place inner m s) (of_match Γ inner g a)

  pub data ItemsAsk {C : Type 0} (rule : Operation → List Ty → Outcome C) : (Head → ℕ) → Env → ℕ → Items → Question → Type 0 where
    item_before :
        {from : Head → ℕ} {Γ : Env} {k : ℕ} {is : Items} {x : Name} {i : Item} {q : Question} → ItemsAsk rule from Γ k is q → ItemsAsk rule from Γ k (more_items is x i) q
    item_new :
        {from : Head → ℕ} {Γ : Env} {k : ℕ} {is : Items} {x : Name} {i : Item} (c : Components) → run_items rule from Γ k is ≡ Ok c →
        ItemsAsk rule from Γ k (more_items is x i) (of_name (item_sort i) x c)
    item_last :
        {from : Head → ℕ} {Γ : Env} {k : ℕ} {is : Items} {x : Name} {i : Item} {q : Question} (c : Components) → run_items rule from Γ k is ≡ Ok c →
        ItemAsks rule (under k from) (extend Γ (structure c)) (suc (k + components_size c)) i q → ItemsAsk rule from Γ k (more_items is x i) q

  pub data ItemAsks {C : Type 0} (rule : Operation → List Ty → Outcome C) : (Head → ℕ) → Env → ℕ → Item → Question → Type 0 where
    in_type_item : {from : Head → ℕ} {Γ : Env} {k : ℕ} {t : TypeText} {q : Question} → TypeAsks C Γ t q → ItemAsks rule from Γ k (type_item t) q
    in_let_item : {from : Head → ℕ} {Γ : Env} {k : ℕ} {t : Term} {q : Question} → TermAsks rule (in_numbers from Γ) Γ [] t q → ItemAsks rule from Γ k (let_item t) q
    in_module_item : {from : Head → ℕ} {Γ : Env} {k : ℕ} {m : Module} {q : Question} → ModuleAsks rule from Γ k m q → ItemAsks rule from Γ k (module_item m) q
