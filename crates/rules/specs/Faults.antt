-- The checker with its faults: the first question that is answered no, in text order, parts before wholes.
use Rattle.std.specs.Prelude.{ℕ, zero, suc, ◌+◌, Bool, true, false, cond, List, [], ◌∷◌, map, Some, None, Ok, Err, Option, Result}
use Rattle.std.specs.Str.{bytes_eq}
use Rattle.types.specs.Types.{Name, Head, unit, binder, ModulePath, at, dot, named, Ty, leaf, label0, label1, label2}
use Rattle.cores.specs.Meaning.{Outcome, gives, refuses}
use Rattle.cores.specs.declared.interface.Operation.{Operation}
use Rattle.cores.specs.declared.interface.Operation.TheVariants.{Literal, Function, Operator}
use Rattle.rules.specs.Signatures.{a_type, a_value, Signature, structure, functor, Components, empty, more, Declaration, abstract, defined, value, nested, sort_of, find, first_of, extent}
use Rattle.rules.specs.Substitution.{Substitution, under, innermost, reading, on_type, on_signature}
use Rattle.rules.specs.Lookup.{Env, extend}
use Rattle.rules.specs.Strengthening.{strengthen}
use Rattle.rules.specs.Syntax.{TypeText, path_text, label_text0, label_text1, label_text2, type_of, SignatureText, sig_text, functor_text, SpecTexts, no_specs, more_specs, SpecText, abstract_spec, defined_spec, value_spec, module_spec, components_of, declaration_of, Term, variable, component, integer, operation, lambda, Terms, no_terms, more_terms, Module, module_path, struct, functor_of, applied, ascribed, Items, no_items, more_items, Item, type_item, let_item, module_item, CompilationUnit}
use Rattle.rules.specs.Rules.{pick, item_sort}
use Rattle.rules.specs.Environments.{unknown, with_unit}
use Rattle.rules.specs.Projects.{Units, no_units, more_units}
use Rattle.rules.specs.Checker.{and_then, declared, lookup, normal_type, normal_value, normalize, same_form}
use Rattle.rules.specs.Sizes.{signature_size, components_size, small_type, small_signature, in_numbers}

-- where a match fails: the name of the innermost component that was reached in the signature wanted, if any, and the cause:
-- 1 it is not there, 2 another type of a value, 3 another type, 4 a functor against a structure
pub record Mismatch : Type 0 where
  pub component : Option Name
  pub cause : ℕ

-- what is refused: a path that does not lead to the sort wanted, types that the core refuses (with its cause), an application of
-- no functor, a signature that does not match, a type or signature over its limit; each with its place.
-- A name that is declared twice is told before a text is checked, and never here.
pub data Fault (C : Type 0) : Type 0 where
  no_way : ℕ → Fault C
  refused_types : ℕ → C → Fault C
  no_functor : ℕ → Fault C
  no_match : ℕ → Mismatch → Fault C
  too_large : ℕ → Fault C
  twice : Name → Fault C

-- the number of a fault
abbrev pub number : {C : Type 0} → Fault C → ℕ
number (no_way place) = 12
number (refused_types place c) = 13
number (no_functor place) = 14
number (no_match place m) = 15
number (too_large place) = 16
number (twice x) = 5

-- one step after another, up to the first fault
abbrev pub next : {A B E : Type 0} → Result A E → (A → Result B E) → Result B E
next (Ok a) f = f a
next (Err e) f = Err e

-- an answer, or else a fault
abbrev pub must : {A E : Type 0} → E → Option A → Result A E
must e (Some a) = Ok a
must e None = Err e

-- only where there is no answer
abbrev pub must_not : {A B E : Type 0} → E → Option A → Result B E → Result B E
must_not e None r = r
must_not e (Some a) r = Err e

-- an answer that passes a test, or else a fault
abbrev pub within : {A E : Type 0} → Bool → E → A → Result A E
within b e a = cond b (Ok a) (Err e)

-- a written type: its parts, then its own size
abbrev pub run_type : {C : Type 0} → Env → TypeText → Result Ty (Fault C)
run_type Γ (path_text place p x) = next (must (no_way place) (normal_type Γ (leaf (named p x)))) (λ n. within (small_type n) (too_large place) n)
run_type Γ (label_text0 place l) = within (small_type (label0 l)) (too_large place) (label0 l)
run_type Γ (label_text1 place l t) = next (run_type Γ t) (λ n. within (small_type (label1 l n)) (too_large place) (label1 l n))
run_type Γ (label_text2 place l t u) =
    next (run_type Γ t) (λ n. next (run_type Γ u) (λ m. within (small_type (label2 l n m)) (too_large place) (label2 l n m)))

-- a written signature: its specs in order, then its own size
abbrev mutual
  pub run_signature : {C : Type 0} → Env → SignatureText → Result Signature (Fault C)
  run_signature Γ (sig_text place c) = next (run_specs Γ c) (λ b. within (small_signature (structure b)) (too_large place) (structure b))
  run_signature Γ (functor_text place s r) =
      next (run_signature Γ s) (λ a. next (run_signature (extend Γ a) r) (λ b. within (small_signature (functor a b)) (too_large place) (functor a b)))

  pub run_specs : {C : Type 0} → Env → SpecTexts → Result Components (Fault C)
  run_specs Γ no_specs = Ok empty
  run_specs Γ (more_specs c x d) =
      next (run_specs Γ c)
      (λ b. must_not (twice x) (find (sort_of (declaration_of d)) x (components_of c)) (next (run_spec (extend Γ (structure b)) d) (λ e. Ok (more b x e))))

  pub run_spec : {C : Type 0} → Env → SpecText → Result Declaration (Fault C)
  run_spec Γ abstract_spec = Ok abstract
  run_spec Γ (defined_spec t) = next (run_type Γ t) (λ n. Ok (defined n))
  run_spec Γ (value_spec t) = next (run_type Γ t) (λ n. Ok (value n))
  run_spec Γ (module_spec s) = next (run_signature Γ s) (λ a. Ok (nested a))

-- a mismatch at the component w
abbrev pub fails : Option Name → ℕ → Option Mismatch
fails w n = Some (record { component = w; cause = n })

-- what is wanted is there, or else the cause is 1
abbrev pub if_there : {A : Type 0} → Option Name → Option A → (A → Option Mismatch) → Option Mismatch
if_there w None f = fails w 1
if_there w (Some a) f = f a

-- a structure is there, or else the cause is 4
abbrev pub if_structure : Option Name → Option Mismatch → Signature → Option Mismatch
if_structure w rest (structure c) = rest
if_structure w rest (functor s r) = fails w 4

-- a test, or else the cause n
abbrev pub if_same : Option Name → ℕ → Bool → Option Mismatch
if_same w n true = None
if_same w n false = fails w n

-- where a path first lacks what a signature wants, read along θ, in the order of that signature; w is the component around,
-- and f tells where functors fail to match
abbrev mutual
  pub lacks : (Env → Option Name → Signature → Signature → Option Mismatch) → Env → ModulePath → Substitution → Option Name → Signature → Option Mismatch
  lacks f Γ p θ w (structure c) = if_there w (lookup Γ p) (if_structure w (lacks_all f Γ p (under p θ) c))
  lacks f Γ p θ w (functor s r) = if_there w (lookup Γ p) (λ g. f Γ w g (on_signature θ (functor s r)))

  pub lacks_all : (Env → Option Name → Signature → Signature → Option Mismatch) → Env → ModulePath → Substitution → Components → Option Mismatch
  lacks_all f Γ p θ empty = None
  lacks_all f Γ p θ (more c x d) = first_of (lacks_all f Γ p θ c) (lacks_one f Γ p θ x d)

  pub lacks_one : (Env → Option Name → Signature → Signature → Option Mismatch) → Env → ModulePath → Substitution → Name → Declaration → Option Mismatch
  lacks_one f Γ p θ x abstract = if_there (Some x) (declared p a_type x (lookup Γ p)) (λ d. None)
  lacks_one f Γ p θ x (defined t) =
      if_there (Some x) (declared p a_type x (lookup Γ p))
      (λ d. if_same (Some x) 3 (same_form (normal_type Γ (leaf (named p x))) (normal_type Γ (on_type θ t))))
  lacks_one f Γ p θ x (value t) =
      if_there (Some x) (declared p a_value x (lookup Γ p)) (λ d. if_same (Some x) 2 (same_form (normal_value Γ d) (normal_type Γ (on_type θ t))))
  lacks_one f Γ p θ x (nested s) = lacks f Γ (dot p x) θ (Some x) s

-- a signature in normal form is there; a sound one has always one
abbrev pub if_normal : Option Name → Option Signature → (Signature → Option Mismatch) → Option Mismatch
if_normal w None f = fails w 4
if_normal w (Some a) f = f a

-- where a signature first fails to match another, up to a depth: a functor's parameter before its result
abbrev pub mismatch_to : ℕ → Env → Option Name → Signature → Signature → Option Mismatch
mismatch_to zero Γ w a b = fails w 4
mismatch_to (suc n) Γ w (structure g) (structure c) = lacks_all (mismatch_to n) (extend Γ (structure g)) innermost at c
mismatch_to (suc n) Γ w (structure g) (functor s r) = fails w 4
mismatch_to (suc n) Γ w (functor s r) (structure c) = fails w 4
mismatch_to (suc n) Γ w (functor s r) (functor u v) =
    if_normal w (normalize Γ u)
    (λ a. first_of (mismatch_to n Γ w a s) (if_normal w (normalize (extend Γ a) r) (λ b. mismatch_to n (extend Γ a) w b v)))

-- where a signature first fails to match another, if it does
abbrev pub mismatch : Env → Signature → Signature → Option Mismatch
mismatch Γ a b = mismatch_to (extent a + extent b) Γ None a b

-- the types match, or else a fault at this place
abbrev pub matched : {A C : Type 0} → ℕ → Option Mismatch → Result A (Fault C) → Result A (Fault C)
matched place None r = r
matched place (Some m) r = Err (no_match place m)

-- what a core answers: the verdict is that of its rule for the normal forms; the cause is the one that the rule tells
-- when abstract types are given by their numbers, which are refused too
abbrev pub told : {C : Type 0} → ℕ → Outcome C → Outcome C → Result Ty (Fault C)
told place (gives t) o = Ok t
told place (refuses c) (gives t) = Err (refused_types place c)
told place (refuses c) (refuses e) = Err (refused_types place e)

-- the core is asked, then the size of what it gives
abbrev pub ask : {C : Type 0} → (Operation → List Ty → Outcome C) → (Ty → Ty) → ℕ → Operation → List Ty → Result Ty (Fault C)
ask rule numbers place o ns =
    next (told place (rule o ns) (rule o (map numbers ns))) (λ n. within (small_type n) (too_large place) n)

-- a term: its parts, then the core; a variable and a value path ask nothing of the core
abbrev mutual
  pub run_term : {C : Type 0} → (Operation → List Ty → Outcome C) → (Ty → Ty) → Env → List Ty → Term → Result Ty (Fault C)
  run_term rule numbers Γ Δ (variable place k) = must (no_way place) (and_then (pick Δ k) (normal_type Γ))
  run_term rule numbers Γ Δ (component place p x) = must (no_way place) (and_then (declared p a_value x (lookup Γ p)) (normal_value Γ))
  run_term rule numbers Γ Δ (integer place) = ask rule numbers place Literal []
  run_term rule numbers Γ Δ (operation place k ts) = next (run_terms rule numbers Γ Δ ts) (ask rule numbers place (Operator k))
  run_term rule numbers Γ Δ (lambda place t b) =
      next (run_type Γ t) (λ a. next (run_term rule numbers Γ (type_of t ∷ Δ) b) (λ r. ask rule numbers place Function (a ∷ r ∷ [])))

  pub run_terms : {C : Type 0} → (Operation → List Ty → Outcome C) → (Ty → Ty) → Env → List Ty → Terms → Result (List Ty) (Fault C)
  run_terms rule numbers Γ Δ no_terms = Ok []
  run_terms rule numbers Γ Δ (more_terms t ts) =
      next (run_term rule numbers Γ Δ t) (λ n. next (run_terms rule numbers Γ Δ ts) (λ ns. Ok (n ∷ ns)))

-- a path with its abstract types made manifest: whether it leads to a module, then its size
abbrev pub run_path : {C : Type 0} → Env → ℕ → ModulePath → Result Signature (Fault C)
run_path Γ place p =
    next (must (no_way place) (and_then (lookup Γ p) (λ s. normalize Γ (strengthen p s)))) (λ n. within (small_signature n) (too_large place) n)

-- a module that is applied to a path of signature b: is it a functor, does the signature match, then the size of the result
abbrev pub run_apply : {C : Type 0} → Env → ℕ → ℕ → ModulePath → Signature → Signature → Result Signature (Fault C)
run_apply Γ place argument p b (structure c) = Err (no_functor place)
run_apply Γ place argument p b (functor s r) =
    matched argument (mismatch Γ b s)
    (next (must (no_way place) (normalize Γ (on_signature (reading p) r))) (λ n. within (small_signature n) (too_large place) n))

-- a module whose signature will stand at row position k; `from` says where the known heads' signatures stand
abbrev mutual
  pub run_module : {C : Type 0} → (Operation → List Ty → Outcome C) → (Head → ℕ) → Env → ℕ → Module → Result Signature (Fault C)
  run_module rule from Γ k (module_path place p) = run_path Γ place p
  run_module rule from Γ k (struct place is) =
      next (run_items rule from Γ k is) (λ c. within (small_signature (structure c)) (too_large place) (structure c))
  run_module rule from Γ k (functor_of place s m) =
      next (run_signature Γ s)
      (λ a. next (run_module rule (under (suc k) from) (extend Γ a) (suc (k + signature_size a)) m)
      (λ r. within (small_signature (functor a r)) (too_large place) (functor a r)))
  run_module rule from Γ k (applied place m argument p) =
      next (run_module rule from Γ k m) (λ f. next (run_path Γ argument p) (λ b. run_apply Γ place argument p b f))
  run_module rule from Γ k (ascribed place inner m s) =
      next (run_module rule from Γ k m) (λ g. next (run_signature Γ s) (λ a. matched inner (mismatch Γ g a) (Ok a)))

  pub run_items : {C : Type 0} → (Operation → List Ty → Outcome C) → (Head → ℕ) → Env → ℕ → Items → Result Components (Fault C)
  run_items rule from Γ k no_items = Ok empty
  run_items rule from Γ k (more_items is x i) =
      next (run_items rule from Γ k is)
      (λ c. must_not (twice x) (find (item_sort i) x c)
      (next (run_item rule (under k from) (extend Γ (structure c)) (suc (k + components_size c)) i) (λ d. Ok (more c x d))))

  pub run_item : {C : Type 0} → (Operation → List Ty → Outcome C) → (Head → ℕ) → Env → ℕ → Item → Result Declaration (Fault C)
  run_item rule from Γ k (type_item t) = next (run_type Γ t) (λ n. Ok (defined n))
  run_item rule from Γ k (let_item t) = next (run_term rule (in_numbers from Γ) Γ [] t) (λ n. Ok (value n))
  run_item rule from Γ k (module_item m) = next (run_module rule from Γ k m) (λ s. Ok (nested s))

-- what is known of units: their signatures, where these stand in the row, and the row's length
pub record Known : Type 0 where
  pub signatures : Env
  pub stand : Head → ℕ
  pub length : ℕ

abbrev pub none_known : Known
none_known = record { signatures = unknown; stand = λ h. 0; length = 0 }

-- where a unit's signature stands, once it is known
abbrev pub standing : Name → ℕ → (Head → ℕ) → Head → ℕ
standing x k from (unit y) = cond (bytes_eq x y) k (from (unit y))
standing x k from (binder n) = from (binder n)

abbrev pub one_more : Name → Signature → Known → Known
one_more x s w = record {
  signatures = with_unit x s w.signatures;
  stand = standing x w.length w.stand;
  length = w.length + signature_size s;
}

-- one unit behind those that are known
abbrev pub run_unit : {C : Type 0} → (Operation → List Ty → Outcome C) → Known → CompilationUnit → Result Signature (Fault C)
run_unit rule w u = run_module rule w.stand w.signatures w.length u.body

-- a fault with the unit that has it
pub record UnitFault (C : Type 0) : Type 0 where
  pub name : Name
  pub fault : Fault C

abbrev pub in_unit : {A C : Type 0} → Name → Result A (Fault C) → Result A (UnitFault C)
in_unit x (Ok a) = Ok a
in_unit x (Err f) = Err (record { name = x; fault = f })

-- units in load order, up to the first fault
abbrev pub run_units : {C : Type 0} → (Operation → List Ty → Outcome C) → Units → Result Known (UnitFault C)
run_units rule no_units = Ok none_known
run_units rule (more_units us u) =
    next (run_units rule us)
    (λ w. in_unit u.name
    (must_not (twice u.name) (w.signatures (unit u.name)) (next (run_unit rule w u) (λ s. Ok (one_more u.name s w)))))

-- whether a written signature fits a unit whose own signature is g: its own questions, then the match, told at place 0
abbrev pub run_fit : {C : Type 0} → Known → Signature → SignatureText → Result Signature (Fault C)
run_fit w g t = next (run_signature w.signatures t) (λ a. matched 0 (mismatch w.signatures g a) (Ok a))

-- whether nothing is refused, and whether what is refused is a size
abbrev pub is_accepted : {A E : Type 0} → Result A E → Bool
is_accepted (Ok a) = true
is_accepted (Err e) = false

abbrev pub is_large : {C : Type 0} → Fault C → Bool
is_large (no_way place) = false
is_large (refused_types place c) = false
is_large (no_functor place) = false
is_large (no_match place m) = false
is_large (too_large place) = true
is_large (twice x) = false

abbrev pub is_size : {A C : Type 0} → Result A (Fault C) → Bool
is_size (Ok a) = false
is_size (Err f) = is_large f

abbrev pub is_unit_size : {A C : Type 0} → Result A (UnitFault C) → Bool
is_unit_size (Ok a) = false
is_unit_size (Err f) = is_large f.fault
