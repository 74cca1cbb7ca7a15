-- The rules without the sixth, as a function. It keeps every type that it knows in normal form, so that one replacement of paths
-- gives the normal form of a type; it tells no causes.
use Rattle.std.specs.Prelude.{ℕ, zero, suc, ◌+◌, Bool, true, false, cond, ◌&&◌, List, [], ◌∷◌, Some, None, Option}
use Rattle.types.specs.Types.{Name, unit, ModulePath, at, dot, named, numbered, Ty, leaf, label0, label1, label2, same}
use Rattle.cores.specs.Meaning.{Outcome, gives, refuses}
use Rattle.cores.specs.declared.interface.Operation.{Operation}
use Rattle.cores.specs.declared.interface.Operation.TheVariants.{Literal, Function, Operator}
use Rattle.rules.specs.Signatures.{Sort, a_type, a_value, a_module, Signature, structure, functor, Components, empty, more, Declaration, abstract, defined, value, nested, sort_of, find, on_some, extent}
use Rattle.rules.specs.Substitution.{Substitution, under, innermost, reading, on_type, on_signature, on_declaration}
use Rattle.rules.specs.Lookup.{Env, extend}
use Rattle.rules.specs.Strengthening.{strengthen}
use Rattle.rules.specs.Syntax.{type_of, signature_of, Term, variable, component, integer, operation, lambda, Terms, no_terms, more_terms, Module, module_path, struct, functor_of, applied, ascribed, Items, no_items, more_items, Item, type_item, let_item, module_item, CompilationUnit}
use Rattle.rules.specs.Rules.{pick, item_sort}
use Rattle.rules.specs.Environments.{unknown, with_unit}
use Rattle.rules.specs.Projects.{Units, no_units, more_units}

-- one step after another
abbrev pub and_then : {A B : Type 0} → Option A → (A → Option B) → Option B
and_then None f = None
and_then (Some a) f = f a

-- a test of an answer, if there is one
abbrev pub given : {A : Type 0} → Option A → (A → Bool) → Bool
given None f = false
given (Some a) f = f a

-- only where there is no answer
abbrev pub unless : {A B : Type 0} → Option A → Option B → Option B
unless None o = o
unless (Some a) o = None

-- what is declared in a structure, read as the path's
abbrev pub declared : ModulePath → Sort → Name → Option Signature → Option Declaration
declared p s x None = None
declared p s x (Some (structure c)) = on_some (on_declaration (reading p)) (find s x c)
declared p s x (Some (functor a b)) = None

-- the signature of a module that is declared
abbrev pub module_of : Option Declaration → Option Signature
module_of None = None
module_of (Some abstract) = None
module_of (Some (defined t)) = None
module_of (Some (value t)) = None
module_of (Some (nested s)) = Some s

-- where a path leads
abbrev pub lookup : Env → ModulePath → Option Signature
lookup Γ (at h) = Γ h
lookup Γ (dot p x) = module_of (declared p a_module x (lookup Γ p))

-- what is put for a type path: itself if it is abstract, or its definition
abbrev pub put : ModulePath → Name → Option Declaration → Option Ty
put p x None = None
put p x (Some abstract) = Some (leaf (named p x))
put p x (Some (defined t)) = Some t
put p x (Some (value t)) = None
put p x (Some (nested s)) = None

-- the normal form of a type, where everything known is in normal form
abbrev pub normal_type : Env → Ty → Option Ty
normal_type Γ (leaf (named p x)) = put p x (declared p a_type x (lookup Γ p))
normal_type Γ (leaf (numbered n)) = None
normal_type Γ (label0 l) = Some (label0 l)
normal_type Γ (label1 l t) = on_some (label1 l) (normal_type Γ t)
normal_type Γ (label2 l t u) = and_then (normal_type Γ t) (λ a. on_some (label2 l a) (normal_type Γ u))

-- a signature with its types in normal form, if it is sound
abbrev mutual
  pub normalize : Env → Signature → Option Signature
  normalize Γ (structure c) = on_some structure (normalize_all Γ c)
  normalize Γ (functor s r) = and_then (normalize Γ s) (λ a. on_some (functor a) (normalize (extend Γ a) r))

  pub normalize_all : Env → Components → Option Components
  normalize_all Γ empty = Some empty
  normalize_all Γ (more c x d) =
      and_then (normalize_all Γ c) (λ b. unless (find (sort_of d) x c) (on_some (more b x) (normalize_one (extend Γ (structure b)) d)))

  pub normalize_one : Env → Declaration → Option Declaration
  normalize_one Γ abstract = Some abstract
  normalize_one Γ (defined t) = on_some defined (normal_type Γ t)
  normalize_one Γ (value t) = on_some value (normal_type Γ t)
  normalize_one Γ (nested s) = on_some nested (normalize Γ s)

abbrev pub is_structure : Option Signature → Bool
is_structure None = false
is_structure (Some (structure c)) = true
is_structure (Some (functor s r)) = false

-- two normal forms are there and the same
abbrev pub same_form : Option Ty → Option Ty → Bool
same_form None o = false
same_form (Some t) None = false
same_form (Some t) (Some u) = same t u

-- the normal form of a value's type
abbrev pub normal_value : Env → Declaration → Option Ty
normal_value Γ abstract = None
normal_value Γ (defined t) = None
normal_value Γ (value t) = normal_type Γ t
normal_value Γ (nested s) = None

-- whether a path has what a signature wants, read along θ; f tells whether functors match
abbrev mutual
  pub offered : (Env → Signature → Signature → Bool) → Env → ModulePath → Substitution → Signature → Bool
  offered f Γ p θ (structure c) = is_structure (lookup Γ p) && offered_all f Γ p (under p θ) c
  offered f Γ p θ (functor s r) = given (lookup Γ p) (λ g. f Γ g (on_signature θ (functor s r)))

  pub offered_all : (Env → Signature → Signature → Bool) → Env → ModulePath → Substitution → Components → Bool
  offered_all f Γ p θ empty = true
  offered_all f Γ p θ (more c x d) = offered_all f Γ p θ c && offered_one f Γ p θ x d

  pub offered_one : (Env → Signature → Signature → Bool) → Env → ModulePath → Substitution → Name → Declaration → Bool
  offered_one f Γ p θ x abstract = given (declared p a_type x (lookup Γ p)) (λ d. true)
  offered_one f Γ p θ x (defined t) = same_form (normal_type Γ (leaf (named p x))) (normal_type Γ (on_type θ t))
  offered_one f Γ p θ x (value t) =
      given (declared p a_value x (lookup Γ p)) (λ d. same_form (normal_value Γ d) (normal_type Γ (on_type θ t)))
  offered_one f Γ p θ x (nested s) = offered f Γ (dot p x) θ s

-- whether a signature matches another, up to a depth
abbrev pub matches_to : ℕ → Env → Signature → Signature → Bool
matches_to zero Γ a b = false
matches_to (suc n) Γ (structure g) (structure c) = offered_all (matches_to n) (extend Γ (structure g)) innermost at c
matches_to (suc n) Γ (structure g) (functor s r) = false
matches_to (suc n) Γ (functor s r) (structure c) = false
matches_to (suc n) Γ (functor s r) (functor w v) =
    given (normalize Γ w)
    (λ a. matches_to n Γ a s && given (normalize (extend Γ a) r) (λ b. matches_to n (extend Γ a) b v))

-- whether a signature matches another: the structures and functors in both together bound the depth
abbrev pub does_match : Env → Signature → Signature → Bool
does_match Γ a b = matches_to (extent a + extent b) Γ a b

-- the type that a rule gives
abbrev pub accepted : {C : Type 0} → Outcome C → Option Ty
accepted (gives t) = Some t
accepted (refuses c) = None

-- the type of a term
abbrev mutual
  pub term_type : {C : Type 0} → (Operation → List Ty → Outcome C) → Env → List Ty → Term → Option Ty
  term_type rule Γ Δ (variable place k) = and_then (pick Δ k) (normal_type Γ)
  term_type rule Γ Δ (component place p x) = and_then (declared p a_value x (lookup Γ p)) (normal_value Γ)
  term_type rule Γ Δ (integer place) = accepted (rule Literal [])
  term_type rule Γ Δ (operation place k ts) = and_then (term_types rule Γ Δ ts) (λ ns. accepted (rule (Operator k) ns))
  term_type rule Γ Δ (lambda place t b) =
      and_then (normal_type Γ (type_of t))
      (λ a. and_then (term_type rule Γ (type_of t ∷ Δ) b) (λ r. accepted (rule Function (a ∷ r ∷ []))))

  pub term_types : {C : Type 0} → (Operation → List Ty → Outcome C) → Env → List Ty → Terms → Option (List Ty)
  term_types rule Γ Δ no_terms = Some []
  term_types rule Γ Δ (more_terms t ts) = and_then (term_type rule Γ Δ t) (λ n. on_some (λ ns. n ∷ ns) (term_types rule Γ Δ ts))

-- a functor applied to a path
abbrev pub apply : Env → ModulePath → Signature → Option Signature
apply Γ p (structure c) = None
apply Γ p (functor s r) =
    and_then (lookup Γ p)
    (λ a. and_then (normalize Γ (strengthen p a)) (λ b. cond (does_match Γ b s) (normalize Γ (on_signature (reading p) r)) None))

-- the signature of a module
abbrev mutual
  pub check : {C : Type 0} → (Operation → List Ty → Outcome C) → Env → Module → Option Signature
  check rule Γ (module_path place p) = and_then (lookup Γ p) (λ s. normalize Γ (strengthen p s))
  check rule Γ (struct place is) = on_some structure (check_all rule Γ is)
  check rule Γ (functor_of place s m) =
      and_then (normalize Γ (signature_of s)) (λ a. on_some (functor a) (check rule (extend Γ a) m))
  check rule Γ (applied place m argument p) = and_then (check rule Γ m) (apply Γ p)
  check rule Γ (ascribed place inner m s) =
      and_then (check rule Γ m) (λ g. and_then (normalize Γ (signature_of s)) (λ a. cond (does_match Γ g a) (Some a) None))

  pub check_all : {C : Type 0} → (Operation → List Ty → Outcome C) → Env → Items → Option Components
  check_all rule Γ no_items = Some empty
  check_all rule Γ (more_items is x i) =
      and_then (check_all rule Γ is) (λ c. unless (find (item_sort i) x c) (on_some (more c x) (check_item rule (extend Γ (structure c)) i)))

  pub check_item : {C : Type 0} → (Operation → List Ty → Outcome C) → Env → Item → Option Declaration
  check_item rule Γ (type_item t) = on_some defined (normal_type Γ (type_of t))
  check_item rule Γ (let_item t) = on_some value (term_type rule Γ [] t)
  check_item rule Γ (module_item m) = on_some nested (check rule Γ m)

-- units in load order, each with those before it known
abbrev pub check_units : {C : Type 0} → (Operation → List Ty → Outcome C) → Units → Option Env
check_units rule no_units = Some unknown
check_units rule (more_units us u) =
    and_then (check_units rule us)
    (λ Γ. unless (Γ (unit u.name)) (and_then (check rule Γ u.body) (λ s. Some (with_unit u.name s Γ))))

-- whether a signature fits a unit behind these units
abbrev pub fits : {C : Type 0} → (Operation → List Ty → Outcome C) → Units → CompilationUnit → Signature → Bool
fits rule us u s =
    given (check_units rule us) (λ Γ. given (check rule Γ u.body) (λ g. given (normalize Γ s) (λ w. does_match Γ g w)))
