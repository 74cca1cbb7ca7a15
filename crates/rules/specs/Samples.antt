-- Sample projects over mini-ML, and what the rules say of them. Places are 0 here: no rule looks at them.
use Rattle.std.specs.Prelude.{true, codes}
use Rattle.types.specs.Types.{Name, unit, ModulePath, at, dot, Ty, label0}
use Rattle.cores.specs.MiniMl.{ml_rule}
use Rattle.rules.specs.Signatures.{Signature, structure, empty, more, value}
use Rattle.rules.specs.Substitution.{innermost}
use Rattle.rules.specs.Lookup.{Env}
use Rattle.rules.specs.Syntax.{path_text, label_text0, SignatureText, sig_text, no_specs, more_specs, abstract_spec, value_spec, Term, component, integer, operation, no_terms, more_terms, Module, module_path, struct, functor_of, applied, ascribed, Items, no_items, more_items, type_item, let_item, module_item, CompilationUnit}
use Rattle.rules.specs.Projects.{Units, no_units, more_units, Loads, DerivedFor}

-- the literal, and the operators true, add and choose by their numbers among mini-ML's words
abbrev pub one : Term
one = integer 0

abbrev pub true_term : Term
true_term = operation 0 3 no_terms

abbrev pub add : Term → Term → Term
add t u = operation 0 4 (more_terms t (more_terms u no_terms))

abbrev pub choose : Term → Term → Term → Term
choose t u w = operation 0 5 (more_terms t (more_terms u (more_terms w no_terms)))

-- a module that the structure around has declared, and the value x of a module
abbrev pub own : Name → ModulePath
own m = dot innermost m

abbrev pub value_x : ModulePath → Term
value_x p = component 0 p (codes "x")

-- one more item
abbrev pub with_let : Name → Term → Items → Items
with_let x t is = more_items is x (let_item t)

abbrev pub with_module : Name → Module → Items → Items
with_module x m is = more_items is x (module_item m)

-- `sig end` and `sig type t val x : t end`
abbrev pub nothing_wanted : SignatureText
nothing_wanted = sig_text 0 no_specs

abbrev pub S : SignatureText
S = sig_text 0 (more_specs (more_specs no_specs (codes "t") abstract_spec) (codes "x") (value_spec (path_text 0 innermost (codes "t"))))

-- `struct type t = int let x = 1 end`, and the same with `: S`
abbrev pub transparent : Module
transparent = struct 0 (with_let (codes "x") one (more_items no_items (codes "t") (type_item (label_text0 0 0))))

abbrev pub M : Module
M = ascribed 0 0 transparent S

-- `let y = add A.x 1`, and `let y = choose true A.x B.x`
abbrev pub sum : Items → Items
sum = with_let (codes "y") (add (value_x (own (codes "A"))) one)

abbrev pub choice : Items → Items
choice = with_let (codes "y") (choose true_term (value_x (own (codes "A"))) (value_x (own (codes "B"))))

-- the empty structure, and a functor applied to it
abbrev pub empty_module : Module
empty_module = struct 0 no_items

abbrev pub apply_to : Name → Module
apply_to e = applied 0 (module_path 0 (own (codes "F"))) 0 (own e)

-- a unit of these items
abbrev pub unit_of : Name → Items → CompilationUnit
unit_of x is = record { name = x; body = struct 0 is }

-- one unit U of these items
abbrev pub alone : Items → Units
alone is = more_units no_units (unit_of (codes "U") is)

-- the units have derived signatures over mini-ML
abbrev pub Derivable : Units → Type 0
Derivable us = (Γ : Env) × Loads ml_rule true us Γ

abbrev pub fits_alone : Items → Signature → Type 0
fits_alone is s = DerivedFor ml_rule no_units (unit_of (codes "U") is) s

-- `sig val x : type end`
abbrev pub wants_x : Ty → Signature
wants_x t = structure (more empty (codes "x") (value t))

-- F with E, and A and B both F(E)
abbrev pub twice : Items
twice =
    with_module (codes "B") (apply_to (codes "E"))
    (with_module (codes "A") (apply_to (codes "E"))
    (with_module (codes "E") empty_module (with_module (codes "F") (functor_of 0 nothing_wanted M) no_items)))

-- units: A names C, B names none, C names none
abbrev pub unit_a : CompilationUnit
unit_a = unit_of (codes "A") (with_let (codes "y") (value_x (at (unit (codes "C")))) no_items)

abbrev pub unit_b : CompilationUnit
unit_b = unit_of (codes "B") no_items

abbrev pub unit_c : CompilationUnit
unit_c = unit_of (codes "C") (with_let (codes "x") one no_items)

abbrev pub three : CompilationUnit → CompilationUnit → CompilationUnit → Units
three u v w = more_units (more_units (more_units no_units u) v) w

-- what the rules say of the samples
pub record Samples : Type 0 where
  -- an empty project is accepted
  pub empty_project : Derivable no_units
  -- a structure with `let x = 1` fits `sig end` and `sig val x : int end`, and not with bool
  pub fits_nothing : fits_alone (with_let (codes "x") one no_items) (structure empty)
  pub fits_int : fits_alone (with_let (codes "x") one no_items) (wants_x (label0 0))
  pub not_bool : fits_alone (with_let (codes "x") one no_items) (wants_x (label0 1)) → ⊥
  -- an abstract type is not int; without the signature it is
  pub sealed : Derivable (alone (sum (with_module (codes "A") M no_items))) → ⊥
  pub unsealed : Derivable (alone (sum (with_module (codes "A") transparent no_items)))
  -- an alias keeps its type equal
  pub alias : Derivable (alone (choice (with_module (codes "B") (module_path 0 (own (codes "A"))) (with_module (codes "A") M no_items))))
  -- a functor applied twice makes two types
  pub generative : Derivable (alone (choice twice)) → ⊥
  pub applications : Derivable (alone twice)
  -- a functor with parameter S does not take an empty structure
  pub wrong_argument :
      Derivable (alone (with_module (codes "A") (apply_to (codes "E")) (with_module (codes "E") empty_module (with_module (codes "F") (functor_of 0 S M) no_items)))) → ⊥
  -- units behind those that they name
  pub behind : Derivable (three unit_b unit_c unit_a)
  pub behind_too : Derivable (three unit_c unit_a unit_b)
  pub before : Derivable (three unit_a unit_b unit_c) → ⊥
  -- a unit that names a missing one
  pub missing : Derivable (more_units no_units (unit_of (codes "B") (with_let (codes "y") (value_x (at (unit (codes "A")))) no_items))) → ⊥
