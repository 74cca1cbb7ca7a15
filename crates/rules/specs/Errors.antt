-- Three errors that a definition of the rules or of a core could have, each caught by a statement.
use Rattle.std.specs.Prelude.{Bool, true, false, cond, List, [], ◌∷◌, length, codes}
use Rattle.types.specs.Types.{dot, Ty, leaf, label0, label1, label2}
use Rattle.cores.specs.Meaning.{Outcome, refuses, Stable}
use Rattle.cores.specs.MiniMl.{ml_rule, ml_words}
use Rattle.cores.specs.declared.interface.Operation.{Operation}
use Rattle.cores.specs.declared.interface.Operation.TheVariants.{Literal, Function, Operator}
use Rattle.cores.specs.declared.lines.Position.{Position}
use Rattle.rules.specs.Syntax.{path_text, SignatureText, sig_text, functor_text, no_specs, more_specs, value_spec, module_spec, Module, module_path, struct, functor_of, ascribed, Items, no_items, component}
use Rattle.rules.specs.Samples.{Derivable, alone, with_let, with_module, own, value_x, true_term, choose, nothing_wanted, S, M, transparent}

-- whether the body's type is a function type of mini-ML
abbrev pub returns_function : Operation → List Ty → Bool
returns_function Literal ts = false
returns_function (Operator n) ts = false
returns_function Function [] = false
returns_function Function (t ∷ []) = false
returns_function Function (t ∷ leaf x ∷ ts) = false
returns_function Function (t ∷ label0 l ∷ ts) = false
returns_function Function (t ∷ label1 l u ∷ ts) = false
returns_function Function (t ∷ label2 l u w ∷ ts) = true

-- mini-ML, but functions that return functions are refused
abbrev pub first_order_rule : Operation → List Ty → Outcome Position
first_order_rule o ts = cond (returns_function o ts) (refuses (record { number = 2 })) (ml_rule o ts)

-- `module G = (F : signature)` behind `module F = ..`
abbrev pub viewed : SignatureText → Module → Items
viewed s f = with_module (codes "G") (ascribed 0 0 (module_path 0 (own (codes "F"))) s) (with_module (codes "F") f no_items)

-- `sig module N : S val y : N.t end`, and `struct module N = .. let y = N.x end`
abbrev pub nested_wanted : SignatureText
nested_wanted =
    sig_text 0 (more_specs (more_specs no_specs (codes "N") (module_spec S)) (codes "y") (value_spec (path_text 0 (own (codes "N")) (codes "t"))))

abbrev pub nested_given : Module
nested_given = struct 0 (with_let (codes "y") (value_x (own (codes "N"))) (with_module (codes "N") transparent no_items))

pub record ErrorsCaught : Type 0 where
  -- a core that refuses functions returning functions breaks the law
  pub first_order : Stable (length ml_words) first_order_rule → ⊥
  -- a functor that asks less serves where more is given, and one that asks more does not serve where less is given
  pub asks_less : Derivable (alone (viewed (functor_text 0 S S) (functor_of 0 nothing_wanted M)))
  pub asks_more : Derivable (alone (viewed (functor_text 0 nothing_wanted S) (functor_of 0 S M))) → ⊥
  -- a nested module's type is that of the longer path: y and N.x have one type, also once it is abstract
  pub nested :
      Derivable
      (alone
      (with_let (codes "z") (choose true_term (component 0 (own (codes "A")) (codes "y")) (value_x (dot (own (codes "A")) (codes "N"))))
      (with_module (codes "A") (ascribed 0 0 nested_given nested_wanted) no_items)))
