-- Runs of the checker with faults over mini-ML: each fault, each cause of a mismatch, and the limits at and one past.
-- The node that is refused stands at place 7; places that no answer tells are 0.
use Rattle.std.specs.Prelude.{◌≡◌, ℕ, zero, suc, [], ◌∷◌, Some, None, Ok, Err, codes, Option, Result}
use Rattle.types.specs.Types.{Name, unit, at}
use Rattle.cores.specs.MiniMl.{ml_rule}
use Rattle.cores.specs.declared.lines.Position.{Position}
use Rattle.rules.specs.Syntax.{TypeText, path_text, label_text0, label_text1, SignatureText, sig_text, functor_text, SpecTexts, no_specs, more_specs, abstract_spec, defined_spec, value_spec, module_spec, component, operation, no_terms, more_terms, Module, module_path, struct, functor_of, applied, ascribed, Items, no_items, more_items, type_item}
use Rattle.rules.specs.Faults.{Fault, no_way, refused_types, no_functor, no_match, too_large, UnitFault, run_units}
use Rattle.rules.specs.Samples.{one, true_term, own, value_x, with_let, with_module, nothing_wanted, S, M, transparent, empty_module, twice, alone}

-- the fault of an answer, if it has one
abbrev pub fault_of : {A : Type 0} → Result A (UnitFault Position) → Option (Fault Position)
fault_of (Ok a) = None
fault_of (Err f) = Some f.fault

-- what the unit U of these items is refused for, if it is
abbrev pub refusal : Items → Option (Fault Position)
refusal is = fault_of (run_units ml_rule (alone is))

-- the core's cause at position n, and a mismatch at place 7
abbrev pub at_position : ℕ → Option (Fault Position)
at_position n = Some (refused_types 7 (record { number = n }))

abbrev pub mismatch_at : Option Name → ℕ → Option (Fault Position)
mismatch_at w n = Some (no_match 7 (record { component = w; cause = n }))

-- a module with a signature, the module at place 7
abbrev pub seen : Module → SignatureText → Items
seen m s = with_module (codes "A") (ascribed 0 7 m s) no_items

-- `sig val x : type end` and `sig type t = type end`
abbrev pub value_sig : TypeText → SignatureText
value_sig t = sig_text 0 (more_specs no_specs (codes "x") (value_spec t))

abbrev pub type_sig : TypeText → SignatureText
type_sig t = sig_text 0 (more_specs no_specs (codes "t") (defined_spec t))

-- int and bool
abbrev pub int : TypeText
int = label_text0 0 0

abbrev pub bool : TypeText
bool = label_text0 0 1

-- a type of size n + 1: n labels with one part around int
abbrev pub tower : ℕ → TypeText
tower zero = label_text0 7 0
tower (suc n) = label_text1 7 0 (tower n)

-- a signature of size n: n abstract types
abbrev pub abstracts : ℕ → SpecTexts
abstracts zero = no_specs
abstracts (suc n) = more_specs (abstracts n) (n ∷ []) abstract_spec

pub record FaultRuns : Type 0 where
  -- 12: a path that does not lead to a type, a value or a module
  pub no_type : refusal (more_items no_items (codes "t") (type_item (path_text 7 (own (codes "A")) (codes "u")))) ≡ Some (no_way 7)
  pub no_value : refusal (with_let (codes "y") (component 7 (own (codes "A")) (codes "x")) no_items) ≡ Some (no_way 7)
  pub no_module : refusal (with_module (codes "B") (module_path 7 (own (codes "A"))) no_items) ≡ Some (no_way 7)
  pub no_unit : refusal (with_let (codes "y") (component 7 (at (unit (codes "A"))) (codes "x")) no_items) ≡ Some (no_way 7)
  -- 13: the position is the core's cause
  pub sealed :
      refusal (with_let (codes "y") (operation 7 4 (more_terms (value_x (own (codes "A"))) (more_terms one no_terms))) (with_module (codes "A") M no_items))
      ≡ at_position 1
  pub generative :
      refusal (with_let (codes "y") (operation 7 5 (more_terms true_term (more_terms (value_x (own (codes "A"))) (more_terms (value_x (own (codes "B"))) no_terms)))) twice)
      ≡ at_position 3
  -- 14: a structure is applied
  pub applies :
      refusal
      (with_module (codes "A") (applied 7 (module_path 0 (own (codes "F"))) 0 (own (codes "E")))
      (with_module (codes "E") empty_module (with_module (codes "F") empty_module no_items)))
      ≡ Some (no_functor 7)
  -- 15: each cause, with the component of the signature wanted
  pub missing :
      refusal
      (with_module (codes "A") (applied 0 (module_path 0 (own (codes "F"))) 7 (own (codes "E")))
      (with_module (codes "E") empty_module (with_module (codes "F") (functor_of 0 S M) no_items)))
      ≡ mismatch_at (Some (codes "t")) 1
  pub other_value : refusal (seen transparent (value_sig bool)) ≡ mismatch_at (Some (codes "x")) 2
  pub other_type : refusal (seen transparent (type_sig bool)) ≡ mismatch_at (Some (codes "t")) 3
  pub other_kind : refusal (seen transparent (functor_text 0 S S)) ≡ mismatch_at None 4
  pub other_kind_inside :
      refusal (seen (struct 0 (with_module (codes "N") transparent no_items)) (sig_text 0 (more_specs no_specs (codes "N") (module_spec (functor_text 0 S S)))))
      ≡ mismatch_at (Some (codes "N")) 4
  -- the parameter wanted must match the parameter given, whose component is told; the parameter comes before the result
  pub parameter :
      refusal
      (with_module (codes "G") (ascribed 0 7 (module_path 0 (own (codes "F"))) (functor_text 0 nothing_wanted (value_sig bool)))
      (with_module (codes "F") (functor_of 0 (value_sig int) empty_module) no_items))
      ≡ mismatch_at (Some (codes "x")) 1
  -- 16: types at 32 and one past, signatures at 128 and one past
  pub type_fits : refusal (more_items no_items (codes "t") (type_item (tower 31))) ≡ None
  pub type_large : refusal (more_items no_items (codes "t") (type_item (tower 32))) ≡ Some (too_large 7)
  pub all_fits : refusal (with_module (codes "F") (functor_of 7 (sig_text 7 (abstracts 126)) empty_module) no_items) ≡ None
  pub structure_large : refusal (with_module (codes "F") (functor_of 7 (sig_text 7 (abstracts 127)) empty_module) no_items) ≡ Some (too_large 0)
  pub functor_large : refusal (with_module (codes "F") (functor_of 7 (sig_text 0 (abstracts 128)) empty_module) no_items) ≡ Some (too_large 7)
  pub signature_large : refusal (with_module (codes "F") (functor_of 0 (sig_text 7 (abstracts 129)) empty_module) no_items) ≡ Some (too_large 7)
