-- Sizes at their limits and one past them.
use Rattle.std.specs.Prelude.{ℕ, zero, suc, [], ◌∷◌, Some, None, codes}
use Rattle.types.specs.Types.{binder, at, dot}
use Rattle.rules.specs.Syntax.{TypeText, path_text, label_text0, label_text1, label_text2, sig_text, SpecTexts, no_specs, more_specs, abstract_spec, variable, integer, lambda, Module, module_path, struct, functor_of, applied, Items, no_items, more_items, type_item, let_item, module_item}
use Rattle.rules.specs.Projects.{Units, no_units, more_units}
use Rattle.checker.specs.Faults.{no_cause, matching}
use Rattle.checker.specs.Samples.{Told, fine, says, Checks, Fits}

-- a type of this many one-part labels over a label without parts, all at one place
abbrev pub tower : ℕ → ℕ → TypeText
tower place zero = label_text0 place 0
tower place (suc n) = label_text1 place 7 (tower place n)

-- this many abstract types
abbrev pub abstracts : ℕ → SpecTexts
abstracts zero = no_specs
abstracts (suc n) = more_specs (abstracts n) (n ∷ []) abstract_spec

-- this many values of size 2, a component and its type
abbrev pub integers : ℕ → Items
integers zero = no_items
integers (suc n) = more_items (integers n) (n ∷ []) (let_item (integer 0))

-- the unit U of these items, alone
abbrev pub alone : Items → Units
alone is = more_units no_units (record { name = codes "U"; body = struct 11 is })

-- too large, at a place
abbrev pub large : ℕ → Told
large place = says (codes "U") 16 place None no_cause

-- module U = struct type t = int ptr .. ptr end
abbrev pub one_type : ℕ → Units
one_type n = alone (more_items no_items (codes "t") (type_item (tower 27 n)))

-- module U = struct let f = fun (x : int ptr .. ptr) -> x end
abbrev pub one_function : ℕ → Units
one_function n = alone (more_items no_items (codes "f") (let_item (lambda 26 (tower 35 n) (variable 0 0))))

-- module U = struct module F = functor (X : sig type a0 .. end) -> .. end
abbrev pub one_functor : ℕ → Module → Units
one_functor n m = alone (more_items no_items (codes "F") (module_item (functor_of 29 (sig_text 42 (abstracts n)) m)))

-- module U = struct module F = functor (X : sig type t end) -> struct type u = (X.t, X.t) arrow end
-- module A = struct type t = int ptr .. ptr end module B = F(A) end
abbrev pub one_application : ℕ → Units
one_application n =
    alone
    (more_items
    (more_items
    (more_items no_items (codes "F")
    (module_item
    (functor_of 29 (sig_text 42 (more_specs no_specs (codes "t") abstract_spec))
    (struct 65
    (more_items no_items (codes "u")
    (type_item (label_text2 81 2 (path_text 82 (at (binder 1)) (codes "t")) (path_text 87 (at (binder 1)) (codes "t")))))))))
    (codes "A") (module_item (struct 113 (more_items no_items (codes "t") (type_item (tower 129 n))))))
    (codes "B") (module_item (applied 203 (module_path 203 (dot (at (binder 0)) (codes "F"))) 205 (dot (at (binder 0)) (codes "A")))))

-- a type has at most 32 labels and leaves, also one that the core or an application gives; a signature has size at most 128,
-- also one of a path, whose abstract types are defined
abbrev pub LimitSamples : Type 0
LimitSamples =
    Checks (one_type 31) fine
    × Checks (one_type 32) (large 27)
    × Checks (one_function 14) fine
    × Checks (one_function 15) (large 26)
    × Checks (one_application 14) fine
    × Checks (one_application 15) (large 203)
    × Checks (alone (integers 64)) fine
    × Checks (alone (integers 65)) (large 11)
    × Checks (one_functor 126 (struct 629 no_items)) fine
    × Checks (one_functor 127 (struct 629 no_items)) (large 11)
    × Checks (one_functor 128 (struct 629 no_items)) (large 29)
    × Checks (one_functor 129 (struct 629 no_items)) (large 42)
    × Checks (one_functor 65 (module_path 629 (at (binder 0)))) (large 629)
    × Fits no_units (record { name = codes "U"; body = struct 11 no_items }) (sig_text 0 (abstracts 128)) (says (codes "U") 15 0 (Some (0 ∷ [])) (matching 1))
    × Fits no_units (record { name = codes "U"; body = struct 11 no_items }) (sig_text 0 (abstracts 129)) (large 0)
