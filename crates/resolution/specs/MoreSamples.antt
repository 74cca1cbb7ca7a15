-- More samples: brackets, and what a name is found to be, each with its text, its tree and what it is resolved to.
use Rattle.std.specs.Prelude.{[], ◌∷◌, None, codes}
use Rattle.types.specs.Types.{unit, binder, at, dot}
use Rattle.cores.specs.MiniMl.{ml_words}
use Rattle.cores.specs.MiniC.{c_words}
use Rattle.reader.specs.Syntax.{LongName, TypeTree, TermTree, AtomTree, SignatureTree, SpecTrees, ModuleTree, ItemTrees}
use Rattle.rules.specs.Syntax.{path_text, label_text0, label_text1, label_text2, sig_text, functor_text, no_specs, more_specs, abstract_spec, defined_spec, value_spec, module_spec, variable, component, integer, operation, lambda, no_terms, more_terms, module_path, struct, functor_of, applied, ascribed, no_items, more_items, type_item, let_item, module_item}
use Rattle.resolution.specs.Samples.{UnitIs, SignatureIs}

-- an ascription begins at its bracket, and a mismatch is told at the second one
abbrev pub Sample1 : Type 0
Sample1 =
    UnitIs ml_words (codes "module U = struct module A = ((B) : sig end) end")
    (record {
      name = (codes "U");
      items = (ItemTrees.submodule (codes "A") (ModuleTree.ascribed (ModuleTree.bracket (ModuleTree.path (record {
        first = (codes
            "B");
        more = [];
      }) []) []) (SignatureTree.sig_end SpecTrees.done) []) ItemTrees.done);
      rank = None;
    })
    (record {
      name = (codes "U");
      body = struct 11 (more_items no_items (codes "A") (module_item (ascribed 29 30 (module_path 31 (at (unit (codes "B")))) (sig_text
          36 no_specs))));
    })

-- both applications begin at the bracket
abbrev pub Sample2 : Type 0
Sample2 =
    UnitIs ml_words (codes "module U = struct module C = (F)(A)(B) end")
    (record {
      name = (codes "U");
      items = (ItemTrees.submodule (codes "C") (ModuleTree.bracket (ModuleTree.path (record { first = (codes "F"); more = [] }) [])
          ((record { first = (codes "A"); more = [] }) ∷ (record { first = (codes "B"); more = [] }) ∷ [])) ItemTrees.done);
      rank = None;
    })
    (record {
      name = (codes "U");
      body = struct 11 (more_items no_items (codes "C") (module_item (applied 29 (applied 29 (module_path 30 (at (unit (codes "F")))) 33
          (at (unit (codes "A")))) 36 (at (unit (codes "B"))))));
    })

-- brackets in brackets: each application begins where what it applies begins
abbrev pub Sample3 : Type 0
Sample3 =
    UnitIs ml_words (codes "module U = struct module C = ((F(A))(B) : sig end)(D.E) end")
    (record {
      name = (codes "U");
      items = (ItemTrees.submodule (codes "C") (ModuleTree.ascribed (ModuleTree.bracket (ModuleTree.path (record {
        first = (codes
            "F");
        more = [];
      }) ((record { first = (codes "A"); more = [] }) ∷ [])) ((record { first = (codes "B"); more = [] }) ∷ [])) (SignatureTree.sig_end
          SpecTrees.done) ((record { first = (codes "D"); more = ((codes "E") ∷ []) }) ∷ [])) ItemTrees.done);
      rank = None;
    })
    (record {
      name = (codes "U");
      body = struct 11 (more_items no_items (codes "C") (module_item (applied 29 (ascribed 29 30 (applied 30 (applied 31 (module_path 31
          (at (unit (codes "F")))) 33 (at (unit (codes "A")))) 37 (at (unit (codes "B")))) (sig_text 42 no_specs)) 51 (dot (at (unit (codes "D"))) (codes "E")))));
    })

-- an operation begins at its operator, and an integer at itself
abbrev pub Sample4 : Type 0
Sample4 =
    UnitIs ml_words (codes "module U = struct let x = ((add (1) ((add 2 3)))) end")
    (record {
      name = (codes "U");
      items = (ItemTrees.value (codes "x") (TermTree.atom (AtomTree.bracket (TermTree.atom (AtomTree.bracket (TermTree.two 4
          (AtomTree.bracket (TermTree.atom (AtomTree.literal (codes "1")))) (AtomTree.bracket (TermTree.atom (AtomTree.bracket (TermTree.two 4 (AtomTree.literal
          (codes "2")) (AtomTree.literal (codes "3"))))))))))) ItemTrees.done);
      rank = None;
    })
    (record {
      name = (codes "U");
      body = struct 11 (more_items no_items (codes "x") (let_item (operation 28 4 (more_terms (integer 33) (more_terms (operation 38 4
          (more_terms (integer 42) (more_terms (integer 44) no_terms))) no_terms)))));
    })

-- a label with two parts begins at its bracket
abbrev pub Sample5 : Type 0
Sample5 =
    UnitIs ml_words (codes "module U = struct type t = (int, (bool)) arrow end")
    (record {
      name = (codes "U");
      items = (ItemTrees.defined_type (codes "t") (TypeTree.both (TypeTree.constant 0 []) (TypeTree.bracket (TypeTree.constant 1 [])
          []) 2 []) ItemTrees.done);
      rank = None;
    })
    (record { name = (codes "U"); body = struct 11 (more_items no_items (codes "t") (type_item (label_text2 27 2 (label_text0 28 0) (label_text0 34 1)))) })

-- a one-part label begins where its part begins, at the bracket if that has one
abbrev pub Sample6 : Type 0
Sample6 =
    UnitIs c_words (codes "module U = struct type t = int ptr ptr type u = (t ptr) ptr type v = ((t, void) func) ptr end")
    (record {
      name = (codes "U");
      items = (ItemTrees.defined_type (codes "t") (TypeTree.constant 0 (2 ∷ 2 ∷ [])) (ItemTrees.defined_type (codes "u")
          (TypeTree.bracket (TypeTree.path (LongName.plain (codes "t")) (2 ∷ [])) (2 ∷ [])) (ItemTrees.defined_type (codes "v") (TypeTree.bracket (TypeTree.both
          (TypeTree.path (LongName.plain (codes "t")) []) (TypeTree.constant 1 []) 3 []) (2 ∷ [])) ItemTrees.done)));
      rank = None;
    })
    (record {
      name = (codes "U");
      body = struct 11 (more_items (more_items (more_items no_items (codes "t") (type_item (label_text1 27 2 (label_text1 27 2 (label_text0
          27 0))))) (codes "u") (type_item (label_text1 48 2 (label_text1 49 2 (path_text 49 (at (binder 0)) (codes "t")))))) (codes "v") (type_item (label_text1 69 2
          (label_text2 70 3 (path_text 71 (at (binder 0)) (codes "t")) (label_text0 74 1)))));
    })

-- variables are counted apart from structures
abbrev pub Sample7 : Type 0
Sample7 =
    UnitIs ml_words (codes "module U = struct let x = 1 let f = fun (y : int) -> fun (z : int) -> add x (add y z) end")
    (record {
      name = (codes "U");
      items = (ItemTrees.value (codes "x") (TermTree.atom (AtomTree.literal (codes "1"))) (ItemTrees.value (codes "f")
          (TermTree.function (codes "y") (TypeTree.constant 0 []) (TermTree.function (codes "z") (TypeTree.constant 0 []) (TermTree.two 4 (AtomTree.path
          (LongName.plain (codes "x"))) (AtomTree.bracket (TermTree.two 4 (AtomTree.path (LongName.plain (codes "y"))) (AtomTree.path (LongName.plain (codes
          "z")))))))) ItemTrees.done));
      rank = None;
    })
    (record {
      name = (codes "U");
      body = struct 11 (more_items (more_items no_items (codes "x") (let_item (integer 26))) (codes "f") (let_item (lambda 36 (label_text0
          45 0) (lambda 53 (label_text0 62 0) (operation 70 4 (more_terms (component 74 (at (binder 0)) (codes "x")) (more_terms (operation 77 4 (more_terms (variable 81
          1) (more_terms (variable 83 0) no_terms))) no_terms)))))));
    })

-- a variable hides a component in its body, and not behind it
abbrev pub Sample8 : Type 0
Sample8 =
    UnitIs ml_words (codes "module U = struct let x = 1 let f = fun (x : int) -> x let y = x end")
    (record {
      name = (codes "U");
      items = (ItemTrees.value (codes "x") (TermTree.atom (AtomTree.literal (codes "1"))) (ItemTrees.value (codes "f")
          (TermTree.function (codes "x") (TypeTree.constant 0 []) (TermTree.atom (AtomTree.path (LongName.plain (codes "x"))))) (ItemTrees.value (codes "y")
          (TermTree.atom (AtomTree.path (LongName.plain (codes "x")))) ItemTrees.done)));
      rank = None;
    })
    (record {
      name = (codes "U");
      body = struct 11 (more_items (more_items (more_items no_items (codes "x") (let_item (integer 26))) (codes "f") (let_item (lambda 36
          (label_text0 45 0) (variable 53 0)))) (codes "y") (let_item (component 63 (at (binder 0)) (codes "x"))));
    })

-- a variable hides no type, and is not counted between a type and its structure
abbrev pub Sample9 : Type 0
Sample9 =
    UnitIs ml_words (codes "module U = struct type t = int let f = fun (t : t) -> fun (u : t) -> t end")
    (record {
      name = (codes "U");
      items = (ItemTrees.defined_type (codes "t") (TypeTree.constant 0 []) (ItemTrees.value (codes "f") (TermTree.function (codes
          "t") (TypeTree.path (LongName.plain (codes "t")) []) (TermTree.function (codes "u") (TypeTree.path (LongName.plain (codes "t")) []) (TermTree.atom
          (AtomTree.path (LongName.plain (codes "t")))))) ItemTrees.done));
      rank = None;
    })
    (record {
      name = (codes "U");
      body = struct 11 (more_items (more_items no_items (codes "t") (type_item (label_text0 27 0))) (codes "f") (let_item (lambda 39
          (path_text 48 (at (binder 0)) (codes "t")) (lambda 54 (path_text 63 (at (binder 0)) (codes "t")) (variable 69 1)))));
    })

-- a parameter is not known in its own signature
abbrev pub Sample10 : Type 0
Sample10 =
    UnitIs ml_words (codes "module U = struct module F = functor (X : sig val y : X.t end) -> X end")
    (record {
      name = (codes "U");
      items = (ItemTrees.submodule (codes "F") (ModuleTree.functor (codes "X") (SignatureTree.sig_end (SpecTrees.value (codes "y")
          (TypeTree.path (LongName.inside (codes "X") (LongName.plain (codes "t"))) []) SpecTrees.done)) (ModuleTree.path (record { first = (codes "X"); more = [] })
          [])) ItemTrees.done);
      rank = None;
    })
    (record {
      name = (codes "U");
      body = struct 11 (more_items no_items (codes "F") (module_item (functor_of 29 (sig_text 42 (more_specs no_specs (codes "y")
          (value_spec (path_text 54 (at (unit (codes "X"))) (codes "t"))))) (module_path 66 (at (binder 0))))));
    })

-- two parameters and a structure around a function
abbrev pub Sample11 : Type 0
Sample11 =
    UnitIs ml_words (codes "module U = struct type t = int module F = functor (X : sig type s end) -> functor (Y : sig val v : X.s end) -> struct let c = fun (z : X.s) -> choose true z Y.v let d = fun (w : t) -> w end end")
    (record {
      name = (codes "U");
      items = (ItemTrees.defined_type (codes "t") (TypeTree.constant 0 []) (ItemTrees.submodule (codes "F") (ModuleTree.functor
          (codes "X") (SignatureTree.sig_end (SpecTrees.abstract_type (codes "s") SpecTrees.done)) (ModuleTree.functor (codes "Y") (SignatureTree.sig_end
          (SpecTrees.value (codes "v") (TypeTree.path (LongName.inside (codes "X") (LongName.plain (codes "s"))) []) SpecTrees.done)) (ModuleTree.struct_end
          (ItemTrees.value (codes "c") (TermTree.function (codes "z") (TypeTree.path (LongName.inside (codes "X") (LongName.plain (codes "s"))) []) (TermTree.three 5
          (AtomTree.constant 3) (AtomTree.path (LongName.plain (codes "z"))) (AtomTree.path (LongName.inside (codes "Y") (LongName.plain (codes "v"))))))
          (ItemTrees.value (codes "d") (TermTree.function (codes "w") (TypeTree.path (LongName.plain (codes "t")) []) (TermTree.atom (AtomTree.path (LongName.plain
          (codes "w"))))) ItemTrees.done)) []))) ItemTrees.done));
      rank = None;
    })
    (record {
      name = (codes "U");
      body = struct 11 (more_items (more_items no_items (codes "t") (type_item (label_text0 27 0))) (codes "F") (module_item (functor_of 42
          (sig_text 55 (more_specs no_specs (codes "s") abstract_spec)) (functor_of 74 (sig_text 87 (more_specs no_specs (codes "v") (value_spec (path_text 99 (at (binder 1))
          (codes "s"))))) (struct 111 (more_items (more_items no_items (codes "c") (let_item (lambda 126 (path_text 135 (at (binder 2)) (codes "s")) (operation 143 5
          (more_terms (operation 150 3 no_terms) (more_terms (variable 155 0) (more_terms (component 157 (at (binder 1)) (codes "v")) no_terms))))))) (codes "d") (let_item
          (lambda 169 (path_text 178 (at (binder 3)) (codes "t")) (variable 184 0)))))))));
    })

-- parameters, and a module in a signature
abbrev pub Sample12 : Type 0
Sample12 =
    SignatureIs ml_words (codes "functor (X : functor (Y : sig type t end) -> sig val x : Y.t end) -> sig module Z : sig type u type v = u end val z : Z.u end")
    (SignatureTree.functor (codes "X") (SignatureTree.functor (codes "Y") (SignatureTree.sig_end (SpecTrees.abstract_type (codes "t") SpecTrees.done))
    (SignatureTree.sig_end (SpecTrees.value (codes "x") (TypeTree.path (LongName.inside (codes "Y") (LongName.plain (codes "t"))) []) SpecTrees.done)))
    (SignatureTree.sig_end (SpecTrees.submodule (codes "Z") (SignatureTree.sig_end (SpecTrees.abstract_type (codes "u") (SpecTrees.defined_type (codes "v")
    (TypeTree.path (LongName.plain (codes "u")) []) SpecTrees.done))) (SpecTrees.value (codes "z") (TypeTree.path (LongName.inside (codes "Z") (LongName.plain
    (codes "u"))) []) SpecTrees.done))))
    (functor_text 0 (functor_text 13 (sig_text 26 (more_specs no_specs (codes "t") abstract_spec)) (sig_text 45 (more_specs no_specs (codes "x") (value_spec (path_text 57
    (at (binder 1)) (codes "t")))))) (sig_text 69 (more_specs (more_specs no_specs (codes "Z") (module_spec (sig_text 84 (more_specs (more_specs no_specs (codes "u")
    abstract_spec) (codes "v") (defined_spec (path_text 104 (at (binder 0)) (codes "u"))))))) (codes "z") (value_spec (path_text 118 (dot (at (binder 0)) (codes
    "Z")) (codes "u"))))))

-- all of them
abbrev pub MoreSamples : Type 0
MoreSamples = Sample1 × Sample2 × Sample3 × Sample4 × Sample5 × Sample6 × Sample7 × Sample8 × Sample9 × Sample10 × Sample11 × Sample12
