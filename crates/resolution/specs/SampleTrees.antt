-- The trees of the samples of the checker, as they are read over mini-ML.
use Rattle.std.specs.Prelude.{[], ◌∷◌, Some, None, codes, refl}
use Rattle.reader.specs.Syntax.{LongName, TypeTree, TermTree, AtomTree, SignatureTree, SpecTrees, ModuleTree, ItemTrees, UnitTree}

-- module U = struct let x = 1 end
abbrev pub unit_tree1 : UnitTree
unit_tree1 =
    record { name = (codes "U"); items = (ItemTrees.value (codes "x") (TermTree.atom (AtomTree.literal (codes "1"))) ItemTrees.done); rank = None }

-- module U = struct module A = (struct type t = int let x = 1 end : sig type t val x : t end) let y = add A.x 1 end
abbrev pub unit_tree2 : UnitTree
unit_tree2 =
    record {
      name = (codes "U");
      items = (ItemTrees.submodule (codes "A") (ModuleTree.ascribed (ModuleTree.struct_end (ItemTrees.defined_type (codes "t")
          (TypeTree.constant 0 []) (ItemTrees.value (codes "x") (TermTree.atom (AtomTree.literal (codes "1"))) ItemTrees.done)) []) (SignatureTree.sig_end
          (SpecTrees.abstract_type (codes "t") (SpecTrees.value (codes "x") (TypeTree.path (LongName.plain (codes "t")) []) SpecTrees.done))) []) (ItemTrees.value
          (codes "y") (TermTree.two 4 (AtomTree.path (LongName.inside (codes "A") (LongName.plain (codes "x")))) (AtomTree.literal (codes "1"))) ItemTrees.done));
      rank = None;
    }

-- module U = struct module A = (struct type t = int let x = 1 end) let y = add A.x 1 end
abbrev pub unit_tree3 : UnitTree
unit_tree3 =
    record {
      name = (codes "U");
      items = (ItemTrees.submodule (codes "A") (ModuleTree.bracket (ModuleTree.struct_end (ItemTrees.defined_type (codes "t")
          (TypeTree.constant 0 []) (ItemTrees.value (codes "x") (TermTree.atom (AtomTree.literal (codes "1"))) ItemTrees.done)) []) []) (ItemTrees.value (codes "y")
          (TermTree.two 4 (AtomTree.path (LongName.inside (codes "A") (LongName.plain (codes "x")))) (AtomTree.literal (codes "1"))) ItemTrees.done));
      rank = None;
    }

-- module U = struct module A = (struct type t = int let x = 1 end : sig type t val x : t end) module B = A let y = choose true A.x B.x end
abbrev pub unit_tree4 : UnitTree
unit_tree4 =
    record {
      name = (codes "U");
      items = (ItemTrees.submodule (codes "A") (ModuleTree.ascribed (ModuleTree.struct_end (ItemTrees.defined_type (codes "t")
          (TypeTree.constant 0 []) (ItemTrees.value (codes "x") (TermTree.atom (AtomTree.literal (codes "1"))) ItemTrees.done)) []) (SignatureTree.sig_end
          (SpecTrees.abstract_type (codes "t") (SpecTrees.value (codes "x") (TypeTree.path (LongName.plain (codes "t")) []) SpecTrees.done))) []) (ItemTrees.submodule
          (codes "B") (ModuleTree.path (record { first = (codes "A"); more = [] }) []) (ItemTrees.value (codes "y") (TermTree.three 5 (AtomTree.constant 3)
          (AtomTree.path (LongName.inside (codes "A") (LongName.plain (codes "x")))) (AtomTree.path (LongName.inside (codes "B") (LongName.plain (codes "x")))))
          ItemTrees.done)));
      rank = None;
    }

-- module U = struct module F = functor (X : sig end) -> (struct type t = int let x = 1 end : sig type t val x : t end) module E = struct end module A = F(E) module B = F(E) let y = choose true A.x B.x end
abbrev pub unit_tree5 : UnitTree
unit_tree5 =
    record {
      name = (codes "U");
      items = (ItemTrees.submodule (codes "F") (ModuleTree.functor (codes "X") (SignatureTree.sig_end SpecTrees.done)
          (ModuleTree.ascribed (ModuleTree.struct_end (ItemTrees.defined_type (codes "t") (TypeTree.constant 0 []) (ItemTrees.value (codes "x") (TermTree.atom
          (AtomTree.literal (codes "1"))) ItemTrees.done)) []) (SignatureTree.sig_end (SpecTrees.abstract_type (codes "t") (SpecTrees.value (codes "x") (TypeTree.path
          (LongName.plain (codes "t")) []) SpecTrees.done))) [])) (ItemTrees.submodule (codes "E") (ModuleTree.struct_end ItemTrees.done []) (ItemTrees.submodule
          (codes "A") (ModuleTree.path (record { first = (codes "F"); more = [] }) ((record { first = (codes "E"); more = [] }) ∷ [])) (ItemTrees.submodule (codes
          "B") (ModuleTree.path (record { first = (codes "F"); more = [] }) ((record { first = (codes "E"); more = [] }) ∷ [])) (ItemTrees.value (codes "y")
          (TermTree.three 5 (AtomTree.constant 3) (AtomTree.path (LongName.inside (codes "A") (LongName.plain (codes "x")))) (AtomTree.path (LongName.inside (codes
          "B") (LongName.plain (codes "x"))))) ItemTrees.done)))));
      rank = None;
    }

-- module U = struct module A = (struct module N = struct type u = int end let y = 1 end : sig module N : sig type u end val y : N.u end) end
abbrev pub unit_tree6 : UnitTree
unit_tree6 =
    record {
      name = (codes "U");
      items = (ItemTrees.submodule (codes "A") (ModuleTree.ascribed (ModuleTree.struct_end (ItemTrees.submodule (codes "N")
          (ModuleTree.struct_end (ItemTrees.defined_type (codes "u") (TypeTree.constant 0 []) ItemTrees.done) []) (ItemTrees.value (codes "y") (TermTree.atom
          (AtomTree.literal (codes "1"))) ItemTrees.done)) []) (SignatureTree.sig_end (SpecTrees.submodule (codes "N") (SignatureTree.sig_end (SpecTrees.abstract_type
          (codes "u") SpecTrees.done)) (SpecTrees.value (codes "y") (TypeTree.path (LongName.inside (codes "N") (LongName.plain (codes "u"))) []) SpecTrees.done)))
          []) ItemTrees.done);
      rank = None;
    }

-- module U = struct module A = (struct module N = struct type u = int end let y = true end : sig module N : sig type u end val y : N.u end) end
abbrev pub unit_tree7 : UnitTree
unit_tree7 =
    record {
      name = (codes "U");
      items = (ItemTrees.submodule (codes "A") (ModuleTree.ascribed (ModuleTree.struct_end (ItemTrees.submodule (codes "N")
          (ModuleTree.struct_end (ItemTrees.defined_type (codes "u") (TypeTree.constant 0 []) ItemTrees.done) []) (ItemTrees.value (codes "y") (TermTree.atom
          (AtomTree.constant 3)) ItemTrees.done)) []) (SignatureTree.sig_end (SpecTrees.submodule (codes "N") (SignatureTree.sig_end (SpecTrees.abstract_type (codes "u")
          SpecTrees.done)) (SpecTrees.value (codes "y") (TypeTree.path (LongName.inside (codes "N") (LongName.plain (codes "u"))) []) SpecTrees.done))) [])
          ItemTrees.done);
      rank = None;
    }

-- module U = struct module F = functor (X : sig type t val x : t end) -> struct let y = X.x end module A = struct type t = int let x = 1 end module B = F(A) let z = add B.y 1 end
abbrev pub unit_tree8 : UnitTree
unit_tree8 =
    record {
      name = (codes "U");
      items = (ItemTrees.submodule (codes "F") (ModuleTree.functor (codes "X") (SignatureTree.sig_end (SpecTrees.abstract_type (codes
          "t") (SpecTrees.value (codes "x") (TypeTree.path (LongName.plain (codes "t")) []) SpecTrees.done))) (ModuleTree.struct_end (ItemTrees.value (codes "y")
          (TermTree.atom (AtomTree.path (LongName.inside (codes "X") (LongName.plain (codes "x"))))) ItemTrees.done) [])) (ItemTrees.submodule (codes "A")
          (ModuleTree.struct_end (ItemTrees.defined_type (codes "t") (TypeTree.constant 0 []) (ItemTrees.value (codes "x") (TermTree.atom (AtomTree.literal (codes
          "1"))) ItemTrees.done)) []) (ItemTrees.submodule (codes "B") (ModuleTree.path (record { first = (codes "F"); more = [] }) ((record {
            first = (codes "A");
            more = [];
          }) ∷ [])) (ItemTrees.value (codes "z") (TermTree.two 4 (AtomTree.path (LongName.inside (codes "B") (LongName.plain (codes "y"))))
          (AtomTree.literal (codes "1"))) ItemTrees.done))));
      rank = None;
    }

-- module U = struct module F = functor (X : sig type t val x : t end) -> struct end module E = struct end module A = F(E) end
abbrev pub unit_tree9 : UnitTree
unit_tree9 =
    record {
      name = (codes "U");
      items = (ItemTrees.submodule (codes "F") (ModuleTree.functor (codes "X") (SignatureTree.sig_end (SpecTrees.abstract_type (codes
          "t") (SpecTrees.value (codes "x") (TypeTree.path (LongName.plain (codes "t")) []) SpecTrees.done))) (ModuleTree.struct_end ItemTrees.done []))
          (ItemTrees.submodule (codes "E") (ModuleTree.struct_end ItemTrees.done []) (ItemTrees.submodule (codes "A") (ModuleTree.path (record {
            first = (codes "F");
            more = [];
          }) ((record { first = (codes "E"); more = [] }) ∷ [])) ItemTrees.done)));
      rank = None;
    }

-- module U = struct type t = int let x = 1 module N = struct let v = true end module F = functor (X : sig val a : int end) -> struct let b = X.a end end
abbrev pub unit_tree10 : UnitTree
unit_tree10 =
    record {
      name = (codes "U");
      items = (ItemTrees.defined_type (codes "t") (TypeTree.constant 0 []) (ItemTrees.value (codes "x") (TermTree.atom
          (AtomTree.literal (codes "1"))) (ItemTrees.submodule (codes "N") (ModuleTree.struct_end (ItemTrees.value (codes "v") (TermTree.atom (AtomTree.constant 3))
          ItemTrees.done) []) (ItemTrees.submodule (codes "F") (ModuleTree.functor (codes "X") (SignatureTree.sig_end (SpecTrees.value (codes "a") (TypeTree.constant 0
          []) SpecTrees.done)) (ModuleTree.struct_end (ItemTrees.value (codes "b") (TermTree.atom (AtomTree.path (LongName.inside (codes "X") (LongName.plain (codes
          "a"))))) ItemTrees.done) [])) ItemTrees.done))));
      rank = None;
    }

-- module U = struct module F = functor (X : sig val a : int end) -> struct let b = X.a end end
abbrev pub unit_tree11 : UnitTree
unit_tree11 =
    record {
      name = (codes "U");
      items = (ItemTrees.submodule (codes "F") (ModuleTree.functor (codes "X") (SignatureTree.sig_end (SpecTrees.value (codes "a")
          (TypeTree.constant 0 []) SpecTrees.done)) (ModuleTree.struct_end (ItemTrees.value (codes "b") (TermTree.atom (AtomTree.path (LongName.inside (codes "X")
          (LongName.plain (codes "a"))))) ItemTrees.done) [])) ItemTrees.done);
      rank = None;
    }

-- module U = struct module F = functor (X : sig type t val x : t end) -> struct type u = X.t let y = X.x end end
abbrev pub unit_tree12 : UnitTree
unit_tree12 =
    record {
      name = (codes "U");
      items = (ItemTrees.submodule (codes "F") (ModuleTree.functor (codes "X") (SignatureTree.sig_end (SpecTrees.abstract_type (codes
          "t") (SpecTrees.value (codes "x") (TypeTree.path (LongName.plain (codes "t")) []) SpecTrees.done))) (ModuleTree.struct_end (ItemTrees.defined_type (codes "u")
          (TypeTree.path (LongName.inside (codes "X") (LongName.plain (codes "t"))) []) (ItemTrees.value (codes "y") (TermTree.atom (AtomTree.path (LongName.inside
          (codes "X") (LongName.plain (codes "x"))))) ItemTrees.done)) [])) ItemTrees.done);
      rank = None;
    }

-- module U = struct module A = struct let x = 1 end let y = A.z end
abbrev pub unit_tree13 : UnitTree
unit_tree13 =
    record {
      name = (codes "U");
      items = (ItemTrees.submodule (codes "A") (ModuleTree.struct_end (ItemTrees.value (codes "x") (TermTree.atom (AtomTree.literal
          (codes "1"))) ItemTrees.done) []) (ItemTrees.value (codes "y") (TermTree.atom (AtomTree.path (LongName.inside (codes "A") (LongName.plain (codes "z")))))
          ItemTrees.done));
      rank = None;
    }

-- module U = struct module A = struct type x = int end let y = A.x end
abbrev pub unit_tree14 : UnitTree
unit_tree14 =
    record {
      name = (codes "U");
      items = (ItemTrees.submodule (codes "A") (ModuleTree.struct_end (ItemTrees.defined_type (codes "x") (TypeTree.constant 0 [])
          ItemTrees.done) []) (ItemTrees.value (codes "y") (TermTree.atom (AtomTree.path (LongName.inside (codes "A") (LongName.plain (codes "x")))))
          ItemTrees.done));
      rank = None;
    }

-- module U = struct module F = functor (X : sig end) -> struct let x = 1 end let y = F.x end
abbrev pub unit_tree15 : UnitTree
unit_tree15 =
    record {
      name = (codes "U");
      items = (ItemTrees.submodule (codes "F") (ModuleTree.functor (codes "X") (SignatureTree.sig_end SpecTrees.done)
          (ModuleTree.struct_end (ItemTrees.value (codes "x") (TermTree.atom (AtomTree.literal (codes "1"))) ItemTrees.done) [])) (ItemTrees.value (codes "y")
          (TermTree.atom (AtomTree.path (LongName.inside (codes "F") (LongName.plain (codes "x"))))) ItemTrees.done));
      rank = None;
    }

-- module U = struct module A = struct end module B = A(A) end
abbrev pub unit_tree16 : UnitTree
unit_tree16 =
    record {
      name = (codes "U");
      items = (ItemTrees.submodule (codes "A") (ModuleTree.struct_end ItemTrees.done []) (ItemTrees.submodule (codes "B")
          (ModuleTree.path (record { first = (codes "A"); more = [] }) ((record { first = (codes "A"); more = [] }) ∷ [])) ItemTrees.done));
      rank = None;
    }

-- module U = struct module A = struct end module B = A(A.D) end
abbrev pub unit_tree17 : UnitTree
unit_tree17 =
    record {
      name = (codes "U");
      items = (ItemTrees.submodule (codes "A") (ModuleTree.struct_end ItemTrees.done []) (ItemTrees.submodule (codes "B")
          (ModuleTree.path (record { first = (codes "A"); more = [] }) ((record { first = (codes "A"); more = ((codes "D") ∷ []) }) ∷ [])) ItemTrees.done));
      rank =
          None;
    }

-- module U = struct module E = struct end module A = (functor (X : sig end) -> struct let x = 1 end)(E) let y = add A.x 1 end
abbrev pub unit_tree18 : UnitTree
unit_tree18 =
    record {
      name = (codes "U");
      items = (ItemTrees.submodule (codes "E") (ModuleTree.struct_end ItemTrees.done []) (ItemTrees.submodule (codes "A")
          (ModuleTree.bracket (ModuleTree.functor (codes "X") (SignatureTree.sig_end SpecTrees.done) (ModuleTree.struct_end (ItemTrees.value (codes "x") (TermTree.atom
          (AtomTree.literal (codes "1"))) ItemTrees.done) [])) ((record { first = (codes "E"); more = [] }) ∷ [])) (ItemTrees.value (codes "y") (TermTree.two 4
          (AtomTree.path (LongName.inside (codes "A") (LongName.plain (codes "x")))) (AtomTree.literal (codes "1"))) ItemTrees.done)));
      rank = None;
    }

-- module U = struct module E = struct end module A = functor (X : sig end) -> struct end(E) end
abbrev pub unit_tree19 : UnitTree
unit_tree19 =
    record {
      name = (codes "U");
      items = (ItemTrees.submodule (codes "E") (ModuleTree.struct_end ItemTrees.done []) (ItemTrees.submodule (codes "A")
          (ModuleTree.functor (codes "X") (SignatureTree.sig_end SpecTrees.done) (ModuleTree.struct_end ItemTrees.done ((record { first = (codes "E"); more = [] }) ∷
          []))) ItemTrees.done));
      rank = None;
    }

-- module U = struct let f = fun (x : int) -> fun (x : bool) -> choose x 1 2 end
abbrev pub unit_tree20 : UnitTree
unit_tree20 =
    record {
      name = (codes "U");
      items = (ItemTrees.value (codes "f") (TermTree.function (codes "x") (TypeTree.constant 0 []) (TermTree.function (codes "x")
          (TypeTree.constant 1 []) (TermTree.three 5 (AtomTree.path (LongName.plain (codes "x"))) (AtomTree.literal (codes "1")) (AtomTree.literal (codes "2")))))
          ItemTrees.done);
      rank = None;
    }

-- module U = struct type t = int module A = struct type u = t type t = bool type v = t end let y = choose true (fun (a : A.u) -> a) (fun (b : t) -> b) end
abbrev pub unit_tree21 : UnitTree
unit_tree21 =
    record {
      name = (codes "U");
      items = (ItemTrees.defined_type (codes "t") (TypeTree.constant 0 []) (ItemTrees.submodule (codes "A") (ModuleTree.struct_end
          (ItemTrees.defined_type (codes "u") (TypeTree.path (LongName.plain (codes "t")) []) (ItemTrees.defined_type (codes "t") (TypeTree.constant 1 [])
          (ItemTrees.defined_type (codes "v") (TypeTree.path (LongName.plain (codes "t")) []) ItemTrees.done))) []) (ItemTrees.value (codes "y") (TermTree.three 5
          (AtomTree.constant 3) (AtomTree.bracket (TermTree.function (codes "a") (TypeTree.path (LongName.inside (codes "A") (LongName.plain (codes "u"))) [])
          (TermTree.atom (AtomTree.path (LongName.plain (codes "a")))))) (AtomTree.bracket (TermTree.function (codes "b") (TypeTree.path (LongName.plain (codes "t"))
          []) (TermTree.atom (AtomTree.path (LongName.plain (codes "b"))))))) ItemTrees.done)));
      rank = None;
    }

-- module B = struct end
abbrev pub unit_tree22 : UnitTree
unit_tree22 =
    record { name = (codes "B"); items = ItemTrees.done; rank = None }

-- module C = struct let x = 1 end
abbrev pub unit_tree23 : UnitTree
unit_tree23 =
    record { name = (codes "C"); items = (ItemTrees.value (codes "x") (TermTree.atom (AtomTree.literal (codes "1"))) ItemTrees.done); rank = None }

-- module A = struct let y = C.x end
abbrev pub unit_tree24 : UnitTree
unit_tree24 =
    record {
      name = (codes "A");
      items = (ItemTrees.value (codes "y") (TermTree.atom (AtomTree.path (LongName.inside (codes "C") (LongName.plain (codes "x")))))
          ItemTrees.done);
      rank = None;
    }

-- module C = struct let x = 1 end [@@ rank 50 ]
abbrev pub unit_tree25 : UnitTree
unit_tree25 =
    record {
      name = (codes "C");
      items = (ItemTrees.value (codes "x") (TermTree.atom (AtomTree.literal (codes "1"))) ItemTrees.done);
      rank = Some (record {
        digits = (codes "50");
        small = refl;
      });
    }

-- module D = struct let x = 1 end
abbrev pub unit_tree26 : UnitTree
unit_tree26 =
    record { name = (codes "D"); items = (ItemTrees.value (codes "x") (TermTree.atom (AtomTree.literal (codes "1"))) ItemTrees.done); rank = None }

-- module C = struct let x = D.x end
abbrev pub unit_tree27 : UnitTree
unit_tree27 =
    record {
      name = (codes "C");
      items = (ItemTrees.value (codes "x") (TermTree.atom (AtomTree.path (LongName.inside (codes "D") (LongName.plain (codes "x")))))
          ItemTrees.done);
      rank = None;
    }

-- module B = struct let x = C.x end
abbrev pub unit_tree28 : UnitTree
unit_tree28 =
    record {
      name = (codes "B");
      items = (ItemTrees.value (codes "x") (TermTree.atom (AtomTree.path (LongName.inside (codes "C") (LongName.plain (codes "x")))))
          ItemTrees.done);
      rank = None;
    }

-- module A = struct let x = B.x end
abbrev pub unit_tree29 : UnitTree
unit_tree29 =
    record {
      name = (codes "A");
      items = (ItemTrees.value (codes "x") (TermTree.atom (AtomTree.path (LongName.inside (codes "B") (LongName.plain (codes "x")))))
          ItemTrees.done);
      rank = None;
    }

-- module A = struct type t = int let x = 1 end
abbrev pub unit_tree30 : UnitTree
unit_tree30 =
    record {
      name = (codes "A");
      items = (ItemTrees.defined_type (codes "t") (TypeTree.constant 0 []) (ItemTrees.value (codes "x") (TermTree.atom
          (AtomTree.literal (codes "1"))) ItemTrees.done));
      rank = None;
    }

-- module B = struct let y = A.x end
abbrev pub unit_tree31 : UnitTree
unit_tree31 =
    record {
      name = (codes "B");
      items = (ItemTrees.value (codes "y") (TermTree.atom (AtomTree.path (LongName.inside (codes "A") (LongName.plain (codes "x")))))
          ItemTrees.done);
      rank = None;
    }

-- sig end
abbrev pub text_tree1 : SignatureTree
text_tree1 =
    SignatureTree.sig_end SpecTrees.done

-- sig val x : int end
abbrev pub text_tree2 : SignatureTree
text_tree2 =
    SignatureTree.sig_end (SpecTrees.value (codes "x") (TypeTree.constant 0 []) SpecTrees.done)

-- sig val x : bool end
abbrev pub text_tree3 : SignatureTree
text_tree3 =
    SignatureTree.sig_end (SpecTrees.value (codes "x") (TypeTree.constant 1 []) SpecTrees.done)

-- sig module B : sig val y : int end val z : int end
abbrev pub text_tree4 : SignatureTree
text_tree4 =
    SignatureTree.sig_end (SpecTrees.submodule (codes "B") (SignatureTree.sig_end (SpecTrees.value (codes "y") (TypeTree.constant 0 []) SpecTrees.done))
    (SpecTrees.value (codes "z") (TypeTree.constant 0 []) SpecTrees.done))

-- sig type x end
abbrev pub text_tree5 : SignatureTree
text_tree5 =
    SignatureTree.sig_end (SpecTrees.abstract_type (codes "x") SpecTrees.done)

-- sig val y : int end
abbrev pub text_tree6 : SignatureTree
text_tree6 =
    SignatureTree.sig_end (SpecTrees.value (codes "y") (TypeTree.constant 0 []) SpecTrees.done)

-- sig type t = bool end
abbrev pub text_tree7 : SignatureTree
text_tree7 =
    SignatureTree.sig_end (SpecTrees.defined_type (codes "t") (TypeTree.constant 1 []) SpecTrees.done)

-- sig type t = int val x : t end
abbrev pub text_tree8 : SignatureTree
text_tree8 =
    SignatureTree.sig_end (SpecTrees.defined_type (codes "t") (TypeTree.constant 0 []) (SpecTrees.value (codes "x") (TypeTree.path (LongName.plain (codes "t"))
    []) SpecTrees.done))

-- sig module N : sig val w : bool end end
abbrev pub text_tree9 : SignatureTree
text_tree9 =
    SignatureTree.sig_end (SpecTrees.submodule (codes "N") (SignatureTree.sig_end (SpecTrees.value (codes "w") (TypeTree.constant 1 []) SpecTrees.done))
    SpecTrees.done)

-- sig module N : sig val v : int end end
abbrev pub text_tree10 : SignatureTree
text_tree10 =
    SignatureTree.sig_end (SpecTrees.submodule (codes "N") (SignatureTree.sig_end (SpecTrees.value (codes "v") (TypeTree.constant 0 []) SpecTrees.done))
    SpecTrees.done)

-- sig module N : functor (X : sig end) -> sig end end
abbrev pub text_tree11 : SignatureTree
text_tree11 =
    SignatureTree.sig_end (SpecTrees.submodule (codes "N") (SignatureTree.functor (codes "X") (SignatureTree.sig_end SpecTrees.done) (SignatureTree.sig_end
    SpecTrees.done)) SpecTrees.done)

-- sig module F : sig end end
abbrev pub text_tree12 : SignatureTree
text_tree12 =
    SignatureTree.sig_end (SpecTrees.submodule (codes "F") (SignatureTree.sig_end SpecTrees.done) SpecTrees.done)

-- functor (X : sig end) -> sig end
abbrev pub text_tree13 : SignatureTree
text_tree13 =
    SignatureTree.functor (codes "X") (SignatureTree.sig_end SpecTrees.done) (SignatureTree.sig_end SpecTrees.done)

-- sig module F : functor (X : sig val a : int val c : bool end) -> sig val b : int end end
abbrev pub text_tree14 : SignatureTree
text_tree14 =
    SignatureTree.sig_end (SpecTrees.submodule (codes "F") (SignatureTree.functor (codes "X") (SignatureTree.sig_end (SpecTrees.value (codes "a")
    (TypeTree.constant 0 []) (SpecTrees.value (codes "c") (TypeTree.constant 1 []) SpecTrees.done))) (SignatureTree.sig_end (SpecTrees.value (codes "b")
    (TypeTree.constant 0 []) SpecTrees.done))) SpecTrees.done)

-- sig module F : functor (Y : sig val a : int end) -> sig end end
abbrev pub text_tree15 : SignatureTree
text_tree15 =
    SignatureTree.sig_end (SpecTrees.submodule (codes "F") (SignatureTree.functor (codes "Y") (SignatureTree.sig_end (SpecTrees.value (codes "a")
    (TypeTree.constant 0 []) SpecTrees.done)) (SignatureTree.sig_end SpecTrees.done)) SpecTrees.done)

-- sig module F : functor (X : sig end) -> sig val b : int end end
abbrev pub text_tree16 : SignatureTree
text_tree16 =
    SignatureTree.sig_end (SpecTrees.submodule (codes "F") (SignatureTree.functor (codes "X") (SignatureTree.sig_end SpecTrees.done) (SignatureTree.sig_end
    (SpecTrees.value (codes "b") (TypeTree.constant 0 []) SpecTrees.done))) SpecTrees.done)

-- sig module F : functor (X : sig val a : bool end) -> sig val b : int end end
abbrev pub text_tree17 : SignatureTree
text_tree17 =
    SignatureTree.sig_end (SpecTrees.submodule (codes "F") (SignatureTree.functor (codes "X") (SignatureTree.sig_end (SpecTrees.value (codes "a")
    (TypeTree.constant 1 []) SpecTrees.done)) (SignatureTree.sig_end (SpecTrees.value (codes "b") (TypeTree.constant 0 []) SpecTrees.done))) SpecTrees.done)

-- sig module F : functor (X : sig val a : int end) -> sig val b : bool end end
abbrev pub text_tree18 : SignatureTree
text_tree18 =
    SignatureTree.sig_end (SpecTrees.submodule (codes "F") (SignatureTree.functor (codes "X") (SignatureTree.sig_end (SpecTrees.value (codes "a")
    (TypeTree.constant 0 []) SpecTrees.done)) (SignatureTree.sig_end (SpecTrees.value (codes "b") (TypeTree.constant 1 []) SpecTrees.done))) SpecTrees.done)

-- sig module F : functor (X : functor (Y : sig end) -> sig end) -> sig end end
abbrev pub text_tree19 : SignatureTree
text_tree19 =
    SignatureTree.sig_end (SpecTrees.submodule (codes "F") (SignatureTree.functor (codes "X") (SignatureTree.functor (codes "Y") (SignatureTree.sig_end
    SpecTrees.done) (SignatureTree.sig_end SpecTrees.done)) (SignatureTree.sig_end SpecTrees.done)) SpecTrees.done)

-- sig module F : functor (X : sig type t = int val x : t end) -> sig type u = int val y : int end end
abbrev pub text_tree20 : SignatureTree
text_tree20 =
    SignatureTree.sig_end (SpecTrees.submodule (codes "F") (SignatureTree.functor (codes "X") (SignatureTree.sig_end (SpecTrees.defined_type (codes "t")
    (TypeTree.constant 0 []) (SpecTrees.value (codes "x") (TypeTree.path (LongName.plain (codes "t")) []) SpecTrees.done))) (SignatureTree.sig_end
    (SpecTrees.defined_type (codes "u") (TypeTree.constant 0 []) (SpecTrees.value (codes "y") (TypeTree.constant 0 []) SpecTrees.done)))) SpecTrees.done)

-- sig module F : functor (X : sig type t val x : t end) -> sig type u = int end end
abbrev pub text_tree21 : SignatureTree
text_tree21 =
    SignatureTree.sig_end (SpecTrees.submodule (codes "F") (SignatureTree.functor (codes "X") (SignatureTree.sig_end (SpecTrees.abstract_type (codes "t")
    (SpecTrees.value (codes "x") (TypeTree.path (LongName.plain (codes "t")) []) SpecTrees.done))) (SignatureTree.sig_end (SpecTrees.defined_type (codes "u")
    (TypeTree.constant 0 []) SpecTrees.done))) SpecTrees.done)

-- sig val y : A.t end
abbrev pub text_tree22 : SignatureTree
text_tree22 =
    SignatureTree.sig_end (SpecTrees.value (codes "y") (TypeTree.path (LongName.inside (codes "A") (LongName.plain (codes "t"))) []) SpecTrees.done)

-- sig val y : A.u end
abbrev pub text_tree23 : SignatureTree
text_tree23 =
    SignatureTree.sig_end (SpecTrees.value (codes "y") (TypeTree.path (LongName.inside (codes "A") (LongName.plain (codes "u"))) []) SpecTrees.done)

-- sig val y : B.t end
abbrev pub text_tree24 : SignatureTree
text_tree24 =
    SignatureTree.sig_end (SpecTrees.value (codes "y") (TypeTree.path (LongName.inside (codes "B") (LongName.plain (codes "t"))) []) SpecTrees.done)

-- sig val x : B.t end
abbrev pub text_tree25 : SignatureTree
text_tree25 =
    SignatureTree.sig_end (SpecTrees.value (codes "x") (TypeTree.path (LongName.inside (codes "B") (LongName.plain (codes "t"))) []) SpecTrees.done)

-- sig val x : Z.t end
abbrev pub text_tree26 : SignatureTree
text_tree26 =
    SignatureTree.sig_end (SpecTrees.value (codes "x") (TypeTree.path (LongName.inside (codes "Z") (LongName.plain (codes "t"))) []) SpecTrees.done)
