-- The units and signatures of the samples, as texts with their heads found.
use Rattle.std.specs.Prelude.{codes}
use Rattle.types.specs.Types.{unit, binder, at, dot}
use Rattle.rules.specs.Syntax.{path_text, label_text0, SignatureText, sig_text, functor_text, no_specs, more_specs, abstract_spec, defined_spec, value_spec, module_spec, variable, component, integer, operation, lambda, no_terms, more_terms, module_path, struct, functor_of, applied, ascribed, no_items, more_items, type_item, let_item, module_item, CompilationUnit}

-- module U = struct let x = 1 end
abbrev pub unit1 : CompilationUnit
unit1 =
    record { name = (codes "U"); body = struct 11 (more_items no_items (codes "x") (let_item (integer 26))) }

-- module U = struct module A = (struct type t = int let x = 1 end : sig type t val x : t end) let y = add A.x 1 end
abbrev pub unit2 : CompilationUnit
unit2 =
    record {
      name = (codes "U");
      body = struct 11 (more_items (more_items no_items (codes "A") (module_item (ascribed 29 30 (struct 30 (more_items (more_items no_items (codes
          "t") (type_item (label_text0 46 0))) (codes "x") (let_item (integer 58)))) (sig_text 66 (more_specs (more_specs no_specs (codes "t") abstract_spec) (codes "x") (value_spec
          (path_text 85 (at (binder 0)) (codes "t")))))))) (codes "y") (let_item (operation 100 4 (more_terms (component 104 (dot (at (binder 0)) (codes "A")) (codes "x"))
          (more_terms (integer 108) no_terms)))));
    }

-- module U = struct module A = (struct type t = int let x = 1 end) let y = add A.x 1 end
abbrev pub unit3 : CompilationUnit
unit3 =
    record {
      name = (codes "U");
      body = struct 11 (more_items (more_items no_items (codes "A") (module_item (struct 30 (more_items (more_items no_items (codes "t") (type_item
          (label_text0 46 0))) (codes "x") (let_item (integer 58)))))) (codes "y") (let_item (operation 73 4 (more_terms (component 77 (dot (at (binder 0)) (codes "A")) (codes
          "x")) (more_terms (integer 81) no_terms)))));
    }

-- module U = struct module A = (struct type t = int let x = 1 end : sig type t val x : t end) module B = A let y = choose true A.x B.x end
abbrev pub unit4 : CompilationUnit
unit4 =
    record {
      name = (codes "U");
      body = struct 11 (more_items (more_items (more_items no_items (codes "A") (module_item (ascribed 29 30 (struct 30 (more_items (more_items
          no_items (codes "t") (type_item (label_text0 46 0))) (codes "x") (let_item (integer 58)))) (sig_text 66 (more_specs (more_specs no_specs (codes "t") abstract_spec) (codes "x")
          (value_spec (path_text 85 (at (binder 0)) (codes "t")))))))) (codes "B") (module_item (module_path 103 (dot (at (binder 0)) (codes "A"))))) (codes "y") (let_item
          (operation 113 5 (more_terms (operation 120 3 no_terms) (more_terms (component 125 (dot (at (binder 0)) (codes "A")) (codes "x")) (more_terms (component 129 (dot (at
          (binder 0)) (codes "B")) (codes "x")) no_terms))))));
    }

-- module U = struct module F = functor (X : sig end) -> (struct type t = int let x = 1 end : sig type t val x : t end) module E = struct end module A = F(E) module B = F(E) let y = choose true A.x B.x end
abbrev pub unit5 : CompilationUnit
unit5 =
    record {
      name = (codes "U");
      body = struct 11 (more_items (more_items (more_items (more_items (more_items no_items (codes "F") (module_item (functor_of 29 (sig_text 42
          no_specs) (ascribed 54 55 (struct 55 (more_items (more_items no_items (codes "t") (type_item (label_text0 71 0))) (codes "x") (let_item (integer 83)))) (sig_text 91
          (more_specs (more_specs no_specs (codes "t") abstract_spec) (codes "x") (value_spec (path_text 110 (at (binder 0)) (codes "t"))))))))) (codes "E") (module_item (struct 128
          no_items))) (codes "A") (module_item (applied 150 (module_path 150 (dot (at (binder 0)) (codes "F"))) 152 (dot (at (binder 0)) (codes "E"))))) (codes "B") (module_item
          (applied 166 (module_path 166 (dot (at (binder 0)) (codes "F"))) 168 (dot (at (binder 0)) (codes "E"))))) (codes "y") (let_item (operation 179 5 (more_terms (operation
          186 3 no_terms) (more_terms (component 191 (dot (at (binder 0)) (codes "A")) (codes "x")) (more_terms (component 195 (dot (at (binder 0)) (codes "B")) (codes "x"))
          no_terms))))));
    }

-- module U = struct module A = (struct module N = struct type u = int end let y = 1 end : sig module N : sig type u end val y : N.u end) end
abbrev pub unit6 : CompilationUnit
unit6 =
    record {
      name = (codes "U");
      body = struct 11 (more_items no_items (codes "A") (module_item (ascribed 29 30 (struct 30 (more_items (more_items no_items (codes "N")
          (module_item (struct 48 (more_items no_items (codes "u") (type_item (label_text0 64 0)))))) (codes "y") (let_item (integer 80)))) (sig_text 88 (more_specs (more_specs no_specs
          (codes "N") (module_spec (sig_text 103 (more_specs no_specs (codes "u") abstract_spec)))) (codes "y") (value_spec (path_text 126 (dot (at (binder 0)) (codes "N")) (codes
          "u"))))))));
    }

-- module U = struct module A = (struct module N = struct type u = int end let y = true end : sig module N : sig type u end val y : N.u end) end
abbrev pub unit7 : CompilationUnit
unit7 =
    record {
      name = (codes "U");
      body = struct 11 (more_items no_items (codes "A") (module_item (ascribed 29 30 (struct 30 (more_items (more_items no_items (codes "N")
          (module_item (struct 48 (more_items no_items (codes "u") (type_item (label_text0 64 0)))))) (codes "y") (let_item (operation 80 3 no_terms)))) (sig_text 91 (more_specs
          (more_specs no_specs (codes "N") (module_spec (sig_text 106 (more_specs no_specs (codes "u") abstract_spec)))) (codes "y") (value_spec (path_text 129 (dot (at (binder 0))
          (codes "N")) (codes "u"))))))));
    }

-- module U = struct module F = functor (X : sig type t val x : t end) -> struct let y = X.x end module A = struct type t = int let x = 1 end module B = F(A) let z = add B.y 1 end
abbrev pub unit8 : CompilationUnit
unit8 =
    record {
      name = (codes "U");
      body = struct 11 (more_items (more_items (more_items (more_items no_items (codes "F") (module_item (functor_of 29 (sig_text 42 (more_specs
          (more_specs no_specs (codes "t") abstract_spec) (codes "x") (value_spec (path_text 61 (at (binder 0)) (codes "t"))))) (struct 71 (more_items no_items (codes "y") (let_item
          (component 86 (at (binder 1)) (codes "x")))))))) (codes "A") (module_item (struct 105 (more_items (more_items no_items (codes "t") (type_item (label_text0 121 0))) (codes
          "x") (let_item (integer 133)))))) (codes "B") (module_item (applied 150 (module_path 150 (dot (at (binder 0)) (codes "F"))) 152 (dot (at (binder 0)) (codes "A")))))
          (codes "z") (let_item (operation 163 4 (more_terms (component 167 (dot (at (binder 0)) (codes "B")) (codes "y")) (more_terms (integer 171) no_terms)))));
    }

-- module U = struct module F = functor (X : sig type t val x : t end) -> struct end module E = struct end module A = F(E) end
abbrev pub unit9 : CompilationUnit
unit9 =
    record {
      name = (codes "U");
      body = struct 11 (more_items (more_items (more_items no_items (codes "F") (module_item (functor_of 29 (sig_text 42 (more_specs (more_specs no_specs
          (codes "t") abstract_spec) (codes "x") (value_spec (path_text 61 (at (binder 0)) (codes "t"))))) (struct 71 no_items)))) (codes "E") (module_item (struct 93 no_items)))
          (codes "A") (module_item (applied 115 (module_path 115 (dot (at (binder 0)) (codes "F"))) 117 (dot (at (binder 0)) (codes "E")))));
    }

-- module U = struct type t = int let x = 1 module N = struct let v = true end module F = functor (X : sig val a : int end) -> struct let b = X.a end end
abbrev pub unit10 : CompilationUnit
unit10 =
    record {
      name = (codes "U");
      body = struct 11 (more_items (more_items (more_items (more_items no_items (codes "t") (type_item (label_text0 27 0))) (codes "x") (let_item
          (integer 39))) (codes "N") (module_item (struct 52 (more_items no_items (codes "v") (let_item (operation 67 3 no_terms)))))) (codes "F") (module_item (functor_of 87 (sig_text
          100 (more_specs no_specs (codes "a") (value_spec (label_text0 112 0)))) (struct 124 (more_items no_items (codes "b") (let_item (component 139 (at (binder 1)) (codes
          "a"))))))));
    }

-- module U = struct module F = functor (X : sig val a : int end) -> struct let b = X.a end end
abbrev pub unit11 : CompilationUnit
unit11 =
    record {
      name = (codes "U");
      body = struct 11 (more_items no_items (codes "F") (module_item (functor_of 29 (sig_text 42 (more_specs no_specs (codes "a") (value_spec
          (label_text0 54 0)))) (struct 66 (more_items no_items (codes "b") (let_item (component 81 (at (binder 1)) (codes "a"))))))));
    }

-- module U = struct module F = functor (X : sig type t val x : t end) -> struct type u = X.t let y = X.x end end
abbrev pub unit12 : CompilationUnit
unit12 =
    record {
      name = (codes "U");
      body = struct 11 (more_items no_items (codes "F") (module_item (functor_of 29 (sig_text 42 (more_specs (more_specs no_specs (codes "t")
          abstract_spec) (codes "x") (value_spec (path_text 61 (at (binder 0)) (codes "t"))))) (struct 71 (more_items (more_items no_items (codes "u") (type_item (path_text 87 (at
          (binder 1)) (codes "t")))) (codes "y") (let_item (component 99 (at (binder 1)) (codes "x"))))))));
    }

-- module U = struct module A = struct let x = 1 end let y = A.z end
abbrev pub unit13 : CompilationUnit
unit13 =
    record {
      name = (codes "U");
      body = struct 11 (more_items (more_items no_items (codes "A") (module_item (struct 29 (more_items no_items (codes "x") (let_item (integer
          44)))))) (codes "y") (let_item (component 58 (dot (at (binder 0)) (codes "A")) (codes "z"))));
    }

-- module U = struct module A = struct type x = int end let y = A.x end
abbrev pub unit14 : CompilationUnit
unit14 =
    record {
      name = (codes "U");
      body = struct 11 (more_items (more_items no_items (codes "A") (module_item (struct 29 (more_items no_items (codes "x") (type_item (label_text0 45
          0)))))) (codes "y") (let_item (component 61 (dot (at (binder 0)) (codes "A")) (codes "x"))));
    }

-- module U = struct module F = functor (X : sig end) -> struct let x = 1 end let y = F.x end
abbrev pub unit15 : CompilationUnit
unit15 =
    record {
      name = (codes "U");
      body = struct 11 (more_items (more_items no_items (codes "F") (module_item (functor_of 29 (sig_text 42 no_specs) (struct 54 (more_items no_items
          (codes "x") (let_item (integer 69))))))) (codes "y") (let_item (component 83 (dot (at (binder 0)) (codes "F")) (codes "x"))));
    }

-- module U = struct module A = struct end module B = A(A) end
abbrev pub unit16 : CompilationUnit
unit16 =
    record {
      name = (codes "U");
      body = struct 11 (more_items (more_items no_items (codes "A") (module_item (struct 29 no_items))) (codes "B") (module_item (applied 51
          (module_path 51 (dot (at (binder 0)) (codes "A"))) 53 (dot (at (binder 0)) (codes "A")))));
    }

-- module U = struct module A = struct end module B = A(A.D) end
abbrev pub unit17 : CompilationUnit
unit17 =
    record {
      name = (codes "U");
      body = struct 11 (more_items (more_items no_items (codes "A") (module_item (struct 29 no_items))) (codes "B") (module_item (applied 51
          (module_path 51 (dot (at (binder 0)) (codes "A"))) 53 (dot (dot (at (binder 0)) (codes "A")) (codes "D")))));
    }

-- module U = struct module E = struct end module A = (functor (X : sig end) -> struct let x = 1 end)(E) let y = add A.x 1 end
abbrev pub unit18 : CompilationUnit
unit18 =
    record {
      name = (codes "U");
      body = struct 11 (more_items (more_items (more_items no_items (codes "E") (module_item (struct 29 no_items))) (codes "A") (module_item (applied
          51 (functor_of 52 (sig_text 65 no_specs) (struct 77 (more_items no_items (codes "x") (let_item (integer 92))))) 99 (dot (at (binder 0)) (codes "E"))))) (codes "y") (let_item
          (operation 110 4 (more_terms (component 114 (dot (at (binder 0)) (codes "A")) (codes "x")) (more_terms (integer 118) no_terms)))));
    }

-- module U = struct module E = struct end module A = functor (X : sig end) -> struct end(E) end
abbrev pub unit19 : CompilationUnit
unit19 =
    record {
      name = (codes "U");
      body = struct 11 (more_items (more_items no_items (codes "E") (module_item (struct 29 no_items))) (codes "A") (module_item (functor_of 51
          (sig_text 64 no_specs) (applied 76 (struct 76 no_items) 87 (dot (at (binder 1)) (codes "E"))))));
    }

-- module U = struct let f = fun (x : int) -> fun (x : bool) -> choose x 1 2 end
abbrev pub unit20 : CompilationUnit
unit20 =
    record {
      name = (codes "U");
      body = struct 11 (more_items no_items (codes "f") (let_item (lambda 26 (label_text0 35 0) (lambda 43 (label_text0 52 1) (operation 61 5
          (more_terms (variable 68 0) (more_terms (integer 70) (more_terms (integer 72) no_terms))))))));
    }

-- module U = struct type t = int module A = struct type u = t type t = bool type v = t end let y = choose true (fun (a : A.u) -> a) (fun (b : t) -> b) end
abbrev pub unit21 : CompilationUnit
unit21 =
    record {
      name = (codes "U");
      body = struct 11 (more_items (more_items (more_items no_items (codes "t") (type_item (label_text0 27 0))) (codes "A") (module_item (struct 42
          (more_items (more_items (more_items no_items (codes "u") (type_item (path_text 58 (at (binder 1)) (codes "t")))) (codes "t") (type_item (label_text0 69 1))) (codes "v")
          (type_item (path_text 83 (at (binder 0)) (codes "t"))))))) (codes "y") (let_item (operation 97 5 (more_terms (operation 104 3 no_terms) (more_terms (lambda 110 (path_text
          119 (dot (at (binder 0)) (codes "A")) (codes "u")) (variable 127 0)) (more_terms (lambda 131 (path_text 140 (at (binder 0)) (codes "t")) (variable 146 0)) no_terms))))));
    }

-- module B = struct end
abbrev pub unit22 : CompilationUnit
unit22 =
    record { name = (codes "B"); body = struct 11 no_items }

-- module C = struct let x = 1 end
abbrev pub unit23 : CompilationUnit
unit23 =
    record { name = (codes "C"); body = struct 11 (more_items no_items (codes "x") (let_item (integer 26))) }

-- module A = struct let y = C.x end
abbrev pub unit24 : CompilationUnit
unit24 =
    record { name = (codes "A"); body = struct 11 (more_items no_items (codes "y") (let_item (component 26 (at (unit (codes "C"))) (codes "x")))) }

-- module C = struct let x = 1 end [@@ rank 50 ]
abbrev pub unit25 : CompilationUnit
unit25 =
    record { name = (codes "C"); body = struct 11 (more_items no_items (codes "x") (let_item (integer 26))) }

-- module D = struct let x = 1 end
abbrev pub unit26 : CompilationUnit
unit26 =
    record { name = (codes "D"); body = struct 11 (more_items no_items (codes "x") (let_item (integer 26))) }

-- module C = struct let x = D.x end
abbrev pub unit27 : CompilationUnit
unit27 =
    record { name = (codes "C"); body = struct 11 (more_items no_items (codes "x") (let_item (component 26 (at (unit (codes "D"))) (codes "x")))) }

-- module B = struct let x = C.x end
abbrev pub unit28 : CompilationUnit
unit28 =
    record { name = (codes "B"); body = struct 11 (more_items no_items (codes "x") (let_item (component 26 (at (unit (codes "C"))) (codes "x")))) }

-- module A = struct let x = B.x end
abbrev pub unit29 : CompilationUnit
unit29 =
    record { name = (codes "A"); body = struct 11 (more_items no_items (codes "x") (let_item (component 26 (at (unit (codes "B"))) (codes "x")))) }

-- module A = struct type t = int let x = 1 end
abbrev pub unit30 : CompilationUnit
unit30 =
    record { name = (codes "A"); body = struct 11 (more_items (more_items no_items (codes "t") (type_item (label_text0 27 0))) (codes "x") (let_item (integer 39))) }

-- module B = struct let y = A.x end
abbrev pub unit31 : CompilationUnit
unit31 =
    record { name = (codes "B"); body = struct 11 (more_items no_items (codes "y") (let_item (component 26 (at (unit (codes "A"))) (codes "x")))) }

-- sig end
abbrev pub text1 : SignatureText
text1 =
    sig_text 0 no_specs

-- sig val x : int end
abbrev pub text2 : SignatureText
text2 =
    sig_text 0 (more_specs no_specs (codes "x") (value_spec (label_text0 12 0)))

-- sig val x : bool end
abbrev pub text3 : SignatureText
text3 =
    sig_text 0 (more_specs no_specs (codes "x") (value_spec (label_text0 12 1)))

-- sig module B : sig val y : int end val z : int end
abbrev pub text4 : SignatureText
text4 =
    sig_text 0 (more_specs (more_specs no_specs (codes "B") (module_spec (sig_text 15 (more_specs no_specs (codes "y") (value_spec (label_text0 27 0)))))) (codes "z") (value_spec
    (label_text0 43 0)))

-- sig type x end
abbrev pub text5 : SignatureText
text5 =
    sig_text 0 (more_specs no_specs (codes "x") abstract_spec)

-- sig val y : int end
abbrev pub text6 : SignatureText
text6 =
    sig_text 0 (more_specs no_specs (codes "y") (value_spec (label_text0 12 0)))

-- sig type t = bool end
abbrev pub text7 : SignatureText
text7 =
    sig_text 0 (more_specs no_specs (codes "t") (defined_spec (label_text0 13 1)))

-- sig type t = int val x : t end
abbrev pub text8 : SignatureText
text8 =
    sig_text 0 (more_specs (more_specs no_specs (codes "t") (defined_spec (label_text0 13 0))) (codes "x") (value_spec (path_text 25 (at (binder 0)) (codes "t"))))

-- sig module N : sig val w : bool end end
abbrev pub text9 : SignatureText
text9 =
    sig_text 0 (more_specs no_specs (codes "N") (module_spec (sig_text 15 (more_specs no_specs (codes "w") (value_spec (label_text0 27 1))))))

-- sig module N : sig val v : int end end
abbrev pub text10 : SignatureText
text10 =
    sig_text 0 (more_specs no_specs (codes "N") (module_spec (sig_text 15 (more_specs no_specs (codes "v") (value_spec (label_text0 27 0))))))

-- sig module N : functor (X : sig end) -> sig end end
abbrev pub text11 : SignatureText
text11 =
    sig_text 0 (more_specs no_specs (codes "N") (module_spec (functor_text 15 (sig_text 28 no_specs) (sig_text 40 no_specs))))

-- sig module F : sig end end
abbrev pub text12 : SignatureText
text12 =
    sig_text 0 (more_specs no_specs (codes "F") (module_spec (sig_text 15 no_specs)))

-- functor (X : sig end) -> sig end
abbrev pub text13 : SignatureText
text13 =
    functor_text 0 (sig_text 13 no_specs) (sig_text 25 no_specs)

-- sig module F : functor (X : sig val a : int val c : bool end) -> sig val b : int end end
abbrev pub text14 : SignatureText
text14 =
    sig_text 0 (more_specs no_specs (codes "F") (module_spec (functor_text 15 (sig_text 28 (more_specs (more_specs no_specs (codes "a") (value_spec (label_text0 40 0))) (codes "c")
    (value_spec (label_text0 52 1)))) (sig_text 65 (more_specs no_specs (codes "b") (value_spec (label_text0 77 0)))))))

-- sig module F : functor (Y : sig val a : int end) -> sig end end
abbrev pub text15 : SignatureText
text15 =
    sig_text 0 (more_specs no_specs (codes "F") (module_spec (functor_text 15 (sig_text 28 (more_specs no_specs (codes "a") (value_spec (label_text0 40 0)))) (sig_text 52
    no_specs))))

-- sig module F : functor (X : sig end) -> sig val b : int end end
abbrev pub text16 : SignatureText
text16 =
    sig_text 0 (more_specs no_specs (codes "F") (module_spec (functor_text 15 (sig_text 28 no_specs) (sig_text 40 (more_specs no_specs (codes "b") (value_spec (label_text0 52
    0)))))))

-- sig module F : functor (X : sig val a : bool end) -> sig val b : int end end
abbrev pub text17 : SignatureText
text17 =
    sig_text 0 (more_specs no_specs (codes "F") (module_spec (functor_text 15 (sig_text 28 (more_specs no_specs (codes "a") (value_spec (label_text0 40 1)))) (sig_text 53 (more_specs
    no_specs (codes "b") (value_spec (label_text0 65 0)))))))

-- sig module F : functor (X : sig val a : int end) -> sig val b : bool end end
abbrev pub text18 : SignatureText
text18 =
    sig_text 0 (more_specs no_specs (codes "F") (module_spec (functor_text 15 (sig_text 28 (more_specs no_specs (codes "a") (value_spec (label_text0 40 0)))) (sig_text 52 (more_specs
    no_specs (codes "b") (value_spec (label_text0 64 1)))))))

-- sig module F : functor (X : functor (Y : sig end) -> sig end) -> sig end end
abbrev pub text19 : SignatureText
text19 =
    sig_text 0 (more_specs no_specs (codes "F") (module_spec (functor_text 15 (functor_text 28 (sig_text 41 no_specs) (sig_text 53 no_specs)) (sig_text 65 no_specs))))

-- sig module F : functor (X : sig type t = int val x : t end) -> sig type u = int val y : int end end
abbrev pub text20 : SignatureText
text20 =
    sig_text 0 (more_specs no_specs (codes "F") (module_spec (functor_text 15 (sig_text 28 (more_specs (more_specs no_specs (codes "t") (defined_spec (label_text0 41 0))) (codes
    "x") (value_spec (path_text 53 (at (binder 0)) (codes "t"))))) (sig_text 63 (more_specs (more_specs no_specs (codes "u") (defined_spec (label_text0 76 0))) (codes "y")
    (value_spec (label_text0 88 0)))))))

-- sig module F : functor (X : sig type t val x : t end) -> sig type u = int end end
abbrev pub text21 : SignatureText
text21 =
    sig_text 0 (more_specs no_specs (codes "F") (module_spec (functor_text 15 (sig_text 28 (more_specs (more_specs no_specs (codes "t") abstract_spec) (codes "x") (value_spec
    (path_text 47 (at (binder 0)) (codes "t"))))) (sig_text 57 (more_specs no_specs (codes "u") (defined_spec (label_text0 70 0)))))))

-- sig val y : A.t end
abbrev pub text22 : SignatureText
text22 =
    sig_text 0 (more_specs no_specs (codes "y") (value_spec (path_text 12 (at (unit (codes "A"))) (codes "t"))))

-- sig val y : A.u end
abbrev pub text23 : SignatureText
text23 =
    sig_text 0 (more_specs no_specs (codes "y") (value_spec (path_text 12 (at (unit (codes "A"))) (codes "u"))))

-- sig val y : B.t end
abbrev pub text24 : SignatureText
text24 =
    sig_text 0 (more_specs no_specs (codes "y") (value_spec (path_text 12 (at (unit (codes "B"))) (codes "t"))))

-- sig val x : B.t end
abbrev pub text25 : SignatureText
text25 =
    sig_text 0 (more_specs no_specs (codes "x") (value_spec (path_text 12 (at (unit (codes "B"))) (codes "t"))))

-- sig val x : Z.t end
abbrev pub text26 : SignatureText
text26 =
    sig_text 0 (more_specs no_specs (codes "x") (value_spec (path_text 12 (at (unit (codes "Z"))) (codes "t"))))
