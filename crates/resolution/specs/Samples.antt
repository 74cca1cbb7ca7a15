-- The samples: the tree of each text prints as the text's tokens, and is resolved as the text that the checker's samples have.
use Rattle.std.specs.Prelude.{◌≡◌, ℕ, List, Some, codes}
use Rattle.cores.specs.Meaning.{Word}
use Rattle.cores.specs.MiniMl.{ml_words}
use Rattle.reader.specs.Syntax.{SignatureTree, UnitTree}
use Rattle.reader.specs.Print.{print_unit, print_signature_text}
use Rattle.reader.specs.Streams.{stream_of, tokens_in}
use Rattle.rules.specs.Syntax.{SignatureText, CompilationUnit}
use Rattle.checker.specs.SampleTexts.{unit1, unit2, unit3, unit4, unit5, unit6, unit7, unit8, unit9, unit10, unit11, unit12, unit13, unit14, unit15, unit16, unit17, unit18, unit19, unit20, unit21, unit22, unit23, unit24, unit25, unit26, unit27, unit28, unit29, unit30, unit31, text1, text2, text3, text4, text5, text6, text7, text8, text9, text10, text11, text12, text13, text14, text15, text16, text17, text18, text19, text20, text21, text22, text23, text24, text25, text26}
use Rattle.resolution.specs.Places.{places_in}
use Rattle.resolution.specs.Resolve.{resolve_unit, resolve_signature_text}
use Rattle.resolution.specs.SampleTrees.{unit_tree1, unit_tree2, unit_tree3, unit_tree4, unit_tree5, unit_tree6, unit_tree7, unit_tree8, unit_tree9, unit_tree10, unit_tree11, unit_tree12, unit_tree13, unit_tree14, unit_tree15, unit_tree16, unit_tree17, unit_tree18, unit_tree19, unit_tree20, unit_tree21, unit_tree22, unit_tree23, unit_tree24, unit_tree25, unit_tree26, unit_tree27, unit_tree28, unit_tree29, unit_tree30, unit_tree31, text_tree1, text_tree2, text_tree3, text_tree4, text_tree5, text_tree6, text_tree7, text_tree8, text_tree9, text_tree10, text_tree11, text_tree12, text_tree13, text_tree14, text_tree15, text_tree16, text_tree17, text_tree18, text_tree19, text_tree20, text_tree21, text_tree22, text_tree23, text_tree24, text_tree25, text_tree26}

-- a text over these words is written by this tree, and the tree is resolved so
abbrev pub UnitIs : List Word → List ℕ → UnitTree → CompilationUnit → Type 0
UnitIs ws text u r =
    (tokens_in (stream_of ws text) ≡ Some (print_unit u)) × (resolve_unit u (places_in (stream_of ws text)) ≡ r)

abbrev pub SignatureIs : List Word → List ℕ → SignatureTree → SignatureText → Type 0
SignatureIs ws text s r =
    (tokens_in (stream_of ws text) ≡ Some (print_signature_text s)) × (resolve_signature_text s (places_in (stream_of ws text)) ≡ r)

-- the units of the checker's samples
abbrev pub UnitSamples : Type 0
UnitSamples =
    UnitIs ml_words (codes "module U = struct let x = 1 end") unit_tree1 unit1
    × UnitIs ml_words (codes "module U = struct module A = (struct type t = int let x = 1 end : sig type t val x : t end) let y = add A.x 1 end") unit_tree2 unit2
    × UnitIs ml_words (codes "module U = struct module A = (struct type t = int let x = 1 end) let y = add A.x 1 end") unit_tree3 unit3
    × UnitIs ml_words (codes "module U = struct module A = (struct type t = int let x = 1 end : sig type t val x : t end) module B = A let y = choose true A.x B.x end") unit_tree4 unit4
    × UnitIs ml_words (codes "module U = struct module F = functor (X : sig end) -> (struct type t = int let x = 1 end : sig type t val x : t end) module E = struct end module A = F(E) module B = F(E) let y = choose true A.x B.x end") unit_tree5 unit5
    × UnitIs ml_words (codes "module U = struct module A = (struct module N = struct type u = int end let y = 1 end : sig module N : sig type u end val y : N.u end) end") unit_tree6 unit6
    × UnitIs ml_words (codes "module U = struct module A = (struct module N = struct type u = int end let y = true end : sig module N : sig type u end val y : N.u end) end") unit_tree7 unit7
    × UnitIs ml_words (codes "module U = struct module F = functor (X : sig type t val x : t end) -> struct let y = X.x end module A = struct type t = int let x = 1 end module B = F(A) let z = add B.y 1 end") unit_tree8 unit8
    × UnitIs ml_words (codes "module U = struct module F = functor (X : sig type t val x : t end) -> struct end module E = struct end module A = F(E) end") unit_tree9 unit9
    × UnitIs ml_words (codes "module U = struct type t = int let x = 1 module N = struct let v = true end module F = functor (X : sig val a : int end) -> struct let b = X.a end end") unit_tree10 unit10
    × UnitIs ml_words (codes "module U = struct module F = functor (X : sig val a : int end) -> struct let b = X.a end end") unit_tree11 unit11
    × UnitIs ml_words (codes "module U = struct module F = functor (X : sig type t val x : t end) -> struct type u = X.t let y = X.x end end") unit_tree12 unit12
    × UnitIs ml_words (codes "module U = struct module A = struct let x = 1 end let y = A.z end") unit_tree13 unit13
    × UnitIs ml_words (codes "module U = struct module A = struct type x = int end let y = A.x end") unit_tree14 unit14
    × UnitIs ml_words (codes "module U = struct module F = functor (X : sig end) -> struct let x = 1 end let y = F.x end") unit_tree15 unit15
    × UnitIs ml_words (codes "module U = struct module A = struct end module B = A(A) end") unit_tree16 unit16
    × UnitIs ml_words (codes "module U = struct module A = struct end module B = A(A.D) end") unit_tree17 unit17
    × UnitIs ml_words (codes "module U = struct module E = struct end module A = (functor (X : sig end) -> struct let x = 1 end)(E) let y = add A.x 1 end") unit_tree18 unit18
    × UnitIs ml_words (codes "module U = struct module E = struct end module A = functor (X : sig end) -> struct end(E) end") unit_tree19 unit19
    × UnitIs ml_words (codes "module U = struct let f = fun (x : int) -> fun (x : bool) -> choose x 1 2 end") unit_tree20 unit20
    × UnitIs ml_words (codes "module U = struct type t = int module A = struct type u = t type t = bool type v = t end let y = choose true (fun (a : A.u) -> a) (fun (b : t) -> b) end") unit_tree21 unit21
    × UnitIs ml_words (codes "module B = struct end") unit_tree22 unit22
    × UnitIs ml_words (codes "module C = struct let x = 1 end") unit_tree23 unit23
    × UnitIs ml_words (codes "module A = struct let y = C.x end") unit_tree24 unit24
    × UnitIs ml_words (codes "module C = struct let x = 1 end [@@ rank 50 ]") unit_tree25 unit25
    × UnitIs ml_words (codes "module D = struct let x = 1 end") unit_tree26 unit26
    × UnitIs ml_words (codes "module C = struct let x = D.x end") unit_tree27 unit27
    × UnitIs ml_words (codes "module B = struct let x = C.x end") unit_tree28 unit28
    × UnitIs ml_words (codes "module A = struct let x = B.x end") unit_tree29 unit29
    × UnitIs ml_words (codes "module A = struct type t = int let x = 1 end") unit_tree30 unit30
    × UnitIs ml_words (codes "module B = struct let y = A.x end") unit_tree31 unit31

-- the signatures of the checker's samples
abbrev pub SignatureSamples : Type 0
SignatureSamples =
    SignatureIs ml_words (codes "sig end") text_tree1 text1
    × SignatureIs ml_words (codes "sig val x : int end") text_tree2 text2
    × SignatureIs ml_words (codes "sig val x : bool end") text_tree3 text3
    × SignatureIs ml_words (codes "sig module B : sig val y : int end val z : int end") text_tree4 text4
    × SignatureIs ml_words (codes "sig type x end") text_tree5 text5
    × SignatureIs ml_words (codes "sig val y : int end") text_tree6 text6
    × SignatureIs ml_words (codes "sig type t = bool end") text_tree7 text7
    × SignatureIs ml_words (codes "sig type t = int val x : t end") text_tree8 text8
    × SignatureIs ml_words (codes "sig module N : sig val w : bool end end") text_tree9 text9
    × SignatureIs ml_words (codes "sig module N : sig val v : int end end") text_tree10 text10
    × SignatureIs ml_words (codes "sig module N : functor (X : sig end) -> sig end end") text_tree11 text11
    × SignatureIs ml_words (codes "sig module F : sig end end") text_tree12 text12
    × SignatureIs ml_words (codes "functor (X : sig end) -> sig end") text_tree13 text13
    × SignatureIs ml_words (codes "sig module F : functor (X : sig val a : int val c : bool end) -> sig val b : int end end") text_tree14 text14
    × SignatureIs ml_words (codes "sig module F : functor (Y : sig val a : int end) -> sig end end") text_tree15 text15
    × SignatureIs ml_words (codes "sig module F : functor (X : sig end) -> sig val b : int end end") text_tree16 text16
    × SignatureIs ml_words (codes "sig module F : functor (X : sig val a : bool end) -> sig val b : int end end") text_tree17 text17
    × SignatureIs ml_words (codes "sig module F : functor (X : sig val a : int end) -> sig val b : bool end end") text_tree18 text18
    × SignatureIs ml_words (codes "sig module F : functor (X : functor (Y : sig end) -> sig end) -> sig end end") text_tree19 text19
    × SignatureIs ml_words (codes "sig module F : functor (X : sig type t = int val x : t end) -> sig type u = int val y : int end end") text_tree20 text20
    × SignatureIs ml_words (codes "sig module F : functor (X : sig type t val x : t end) -> sig type u = int end end") text_tree21 text21
    × SignatureIs ml_words (codes "sig val y : A.t end") text_tree22 text22
    × SignatureIs ml_words (codes "sig val y : A.u end") text_tree23 text23
    × SignatureIs ml_words (codes "sig val y : B.t end") text_tree24 text24
    × SignatureIs ml_words (codes "sig val x : B.t end") text_tree25 text25
    × SignatureIs ml_words (codes "sig val x : Z.t end") text_tree26 text26
