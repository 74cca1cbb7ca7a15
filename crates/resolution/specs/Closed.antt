-- Texts that mention only what is around them: each binder by a number below the count of binders around, each variable by a number
-- below the count of variables around. A structure and a signature bind themselves, a functor its parameter, a function its variable.
use Rattle.std.specs.Prelude.{ℕ, suc, ◌<◌}
use Rattle.types.specs.Types.{Head, unit, binder, ModulePath, at, dot}
use Rattle.rules.specs.Syntax.{TypeText, path_text, label_text0, label_text1, label_text2, SignatureText, sig_text, functor_text, SpecTexts, no_specs, more_specs, SpecText, abstract_spec, defined_spec, value_spec, module_spec, Term, variable, component, integer, operation, lambda, Terms, no_terms, more_terms, Module, module_path, struct, functor_of, applied, ascribed, Items, no_items, more_items, Item, type_item, let_item, module_item}

-- a head
abbrev pub ClosedHead : ℕ → Head → Type 0
ClosedHead n (unit x) = Unit {0}
ClosedHead n (binder k) = k < n

-- a path
abbrev pub ClosedPath : ℕ → ModulePath → Type 0
ClosedPath n (at h) = ClosedHead n h
ClosedPath n (dot p x) = ClosedPath n p

-- a type
abbrev pub ClosedType : ℕ → TypeText → Type 0
ClosedType n (path_text place p x) = ClosedPath n p
ClosedType n (label_text0 place l) = Unit {0}
ClosedType n (label_text1 place l t) = ClosedType n t
ClosedType n (label_text2 place l t u) = ClosedType n t × ClosedType n u

abbrev mutual
  -- a signature: its specs have it around them, and its result the parameter
  pub ClosedSignature : ℕ → SignatureText → Type 0
  ClosedSignature n (sig_text place c) = ClosedSpecs (suc n) c
  ClosedSignature n (functor_text place s r) = ClosedSignature n s × ClosedSignature (suc n) r

  pub ClosedSpecs : ℕ → SpecTexts → Type 0
  ClosedSpecs n no_specs = Unit {0}
  ClosedSpecs n (more_specs c x d) = ClosedSpecs n c × ClosedSpec n d

  pub ClosedSpec : ℕ → SpecText → Type 0
  ClosedSpec n abstract_spec = Unit {0}
  ClosedSpec n (defined_spec t) = ClosedType n t
  ClosedSpec n (value_spec t) = ClosedType n t
  ClosedSpec n (module_spec s) = ClosedSignature n s

abbrev mutual
  -- a term, with so many binders and so many variables around it
  pub ClosedTerm : ℕ → ℕ → Term → Type 0
  ClosedTerm n v (variable place k) = k < v
  ClosedTerm n v (component place p x) = ClosedPath n p
  ClosedTerm n v (integer place) = Unit {0}
  ClosedTerm n v (operation place o ts) = ClosedTerms n v ts
  ClosedTerm n v (lambda place t e) = ClosedType n t × ClosedTerm n (suc v) e

  pub ClosedTerms : ℕ → ℕ → Terms → Type 0
  ClosedTerms n v no_terms = Unit {0}
  ClosedTerms n v (more_terms e ts) = ClosedTerm n v e × ClosedTerms n v ts

abbrev mutual
  -- a module: no variable is around one, since no module stands in a term
  pub ClosedModule : ℕ → Module → Type 0
  ClosedModule n (module_path place p) = ClosedPath n p
  ClosedModule n (struct place is) = ClosedItems (suc n) is
  ClosedModule n (functor_of place s m) = ClosedSignature n s × ClosedModule (suc n) m
  ClosedModule n (applied place m there p) = ClosedModule n m × ClosedPath n p
  ClosedModule n (ascribed place there m s) = ClosedModule n m × ClosedSignature n s

  pub ClosedItems : ℕ → Items → Type 0
  ClosedItems n no_items = Unit {0}
  ClosedItems n (more_items is x i) = ClosedItems n is × ClosedItem n i

  pub ClosedItem : ℕ → Item → Type 0
  ClosedItem n (type_item t) = ClosedType n t
  ClosedItem n (let_item e) = ClosedTerm n 0 e
  ClosedItem n (module_item m) = ClosedModule n m
