-- The units that a text names: its heads that are units, each with its place, in the order of the text.
use Rattle.std.specs.Prelude.{ℕ, List, [], ◌∷◌, ◌++◌}
use Rattle.types.specs.Types.{Name, Head, unit, binder, ModulePath, at, dot}
use Rattle.rules.specs.Syntax.{TypeText, path_text, label_text0, label_text1, label_text2, SignatureText, sig_text, functor_text, SpecTexts, no_specs, more_specs, SpecText, abstract_spec, defined_spec, value_spec, module_spec, Term, variable, component, integer, operation, lambda, Terms, no_terms, more_terms, Module, module_path, struct, functor_of, applied, ascribed, Items, no_items, more_items, Item, type_item, let_item, module_item, CompilationUnit}

-- a head that is a unit names it
abbrev pub head_names : Head → ℕ → List (Name × ℕ)
head_names (unit x) place = (x, place) ∷ []
head_names (binder n) place = []

-- the head of a path stands at the path's first byte
abbrev pub path_names : ModulePath → ℕ → List (Name × ℕ)
path_names (at h) place = head_names h place
path_names (dot p x) place = path_names p place

-- of a type
abbrev pub type_names : TypeText → List (Name × ℕ)
type_names (path_text place p x) = path_names p place
type_names (label_text0 place l) = []
type_names (label_text1 place l t) = type_names t
type_names (label_text2 place l t u) = type_names t ++ type_names u

abbrev mutual
  -- of a signature: a functor's parameter before its result
  pub signature_names : SignatureText → List (Name × ℕ)
  signature_names (sig_text place c) = specs_names c
  signature_names (functor_text place s r) = signature_names s ++ signature_names r

  pub specs_names : SpecTexts → List (Name × ℕ)
  specs_names no_specs = []
  specs_names (more_specs c x d) = specs_names c ++ spec_names d

  pub spec_names : SpecText → List (Name × ℕ)
  spec_names abstract_spec = []
  spec_names (defined_spec t) = type_names t
  spec_names (value_spec t) = type_names t
  spec_names (module_spec s) = signature_names s

abbrev mutual
  -- of a term: a function's type before its body
  pub term_names : Term → List (Name × ℕ)
  term_names (variable place n) = []
  term_names (component place p x) = path_names p place
  term_names (integer place) = []
  term_names (operation place o ts) = terms_names ts
  term_names (lambda place t e) = type_names t ++ term_names e

  pub terms_names : Terms → List (Name × ℕ)
  terms_names no_terms = []
  terms_names (more_terms e ts) = term_names e ++ terms_names ts

abbrev mutual
  -- of a module: what is applied before its argument, a module before the signature that it is given
  pub module_names : Module → List (Name × ℕ)
  module_names (module_path place p) = path_names p place
  module_names (struct place is) = items_names is
  module_names (functor_of place s m) = signature_names s ++ module_names m
  module_names (applied place m there p) = module_names m ++ path_names p there
  module_names (ascribed place there m s) = module_names m ++ signature_names s

  pub items_names : Items → List (Name × ℕ)
  items_names no_items = []
  items_names (more_items is x i) = items_names is ++ item_names i

  pub item_names : Item → List (Name × ℕ)
  item_names (type_item t) = type_names t
  item_names (let_item e) = term_names e
  item_names (module_item m) = module_names m

-- of a unit
abbrev pub unit_names : CompilationUnit → List (Name × ℕ)
unit_names u = module_names u.body
