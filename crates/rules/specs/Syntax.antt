-- Texts after their heads are found and their brackets dropped. Each node has the place of its first byte, which no rule looks at.
use Rattle.std.specs.Prelude.{ℕ}
use Rattle.types.specs.Types.{Name, ModulePath, named, Ty, leaf, label0, label1, label2}
use Rattle.rules.specs.Signatures.{Signature, structure, functor, Components, empty, more, Declaration, abstract, defined, value, nested}

-- a written type: a type path, or a label with its parts
pub data TypeText : Type 0 where
  path_text : ℕ → ModulePath → Name → TypeText
  label_text0 : ℕ → ℕ → TypeText
  label_text1 : ℕ → ℕ → TypeText → TypeText
  label_text2 : ℕ → ℕ → TypeText → TypeText → TypeText

-- the type that is written
abbrev pub type_of : TypeText → Ty
type_of (path_text place p x) = leaf (named p x)
type_of (label_text0 place l) = label0 l
type_of (label_text1 place l t) = label1 l (type_of t)
type_of (label_text2 place l t u) = label2 l (type_of t) (type_of u)

mutual
  -- a written signature
  pub data SignatureText : Type 0 where
    sig_text : ℕ → SpecTexts → SignatureText
    functor_text : ℕ → SignatureText → SignatureText → SignatureText

  -- its specs, the last one outermost
  pub data SpecTexts : Type 0 where
    no_specs : SpecTexts
    more_specs : SpecTexts → Name → SpecText → SpecTexts

  pub data SpecText : Type 0 where
    abstract_spec : SpecText
    defined_spec : TypeText → SpecText
    value_spec : TypeText → SpecText
    module_spec : SignatureText → SpecText

-- the signature that is written
abbrev mutual
  pub signature_of : SignatureText → Signature
  signature_of (sig_text place c) = structure (components_of c)
  signature_of (functor_text place s r) = functor (signature_of s) (signature_of r)

  pub components_of : SpecTexts → Components
  components_of no_specs = empty
  components_of (more_specs c x d) = more (components_of c) x (declaration_of d)

  pub declaration_of : SpecText → Declaration
  declaration_of abstract_spec = abstract
  declaration_of (defined_spec t) = defined (type_of t)
  declaration_of (value_spec t) = value (type_of t)
  declaration_of (module_spec s) = nested (signature_of s)

mutual
  -- a variable of `fun` counted outward, a value path, the integer literal, an operator by its place among the core's words
  -- with its arguments, or a function with its parameter's type
  pub data Term : Type 0 where
    variable : ℕ → ℕ → Term
    component : ℕ → ModulePath → Name → Term
    integer : ℕ → Term
    operation : ℕ → ℕ → Terms → Term
    lambda : ℕ → TypeText → Term → Term

  -- arguments, the first one outermost
  pub data Terms : Type 0 where
    no_terms : Terms
    more_terms : Term → Terms → Terms

mutual
  -- a path, a structure, a functor, a module applied to a path (with that path's place), or a module (with that module's place,
  -- which a bracket may begin) with a signature
  pub data Module : Type 0 where
    module_path : ℕ → ModulePath → Module
    struct : ℕ → Items → Module
    functor_of : ℕ → SignatureText → Module → Module
    applied : ℕ → Module → ℕ → ModulePath → Module
    ascribed : ℕ → ℕ → Module → SignatureText → Module

  -- the items of a structure, the last one outermost
  pub data Items : Type 0 where
    no_items : Items
    more_items : Items → Name → Item → Items

  pub data Item : Type 0 where
    type_item : TypeText → Item
    let_item : Term → Item
    module_item : Module → Item

-- a unit: its name, and its items as a structure
pub record CompilationUnit : Type 0 where
  pub name : Name
  pub body : Module
