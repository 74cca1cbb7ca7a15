-- Which token stands at the place of each node of a text: an operation's operator, a function's `fun`, the keyword of a structure, a
-- signature or a functor, the first name of a path, the bracket of a label with two parts and of an ascription. A label with one part,
-- an application and what an ascription tells begin where their part begins: at that part's own place, or at a bracket.
use Rattle.std.specs.Prelude.{◌≡◌, ℕ, ◌⊎◌, List, Some}
use Rattle.tokens.specs.declared.token.Keyword.{Keyword}
use Rattle.types.specs.Types.{Name}
use Rattle.reader.specs.Tokens.{Token, keyword, lower, upper, integer as digits, label0, operator0, operator1, operator2, operator3}
use Rattle.reader.specs.Print.{«open»}
use Rattle.reader.specs.Streams.{Stream}
use Rattle.reader.specs.Reading.{StandsAt}
use Rattle.rules.specs.Syntax.{TypeText, path_text, label_text0, label_text1, label_text2, SignatureText, sig_text, functor_text, SpecTexts, no_specs, more_specs, SpecText, abstract_spec, defined_spec, value_spec, module_spec, Term, variable, component, integer, operation, lambda, Terms, no_terms, more_terms, Module, module_path, struct, functor_of, applied, ascribed, Items, no_items, more_items, Item, type_item, let_item, module_item}

-- a stream has this token at this place
abbrev pub TokenAt : Stream → Token → ℕ → Type 0
TokenAt s k place = (before : List Token) × StandsAt s before (Some k) place

-- an upper name stands there
abbrev pub UpperAt : (Token → ℕ → Type 0) → ℕ → Type 0
UpperAt at place = (m : Name) × at (upper m) place

-- this lower name stands there, or an upper one
abbrev pub NameAt : (Token → ℕ → Type 0) → Name → ℕ → Type 0
NameAt at x place = at (lower x) place ⊎ UpperAt at place

-- a part with this place of its own begins there, or a bracket stands there
abbrev pub BeginsAt : (Token → ℕ → Type 0) → ℕ → ℕ → Type 0
BeginsAt at own place = (place ≡ own) ⊎ at «open» place

-- the place that a type has
abbrev pub type_place : TypeText → ℕ
type_place (path_text place p x) = place
type_place (label_text0 place l) = place
type_place (label_text1 place l t) = place
type_place (label_text2 place l t u) = place

-- the place that a module has
abbrev pub module_place : Module → ℕ
module_place (module_path place p) = place
module_place (struct place is) = place
module_place (functor_of place s m) = place
module_place (applied place m there p) = place
module_place (ascribed place there m s) = place

-- the token of an operator, by the number of its arguments; no text gives one more than three
abbrev pub operator_token : ℕ → Terms → Token
operator_token o no_terms = operator0 o
operator_token o (more_terms e no_terms) = operator1 o
operator_token o (more_terms e (more_terms f no_terms)) = operator2 o
operator_token o (more_terms e (more_terms f (more_terms g ts))) = operator3 o

-- a type
abbrev pub StandsType : (Token → ℕ → Type 0) → TypeText → Type 0
StandsType at (path_text place p x) = NameAt at x place
StandsType at (label_text0 place l) = at (label0 l) place
StandsType at (label_text1 place l t) = BeginsAt at (type_place t) place × StandsType at t
StandsType at (label_text2 place l t u) = at «open» place × StandsType at t × StandsType at u

abbrev mutual
  -- a signature
  pub StandsSignature : (Token → ℕ → Type 0) → SignatureText → Type 0
  StandsSignature at (sig_text place c) = at (keyword Keyword.Sig) place × StandsSpecs at c
  StandsSignature at (functor_text place s r) = at (keyword Keyword.Functor) place × StandsSignature at s × StandsSignature at r

  pub StandsSpecs : (Token → ℕ → Type 0) → SpecTexts → Type 0
  StandsSpecs at no_specs = Unit {0}
  StandsSpecs at (more_specs c x d) = StandsSpecs at c × StandsSpec at d

  pub StandsSpec : (Token → ℕ → Type 0) → SpecText → Type 0
  StandsSpec at abstract_spec = Unit {0}
  StandsSpec at (defined_spec t) = StandsType at t
  StandsSpec at (value_spec t) = StandsType at t
  StandsSpec at (module_spec s) = StandsSignature at s

abbrev mutual
  -- a term
  pub StandsTerm : (Token → ℕ → Type 0) → Term → Type 0
  StandsTerm at (variable place n) = (x : Name) × at (lower x) place
  StandsTerm at (component place p x) = NameAt at x place
  StandsTerm at (integer place) = (ds : List ℕ) × at (digits ds) place
  StandsTerm at (operation place o ts) = at (operator_token o ts) place × StandsTerms at ts
  StandsTerm at (lambda place t e) = at (keyword Keyword.Fun) place × StandsType at t × StandsTerm at e

  pub StandsTerms : (Token → ℕ → Type 0) → Terms → Type 0
  StandsTerms at no_terms = Unit {0}
  StandsTerms at (more_terms e ts) = StandsTerm at e × StandsTerms at ts

abbrev mutual
  -- a module
  pub StandsModule : (Token → ℕ → Type 0) → Module → Type 0
  StandsModule at (module_path place p) = UpperAt at place
  StandsModule at (struct place is) = at (keyword Keyword.Struct) place × StandsItems at is
  StandsModule at (functor_of place s m) = at (keyword Keyword.Functor) place × StandsSignature at s × StandsModule at m
  StandsModule at (applied place m there p) = BeginsAt at (module_place m) place × StandsModule at m × UpperAt at there
  StandsModule at (ascribed place there m s) =
      at «open» place × BeginsAt at (module_place m) there × StandsModule at m × StandsSignature at s

  pub StandsItems : (Token → ℕ → Type 0) → Items → Type 0
  StandsItems at no_items = Unit {0}
  StandsItems at (more_items is x i) = StandsItems at is × StandsItem at i

  pub StandsItem : (Token → ℕ → Type 0) → Item → Type 0
  StandsItem at (type_item t) = StandsType at t
  StandsItem at (let_item e) = StandsTerm at e
  StandsItem at (module_item m) = StandsModule at m
