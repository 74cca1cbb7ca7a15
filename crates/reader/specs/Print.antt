-- The grammar: how each tree is written. Each printer takes the tokens that come after.
use Rattle.std.specs.Prelude.{ℕ, List, [], ◌∷◌, Some, None, Option}
use Rattle.tokens.specs.declared.token.Mark.{Mark}
use Rattle.tokens.specs.declared.token.Keyword.{Keyword}
use Rattle.types.specs.Types.{Name}
use Rattle.reader.specs.Tokens.{Token, mark, keyword, lower, upper, integer, label0, label1, label2, operator0, operator1, operator2, operator3, text_end}
use Rattle.reader.specs.Syntax.{LongName, ModulePath, TypeTree, TermTree, AtomTree, SignatureTree, SpecTrees, ModuleTree, ItemTrees, RankTree, UnitTree}

-- the marks
abbrev pub «open» : Token
«open» = mark Mark.Open

abbrev pub close : Token
close = mark Mark.Close

abbrev pub colon : Token
colon = mark Mark.Colon

abbrev pub equals : Token
equals = mark Mark.Equals

abbrev pub comma : Token
comma = mark Mark.Comma

abbrev pub dot : Token
dot = mark Mark.Dot

abbrev pub arrow : Token
arrow = mark Mark.Arrow

-- `x`, or `X.` and more
abbrev pub print_long_name : LongName → List Token → List Token
print_long_name (LongName.plain x) rest = lower x ∷ rest
print_long_name (LongName.inside m p) rest = upper m ∷ dot ∷ print_long_name p rest

-- `.X` for each name
abbrev pub print_names : List Name → List Token → List Token
print_names [] rest = rest
print_names (m ∷ ms) rest = dot ∷ upper m ∷ print_names ms rest

-- `X.Y.Z`
abbrev pub print_path : ModulePath → List Token → List Token
print_path p rest = upper p.first ∷ print_names p.more rest

-- the one-part labels behind a type
abbrev pub print_labels : List ℕ → List Token → List Token
print_labels [] rest = rest
print_labels (l ∷ ls) rest = label1 l ∷ print_labels ls rest

-- `p`, `l`, `(type)` or `(type, type) l`, and the labels behind it
abbrev pub print_type : TypeTree → List Token → List Token
print_type (TypeTree.path p ls) rest = print_long_name p (print_labels ls rest)
print_type (TypeTree.constant l ls) rest = label0 l ∷ print_labels ls rest
print_type (TypeTree.bracket t ls) rest = «open» ∷ print_type t (close ∷ print_labels ls rest)
print_type (TypeTree.both t u l ls) rest =
    «open» ∷ print_type t (comma ∷ print_type u (close ∷ label2 l ∷ print_labels ls rest))

abbrev mutual
  -- `fun (x : type) -> term`, an operator and its atoms, or an atom
  pub print_term : TermTree → List Token → List Token
  print_term (TermTree.function x t e) rest =
      keyword Keyword.Fun ∷ «open» ∷ lower x ∷ colon ∷ print_type t (close ∷ arrow ∷ print_term e rest)
  print_term (TermTree.one o a) rest = operator1 o ∷ print_atom a rest
  print_term (TermTree.two o a b) rest = operator2 o ∷ print_atom a (print_atom b rest)
  print_term (TermTree.three o a b c) rest = operator3 o ∷ print_atom a (print_atom b (print_atom c rest))
  print_term (TermTree.atom a) rest = print_atom a rest

  -- `12`, `X.x`, an operator, or `(term)`
  pub print_atom : AtomTree → List Token → List Token
  print_atom (AtomTree.literal ds) rest = integer ds ∷ rest
  print_atom (AtomTree.path p) rest = print_long_name p rest
  print_atom (AtomTree.constant o) rest = operator0 o ∷ rest
  print_atom (AtomTree.bracket e) rest = «open» ∷ print_term e (close ∷ rest)

abbrev mutual
  -- `sig specs end`, or `functor (X : signature) -> signature`
  pub print_signature : SignatureTree → List Token → List Token
  print_signature (SignatureTree.sig_end specs) rest = keyword Keyword.Sig ∷ print_specs specs rest
  print_signature (SignatureTree.functor x p r) rest =
      keyword Keyword.Functor ∷ «open» ∷ upper x ∷ colon ∷ print_signature p (close ∷ arrow ∷ print_signature r rest)

  -- `end`, or one of `type t`, `type t = type`, `val x : type`, `module X : signature`, and more specs
  pub print_specs : SpecTrees → List Token → List Token
  print_specs SpecTrees.done rest = keyword Keyword.End ∷ rest
  print_specs (SpecTrees.abstract_type t more) rest = keyword Keyword.«Type» ∷ lower t ∷ print_specs more rest
  print_specs (SpecTrees.defined_type t u more) rest =
      keyword Keyword.«Type» ∷ lower t ∷ equals ∷ print_type u (print_specs more rest)
  print_specs (SpecTrees.value x t more) rest = keyword Keyword.Val ∷ lower x ∷ colon ∷ print_type t (print_specs more rest)
  print_specs (SpecTrees.submodule x s more) rest =
      keyword Keyword.Module ∷ upper x ∷ colon ∷ print_signature s (print_specs more rest)

-- `(path)` for each application
abbrev pub print_arguments : List ModulePath → List Token → List Token
print_arguments [] rest = rest
print_arguments (p ∷ ps) rest = «open» ∷ print_path p (close ∷ print_arguments ps rest)

abbrev mutual
  -- `functor (X : signature) -> module`; or a path, `struct items end`, `(module)` or `(module : signature)`, and applications
  pub print_module : ModuleTree → List Token → List Token
  print_module (ModuleTree.functor x s m) rest =
      keyword Keyword.Functor ∷ «open» ∷ upper x ∷ colon ∷ print_signature s (close ∷ arrow ∷ print_module m rest)
  print_module (ModuleTree.path p ps) rest = print_path p (print_arguments ps rest)
  print_module (ModuleTree.struct_end is ps) rest = keyword Keyword.Struct ∷ print_items is (print_arguments ps rest)
  print_module (ModuleTree.bracket m ps) rest = «open» ∷ print_module m (close ∷ print_arguments ps rest)
  print_module (ModuleTree.ascribed m s ps) rest =
      «open» ∷ print_module m (colon ∷ print_signature s (close ∷ print_arguments ps rest))

  -- `end`, or one of `type t = type`, `let x = term`, `module X = module`, and more items
  pub print_items : ItemTrees → List Token → List Token
  print_items ItemTrees.done rest = keyword Keyword.End ∷ rest
  print_items (ItemTrees.defined_type t u more) rest =
      keyword Keyword.«Type» ∷ lower t ∷ equals ∷ print_type u (print_items more rest)
  print_items (ItemTrees.value x e more) rest = keyword Keyword.Let ∷ lower x ∷ equals ∷ print_term e (print_items more rest)
  print_items (ItemTrees.submodule x m more) rest =
      keyword Keyword.Module ∷ upper x ∷ equals ∷ print_module m (print_items more rest)

-- nothing, or `[@@ rank n ]`
abbrev pub print_rank : Option RankTree → List Token → List Token
print_rank None rest = rest
print_rank (Some n) rest =
    mark Mark.OpenAttribute ∷ keyword Keyword.Rank ∷ integer n.digits ∷ mark Mark.CloseAttribute ∷ rest

-- `module U = struct items end`, the rank if one is written, and the end of the text
abbrev pub print_unit : UnitTree → List Token
print_unit u =
    keyword Keyword.Module ∷ upper u.name ∷ equals ∷ keyword Keyword.Struct
    ∷ print_items u.items (print_rank u.rank (text_end ∷ []))

-- a signature alone, and the end of the text
abbrev pub print_signature_text : SignatureTree → List Token
print_signature_text s = print_signature s (text_end ∷ [])
