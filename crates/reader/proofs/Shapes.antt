-- The trees of each symbol, and how they are printed: those of the grammar, with what follows them.
use Rattle.std.proofs.Common.{ℕ, List, ◌∷◌, Some, None, Option}
use Rattle.tokens.specs.declared.token.Keyword.{Keyword}
use Rattle.types.specs.Types.{Name}
use Rattle.reader.specs.declared.symbol.Symbol.{Symbol}
use Rattle.reader.specs.declared.symbol.TypeContext.{TypeContext}
use Rattle.reader.specs.declared.symbol.ModuleContext.{ModuleContext}
use Rattle.reader.specs.Tokens.{Token, keyword, lower, upper, integer, label2, text_end}
use Rattle.reader.specs.Syntax.{LongName, ModulePath, TypeTree, TermTree, AtomTree, SignatureTree, SpecTrees, ModuleTree, ItemTrees, RankTree, UnitTree}
use Rattle.reader.specs.Print.{close, colon, equals, comma, arrow, print_long_name, print_names, print_path, print_labels, print_type, print_term, print_atom, print_signature, print_specs, print_arguments, print_module, print_items, print_rank}
use Rattle.reader.proofs.Loads.{Load, whole}

-- what follows a type
abbrev pub AfterType : TypeContext → Type 0
AfterType TypeContext.Items = ItemTrees
AfterType TypeContext.Specs = SpecTrees
AfterType TypeContext.Closed = Unit {0}
AfterType TypeContext.Bracketed = Option (TypeTree × ℕ)

-- what follows a module
abbrev pub AfterModule : ModuleContext → Type 0
AfterModule ModuleContext.Items = ItemTrees
AfterModule ModuleContext.Bracketed = Option SignatureTree

-- `)`, or `, type ) label`
abbrev pub print_type_end : Option (TypeTree × ℕ) → List Token → List Token
print_type_end None rest = close ∷ rest
print_type_end (Some e) rest = comma ∷ print_type e.0 (close ∷ label2 e.1 ∷ rest)

-- `)`, or `: signature )`
abbrev pub print_module_end : Option SignatureTree → List Token → List Token
print_module_end None rest = close ∷ rest
print_module_end (Some s) rest = colon ∷ print_signature s (close ∷ rest)

abbrev pub print_after_type : (c : TypeContext) → AfterType c → List Token → List Token
print_after_type TypeContext.Items a rest = print_items a rest
print_after_type TypeContext.Specs a rest = print_specs a rest
print_after_type TypeContext.Closed a rest = close ∷ rest
print_after_type TypeContext.Bracketed a rest = print_type_end a rest

abbrev pub print_after_module : (c : ModuleContext) → AfterModule c → List Token → List Token
print_after_module ModuleContext.Items a rest = print_items a rest
print_after_module ModuleContext.Bracketed a rest = print_module_end a rest

-- nothing, or `= type`, behind `type t`
abbrev pub print_definition : Option TypeTree → List Token → List Token
print_definition None rest = rest
print_definition (Some t) rest = equals ∷ print_type t rest

-- the trees of a symbol
abbrev pub Tree : Symbol → Type 0
Tree (Symbol.Token c) = Load c
Tree Symbol.«Unit» = UnitTree
Tree Symbol.UnitName = Name
Tree Symbol.UnitEnd = Option RankTree
Tree Symbol.RankValue = RankTree
Tree Symbol.Items = ItemTrees
Tree Symbol.TypeItem = Name × (TypeTree × ItemTrees)
Tree Symbol.ValueItem = Name × (TermTree × ItemTrees)
Tree Symbol.ModuleItem = Name × (ModuleTree × ItemTrees)
Tree (Symbol.Module c) = ModuleTree × AfterModule c
Tree (Symbol.Parameter c) = Name × (SignatureTree × (ModuleTree × AfterModule c))
Tree (Symbol.«Path» c) = List Name × (List ModulePath × AfterModule c)
Tree (Symbol.PathName c) = ModulePath × (List ModulePath × AfterModule c)
Tree (Symbol.Arguments c) = List ModulePath × AfterModule c
Tree Symbol.ModuleEnd = Option SignatureTree
Tree Symbol.Argument = ModulePath
Tree Symbol.ArgumentEnd = List Name
Tree Symbol.Signature = SignatureTree
Tree Symbol.SignatureParameter = Name × (SignatureTree × SignatureTree)
Tree Symbol.Specs = SpecTrees
Tree Symbol.TypeSpec = Name × (Option TypeTree × SpecTrees)
Tree Symbol.TypeSpecEnd = Option TypeTree × SpecTrees
Tree Symbol.ValueSpec = Name × (TypeTree × SpecTrees)
Tree Symbol.ModuleSpec = Name × (SignatureTree × SpecTrees)
Tree Symbol.Term = TermTree
Tree Symbol.Variable = Name × (TypeTree × TermTree)
Tree Symbol.Atom = AtomTree
Tree Symbol.PathEnd = LongName
Tree (Symbol.«Type» c) = TypeTree × AfterType c
Tree (Symbol.Labels c) = List ℕ × AfterType c
Tree Symbol.TypeEnd = Option (TypeTree × ℕ)
Tree Symbol.ArgumentName = ModulePath

-- a symbol's tree, printed
abbrev pub print : (s : Symbol) → Tree s → List Token → List Token
print (Symbol.Token c) t rest = whole c t ∷ rest
print Symbol.«Unit» t rest =
    keyword Keyword.Module ∷ upper t.name ∷ equals ∷ keyword Keyword.Struct
    ∷ print_items t.items (print_rank t.rank (text_end ∷ rest))
print Symbol.UnitName t rest = upper t ∷ rest
print Symbol.UnitEnd t rest = print_rank t (text_end ∷ rest)
print Symbol.RankValue t rest = integer t.digits ∷ rest
print Symbol.Items t rest = print_items t rest
print Symbol.TypeItem t rest = lower t.0 ∷ equals ∷ print_type t.1.0 (print_items t.1.1 rest)
print Symbol.ValueItem t rest = lower t.0 ∷ equals ∷ print_term t.1.0 (print_items t.1.1 rest)
print Symbol.ModuleItem t rest = upper t.0 ∷ equals ∷ print_module t.1.0 (print_items t.1.1 rest)
print (Symbol.Module c) t rest = print_module t.0 (print_after_module c t.1 rest)
print (Symbol.Parameter c) t rest =
    upper t.0 ∷ colon ∷ print_signature t.1.0 (close ∷ arrow ∷ print_module t.1.1.0 (print_after_module c t.1.1.1 rest))
print (Symbol.«Path» c) t rest = print_names t.0 (print_arguments t.1.0 (print_after_module c t.1.1 rest))
print (Symbol.PathName c) t rest = print_path t.0 (print_arguments t.1.0 (print_after_module c t.1.1 rest))
print (Symbol.Arguments c) t rest = print_arguments t.0 (print_after_module c t.1 rest)
print Symbol.ModuleEnd t rest = print_module_end t rest
print Symbol.Argument t rest = print_path t (close ∷ rest)
print Symbol.ArgumentEnd t rest = print_names t (close ∷ rest)
print Symbol.Signature t rest = print_signature t rest
print Symbol.SignatureParameter t rest =
    upper t.0 ∷ colon ∷ print_signature t.1.0 (close ∷ arrow ∷ print_signature t.1.1 rest)
print Symbol.Specs t rest = print_specs t rest
print Symbol.TypeSpec t rest = lower t.0 ∷ print_definition t.1.0 (print_specs t.1.1 rest)
print Symbol.TypeSpecEnd t rest = print_definition t.0 (print_specs t.1 rest)
print Symbol.ValueSpec t rest = lower t.0 ∷ colon ∷ print_type t.1.0 (print_specs t.1.1 rest)
print Symbol.ModuleSpec t rest = upper t.0 ∷ colon ∷ print_signature t.1.0 (print_specs t.1.1 rest)
print Symbol.Term t rest = print_term t rest
print Symbol.Variable t rest = lower t.0 ∷ colon ∷ print_type t.1.0 (close ∷ arrow ∷ print_term t.1.1 rest)
print Symbol.Atom t rest = print_atom t rest
print Symbol.PathEnd t rest = print_long_name t rest
print (Symbol.«Type» c) t rest = print_type t.0 (print_after_type c t.1 rest)
print (Symbol.Labels c) t rest = print_labels t.0 (print_after_type c t.1 rest)
print Symbol.TypeEnd t rest = print_type_end t rest
print Symbol.ArgumentName t rest = print_path t (close ∷ rest)
