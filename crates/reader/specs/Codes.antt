-- The numbers by which symbols are kept in words of memory.
use Rattle.std.specs.Prelude.{ℕ, List, [], ◌∷◌, slice_index_or}
use Rattle.reader.specs.declared.class.Class.{Class}
use Rattle.reader.specs.declared.symbol.Symbol.{Symbol}
use Rattle.reader.specs.declared.symbol.TypeContext.{TypeContext}
use Rattle.reader.specs.declared.symbol.ModuleContext.{ModuleContext}
use Rattle.reader.specs.Grammar.{number}

-- the symbols in the order of their numbers
abbrev pub symbols : List Symbol
symbols =
    Symbol.Token Class.Open
    ∷ Symbol.Token Class.Close
    ∷ Symbol.Token Class.Colon
    ∷ Symbol.Token Class.Equals
    ∷ Symbol.Token Class.Comma
    ∷ Symbol.Token Class.Dot
    ∷ Symbol.Token Class.Arrow
    ∷ Symbol.Token Class.OpenAttribute
    ∷ Symbol.Token Class.CloseAttribute
    ∷ Symbol.Token Class.Module
    ∷ Symbol.Token Class.Struct
    ∷ Symbol.Token Class.Sig
    ∷ Symbol.Token Class.End
    ∷ Symbol.Token Class.Functor
    ∷ Symbol.Token Class.«Type»
    ∷ Symbol.Token Class.Val
    ∷ Symbol.Token Class.Let
    ∷ Symbol.Token Class.Fun
    ∷ Symbol.Token Class.Rank
    ∷ Symbol.Token Class.Lower
    ∷ Symbol.Token Class.Upper
    ∷ Symbol.Token Class.SmallInteger
    ∷ Symbol.Token Class.LargeInteger
    ∷ Symbol.Token Class.Label0
    ∷ Symbol.Token Class.Label1
    ∷ Symbol.Token Class.Label2
    ∷ Symbol.Token Class.Operator0
    ∷ Symbol.Token Class.Operator1
    ∷ Symbol.Token Class.Operator2
    ∷ Symbol.Token Class.Operator3
    ∷ Symbol.Token Class.TextEnd
    ∷ Symbol.«Unit»
    ∷ Symbol.UnitName
    ∷ Symbol.UnitEnd
    ∷ Symbol.RankValue
    ∷ Symbol.Items
    ∷ Symbol.TypeItem
    ∷ Symbol.ValueItem
    ∷ Symbol.ModuleItem
    ∷ Symbol.Module ModuleContext.Items
    ∷ Symbol.Module ModuleContext.Bracketed
    ∷ Symbol.Parameter ModuleContext.Items
    ∷ Symbol.Parameter ModuleContext.Bracketed
    ∷ Symbol.«Path» ModuleContext.Items
    ∷ Symbol.«Path» ModuleContext.Bracketed
    ∷ Symbol.PathName ModuleContext.Items
    ∷ Symbol.PathName ModuleContext.Bracketed
    ∷ Symbol.Arguments ModuleContext.Items
    ∷ Symbol.Arguments ModuleContext.Bracketed
    ∷ Symbol.ModuleEnd
    ∷ Symbol.Argument
    ∷ Symbol.ArgumentEnd
    ∷ Symbol.Signature
    ∷ Symbol.SignatureParameter
    ∷ Symbol.Specs
    ∷ Symbol.TypeSpec
    ∷ Symbol.TypeSpecEnd
    ∷ Symbol.ValueSpec
    ∷ Symbol.ModuleSpec
    ∷ Symbol.Term
    ∷ Symbol.Variable
    ∷ Symbol.Atom
    ∷ Symbol.PathEnd
    ∷ Symbol.«Type» TypeContext.Items
    ∷ Symbol.«Type» TypeContext.Specs
    ∷ Symbol.«Type» TypeContext.Closed
    ∷ Symbol.«Type» TypeContext.Bracketed
    ∷ Symbol.Labels TypeContext.Items
    ∷ Symbol.Labels TypeContext.Specs
    ∷ Symbol.Labels TypeContext.Closed
    ∷ Symbol.Labels TypeContext.Bracketed
    ∷ Symbol.TypeEnd
    ∷ Symbol.ArgumentName
    ∷ []

-- the symbol of a number; a number that is none stands for the first symbol
abbrev pub symbol_at : ℕ → Symbol
symbol_at n = slice_index_or symbols n (Symbol.Token Class.Open)

-- the number of a symbol: its place among them
abbrev pub symbol_number : Symbol → ℕ
symbol_number (Symbol.Token c) = number c
symbol_number Symbol.«Unit» = 31
symbol_number Symbol.UnitName = 32
symbol_number Symbol.UnitEnd = 33
symbol_number Symbol.RankValue = 34
symbol_number Symbol.Items = 35
symbol_number Symbol.TypeItem = 36
symbol_number Symbol.ValueItem = 37
symbol_number Symbol.ModuleItem = 38
symbol_number (Symbol.Module ModuleContext.Items) = 39
symbol_number (Symbol.Module ModuleContext.Bracketed) = 40
symbol_number (Symbol.Parameter ModuleContext.Items) = 41
symbol_number (Symbol.Parameter ModuleContext.Bracketed) = 42
symbol_number (Symbol.«Path» ModuleContext.Items) = 43
symbol_number (Symbol.«Path» ModuleContext.Bracketed) = 44
symbol_number (Symbol.PathName ModuleContext.Items) = 45
symbol_number (Symbol.PathName ModuleContext.Bracketed) = 46
symbol_number (Symbol.Arguments ModuleContext.Items) = 47
symbol_number (Symbol.Arguments ModuleContext.Bracketed) = 48
symbol_number Symbol.ModuleEnd = 49
symbol_number Symbol.Argument = 50
symbol_number Symbol.ArgumentEnd = 51
symbol_number Symbol.Signature = 52
symbol_number Symbol.SignatureParameter = 53
symbol_number Symbol.Specs = 54
symbol_number Symbol.TypeSpec = 55
symbol_number Symbol.TypeSpecEnd = 56
symbol_number Symbol.ValueSpec = 57
symbol_number Symbol.ModuleSpec = 58
symbol_number Symbol.Term = 59
symbol_number Symbol.Variable = 60
symbol_number Symbol.Atom = 61
symbol_number Symbol.PathEnd = 62
symbol_number (Symbol.«Type» TypeContext.Items) = 63
symbol_number (Symbol.«Type» TypeContext.Specs) = 64
symbol_number (Symbol.«Type» TypeContext.Closed) = 65
symbol_number (Symbol.«Type» TypeContext.Bracketed) = 66
symbol_number (Symbol.Labels TypeContext.Items) = 67
symbol_number (Symbol.Labels TypeContext.Specs) = 68
symbol_number (Symbol.Labels TypeContext.Closed) = 69
symbol_number (Symbol.Labels TypeContext.Bracketed) = 70
symbol_number Symbol.TypeEnd = 71
symbol_number Symbol.ArgumentName = 72
