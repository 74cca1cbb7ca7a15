-- The grammar as a table: for each symbol, the classes of tokens that it may begin with, and what has to follow.
use Rattle.std.specs.Prelude.{ℕ, cond, List, [], ◌∷◌, Some, None, Option, ◌==◌}
use Rattle.reader.specs.declared.class.Class.{Class}
use Rattle.reader.specs.declared.symbol.Symbol.{Symbol}
use Rattle.reader.specs.declared.symbol.TypeContext.{TypeContext}
use Rattle.reader.specs.declared.symbol.ModuleContext.{ModuleContext}

-- the place of a class among the classes
abbrev pub number : Class → ℕ
number Class.Open = 0
number Class.Close = 1
number Class.Colon = 2
number Class.Equals = 3
number Class.Comma = 4
number Class.Dot = 5
number Class.Arrow = 6
number Class.OpenAttribute = 7
number Class.CloseAttribute = 8
number Class.Module = 9
number Class.Struct = 10
number Class.Sig = 11
number Class.End = 12
number Class.Functor = 13
number Class.«Type» = 14
number Class.Val = 15
number Class.Let = 16
number Class.Fun = 17
number Class.Rank = 18
number Class.Lower = 19
number Class.Upper = 20
number Class.SmallInteger = 21
number Class.LargeInteger = 22
number Class.Label0 = 23
number Class.Label1 = 24
number Class.Label2 = 25
number Class.Operator0 = 26
number Class.Operator1 = 27
number Class.Operator2 = 28
number Class.Operator3 = 29
number Class.TextEnd = 30

-- a class that a symbol may begin with, and the symbols that have to follow
pub record Row : Type 0 where
  pub first : Class
  pub after : List Symbol

abbrev pub ◌⇒◌ : Class → List Symbol → Row
c ⇒ α = record { first = c; after = α }

infix 20 ◌⇒◌
-- what has to follow a token of this class, by the first row that has it
abbrev pub find : Class → List Row → Option (List Symbol)
find c [] = None
find c (r ∷ rs) = cond (number c == number r.first) (Some r.after) (find c rs)

-- what a type is followed by
abbrev pub after_type : TypeContext → Symbol
after_type TypeContext.Items = Symbol.Items
after_type TypeContext.Specs = Symbol.Specs
after_type TypeContext.Closed = Symbol.Token Class.Close
after_type TypeContext.Bracketed = Symbol.TypeEnd

-- what a module is followed by
abbrev pub after_module : ModuleContext → Symbol
after_module ModuleContext.Items = Symbol.Items
after_module ModuleContext.Bracketed = Symbol.ModuleEnd

abbrev pub items_rows : List Row
items_rows =
    (Class.End ⇒ [])
    ∷ (Class.«Type» ⇒ Symbol.TypeItem ∷ [])
    ∷ (Class.Let ⇒ Symbol.ValueItem ∷ [])
    ∷ (Class.Module ⇒ Symbol.ModuleItem ∷ [])
    ∷ []

abbrev pub specs_rows : List Row
specs_rows =
    (Class.End ⇒ [])
    ∷ (Class.«Type» ⇒ Symbol.TypeSpec ∷ [])
    ∷ (Class.Val ⇒ Symbol.ValueSpec ∷ [])
    ∷ (Class.Module ⇒ Symbol.ModuleSpec ∷ [])
    ∷ []

-- `)`, or `, type ) label`
abbrev pub type_end_rows : List Row
type_end_rows =
    (Class.Close ⇒ [])
    ∷ (Class.Comma ⇒ Symbol.«Type» TypeContext.Closed ∷ Symbol.Token Class.Label2 ∷ [])
    ∷ []

-- `)`, or `: signature )`
abbrev pub module_end_rows : List Row
module_end_rows =
    (Class.Close ⇒ [])
    ∷ (Class.Colon ⇒ Symbol.Signature ∷ Symbol.Token Class.Close ∷ [])
    ∷ []

abbrev pub after_type_rows : TypeContext → List Row
after_type_rows TypeContext.Items = items_rows
after_type_rows TypeContext.Specs = specs_rows
after_type_rows TypeContext.Closed = (Class.Close ⇒ []) ∷ []
after_type_rows TypeContext.Bracketed = type_end_rows

abbrev pub after_module_rows : ModuleContext → List Row
after_module_rows ModuleContext.Items = items_rows
after_module_rows ModuleContext.Bracketed = module_end_rows

-- applications, and what follows
abbrev pub arguments_rows : ModuleContext → List Row
arguments_rows c = (Class.Open ⇒ Symbol.Argument ∷ Symbol.Arguments c ∷ []) ∷ after_module_rows c

abbrev pub atom_rows : List Row
atom_rows =
    (Class.SmallInteger ⇒ [])
    ∷ (Class.LargeInteger ⇒ [])
    ∷ (Class.Lower ⇒ [])
    ∷ (Class.Upper ⇒ Symbol.Token Class.Dot ∷ Symbol.PathEnd ∷ [])
    ∷ (Class.Operator0 ⇒ [])
    ∷ (Class.Open ⇒ Symbol.Term ∷ Symbol.Token Class.Close ∷ [])
    ∷ []

-- the rows of each symbol
abbrev pub rows : Symbol → List Row
rows (Symbol.Token c) = (c ⇒ []) ∷ []
rows Symbol.«Unit» =
    (Class.Module ⇒ Symbol.UnitName ∷ Symbol.Token Class.Equals ∷ Symbol.Token Class.Struct ∷ Symbol.Items ∷ Symbol.UnitEnd ∷ []) ∷ []
rows Symbol.UnitName = (Class.Upper ⇒ []) ∷ []
rows Symbol.UnitEnd =
    (Class.TextEnd ⇒ [])
    ∷ (Class.OpenAttribute ⇒ Symbol.Token Class.Rank ∷ Symbol.RankValue ∷ Symbol.Token Class.CloseAttribute ∷ Symbol.Token Class.TextEnd ∷ [])
    ∷ []
rows Symbol.RankValue = (Class.SmallInteger ⇒ []) ∷ []
rows Symbol.Items = items_rows
rows Symbol.TypeItem = (Class.Lower ⇒ Symbol.Token Class.Equals ∷ Symbol.«Type» TypeContext.Items ∷ []) ∷ []
rows Symbol.ValueItem = (Class.Lower ⇒ Symbol.Token Class.Equals ∷ Symbol.Term ∷ Symbol.Items ∷ []) ∷ []
rows Symbol.ModuleItem = (Class.Upper ⇒ Symbol.Token Class.Equals ∷ Symbol.Module ModuleContext.Items ∷ []) ∷ []
rows (Symbol.Module c) =
    (Class.Functor ⇒ Symbol.Token Class.Open ∷ Symbol.Parameter c ∷ [])
    ∷ (Class.Upper ⇒ Symbol.«Path» c ∷ [])
    ∷ (Class.Struct ⇒ Symbol.Items ∷ Symbol.Arguments c ∷ [])
    ∷ (Class.Open ⇒ Symbol.Module ModuleContext.Bracketed ∷ Symbol.Arguments c ∷ [])
    ∷ []
rows (Symbol.Parameter c) =
    (Class.Upper ⇒ Symbol.Token Class.Colon ∷ Symbol.Signature ∷ Symbol.Token Class.Close ∷ Symbol.Token Class.Arrow ∷ Symbol.Module c ∷ []) ∷ []
rows (Symbol.«Path» c) = (Class.Dot ⇒ Symbol.PathName c ∷ []) ∷ arguments_rows c
rows (Symbol.PathName c) = (Class.Upper ⇒ Symbol.«Path» c ∷ []) ∷ []
rows (Symbol.Arguments c) = arguments_rows c
rows Symbol.ModuleEnd = module_end_rows
rows Symbol.Argument = (Class.Upper ⇒ Symbol.ArgumentEnd ∷ []) ∷ []
rows Symbol.ArgumentEnd = (Class.Dot ⇒ Symbol.ArgumentName ∷ []) ∷ (Class.Close ⇒ []) ∷ []
rows Symbol.Signature =
    (Class.Sig ⇒ Symbol.Specs ∷ [])
    ∷ (Class.Functor ⇒ Symbol.Token Class.Open ∷ Symbol.SignatureParameter ∷ [])
    ∷ []
rows Symbol.SignatureParameter =
    (Class.Upper ⇒ Symbol.Token Class.Colon ∷ Symbol.Signature ∷ Symbol.Token Class.Close ∷ Symbol.Token Class.Arrow ∷ Symbol.Signature ∷ []) ∷ []
rows Symbol.Specs = specs_rows
rows Symbol.TypeSpec = (Class.Lower ⇒ Symbol.TypeSpecEnd ∷ []) ∷ []
rows Symbol.TypeSpecEnd = (Class.Equals ⇒ Symbol.«Type» TypeContext.Specs ∷ []) ∷ specs_rows
rows Symbol.ValueSpec = (Class.Lower ⇒ Symbol.Token Class.Colon ∷ Symbol.«Type» TypeContext.Specs ∷ []) ∷ []
rows Symbol.ModuleSpec = (Class.Upper ⇒ Symbol.Token Class.Colon ∷ Symbol.Signature ∷ Symbol.Specs ∷ []) ∷ []
rows Symbol.Term =
    (Class.Fun ⇒ Symbol.Token Class.Open ∷ Symbol.Variable ∷ [])
    ∷ (Class.Operator1 ⇒ Symbol.Atom ∷ [])
    ∷ (Class.Operator2 ⇒ Symbol.Atom ∷ Symbol.Atom ∷ [])
    ∷ (Class.Operator3 ⇒ Symbol.Atom ∷ Symbol.Atom ∷ Symbol.Atom ∷ [])
    ∷ atom_rows
rows Symbol.Variable =
    (Class.Lower ⇒ Symbol.Token Class.Colon ∷ Symbol.«Type» TypeContext.Closed ∷ Symbol.Token Class.Arrow ∷ Symbol.Term ∷ []) ∷ []
rows Symbol.Atom = atom_rows
rows Symbol.PathEnd = (Class.Lower ⇒ []) ∷ (Class.Upper ⇒ Symbol.Token Class.Dot ∷ Symbol.PathEnd ∷ []) ∷ []
rows (Symbol.«Type» c) =
    (Class.Lower ⇒ Symbol.Labels c ∷ [])
    ∷ (Class.Upper ⇒ Symbol.Token Class.Dot ∷ Symbol.PathEnd ∷ Symbol.Labels c ∷ [])
    ∷ (Class.Label0 ⇒ Symbol.Labels c ∷ [])
    ∷ (Class.Open ⇒ Symbol.«Type» TypeContext.Bracketed ∷ Symbol.Labels c ∷ [])
    ∷ []
rows (Symbol.Labels c) = (Class.Label1 ⇒ Symbol.Labels c ∷ []) ∷ after_type_rows c
rows Symbol.TypeEnd = type_end_rows
rows Symbol.ArgumentName = (Class.Upper ⇒ Symbol.ArgumentEnd ∷ []) ∷ []

-- what has to follow a token of this class where this symbol is to be read; none where the symbol cannot begin so
abbrev pub expand : Symbol → Class → Option (List Symbol)
expand s c = find c (rows s)
