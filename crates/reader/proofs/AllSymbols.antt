-- Every symbol has a number, and what a test says of each in the list of symbols holds of all.
use Rattle.std.proofs.Common.{◌≡◌, ℕ, zero, suc, Bool, true, false, ◌&&◌, List, [], ◌∷◌, get_or, refl, subst}
use Rattle.std.specs.List.{list_all}
use Rattle.reader.specs.declared.class.Class.{Class}
use Rattle.reader.specs.declared.symbol.Symbol.{Symbol}
use Rattle.reader.specs.declared.symbol.TypeContext.{TypeContext}
use Rattle.reader.specs.declared.symbol.ModuleContext.{ModuleContext}
use Rattle.reader.specs.Codes.{symbols, symbol_at, symbol_number}

-- a symbol is known by its number
pub symbol_back : (s : Symbol) → symbol_at (symbol_number s) ≡ s
symbol_back (Symbol.Token Class.Open) = refl
symbol_back (Symbol.Token Class.Close) = refl
symbol_back (Symbol.Token Class.Colon) = refl
symbol_back (Symbol.Token Class.Equals) = refl
symbol_back (Symbol.Token Class.Comma) = refl
symbol_back (Symbol.Token Class.Dot) = refl
symbol_back (Symbol.Token Class.Arrow) = refl
symbol_back (Symbol.Token Class.OpenAttribute) = refl
symbol_back (Symbol.Token Class.CloseAttribute) = refl
symbol_back (Symbol.Token Class.Module) = refl
symbol_back (Symbol.Token Class.Struct) = refl
symbol_back (Symbol.Token Class.Sig) = refl
symbol_back (Symbol.Token Class.End) = refl
symbol_back (Symbol.Token Class.Functor) = refl
symbol_back (Symbol.Token Class.«Type») = refl
symbol_back (Symbol.Token Class.Val) = refl
symbol_back (Symbol.Token Class.Let) = refl
symbol_back (Symbol.Token Class.Fun) = refl
symbol_back (Symbol.Token Class.Rank) = refl
symbol_back (Symbol.Token Class.Lower) = refl
symbol_back (Symbol.Token Class.Upper) = refl
symbol_back (Symbol.Token Class.SmallInteger) = refl
symbol_back (Symbol.Token Class.LargeInteger) = refl
symbol_back (Symbol.Token Class.Label0) = refl
symbol_back (Symbol.Token Class.Label1) = refl
symbol_back (Symbol.Token Class.Label2) = refl
symbol_back (Symbol.Token Class.Operator0) = refl
symbol_back (Symbol.Token Class.Operator1) = refl
symbol_back (Symbol.Token Class.Operator2) = refl
symbol_back (Symbol.Token Class.Operator3) = refl
symbol_back (Symbol.Token Class.TextEnd) = refl
symbol_back Symbol.«Unit» = refl
symbol_back Symbol.UnitName = refl
symbol_back Symbol.UnitEnd = refl
symbol_back Symbol.RankValue = refl
symbol_back Symbol.Items = refl
symbol_back Symbol.TypeItem = refl
symbol_back Symbol.ValueItem = refl
symbol_back Symbol.ModuleItem = refl
symbol_back (Symbol.Module ModuleContext.Items) = refl
symbol_back (Symbol.Module ModuleContext.Bracketed) = refl
symbol_back (Symbol.Parameter ModuleContext.Items) = refl
symbol_back (Symbol.Parameter ModuleContext.Bracketed) = refl
symbol_back (Symbol.«Path» ModuleContext.Items) = refl
symbol_back (Symbol.«Path» ModuleContext.Bracketed) = refl
symbol_back (Symbol.PathName ModuleContext.Items) = refl
symbol_back (Symbol.PathName ModuleContext.Bracketed) = refl
symbol_back (Symbol.Arguments ModuleContext.Items) = refl
symbol_back (Symbol.Arguments ModuleContext.Bracketed) = refl
symbol_back Symbol.ModuleEnd = refl
symbol_back Symbol.Argument = refl
symbol_back Symbol.ArgumentEnd = refl
symbol_back Symbol.Signature = refl
symbol_back Symbol.SignatureParameter = refl
symbol_back Symbol.Specs = refl
symbol_back Symbol.TypeSpec = refl
symbol_back Symbol.TypeSpecEnd = refl
symbol_back Symbol.ValueSpec = refl
symbol_back Symbol.ModuleSpec = refl
symbol_back Symbol.Term = refl
symbol_back Symbol.Variable = refl
symbol_back Symbol.Atom = refl
symbol_back Symbol.PathEnd = refl
symbol_back (Symbol.«Type» TypeContext.Items) = refl
symbol_back (Symbol.«Type» TypeContext.Specs) = refl
symbol_back (Symbol.«Type» TypeContext.Closed) = refl
symbol_back (Symbol.«Type» TypeContext.Bracketed) = refl
symbol_back (Symbol.Labels TypeContext.Items) = refl
symbol_back (Symbol.Labels TypeContext.Specs) = refl
symbol_back (Symbol.Labels TypeContext.Closed) = refl
symbol_back (Symbol.Labels TypeContext.Bracketed) = refl
symbol_back Symbol.TypeEnd = refl
symbol_back Symbol.ArgumentName = refl

-- both parts of a test that holds
pub parts_true : (a b : Bool) → (a && b) ≡ true → (a ≡ true) × (b ≡ true)
parts_true true b e = (refl, e)
parts_true false b e = cc

at_every : {A : Type 0} (test : A → Bool) (xs : List A) (n : ℕ) (d : A) → test d ≡ true → list_all test xs ≡ true → test (get_or xs n d) ≡ true
at_every test [] n d h e = h
at_every test (x ∷ xs) zero d h e = (parts_true (test x) (list_all test xs) e).0
at_every test (x ∷ xs) (suc n) d h e = at_every test xs n d h (parts_true (test x) (list_all test xs) e).1

pub of_every : (test : Symbol → Bool) → list_all test symbols ≡ true → (s : Symbol) → test s ≡ true
of_every test e s =
    let first : test (Symbol.Token Class.Open) ≡ true = (parts_true (test (Symbol.Token Class.Open)) _ e).0 in
    subst (λ (x : Symbol). test x ≡ true) (symbol_back s) (at_every test symbols (symbol_number s) (Symbol.Token Class.Open) first e)
