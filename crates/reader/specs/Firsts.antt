-- The second pass, step by step: the first bad places so far, the name of a token as a part of the text, and what is entered.
use Rattle.std.specs.Prelude.{◌≡◌, ℕ, ◌+◌, ◌≤◌, Bool, cond, List, [], ◌∷◌, ◌++◌, Some, None, Ok, Err, Option, Result}
use Rattle.reader.specs.declared.class.Class.{Class}
use Rattle.reader.specs.declared.fault.ReadFault.{ReadFault}
use Rattle.reader.specs.declared.parse.Start.{Start}
use Rattle.reader.specs.declared.scope.Binder.{Binder}
use Rattle.reader.specs.declared.fault.ReadFault.TheVariants.{TooDeep, Redeclared, Undeclared}
use Rattle.cores.specs.Meaning.{Word}
use Rattle.reader.specs.declared.symbol.Symbol.{Symbol}
use Rattle.reader.specs.Annotate.{is, ask, entered, Attr, both, inherits, annotate}
use Rattle.reader.specs.Notes.{Note, Around, outermost}
use Rattle.reader.specs.Parsing.{start_of}
use Rattle.reader.specs.Streams.{stream_of}
use Rattle.reader.specs.Rows.{scope_of, part_of}
use Rattle.reader.specs.Scopes.{Scope}

-- the first place so far: the old one, or this one if it is bad
abbrev pub first_of : Option ℕ → Bool → ℕ → Option ℕ
first_of None bad p = cond bad (Some p) None
first_of (Some q) bad p = Some q

-- the places so far, with this one behind them if it is wanted
abbrev pub listed : List ℕ → Bool → ℕ → List ℕ
listed ps wanted p = cond wanted (ps ++ p ∷ []) ps

-- the places listed so far, and how many there is room for
pub record Listing : Type 0 where
  pub places : List ℕ
  pub room : ℕ

-- where a token's name stands; an empty part where it is no name
abbrev pub span_of : Class → ℕ → ℕ → ℕ × ℕ
span_of c place end = cond (is c Class.Lower) (place, end) (cond (is c Class.Upper) (place, end) (0, 0))

-- what a row holds after an entry: the scopes of old numbers are as they were, and the new number's scope has the entry, if there is one
pub record EnteredRow (old new : List ℕ) (count : ℕ) (binder : Option Binder) (parent from end scope after : ℕ) : Type 0 where
  pub kept : (text : List ℕ) (i : ℕ) → i ≤ count → scope_of new text i ≡ scope_of old text i
  pub behind : (text : List ℕ) → scope_of new text scope ≡ entered binder (part_of text from end) (scope_of old text parent)
  pub within : scope ≤ after
  pub grown : count ≤ after
  pub few : after ≤ count + 1

-- the first question that is answered with no, by the first bad places
abbrev pub ask_firsts : Option ℕ → Option ℕ → Option ℕ → Option ReadFault
ask_firsts deep again missing = ask TooDeep deep (ask Redeclared again (ask Undeclared missing None))

abbrev pub answered : Option ReadFault → Result (Unit {0}) ReadFault
answered None = Ok tt
answered (Some e) = Err e

-- what surrounds what is to be read
abbrev pub start_attrs : Start → List (Attr Scope)
start_attrs Start.«Unit» = both outermost ∷ []
start_attrs Start.Signature = both outermost ∷ both outermost ∷ []

-- the notes of a text, by what it is read as
abbrev pub text_notes : Start → List Word → List ℕ → List (Note × ℕ)
text_notes start ws text = annotate (start_of start) (start_attrs start) (stream_of ws text)

-- nothing is open, and the scope is that of no entry
abbrev pub root : Around ℕ
root = record { opened = 0; scope = 0 }

-- what the first symbols get
abbrev pub root_attrs : List Symbol → List (Attr ℕ)
root_attrs xs = inherits xs [] (both root) root 0
