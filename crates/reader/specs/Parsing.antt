-- What the reading loop is asked and what it answers.
use Rattle.std.specs.Prelude.{ℕ, Bool, true, false, List, Ok, Err, Result}
use Rattle.reader.specs.declared.fault.ReadFault.{ReadFault}
use Rattle.reader.specs.declared.fault.ReadFault.TheVariants.{Syntax}
use Rattle.reader.specs.declared.parse.Start.{Start}
use Rattle.reader.specs.declared.symbol.Symbol.{Symbol}
use Rattle.reader.specs.Reading.{Outcome, accepted, refused, unit_start, signature_start}

-- the symbols that a text is read from
abbrev pub start_of : Start → List Symbol
start_of Start.«Unit» = unit_start
start_of Start.Signature = signature_start

-- an outcome as an answer: the rank, or a syntax fault at a place
abbrev pub outcome : Outcome → Result ℕ ReadFault
outcome (accepted rank) = Ok rank
outcome (refused place) = Err (Syntax place)

abbrev pub is_accepted : Outcome → Bool
is_accepted (accepted rank) = true
is_accepted (refused place) = false
