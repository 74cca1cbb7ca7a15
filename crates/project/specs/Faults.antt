-- What a refusal tells: the number of its question, and the place and the component where the question has them.
use Rattle.std.specs.Prelude.{ℕ, Some, None, Option}
use Rattle.reader.specs.declared.fault.ReadFault.{ReadFault}
use Rattle.reader.specs.declared.fault.ReadFault.TheVariants.{Scratch, TooLong, Syntax as SyntaxFault, TooDeep, Redeclared, Undeclared as UndeclaredFault}
use Rattle.project.specs.declared.fault.MatchCause.{MatchCause}
use Rattle.project.specs.declared.fault.MatchCause.TheVariants.{Missing, Value, Definition, Form}
use Rattle.project.specs.declared.fault.Question.{Question}
use Rattle.project.specs.declared.fault.Question.TheVariants.{Lengths, TextLength, Syntax, OpenCount, DeclaredTwice, Undeclared, Full, NotStored, UnitMissing, Circle, «Path», Types, Applied, Match, Size}
use Rattle.project.specs.declared.fault.Fault.{Fault}

-- the causes of a mismatch
abbrev pub cause_number : MatchCause → ℕ
cause_number Missing = 1
cause_number Value = 2
cause_number Definition = 3
cause_number Form = 4

-- the questions by their numbers
abbrev pub question_number : {K : Type 0} → Question K → ℕ
question_number Lengths = 1
question_number TextLength = 2
question_number (Syntax p) = 3
question_number (OpenCount p) = 4
question_number (DeclaredTwice p) = 5
question_number (Undeclared p) = 6
question_number Full = 7
question_number NotStored = 8
question_number (UnitMissing p) = 10
question_number Circle = 11
question_number («Path» p) = 12
question_number (Types p k) = 13
question_number (Applied p) = 14
question_number (Match p x c) = 15
question_number (Size p) = 16

-- 1, 2, 7, 8 and 11 have no place
abbrev pub question_place : {K : Type 0} → Question K → Option ℕ
question_place Lengths = None
question_place TextLength = None
question_place (Syntax p) = Some p
question_place (OpenCount p) = Some p
question_place (DeclaredTwice p) = Some p
question_place (Undeclared p) = Some p
question_place Full = None
question_place NotStored = None
question_place (UnitMissing p) = Some p
question_place Circle = None
question_place («Path» p) = Some p
question_place (Types p k) = Some p
question_place (Applied p) = Some p
question_place (Match p x c) = Some p
question_place (Size p) = Some p

-- only 15 tells a component
abbrev pub question_component : {K : Type 0} → Question K → Option ℕ
question_component Lengths = None
question_component TextLength = None
question_component (Syntax p) = None
question_component (OpenCount p) = None
question_component (DeclaredTwice p) = None
question_component (Undeclared p) = None
question_component Full = None
question_component NotStored = None
question_component (UnitMissing p) = None
question_component Circle = None
question_component («Path» p) = None
question_component (Types p k) = None
question_component (Applied p) = None
question_component (Match p x c) = x
question_component (Size p) = None

-- a refusal that is about a unit, by the number of its name, or about none
abbrev pub about : {K : Type 0} → Option ℕ → Question K → Fault K
about x q = record { unit = x; question = q }

abbrev pub without : {K : Type 0} → Question K → Fault K
without q = about None q

-- what reading asks of a text is what put asks of it
abbrev pub reading_question : {K : Type 0} → ReadFault → Question K
reading_question Scratch = Lengths
reading_question TooLong = TextLength
reading_question (SyntaxFault p) = Syntax p
reading_question (TooDeep p) = OpenCount p
reading_question (Redeclared p) = DeclaredTwice p
reading_question (UndeclaredFault p) = Undeclared p

abbrev pub reading_fault : {K : Type 0} → ReadFault → Fault K
reading_fault e = without (reading_question e)
