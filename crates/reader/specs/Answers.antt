-- What reading a text answers: the first question that it answers with no, or what a reader learns of it.
use Rattle.std.specs.Prelude.{◌≡◌, ℕ, ◌<◌, cond, List, [], ◌∷◌, length, Some, None, Ok, Err, Option, Result, ◌==◌, nat_le}
use Rattle.tokens.specs.declared.token.Keyword.{Keyword}
use Rattle.tokens.specs.Lexer.{Next, at_end, token, no_token, next_token}
use Rattle.tokens.specs.Pieces.{Piece}
use Rattle.types.specs.Types.{Name}
use Rattle.cores.specs.Meaning.{Word}
use Rattle.reader.specs.declared.fault.ReadFault.{ReadFault}
use Rattle.reader.specs.declared.fault.ReadFault.TheVariants.{Scratch, TooLong, Syntax, TooDeep, Redeclared, Undeclared}
use Rattle.reader.specs.declared.read.UnitHeading.{UnitHeading}
use Rattle.reader.specs.Tokens.{keyword, upper}
use Rattle.reader.specs.Streams.{stream_of, tokens_in}
use Rattle.reader.specs.declared.parse.Start.{Start}
use Rattle.reader.specs.Annotate.{annotate, static_fault, with_places}
use Rattle.reader.specs.Firsts.{answered, start_attrs}
use Rattle.reader.specs.Notes.{notes_unit, notes_signature_text}
use Rattle.reader.specs.Syntax.{UnitTree, SignatureTree}
use Rattle.reader.specs.Print.{print_unit, print_signature_text}
use Rattle.reader.specs.Reading.{Outcome, accepted, refused, reads, unit_start, signature_start, default_rank, rank_of, StandsAt, FirstRefused}

-- the words of scratch that reading is lent, and the most bytes of a text
abbrev pub scratch_words : ℕ
scratch_words = 65536

abbrev pub text_limit : ℕ
text_limit = 4000

-- what is learned of a unit besides that it reads: its name with its place, and its rank
pub record Heading : Type 0 where
  pub name : Name
  pub place : ℕ
  pub rank : ℕ

-- an upper name at a place
abbrev pub upper_piece : Piece → ℕ → Option (Name × ℕ)
upper_piece (Piece.blank b) place = None
upper_piece (Piece.mark m) place = None
upper_piece (Piece.keyword k) place = None
upper_piece (Piece.lower x) place = None
upper_piece (Piece.upper x) place = Some (x, place)
upper_piece (Piece.integer ds) place = None

abbrev pub upper_at : Next → Option (Name × ℕ)
upper_at at_end = None
upper_at (token p place end) = upper_piece p place
upper_at (no_token r place) = None

-- the second token of a text, if it is an upper name
abbrev pub behind_first : List ℕ → Next → Option (Name × ℕ)
behind_first text at_end = None
behind_first text (token p place end) = upper_at (next_token text end)
behind_first text (no_token r place) = None

abbrev pub name_in : List ℕ → Option (Name × ℕ)
name_in text = behind_first text (next_token text 0)

-- a unit that is read has a name behind `module`
abbrev pub heading_of : Option (Name × ℕ) → ℕ → ℕ → Result Heading ReadFault
heading_of None rank len = Err (Syntax len)
heading_of (Some x) rank len = Ok (record { name = x.0; place = x.1; rank = rank })

-- a text that reads is asked the questions about what is open and declared
abbrev pub unit_read : List ℕ → Outcome → Option ReadFault → Result Heading ReadFault
unit_read text (accepted rank) None = heading_of (name_in text) rank (length text)
unit_read text (accepted rank) (Some e) = Err e
unit_read text (refused place) static = Err (Syntax place)

abbrev pub signature_read : Outcome → Option ReadFault → Result (Unit {0}) ReadFault
signature_read (accepted rank) static = answered static
signature_read (refused place) static = Err (Syntax place)

-- the questions in their order: has the scratch its length, is the text short enough, does it read
abbrev pub asked : {X : Type 0} → ℕ → ℕ → Result X ReadFault → Result X ReadFault
asked room len rest = cond (room == scratch_words) (cond (nat_le len text_limit) rest (Err TooLong)) (Err Scratch)

abbrev pub unit_answer : List Word → List ℕ → ℕ → Result Heading ReadFault
unit_answer ws text room =
    asked room (length text)
    (unit_read text (reads unit_start (stream_of ws text) default_rank) (static_fault (annotate unit_start (start_attrs Start.«Unit») (stream_of ws text))))

abbrev pub signature_answer : List Word → List ℕ → ℕ → Result (Unit {0}) ReadFault
signature_answer ws text room =
    asked room (length text)
    (signature_read (reads signature_start (stream_of ws text) default_rank) (static_fault (annotate signature_start (start_attrs Start.Signature) (stream_of ws text))))

-- what the code hands out, with the name's bytes in place of the reference to them
abbrev pub headed : Result UnitHeading ReadFault → Result Heading ReadFault
headed (Ok h) = Ok (record { name = h.name.now; place = h.place; rank = h.rank })
headed (Err e) = Err e

-- the text is written by this unit, and this is the first of the static questions that it answers with no, if there is one
abbrev pub UnitStatic : List Word → List ℕ → UnitTree → Option ReadFault → Type 0
UnitStatic ws text u static =
    (tokens_in (stream_of ws text) ≡ Some (print_unit u)) × (static_fault (with_places (notes_unit u) (stream_of ws text)) ≡ static)

abbrev pub SignatureStatic : List Word → List ℕ → SignatureTree → Option ReadFault → Type 0
SignatureStatic ws text t static =
    (tokens_in (stream_of ws text) ≡ Some (print_signature_text t)) × (static_fault (with_places (notes_signature_text t) (stream_of ws text)) ≡ static)

-- What an answer tells. A unit that is read: its tokens are the print of a unit of that name and rank, whose name stands at the
-- place and whose notes are all good. A refusal: the scratch has another length, the text is too long, the place is where no unit
-- goes on, or the place is that of the first bad note of the unit that the text is written by.
abbrev pub UnitMeaning : List Word → List ℕ → ℕ → Result Heading ReadFault → Type 0
UnitMeaning ws text room (Ok h) =
    (u : UnitTree) × UnitStatic ws text u None × (u.name ≡ h.name) × (rank_of u.rank ≡ h.rank)
    × StandsAt (stream_of ws text) (keyword Keyword.Module ∷ []) (Some (upper h.name)) h.place
UnitMeaning ws text room (Err Scratch) = room ≡ scratch_words → ⊥
UnitMeaning ws text room (Err TooLong) = text_limit < length text
UnitMeaning ws text room (Err (Syntax place)) = FirstRefused print_unit (stream_of ws text) place
UnitMeaning ws text room (Err (TooDeep place)) = (u : UnitTree) × UnitStatic ws text u (Some (TooDeep place))
UnitMeaning ws text room (Err (Redeclared place)) = (u : UnitTree) × UnitStatic ws text u (Some (Redeclared place))
UnitMeaning ws text room (Err (Undeclared place)) = (u : UnitTree) × UnitStatic ws text u (Some (Undeclared place))

abbrev pub SignatureMeaning : List Word → List ℕ → ℕ → Result (Unit {0}) ReadFault → Type 0
SignatureMeaning ws text room (Ok h) = (t : SignatureTree) × SignatureStatic ws text t None
SignatureMeaning ws text room (Err Scratch) = room ≡ scratch_words → ⊥
SignatureMeaning ws text room (Err TooLong) = text_limit < length text
SignatureMeaning ws text room (Err (Syntax place)) = FirstRefused print_signature_text (stream_of ws text) place
SignatureMeaning ws text room (Err (TooDeep place)) = (t : SignatureTree) × SignatureStatic ws text t (Some (TooDeep place))
SignatureMeaning ws text room (Err (Redeclared place)) = (t : SignatureTree) × SignatureStatic ws text t (Some (Redeclared place))
SignatureMeaning ws text room (Err (Undeclared place)) = (t : SignatureTree) × SignatureStatic ws text t (Some (Undeclared place))
