-- The units that a text names: the heads that are found nowhere around them.
use Rattle.std.specs.Prelude.{◌≡◌, ℕ, ◌<◌, cond, List, [], ◌∷◌, map, length, Some, None, Ok, Err, Option, Result, slice_index, nat_le}
use Rattle.tokens.specs.Lexer.{next_token}
use Rattle.types.specs.Types.{Name}
use Rattle.cores.specs.Meaning.{Word}
use Rattle.reader.specs.declared.fault.ReadFault.{ReadFault}
use Rattle.reader.specs.declared.fault.ReadFault.TheVariants.{Scratch, TooLong, Syntax, TooDeep, Redeclared, Undeclared}
use Rattle.reader.specs.declared.parse.Start.{Start}
use Rattle.reader.specs.Syntax.{UnitTree}
use Rattle.reader.specs.Print.{print_unit, print_signature_text}
use Rattle.reader.specs.Tokens.{Token}
use Rattle.reader.specs.Streams.{Stream, finish, broken, next, stream_of, tokens_in}
use Rattle.reader.specs.Reading.{Outcome, accepted, refused, reads, unit_start, default_rank, FirstRefused}
use Rattle.reader.specs.Parsing.{start_of}
use Rattle.reader.specs.Notes.{Note, notes_unit, notes_signature_text}
use Rattle.reader.specs.Annotate.{annotate, name_of, is_unit, names_unit, first_where, unit_places}
use Rattle.reader.specs.Answers.{asked, upper_at, scratch_words, text_limit}
use Rattle.reader.specs.Firsts.{start_attrs, text_notes}

-- the heads that name units, each with its name and place, by the notes of a stream's tokens
abbrev pub mentions_in : List Note → Stream → List (Name × ℕ)
mentions_in [] s = []
mentions_in (n ∷ ns) (finish p) = cond (is_unit n.head) (([], p) ∷ []) []
mentions_in (n ∷ ns) (broken p) = []
mentions_in (n ∷ ns) (next k p s) = cond (is_unit n.head) ((name_of k, p) ∷ mentions_in ns s) (mentions_in ns s)

-- the first of them at or behind a place
abbrev pub first_from : ℕ → List (Name × ℕ) → Option (Name × ℕ)
first_from from [] = None
first_from from (m ∷ ms) = cond (nat_le from m.1) (Some m) (first_from from ms)

-- the name that stands at a place, if one was found
abbrev pub name_from : List ℕ → Option ℕ → Option (Name × ℕ)
name_from text None = None
name_from text (Some p) = upper_at (next_token text p)

abbrev pub mention_read : List ℕ → Outcome → Option ℕ → Result (Option (Name × ℕ)) ReadFault
mention_read text (accepted rank) found = Ok (name_from text found)
mention_read text (refused place) found = Err (Syntax place)

-- the questions in their order, and then the first head at or behind a place that names a unit
abbrev pub mention_answer : List Word → List ℕ → ℕ → ℕ → Result (Option (Name × ℕ)) ReadFault
mention_answer ws text room from =
    asked room (length text)
    (mention_read text (reads unit_start (stream_of ws text) default_rank)
    (first_where (names_unit from) (annotate unit_start (start_attrs Start.«Unit») (stream_of ws text))))

-- What an answer tells: the text is written by a unit, and this is the first head of it, at or behind the place, that names a unit.
abbrev pub MentionMeaning : List Word → List ℕ → ℕ → ℕ → Result (Option (Name × ℕ)) ReadFault → Type 0
MentionMeaning ws text room from (Ok r) =
    (u : UnitTree) × (tokens_in (stream_of ws text) ≡ Some (print_unit u))
    × (r ≡ first_from from (mentions_in (notes_unit u) (stream_of ws text)))
MentionMeaning ws text room from (Err Scratch) = room ≡ scratch_words → ⊥
MentionMeaning ws text room from (Err TooLong) = text_limit < length text
MentionMeaning ws text room from (Err (Syntax place)) = FirstRefused print_unit (stream_of ws text) place
MentionMeaning ws text room from (Err (TooDeep place)) = ⊥
MentionMeaning ws text room from (Err (Redeclared place)) = ⊥
MentionMeaning ws text room from (Err (Undeclared place)) = ⊥

-- the name of a name with its place
abbrev pub name_alone : Option (Name × ℕ) → Option Name
name_alone None = None
name_alone (Some m) = Some m.0

-- the upper name that is the next token from a place on, if it is one
abbrev pub head_name : List ℕ → ℕ → Option Name
head_name text place = name_alone (upper_at (next_token text place))

-- a text that reads has these heads; another is refused at a place
abbrev pub heads_read : Outcome → List ℕ → Result (List ℕ) ReadFault
heads_read (accepted rank) places = Ok places
heads_read (refused place) places = Err (Syntax place)

-- the questions in their order, and then the places of the heads that name units
abbrev pub heads_answer : Start → List Word → List ℕ → ℕ → Result (List ℕ) ReadFault
heads_answer start ws text room =
    asked room (length text)
    (heads_read (reads (start_of start) (stream_of ws text) default_rank) (unit_places (text_notes start ws text)))

-- these are the places of these heads, in their order, and the names that stand there are the names of the heads
pub record HeadsAt (text places : List ℕ) (heads : List (Name × ℕ)) : Type 0 where
  pub there : places ≡ map (λ (m : Name × ℕ). m.1) heads
  pub names : map (head_name text) places ≡ map (λ (m : Name × ℕ). Some m.0) heads

-- What an answer tells: the text is written by a tree, and the places are those of the heads of it that name units.
abbrev pub HeadsMeaning : {T : Type 0} → (T → List Token) → (T → List Note) → List Word → List ℕ → ℕ → Result (List ℕ) ReadFault → Type 0
HeadsMeaning {T} print notes ws text room (Ok places) =
    (t : T) × (tokens_in (stream_of ws text) ≡ Some (print t)) × HeadsAt text places (mentions_in (notes t) (stream_of ws text))
HeadsMeaning print notes ws text room (Err Scratch) = room ≡ scratch_words → ⊥
HeadsMeaning print notes ws text room (Err TooLong) = text_limit < length text
HeadsMeaning print notes ws text room (Err (Syntax place)) = FirstRefused print (stream_of ws text) place
HeadsMeaning print notes ws text room (Err (TooDeep place)) = ⊥
HeadsMeaning print notes ws text room (Err (Redeclared place)) = ⊥
HeadsMeaning print notes ws text room (Err (Undeclared place)) = ⊥

-- the same by what the text is read as
abbrev pub HeadsMeaningOf : Start → List Word → List ℕ → ℕ → Result (List ℕ) ReadFault → Type 0
HeadsMeaningOf Start.«Unit» ws text room r = HeadsMeaning print_unit notes_unit ws text room r
HeadsMeaningOf Start.Signature ws text room r = HeadsMeaning print_signature_text notes_signature_text ws text room r

-- each place of an answer is one of the text
abbrev pub Inside : ℕ → Result (List ℕ) ReadFault → Type 0
Inside len (Ok places) = (i : ℕ) → i < length places → slice_index places i < len
Inside len (Err e) = Unit {0}
