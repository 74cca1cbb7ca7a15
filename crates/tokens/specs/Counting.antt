-- What counting the tokens of a text tells of it: its one division into tokens and blanks, or where it has none.
use Rattle.std.specs.Prelude.{◌≡◌, ℕ, ◌+◌, ◌<◌, true, false, List, length, drop, Ok, Err, fold, Result, slice_index}
use Rattle.std.specs.List.{prefix_len}
use Rattle.tokens.specs.Bytes.{is_letter, is_digit, is_name_byte}
use Rattle.tokens.specs.Pieces.{Piece, blank, mark, keyword, lower, upper, integer, Division, Cuts, BeginsNone}
use Rattle.tokens.specs.declared.count.Counts.{Counts}
use Rattle.tokens.specs.declared.lexer.LexFault.{LexFault}
use Rattle.tokens.specs.declared.lexer.Reason.{Reason}
use Rattle.tokens.specs.declared.lexer.Reason.TheVariants.{Byte, LongName, LongInteger}

abbrev pub nothing : Counts
nothing = record { marks = 0; keywords = 0; lowers = 0; uppers = 0; integers = 0 }

-- one piece more; a blank is no token
abbrev pub more : Counts → Piece → Counts
more c (blank _) = c
more c (mark _) = record { marks = c.marks + 1; keywords = c.keywords; lowers = c.lowers; uppers = c.uppers; integers = c.integers }
more c (keyword _) = record { marks = c.marks; keywords = c.keywords + 1; lowers = c.lowers; uppers = c.uppers; integers = c.integers }
more c (lower _) = record { marks = c.marks; keywords = c.keywords; lowers = c.lowers + 1; uppers = c.uppers; integers = c.integers }
more c (upper _) = record { marks = c.marks; keywords = c.keywords; lowers = c.lowers; uppers = c.uppers + 1; integers = c.integers }
more c (integer _) = record { marks = c.marks; keywords = c.keywords; lowers = c.lowers; uppers = c.uppers; integers = c.integers + 1 }

-- the tokens of each kind among the pieces
abbrev pub tally : List Piece → Counts
tally ps = fold more nothing ps

-- all tokens together
abbrev pub total : Counts → ℕ
total c = c.marks + c.keywords + c.lowers + c.uppers + c.integers

-- why no token stands at the front: no letter and no digit, or a run that is too long
abbrev pub Why : Reason → List ℕ → Type 0
Why Byte bs = (is_letter (slice_index bs 0) ≡ false) × (is_digit (slice_index bs 0) ≡ false)
Why LongName bs = (is_letter (slice_index bs 0) ≡ true) × (16 < prefix_len is_name_byte bs)
Why LongInteger bs = (is_digit (slice_index bs 0) ≡ true) × (9 < prefix_len is_digit bs)

-- the text is this division, and no other is one
abbrev pub DividesOnlyAs : List ℕ → List Piece → Type 0
DividesOnlyAs text ps = Division ps text × ((qs : List Piece) → Division qs text → qs ≡ ps)

-- the text is cut into pieces up to a place inside it where none begins, so it has no division
pub record StopsAt (text : List ℕ) (place : ℕ) (ps : List Piece) : Type 0 where
  pub before : Cuts ps text (drop place text)
  pub inside : place < length text
  pub nothing_begins : BeginsNone (drop place text)
  pub divides_never : (qs : List Piece) → Division qs text → ⊥

abbrev pub Surveyed : List ℕ → Result Counts LexFault → Type 0
Surveyed text (Ok c) = (ps : List Piece) × DividesOnlyAs text ps × (c ≡ tally ps)
Surveyed text (Err e) = (ps : List Piece) × StopsAt text e.place ps × Why e.reason (drop e.place text)
