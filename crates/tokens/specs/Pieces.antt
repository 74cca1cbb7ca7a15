-- The pieces of a text: blanks and tokens, what each is written as, which are proper, and where a run has to stop.
use Rattle.std.specs.Prelude.{◌≡◌, ℕ, ◌≤◌, Bool, true, false, List, [], ◌∷◌, ◌++◌, length, ◌≢◌}
use Rattle.tokens.specs.Bytes.{is_blank, is_lower, is_upper, is_digit, is_name_byte}
use Rattle.tokens.specs.Keywords.{mark_bytes, keyword_bytes}
use Rattle.tokens.specs.declared.token.Mark.{Mark}
use Rattle.tokens.specs.declared.token.Keyword.{Keyword}

-- a blank byte, a mark, a keyword, or the bytes of a name or an integer
pub data Piece : Type 0 where
  blank : ℕ → Piece
  mark : Mark → Piece
  keyword : Keyword → Piece
  lower : List ℕ → Piece
  upper : List ℕ → Piece
  integer : List ℕ → Piece

-- the bytes that a piece is written as
abbrev pub written : Piece → List ℕ
written (blank b) = b ∷ []
written (mark m) = mark_bytes m
written (keyword k) = keyword_bytes k
written (lower bs) = bs
written (upper bs) = bs
written (integer bs) = bs

-- every byte passes a test
abbrev pub All : (ℕ → Bool) → List ℕ → Type 0
All p [] = Unit {0}
All p (b ∷ bs) = (p b ≡ true) × All p bs

-- at most 16 bytes: a first letter of the wanted case, then letters, digits and underscores
abbrev pub Name : (ℕ → Bool) → List ℕ → Type 0
Name first [] = ⊥
Name first (b ∷ bs) = (first b ≡ true) × All is_name_byte bs × (length (b ∷ bs) ≤ 16)

-- no fixed keyword is written so
abbrev pub NoKeyword : List ℕ → Type 0
NoKeyword bs = (k : Keyword) → keyword_bytes k ≢ bs

-- a lower name is no keyword
abbrev pub LowerName : List ℕ → Type 0
LowerName bs = Name is_lower bs × NoKeyword bs

abbrev pub UpperName : List ℕ → Type 0
UpperName bs = Name is_upper bs

-- 1 to 9 digits
abbrev pub Digits : List ℕ → Type 0
Digits bs = All is_digit bs × (1 ≤ length bs) × (length bs ≤ 9)

-- the pieces that a text may have
abbrev pub Proper : Piece → Type 0
Proper (blank b) = is_blank b ≡ true
Proper (mark m) = Unit {0}
Proper (keyword k) = Unit {0}
Proper (lower bs) = LowerName bs
Proper (upper bs) = UpperName bs
Proper (integer bs) = Digits bs

-- whether a byte right behind a piece would make its run longer
abbrev pub longer : Piece → ℕ → Bool
longer (blank _) b = false
longer (mark _) b = false
longer (keyword _) b = is_name_byte b
longer (lower _) b = is_name_byte b
longer (upper _) b = is_name_byte b
longer (integer _) b = is_digit b

-- the run is as long as it can be in front of these bytes
abbrev pub Stops : Piece → List ℕ → Type 0
Stops p [] = Unit {0}
Stops p (b ∷ bs) = longer p b ≡ false

-- the piece stands at the front of a text, as long as it can be, and leaves the rest
pub record Begins (p : Piece) (text rest : List ℕ) : Type 0 where
  pub whole : written p ++ rest ≡ text
  pub proper : Proper p
  pub longest : Stops p rest

-- the pieces are cut off a text one behind the other, and this is left of it
abbrev pub Cuts : List Piece → List ℕ → List ℕ → Type 0
Cuts [] text left = text ≡ left
Cuts (p ∷ ps) text left = (rest : List ℕ) × Begins p text rest × Cuts ps rest left

-- the pieces are the text, each run as long as it can be
abbrev pub Division : List Piece → List ℕ → Type 0
Division ps text = Cuts ps text []

-- no piece stands at the front of these bytes
abbrev pub BeginsNone : List ℕ → Type 0
BeginsNone text = (p : Piece) (rest : List ℕ) → Begins p text rest → ⊥
