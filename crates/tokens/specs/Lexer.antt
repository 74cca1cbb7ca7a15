-- The lexer as a definition: what stands at the front of a text, and the next token of it.
use Rattle.std.specs.Prelude.{◌≡◌, ℕ, suc, ◌+◌, Bool, cond, ◌&&◌, List, [], ◌∷◌, length, take, drop, Some, None, Ok, Err, Option, Result, ◌==◌, nat_le, slice_index}
use Rattle.std.specs.Borrow.{Bor}
use Rattle.std.specs.List.{prefix_len}
use Rattle.tokens.specs.Bytes.{is_blank, is_lower, is_letter, is_digit, is_name_byte}
use Rattle.tokens.specs.Keywords.{keyword_of, mark_bytes}
use Rattle.tokens.specs.Pieces.{Piece, blank, mark, keyword, lower, upper, integer, written}
use Rattle.tokens.specs.declared.lexer.LexFault.{LexFault}
use Rattle.tokens.specs.declared.lexer.Placed.{Placed}
use Rattle.tokens.specs.declared.lexer.Reason.{Reason}
use Rattle.tokens.specs.declared.lexer.Reason.TheVariants.{Byte, LongName, LongInteger}
use Rattle.tokens.specs.declared.token.Keyword.{Keyword}
use Rattle.tokens.specs.declared.token.Mark.{Mark}
use Rattle.tokens.specs.declared.token.Mark.TheVariants.{Open, Close, Colon, Equals, Comma, Dot, Arrow, OpenAttribute, CloseAttribute}
use Rattle.tokens.specs.declared.token.Token.{Token}
use Rattle.tokens.specs.declared.token.Token.TheVariants.{Mark as MarkToken, Keyword as KeywordToken, Lower, Upper, Integer}

-- the mark that one byte is
abbrev pub single_mark : ℕ → Option Mark
single_mark b =
    cond (b == 40) (Some Open)
    (cond (b == 41) (Some Close)
    (cond (b == 58) (Some Colon)
    (cond (b == 61) (Some Equals)
    (cond (b == 44) (Some Comma) (cond (b == 46) (Some Dot) (cond (b == 93) (Some CloseAttribute) None))))))

-- whether the bytes begin with `[@@`; a byte behind the end counts as 0
abbrev pub is_attribute : List ℕ → Bool
is_attribute bs = slice_index bs 0 == 91 && (slice_index bs 1 == 64 && slice_index bs 2 == 64)

-- whether the bytes begin with `->`
abbrev pub is_arrow : List ℕ → Bool
is_arrow bs = slice_index bs 0 == 45 && slice_index bs 1 == 62

-- the mark at the front
abbrev pub mark_of : List ℕ → Option Mark
mark_of bs = cond (is_attribute bs) (Some OpenAttribute) (cond (is_arrow bs) (Some Arrow) (single_mark (slice_index bs 0)))

-- what the code says of the mark at the front, with what is left behind it
abbrev pub MarkAt : List ℕ → Option (Mark × Bor (List ℕ)) → Type 0
MarkAt bs None = mark_of bs ≡ None
MarkAt bs (Some x) = (mark_of bs ≡ Some x.0) × (x.1.now ≡ drop (length (mark_bytes x.0)) bs)

-- a piece at the front of a text, or why there is none
pub data Front : Type 0 where
  piece : Piece → Front
  none : Reason → Front

-- the piece of a name's bytes: a keyword, or a name by its first letter's case
abbrev pub word : Option Keyword → List ℕ → Piece
word (Some k) bs = keyword k
word None bs = cond (is_lower (slice_index bs 0)) (lower bs) (upper bs)

-- a run of n name bytes is a token when there are at most 16
abbrev pub name_front : ℕ → List ℕ → Front
name_front n bs = cond (nat_le n 16) (piece (word (keyword_of (take n bs)) (take n bs))) (none LongName)

-- a run of n digits is a token when there are at most 9
abbrev pub integer_front : ℕ → List ℕ → Front
integer_front n bs = cond (nat_le n 9) (piece (integer (take n bs))) (none LongInteger)

abbrev pub mark_front : Option Mark → Front
mark_front (Some m) = piece (mark m)
mark_front None = none Byte

-- the token at the front of a text
abbrev pub token_front : List ℕ → Front
token_front bs =
    cond (is_letter (slice_index bs 0)) (name_front (prefix_len is_name_byte bs) bs)
    (cond (is_digit (slice_index bs 0)) (integer_front (prefix_len is_digit bs) bs) (mark_front (mark_of bs)))

-- the piece at the front of a text that is not empty: a blank or a token
abbrev pub front : List ℕ → Front
front bs = cond (is_blank (slice_index bs 0)) (piece (blank (slice_index bs 0))) (token_front bs)

-- a token of the code, by the bytes that it holds
abbrev pub view : Token → Piece
view (MarkToken m) = mark m
view (KeywordToken k) = keyword k
view (Lower r) = lower r.now
view (Upper r) = upper r.now
view (Integer r) = integer r.now

-- what the code says of the token at the front, with what is left behind it
abbrev pub TokenAt : Front → List ℕ → Result (Token × Bor (List ℕ)) Reason → Type 0
TokenAt f bs (Ok x) = (f ≡ piece (view x.0)) × (x.1.now ≡ drop (length (written (view x.0))) bs)
TokenAt f bs (Err r) = f ≡ none r

-- what comes next in a text: its end, a token with its first place and the place behind it, or no token at a place
pub data Next : Type 0 where
  at_end : Next
  token : Piece → ℕ → ℕ → Next
  no_token : Reason → ℕ → Next

abbrev pub found : ℕ → Front → Next
found at (piece p) = token p at (at + length (written p))
found at (none r) = no_token r at

-- the next token of these bytes, the first of which has the place `at`; blanks are skipped
abbrev pub next_from : ℕ → List ℕ → Next
next_from at [] = at_end
next_from at (b ∷ bs) = cond (is_blank b) (next_from (suc at) bs) (found at (token_front (b ∷ bs)))

-- the next token of a text at or behind a place
abbrev pub next_token : List ℕ → ℕ → Next
next_token text from = next_from from (drop from text)

-- what an answer of the code tells
abbrev pub told : Result (Option Placed) LexFault → Next
told (Ok None) = at_end
told (Ok (Some x)) = token (view x.token) x.place x.end
told (Err e) = no_token e.reason e.place

-- the number that the rules give a text that does not lex: it does not read
abbrev pub fault_number : LexFault → ℕ
fault_number _ = 3
