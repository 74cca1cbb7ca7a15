-- The words for kinds of tokens, and how a byte is shown.
use Rattle.std.specs.Prelude.{ℕ, cond, ◌&&◌, List, codes, ◌==◌, nat_le}
use Rattle.tokens.specs.Pieces.{Piece, blank, mark, keyword, lower, upper, integer}

abbrev pub kind_words : Piece → List ℕ
kind_words (blank _) = codes "blank"
kind_words (mark _) = codes "mark"
kind_words (keyword _) = codes "keyword"
kind_words (lower _) = codes "lower name"
kind_words (upper _) = codes "upper name"
kind_words (integer _) = codes "integer"

-- a byte on a screen: printable ones as they are, a tab as a space, others as a question mark
abbrev pub shown_byte : ℕ → ℕ
shown_byte b = cond (nat_le 32 b && nat_le b 126) b (cond (b == 9) 32 63)
