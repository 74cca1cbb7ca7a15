-- Tokens as the grammar sees them: a core's words are told apart from names, and a text ends in a token of its own.
use Rattle.std.specs.Prelude.{ℕ, Bool, cond, List, [], ◌∷◌, Some, None, Option, ◌==◌, nat_le}
use Rattle.tokens.specs.declared.token.Mark.{Mark}
use Rattle.tokens.specs.declared.token.Keyword.{Keyword}
use Rattle.tokens.specs.Integers.{decimal}
use Rattle.tokens.specs.Pieces.{Piece}
use Rattle.types.specs.Types.{Name}
use Rattle.cores.specs.Meaning.{Word, lookup}
use Rattle.cores.specs.declared.interface.Found.{Found}
use Rattle.cores.specs.declared.interface.Kind.{Kind}
use Rattle.reader.specs.declared.class.Class.{Class}

-- a mark, a keyword, a name, the digits of an integer, a core's label with 0 to 2 parts, a core's operator with 0 to 3 arguments
-- (words are known by their numbers), or the end of the text
pub data Token : Type 0 where
  mark : Mark → Token
  keyword : Keyword → Token
  lower : Name → Token
  upper : Name → Token
  integer : List ℕ → Token
  label0 : ℕ → Token
  label1 : ℕ → Token
  label2 : ℕ → Token
  operator0 : ℕ → Token
  operator1 : ℕ → Token
  operator2 : ℕ → Token
  operator3 : ℕ → Token
  text_end : Token

-- a rank is at most 255
abbrev pub is_rank : List ℕ → Bool
is_rank ds = nat_le (decimal ds) 255

abbrev pub mark_class : Mark → Class
mark_class Mark.Open = Class.Open
mark_class Mark.Close = Class.Close
mark_class Mark.Colon = Class.Colon
mark_class Mark.Equals = Class.Equals
mark_class Mark.Comma = Class.Comma
mark_class Mark.Dot = Class.Dot
mark_class Mark.Arrow = Class.Arrow
mark_class Mark.OpenAttribute = Class.OpenAttribute
mark_class Mark.CloseAttribute = Class.CloseAttribute

abbrev pub keyword_class : Keyword → Class
keyword_class Keyword.Module = Class.Module
keyword_class Keyword.Struct = Class.Struct
keyword_class Keyword.Sig = Class.Sig
keyword_class Keyword.End = Class.End
keyword_class Keyword.Functor = Class.Functor
keyword_class Keyword.«Type» = Class.«Type»
keyword_class Keyword.Val = Class.Val
keyword_class Keyword.Let = Class.Let
keyword_class Keyword.Fun = Class.Fun
keyword_class Keyword.Rank = Class.Rank

-- integers that can be a rank are a class of their own
abbrev pub integer_class : List ℕ → Class
integer_class ds = cond (is_rank ds) Class.SmallInteger Class.LargeInteger

-- the class of a token, which is all that the grammar asks of it
abbrev pub class_of : Token → Class
class_of (mark m) = mark_class m
class_of (keyword k) = keyword_class k
class_of (lower x) = Class.Lower
class_of (upper x) = Class.Upper
class_of (integer ds) = integer_class ds
class_of (label0 l) = Class.Label0
class_of (label1 l) = Class.Label1
class_of (label2 l) = Class.Label2
class_of (operator0 o) = Class.Operator0
class_of (operator1 o) = Class.Operator1
class_of (operator2 o) = Class.Operator2
class_of (operator3 o) = Class.Operator3
class_of text_end = Class.TextEnd

-- the token of a word of a core; a name would stay a name if a core had a word with more parts or arguments than any may have
abbrev pub word_token : Kind → ℕ → Name → Token
word_token (Kind.Label n) w x =
    cond (n == 0) (label0 w) (cond (n == 1) (label1 w) (cond (n == 2) (label2 w) (lower x)))
word_token (Kind.Operator n) w x =
    cond (n == 0) (operator0 w)
    (cond (n == 1) (operator1 w) (cond (n == 2) (operator2 w) (cond (n == 3) (operator3 w) (lower x))))

-- a lower name is a word of the core, or a name
abbrev pub name_token : Option Found → Name → Token
name_token None x = lower x
name_token (Some f) x = word_token f.kind f.number x

-- a piece of a text as a token over these words; a blank is none, and the lexer never hands one out
abbrev pub token_of : List Word → Piece → Token
token_of ws (Piece.blank b) = lower (b ∷ [])
token_of ws (Piece.mark m) = mark m
token_of ws (Piece.keyword k) = keyword k
token_of ws (Piece.lower x) = name_token (lookup ws x) x
token_of ws (Piece.upper x) = upper x
token_of ws (Piece.integer ds) = integer ds

-- the class of a label with so many parts
abbrev pub label_class : ℕ → Class
label_class n =
    cond (n == 0) Class.Label0 (cond (n == 1) Class.Label1 (cond (n == 2) Class.Label2 Class.Lower))

-- the class of an operator with so many arguments
abbrev pub operator_class : ℕ → Class
operator_class n =
    cond (n == 0) Class.Operator0
    (cond (n == 1) Class.Operator1 (cond (n == 2) Class.Operator2 (cond (n == 3) Class.Operator3 Class.Lower)))
