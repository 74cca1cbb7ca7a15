-- The fixed keywords and marks, by the bytes that spell them.
use Rattle.std.specs.Prelude.{ℕ, cond, List, [], ◌∷◌, Some, None, codes, Option}
use Rattle.std.specs.Str.{bytes_eq}
use Rattle.tokens.specs.declared.token.Mark.{Mark}
use Rattle.tokens.specs.declared.token.Mark.TheVariants.{Open, Close, Colon, Equals, Comma, Dot, Arrow, OpenAttribute, CloseAttribute}
use Rattle.tokens.specs.declared.token.Keyword.{Keyword}
use Rattle.tokens.specs.declared.token.Keyword.TheVariants.{Module, Struct, Sig, End, Functor, «Type», Val, Let, Fun, Rank}

-- what each mark is written as
abbrev pub mark_bytes : Mark → List ℕ
mark_bytes Open = codes "("
mark_bytes Close = codes ")"
mark_bytes Colon = codes ":"
mark_bytes Equals = codes "="
mark_bytes Comma = codes ","
mark_bytes Dot = codes "."
mark_bytes Arrow = codes "->"
mark_bytes OpenAttribute = codes "[@@"
mark_bytes CloseAttribute = codes "]"

-- what each keyword is written as
abbrev pub keyword_bytes : Keyword → List ℕ
keyword_bytes Module = codes "module"
keyword_bytes Struct = codes "struct"
keyword_bytes Sig = codes "sig"
keyword_bytes End = codes "end"
keyword_bytes Functor = codes "functor"
keyword_bytes «Type» = codes "type"
keyword_bytes Val = codes "val"
keyword_bytes Let = codes "let"
keyword_bytes Fun = codes "fun"
keyword_bytes Rank = codes "rank"

-- the ten keywords
abbrev pub keywords : List Keyword
keywords = Module ∷ Struct ∷ Sig ∷ End ∷ Functor ∷ «Type» ∷ Val ∷ Let ∷ Fun ∷ Rank ∷ []

-- the first of these keywords that is written as the bytes
abbrev pub keyword_among : List Keyword → List ℕ → Option Keyword
keyword_among [] bs = None
keyword_among (k ∷ ks) bs = cond (bytes_eq bs (keyword_bytes k)) (Some k) (keyword_among ks bs)

-- the keyword that bytes spell, if they spell one
abbrev pub keyword_of : List ℕ → Option Keyword
keyword_of bs = keyword_among keywords bs
