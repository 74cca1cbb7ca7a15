-- The tokens of a text over a core's words, with their places.
use Rattle.std.specs.Prelude.{ℕ, zero, suc, List, [], ◌∷◌, length, Some, None, Option}
use Rattle.tokens.specs.Lexer.{Next, at_end, token, no_token, next_token}
use Rattle.cores.specs.Meaning.{Word}
use Rattle.reader.specs.Tokens.{Token, text_end, token_of}

-- what lies ahead in a text: tokens with their places, up to the text's end or to a place where no token stands
pub data Stream : Type 0 where
  finish : ℕ → Stream
  broken : ℕ → Stream
  next : Token → ℕ → Stream → Stream

-- a token found, and what lies behind it; the text's end has the text's length for its place
abbrev pub ahead : List Word → ℕ → Next → (ℕ → Stream) → Stream
ahead ws len at_end go = finish len
ahead ws len (token p place end) go = next (token_of ws p) place (go end)
ahead ws len (no_token r place) go = broken place

-- the stream of at most n tokens at or behind a place
abbrev pub stream_from : ℕ → List Word → List ℕ → ℕ → Stream
stream_from zero ws text from = finish (length text)
stream_from (suc n) ws text from = ahead ws (length text) (next_token text from) (λ end. stream_from n ws text end)

-- the stream of a whole text; each token takes a byte, so that there are at most as many
abbrev pub stream_of : List Word → List ℕ → Stream
stream_of ws text = stream_from (suc (length text)) ws text 0

-- one token in front of others, if there are others
abbrev pub in_front : Token → Option (List Token) → Option (List Token)
in_front k None = None
in_front k (Some ks) = Some (k ∷ ks)

-- the tokens of a stream, of which the text's end is one; none where a place has no token
abbrev pub tokens_in : Stream → Option (List Token)
tokens_in (finish p) = Some (text_end ∷ [])
tokens_in (broken p) = None
tokens_in (next k p s) = in_front k (tokens_in s)
