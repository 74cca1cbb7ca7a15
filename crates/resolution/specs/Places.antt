-- The places of a text's tokens, one for each token.
use Rattle.std.specs.Prelude.{ℕ, zero, suc, List, [], ◌∷◌}
use Rattle.reader.specs.Streams.{Stream, finish, broken, next}

-- the places of a stream's tokens, of which the text's end is one
abbrev pub places_in : Stream → List ℕ
places_in (finish p) = p ∷ []
places_in (broken p) = []
places_in (next k p s) = p ∷ places_in s

-- the place of the next token; the places of a text never run out before its tokens do
abbrev pub first : List ℕ → ℕ
first [] = 0
first (p ∷ ps) = p

-- the places behind the next token
abbrev pub behind : List ℕ → List ℕ
behind [] = []
behind (p ∷ ps) = ps

-- the places behind so many tokens
abbrev pub beyond : ℕ → List ℕ → List ℕ
beyond zero ps = ps
beyond (suc n) ps = beyond n (behind ps)
