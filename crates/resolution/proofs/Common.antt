-- What the proofs share: the tokens of a stream one by one, and the surroundings that the notes pass on.
use Rattle.std.proofs.Common.{[], ◌≡◌, ℕ, List, ◌∷◌, Some, None, Option, refl}
use Rattle.types.specs.Types.{Name}
use Rattle.reader.specs.declared.scope.Sort.{Sort}
use Rattle.reader.specs.declared.scope.Binder.{Binder}
use Rattle.reader.specs.Tokens.{Token, text_end}
use Rattle.reader.specs.Scopes.{Scope}
use Rattle.reader.specs.Streams.{Stream, finish, broken, next, tokens_in, in_front}
use Rattle.reader.specs.Notes.{Around, scoped, entering, with}

-- one component more is declared
abbrev pub knowing : Sort → Name → Around Scope → Around Scope
knowing s x a = entering (with (Binder.Component s) x a) a

-- one more is open, and a structure or signature, a parameter or a variable entered
abbrev pub binding : Binder → Name → Around Scope → Around Scope
binding b x a = scoped 1 (with b x a) a

-- the last token is the text's end
pub last_token : (p : ℕ) (ks : List Token) → tokens_in (finish p) ≡ Some ks → text_end ∷ [] ≡ ks
last_token p ks e = cc

-- a place without a token gives no tokens
pub no_tokens : {A : Type 0} (p : ℕ) (ks : List Token) → tokens_in (broken p) ≡ Some ks → A
no_tokens p ks e = cc

-- the tokens behind the next one
pub next_token : (k : Token) (p : ℕ) (s : Stream) (ks : List Token) → tokens_in (next k p s) ≡ Some ks →
    (js : List Token) × (tokens_in s ≡ Some js) × (k ∷ js ≡ ks)
next_token k p s ks = go (tokens_in s)
  where
    go : (o : Option (List Token)) → in_front k o ≡ Some ks → (js : List Token) × (o ≡ Some js) × (k ∷ js ≡ ks)
    go None e = cc
    go (Some js) e = (js, refl, cc)
