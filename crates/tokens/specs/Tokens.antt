-- What the iterator over the tokens of a text gives, call by call.
use Rattle.std.specs.Prelude.{◌≡◌, ◌<◌, ◌≤◌, length, Some, None, Ok, Err, Option, Result}
use Rattle.tokens.specs.Lexer.{Next, at_end, token, no_token, next_token, view}
use Rattle.tokens.specs.declared.lexer.LexFault.{LexFault}
use Rattle.tokens.specs.declared.lexer.Placed.{Placed}
use Rattle.tokens.specs.declared.lexer.Tokens.{Tokens}

-- what an answer of the iterator tells
abbrev pub given : Option (Result Placed LexFault) → Next
given None = at_end
given (Some (Ok x)) = token (view x.token) x.place x.end
given (Some (Err e)) = no_token e.reason e.place

-- where the iterator stands then: where it was, behind the token, or, where none stands, at the end of the text
abbrev pub Moves : Tokens → Option (Result Placed LexFault) → Tokens → Type 0
Moves s None t = t.from ≡ s.from
Moves s (Some (Ok x)) t = (t.from ≡ x.end) × (s.from < x.end) × (x.end ≤ length s.text.now)
Moves s (Some (Err e)) t = t.from ≡ length s.text.now

-- one call: it gives what comes next in the text, and goes on behind it
pub record GivesNext (s : Tokens) (r : Option (Result Placed LexFault)) (t : Tokens) : Type 0 where
  pub same_text : t.text ≡ s.text
  pub tells : given r ≡ next_token s.text.now s.from
  pub moves : Moves s r t
