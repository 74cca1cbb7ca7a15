-- What one call of the iterator over the tokens of a text gives, that it comes nearer to the end, and what a loop over it learns.
use Rattle.std.proofs.Common.{◌≡◌, ℕ, ◌-◌, ◌<◌, List, length, Some, None, Ok, Err, Option, Result, sym, refl, ap, ◌∙◌, subst, arith, length-drop}
use Rattle.std.specs.Result.{result_transpose}
use Rattle.tokens.specs.Lexer.{at_end, token, no_token, told, next_token, view}
use Rattle.tokens.specs.Tokens.{given, Moves, GivesNext}
use Rattle.tokens.specs.declared.lexer.LexFault.{LexFault}
use Rattle.tokens.specs.declared.lexer.Placed.{Placed}
use Rattle.tokens.specs.declared.lexer.Tokens.{Tokens}
use Rattle.tokens.proofs.Walk.{advance, halt, shrinks}

-- the iterator hands on what `next` answers
pub handed_on : (r : Result (Option Placed) LexFault) (o : Option (Result Placed LexFault)) → o ≡ result_transpose r → given o ≡ told r
handed_on (Ok None) o e = ap given e
handed_on (Ok (Some x)) o e = ap given e
handed_on (Err f) o e = ap given e

pub behind_token : (s : Tokens) (x : Placed) (to : ℕ) → given (Some (Ok x)) ≡ next_token s.text.now s.from → to ≡ x.end → GivesNext s (Some (Ok x)) (record { text = s.text; from = to })
behind_token s x to e is =
    let step = advance s.text.now s.from x.place x.end (view x.token) (sym e) in
    record { same_text = refl; tells = e; moves = (is, step.forward, step.inside) }

pub behind_fault : (s : Tokens) (f : LexFault) (to : ℕ) → given (Some (Err f)) ≡ next_token s.text.now s.from → to ≡ length s.text.now → GivesNext s (Some (Err f)) (record { text = s.text; from = to })
behind_fault s f to e is = record { same_text = refl; tells = e; moves = is }

pub nearer : (s t : Tokens) (r : Result Placed LexFault) → GivesNext s (Some r) t → length t.text.now - t.from < length s.text.now - s.from
nearer s t (Ok x) g = omega (arith, ap (λ b. length b.now) g.same_text, g.moves.0, g.moves.1, g.moves.2)
nearer s t (Err f) g =
    let stop = halt s.text.now s.from f.place f.reason (sym g.tells) in
    omega (arith, ap (λ b. length b.now) g.same_text, g.moves, stop.inside, shrinks stop.gaps _ _ stop.cuts, length-drop s.from s.text.now, length-drop f.place s.text.now)

-- a turn of a loop over the tokens of a text: the token is the next one, and the iterator stands behind it
pub record Turn (text : List ℕ) (s t : Tokens) (x : Placed) : Type 0 where
  pub next : next_token text s.from ≡ token (view x.token) x.place x.end
  pub same_text : t.text.now ≡ text
  pub behind : t.from ≡ x.end

pub turn : (text : List ℕ) (s t : Tokens) (r : Option (Result Placed LexFault)) (f : Result Placed LexFault) (x : Placed) → s.text.now ≡ text → GivesNext s r t → r ≡ Some f → f ≡ Ok x → Turn text s t x
turn text s t r f x same g is ok =
    let all : r ≡ Some (Ok x) = is ∙ ap Some ok in
    let moves = subst (λ r. Moves s r t) all g.moves in
    record {
      next = ap (λ l. next_token l s.from) (sym same) ∙ sym g.tells ∙ ap given all;
      same_text = ap (λ b. b.now) g.same_text ∙ same;
      behind = moves.0;
    }

-- the loop ends early, where no token stands
pub turn_fault : (text : List ℕ) (s t : Tokens) (r : Option (Result Placed LexFault)) (f : Result Placed LexFault) (e : LexFault) → s.text.now ≡ text → GivesNext s r t → r ≡ Some f → f ≡ Err e → next_token text s.from ≡ no_token e.reason e.place
turn_fault text s t r f e same g is err =
    ap (λ l. next_token l s.from) (sym same) ∙ sym g.tells ∙ ap given (is ∙ ap Some err)

-- the loop ends with the text
pub turn_end : (text : List ℕ) (s t : Tokens) (r : Option (Result Placed LexFault)) → s.text.now ≡ text → GivesNext s r t → r ≡ None → next_token text s.from ≡ at_end
turn_end text s t r same g is = ap (λ l. next_token l s.from) (sym same) ∙ sym g.tells ∙ ap given is
