use Rattle.std.proofs.Common.{Some, sym, ap, ◌∙◌}
use Rattle.tokens.proofs.Turns.{handed_on, behind_token, behind_fault, nearer}
use Rattle.tokens.specs.Tokens.{GivesNext, given}
use Rattle.tokens.proofs.lexer.TokensIterator.next.Goals as goal
use Rattle.tokens.proofs.lexer.TokensIterator.next.Goals.{in-Ok, in-Err}

pub returns : goal.returns
returns c =
    let s = c.args.self.now in
    let r = c.in_ok-found.found in
    let tells = ap given (sym c.in_ok-found.was) ∙ handed_on c.next.result _ c.transpose.ensures ∙ c.next.ensures in
    let steps : GivesNext s (Some r) (record { text = s.text; from = c.match-found.self }) =
    elim c.match-found.branch [
      | in-Ok w ↦ rw w.in-Ok.is (behind_token s w.in-Ok.x c.match-found.self (ap (λ r. given (Some r)) (sym w.in-Ok.is) ∙ tells) w.self-is)
      | in-Err w ↦ rw w.in-Err.is (behind_fault s w.in-Err.field-0 c.match-found.self (ap (λ r. given (Some r)) (sym w.in-Err.is) ∙ tells) w.self-is)
    ] in
    record {
      steps = steps;
      goes = record { on = λ _. (tt, tt, nearer s _ r steps); keeps = tt; rests = λ _. tt };
    }
