use Rattle.std.proofs.Common.{arith}
use Rattle.std.proofs.lemmas.Result.{err_from_is_err_and}
use Rattle.tokens.proofs.Survey.{room, again, whole, stopped}
use Rattle.tokens.proofs.Turns.{Turn, turn, turn_fault, turn_end}
use Rattle.tokens.proofs.count.count_tokens.Goals as goal
use Rattle.tokens.proofs.count.count_tokens.Goals.{In_ok-found}

-- the token of this turn
here : (c : In_ok-found) → Turn c.args.text.now c.loop-found.found-iterator c.next.new.self c.in_ok-found.field-0
here c = turn _ _ _ _ _ _ c.loop-found.invariant.same_text c.next.ensures.steps c.in-Some.is c.in_ok-found.was

pub returns-in_err-found : goal.returns-in_err-found
returns-in_err-found c =
    let p = err_from_is_err_and c.from_residual.result c.from_residual.ensures.1 in
    let stop = turn_fault _ _ _ _ _ _ c.loop-found.invariant.same_text c.next.ensures.steps c.in-Some.is c.in_err-found.was in
    rw (p.1, p.2) (stopped _ _ _ _ _ c.loop-found.invariant.sofar stop)

pub and-counts-requires : goal.and-counts-requires
and-counts-requires c = omega (arith, room _ _ _ _ _ _ c.loop-found.invariant.sofar (here (goal.at.and-counts-requires c).In_ok-found).next)

pub loop-found-preserved : goal.loop-found-preserved
loop-found-preserved c =
    let t = here (goal.at.loop-found-preserved c).In_ok-found in
    record {
      same_text = t.same_text;
      sofar = rw (t.behind, c.and-counts.ensures) (again _ _ _ _ _ _ c.loop-found.invariant.sofar t.next);
    }

pub returns : goal.returns
returns c = whole _ _ _ c.loop-found.invariant.sofar (turn_end _ _ _ _ c.loop-found.invariant.same_text c.next.ensures.steps c.in-None.is)
