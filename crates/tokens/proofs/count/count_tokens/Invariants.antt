use Rattle.std.proofs.Common.{◌≡◌}
use Rattle.tokens.proofs.Survey.{Sofar}
use Rattle.tokens.proofs.count.count_tokens.Given as goal

-- the text up to here is cut into pieces, and they are counted
abbrev pub invariant-loop-found : goal.invariant-loop-found
invariant-loop-found l = record { same_text : l.found-iterator.text.now ≡ l.text; sofar : Sofar l.text l.found-iterator.from l.counts }
