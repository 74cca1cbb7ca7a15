use Rattle.order.proofs.Closure.{Through}
use Rattle.order.proofs.check.through.Given as goal

-- the rows below the index are joined
abbrev pub invariant-loop-row : goal.invariant-loop-row
invariant-loop-row l = Through l.fn.rows l.k l.row-index l.row-items
