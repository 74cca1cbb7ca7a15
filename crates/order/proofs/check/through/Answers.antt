use Rattle.std.proofs.Common.{sym, ◌∙◌, arith}
use Rattle.std.proofs.lemmas.List.{set-get_or}
use Rattle.order.proofs.Closure.{turn_joins, turn_keeps}
use Rattle.order.proofs.check.through.Goals as goal
use Rattle.order.proofs.check.through.Goals.{then-has, else-has}

pub loop-row-preserved : goal.loop-row-preserved
loop-row-preserved c =
    let rows = c.loop-row.row-items in
    let i = c.loop-row.row-index in
    elim c.if-has.branch [
      | then-has w ↦
          turn_joins c.args.rows rows c.if-has.row-items c.args.k i (omega arith) c.loop-row.invariant
          (sym w.if-has.ensures) w.row-items-is
      | else-has w ↦
          turn_keeps c.args.rows rows c.if-has.row-items c.args.k i (omega arith) c.loop-row.invariant
          (sym w.if-has.ensures) (w.row-items-is ∙ set-get_or rows i 0)
    ]
