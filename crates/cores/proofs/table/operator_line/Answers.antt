use Rattle.std.proofs.Common.{sym, ap, ◌∙◌, Some, None}
use Rattle.std.specs.Option.{option_map}
use Rattle.cores.specs.Steps.{row_items}
use Rattle.cores.proofs.Tables.{row_of, got}
use Rattle.cores.proofs.table.operator_line.Goals as goal

pub returns-in_err-get : goal.returns-in_err-get
returns-in_err-get c =
    let e = got c.args.table.now c.args.number _ c.get.ensures.lookup ∙ ap (option_map (λ x. x.now)) c.in_err-get.was in
    ap (option_map (λ l. row_items l)) c.from_residual.ensures ∙ sym (row_of c.args.table.now c.args.number None e)

pub returns : goal.returns
returns c =
    let e = got c.args.table.now c.args.number _ c.get.ensures.lookup ∙ ap (option_map (λ x. x.now)) c.in_ok-get.was in
    sym (row_of c.args.table.now c.args.number (Some c.in_ok-get.field-0.now) e)
