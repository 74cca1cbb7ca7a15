use Rattle.std.proofs.Common.{sym, ap, ◌∙◌, Some, None}
use Rattle.std.specs.Option.{option_map}
use Rattle.cores.specs.Meaning.{name_if_label}
use Rattle.cores.proofs.Tables.{label_at, got}
use Rattle.cores.proofs.table.label_word.Goals as goal

pub returns-in_err-word : goal.returns-in_err-word
returns-in_err-word c =
    let e = got c.args.table.now c.args.label _ c.get.ensures.lookup ∙ ap (option_map (λ x. x.now)) c.in_err-word.was in
    ap (option_map (λ x. x.now)) c.from_residual.ensures ∙ sym (label_at c.args.table.now c.args.label None e)

pub returns-in-Label : goal.returns-in-Label
returns-in-Label c =
    let e = got c.args.table.now c.args.label _ c.get.ensures.lookup ∙ ap (option_map (λ x. x.now)) c.in_ok-word.was in
    sym (label_at c.args.table.now c.args.label (Some c.in_ok-word.word.now) e ∙ ap (name_if_label c.in_ok-word.word.now.name.now) c.in-Label.is)

pub returns-in-Operator : goal.returns-in-Operator
returns-in-Operator c =
    let e = got c.args.table.now c.args.label _ c.get.ensures.lookup ∙ ap (option_map (λ x. x.now)) c.in_ok-word.was in
    sym (label_at c.args.table.now c.args.label (Some c.in_ok-word.word.now) e ∙ ap (name_if_label c.in_ok-word.word.now.name.now) c.in-Operator.is)
