use Rattle.std.proofs.Common.{rules, sym, ◌∙◌}
use Rattle.std.proofs.lemmas.Iterator.{YieldsList-from_slice}
use Rattle.std.proofs.lemmas.Iterator.Search.{position_from_yields_List}
use Rattle.cores.proofs.Tables.{has_name, not_found, found_at}
use Rattle.cores.proofs.table.find_word.Goals as goal

pub returns-in_err-number : goal.returns-in_err-number
returns-in_err-number c =
    let ws = c.args.table.now in
    let x = c.args.name.now in
    let e = position_from_yields_List (has_name x) _ _ _ c.position.ensures.ran (YieldsList-from_slice ws (cc)) (λ y b q k. search rules) in
    c.from_residual.ensures ∙ sym (not_found x ws (sym e ∙ c.in_err-number.was))

pub returns : goal.returns
returns c =
    let ws = c.args.table.now in
    let x = c.args.name.now in
    let e = position_from_yields_List (has_name x) _ _ _ c.position.ensures.ran (YieldsList-from_slice ws (cc)) (λ y b q k. search rules) in
    sym (found_at x c.in_ok-number.number ws _ (sym e ∙ c.in_ok-number.was))
