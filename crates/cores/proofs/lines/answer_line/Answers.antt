use Rattle.std.proofs.Common.{◌≡◌, ◌<◌, true, length, Some, sym, ap, ◌∙◌, subst}
use Rattle.std.specs.Option.{option_map, ok_or}
use Rattle.std.specs.Result.{result_ok}
use Rattle.types.specs.Words.{whole}
use Rattle.cores.specs.declared.interface.Refusal.TheVariants.{Short}
use Rattle.cores.specs.Steps.{row_items, reached, result_words}
use Rattle.cores.proofs.Replies.{worked_met, over, written}
use Rattle.cores.proofs.lines.answer_line.Goals as goal

pub returns-in_default : goal.returns-in_default
returns-in_default c =
    let b = c.args.base in
    let o = option_map (λ l. row_items l) c.args.line in
    let args = c.args.args.now in
    let l = row_items c.in_ok-line.line in
    let s = reached c.in_ok-at.at in
    let ws = result_words b s l.result in
    let w : whole args ≡ true = sym c.are_types.ensures.tells ∙ c.if-not-are_types.false in
    let e : o ≡ Some l = ap (option_map (λ l. row_items l)) (c.ok_or.ensures.ok_part ∙ ap result_ok c.in_ok-line.was) in
    let m = worked_met b o l args s e c.in_ok-at.ensures.compares in
    let d = over b o args ws w m c.args.out.now (subst (λ j. 32 < length (result_words j s l.result)) c.in_ok-at.ensures.base c.in_default.ensures.over) in
    record { result = d.0; left = d.1 }

pub returns : goal.returns
returns c =
    let b = c.args.base in
    let o = option_map (λ l. row_items l) c.args.line in
    let args = c.args.args.now in
    let l = row_items c.in_ok-line.line in
    let s = reached c.in_ok-at.at in
    let ws = result_words b s l.result in
    let w : whole args ≡ true = sym c.are_types.ensures.tells ∙ c.if-not-are_types.false in
    let e : o ≡ Some l = ap (option_map (λ l. row_items l)) (c.ok_or.ensures.ok_part ∙ ap result_ok c.in_ok-line.was) in
    let m = worked_met b o l args s e c.in_ok-at.ensures.compares in
    let k = c.deref.ensures.0 ∙ c.in-Ok.ensures.ok ∙ ap (λ j. result_words j s l.result) c.in_ok-at.ensures.base in
    let d = written b o args ws w m c.args.out.now c.deref.result.now k c.deref.ensures.1 in
    record { result = c.ok_or-2.ensures.value ∙ ap (λ r. ok_or r Short) c.copy_run.ensures.end ∙ d.0; left = c.copy_run.ensures.after ∙ d.1 }
