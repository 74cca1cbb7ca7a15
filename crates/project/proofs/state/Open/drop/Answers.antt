use Rattle.std.proofs.Common.{length, arith}
use Rattle.std.proofs.lemmas.Grind.{common_steps}
use Rattle.std.specs.declared.convert.Infallible.{Infallible}
use Rattle.project.proofs.Answered.{drop_told}
use Rattle.project.proofs.Meaning.{drop_means}
use Rattle.project.proofs.state.Open.drop.Goals as goal

pub returns-in_err-lengths-clause-law : goal.returns-in_err-lengths-clause-law
returns-in_err-lengths-clause-law c = drop_means _ _ _ _ _ (grind (arith, common_steps)) (grind (arith, common_steps))

pub returns-in_err-number-clause-law : goal.returns-in_err-number-clause-law
returns-in_err-number-clause-law c = drop_means _ _ _ _ _ (grind (arith, common_steps)) (grind (arith, common_steps))

pub returns-in_err-map_err-clause-answer : goal.returns-in_err-map_err-clause-answer
returns-in_err-map_err-clause-answer c =
    let t = drop_told {K = Infallible} c.args.store.now (length c.args.book.now) c.args.name.now c.name_number-unit.result c.in_ok-number.number c.remove.result c.in_ok-lengths.ensures (grind (arith, common_steps)) c.remove.ensures.answer in
    grind (arith, common_steps, t)

pub returns-in_err-map_err-clause-law : goal.returns-in_err-map_err-clause-law
returns-in_err-map_err-clause-law c = drop_means _ _ _ _ _ (returns-in_err-map_err-clause-answer c) (grind (arith, common_steps))

pub returns-clause-answer : goal.returns-clause-answer
returns-clause-answer c =
    let t = drop_told {K = Infallible} c.args.store.now (length c.args.book.now) c.args.name.now c.name_number-unit.result c.in_ok-number.number c.remove.result c.in_ok-lengths.ensures (grind (arith, common_steps)) c.remove.ensures.answer in
    grind (arith, common_steps, t)

pub returns-clause-law : goal.returns-clause-law
returns-clause-law c = drop_means _ _ _ _ _ (returns-clause-answer c) (grind (arith, common_steps))
