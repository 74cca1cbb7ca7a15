use Rattle.std.proofs.Common.{length, arith}
use Rattle.std.proofs.lemmas.Grind.{common_steps}
use Rattle.project.proofs.Answered.{put_told}
use Rattle.project.proofs.Meaning.{put_means}
use Rattle.project.proofs.Register.{register_law}
use Rattle.project.proofs.state.Open.put.Goals as goal

pub returns-in_err-lengths-clause-law : goal.returns-in_err-lengths-clause-law
returns-in_err-lengths-clause-law g c = put_means _ _ _ _ _ _ _ (grind (arith, common_steps)) (grind (arith, common_steps))

pub returns-in_err-lengths-clause-register : goal.returns-in_err-lengths-clause-register
returns-in_err-lengths-clause-register g c = register_law g.row.C-Cause.Denot g.C.Core.words

pub returns-in_err-heading-clause-law : goal.returns-in_err-heading-clause-law
returns-in_err-heading-clause-law g c = put_means _ _ _ _ _ _ _ (grind (arith, common_steps)) (grind (arith, common_steps))

pub returns-in_err-heading-clause-register : goal.returns-in_err-heading-clause-register
returns-in_err-heading-clause-register g c = register_law g.row.C-Cause.Denot g.C.Core.words

pub returns-in_err-map_err-clause-answer : goal.returns-in_err-map_err-clause-answer
returns-in_err-map_err-clause-answer g c =
    let t = put_told {K = g.row.C-Cause.Denot} g.C.Core.words c.args.store.now (length c.args.book.now) (length c.args.scratch.now) c.args.text.now c.put-stored.result
    c.in_ok-lengths.ensures c.in_ok-heading.ensures.answer c.put-stored.ensures.answer in
    grind (arith, common_steps, t)

pub returns-in_err-map_err-clause-law : goal.returns-in_err-map_err-clause-law
returns-in_err-map_err-clause-law g c = put_means _ _ _ _ _ _ _ (returns-in_err-map_err-clause-answer g c) (grind (arith, common_steps))

pub returns-in_err-map_err-clause-register : goal.returns-in_err-map_err-clause-register
returns-in_err-map_err-clause-register g c = register_law g.row.C-Cause.Denot g.C.Core.words

pub returns-clause-answer : goal.returns-clause-answer
returns-clause-answer g c =
    let t = put_told {K = g.row.C-Cause.Denot} g.C.Core.words c.args.store.now (length c.args.book.now) (length c.args.scratch.now) c.args.text.now c.put-stored.result
    c.in_ok-lengths.ensures c.in_ok-heading.ensures.answer c.put-stored.ensures.answer in
    grind (arith, common_steps, t)

pub returns-clause-law : goal.returns-clause-law
returns-clause-law g c = put_means _ _ _ _ _ _ _ (returns-clause-answer g c) (grind (arith, common_steps))

pub returns-clause-register : goal.returns-clause-register
returns-clause-register g c = register_law g.row.C-Cause.Denot g.C.Core.words
