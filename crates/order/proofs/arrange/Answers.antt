use Rattle.std.proofs.Common.{Ok, rules}
use Rattle.order.specs.Seen.{seen}
use Rattle.order.proofs.Meaning.{answers}
use Rattle.order.proofs.arrange.Goals as goal

pub returns-in_err-few : goal.returns-in_err-few
returns-in_err-few c = answers (seen c.args.units.now) c.from_residual.result (search rules)

pub returns-in-Some : goal.returns-in-Some
returns-in-Some c = answers (seen c.args.units.now) _ (search rules)

pub returns-in-Some-cycle : goal.returns-in-Some-cycle
returns-in-Some-cycle c = answers (seen c.args.units.now) _ (search rules)

pub returns : goal.returns
returns c = answers (seen c.args.units.now) (Ok c.in_turn.result) (search rules)
