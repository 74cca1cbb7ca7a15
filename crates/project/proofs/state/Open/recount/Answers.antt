use Rattle.std.proofs.Common.{arith}
use Rattle.std.proofs.lemmas.Grind.{common_steps}
use Rattle.store.proofs.Holding.{length_held}
use Rattle.project.proofs.state.Open.recount.Goals as goal

pub returns : goal.returns
returns c = grind (arith, common_steps, length_held)
