use Rattle.project_rules.proofs.order_law.Goals as goal
use Rattle.project_rules.proofs.Answering.{order_law}

pub returns : goal.returns
returns g c = order_law g.C.Core.rule
