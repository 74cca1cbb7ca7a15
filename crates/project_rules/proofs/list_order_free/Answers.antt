use Rattle.project_rules.proofs.list_order_free.Goals as goal
use Rattle.project_rules.proofs.Reordered.{list_order_free}

pub returns : goal.returns
returns g c = list_order_free g.C.Core.rule
