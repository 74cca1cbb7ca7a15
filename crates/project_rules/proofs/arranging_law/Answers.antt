use Rattle.project_rules.proofs.arranging_law.Goals as goal
use Rattle.project_rules.proofs.Agreeing.{arranging_law}

pub returns : goal.returns
returns g c = arranging_law g.C.Core.rule
