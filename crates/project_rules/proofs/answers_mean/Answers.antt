use Rattle.project_rules.proofs.answers_mean.Goals as goal
use Rattle.project_rules.proofs.Answering.{answers_mean}

pub returns : goal.returns
returns g c = answers_mean g.C.Core.rule
