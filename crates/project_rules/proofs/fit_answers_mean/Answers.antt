use Rattle.project_rules.proofs.fit_answers_mean.Goals as goal
use Rattle.project_rules.proofs.Fitting.{fit_answers_mean}

pub returns : goal.returns
returns g c = fit_answers_mean g.C.Core.rule
