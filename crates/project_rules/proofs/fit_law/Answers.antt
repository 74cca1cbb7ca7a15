use Rattle.std.proofs.Common.{length}
use Rattle.project_rules.proofs.fit_law.Goals as goal
use Rattle.project_rules.proofs.Fitting.{fit_anywhere, fit_project}

pub returns : goal.returns
returns g c = (
  fit_project (length g.C.Core.words) g.C.Core.rule g.met.C.Core.stable,
  fit_anywhere (length g.C.Core.words) g.C.Core.rule g.met.C.Core.stable,
)
