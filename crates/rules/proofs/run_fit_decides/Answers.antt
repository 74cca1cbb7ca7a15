use Rattle.std.proofs.Common.{length}
use Rattle.rules.proofs.run_fit_decides.Goals as goal
use Rattle.rules.proofs.Theorems.{run_fit_decides}

pub returns : goal.returns
returns g c = run_fit_decides (length g.C.Core.words) g.C.Core.rule g.met.C.Core.stable
