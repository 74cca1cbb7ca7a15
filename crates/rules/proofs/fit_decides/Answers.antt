use Rattle.std.proofs.Common.{length}
use Rattle.rules.proofs.fit_decides.Goals as goal
use Rattle.rules.proofs.Theorems.{fit_decides}

pub returns : goal.returns
returns g c = fit_decides (length g.C.Core.words) g.C.Core.rule g.met.C.Core.stable
