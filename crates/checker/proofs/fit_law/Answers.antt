use Rattle.std.proofs.Common.{length}
use Rattle.checker.proofs.fit_law.Goals as goal
use Rattle.checker.proofs.Fitted.{fit_law}

pub returns : goal.returns
returns g c = fit_law (length g.C.Core.words) g.C.Core.rule g.met.C.Core.stable
