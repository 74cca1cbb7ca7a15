use Rattle.std.proofs.Common.{length}
use Rattle.checker.proofs.refusals_mean.Goals as goal
use Rattle.checker.proofs.Fitted.{refusals_mean}

pub returns : goal.returns
returns g c = refusals_mean (length g.C.Core.words) g.C.Core.rule g.met.C.Core.stable
