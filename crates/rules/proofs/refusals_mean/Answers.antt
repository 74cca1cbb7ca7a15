use Rattle.std.proofs.Common.{length}
use Rattle.rules.proofs.refusals_mean.Goals as goal
use Rattle.rules.proofs.Theorems.{refusals_mean}

pub returns : goal.returns
returns g c = refusals_mean (length g.C.Core.words) g.C.Core.rule g.met.C.Core.stable
