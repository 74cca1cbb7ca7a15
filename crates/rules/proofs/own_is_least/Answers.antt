use Rattle.std.proofs.Common.{length}
use Rattle.rules.proofs.own_is_least.Goals as goal
use Rattle.rules.proofs.Theorems.{own_is_least}

pub returns : goal.returns
returns g c = own_is_least (length g.C.Core.words) g.C.Core.rule g.met.C.Core.stable
