use Rattle.std.proofs.Common.{length}
use Rattle.rules.proofs.own_is_one.Goals as goal
use Rattle.rules.proofs.Theorems.{own_is_one}

pub returns : goal.returns
returns g c = own_is_one (length g.C.Core.words) g.C.Core.rule g.met.C.Core.stable
