use Rattle.std.proofs.Common.{length}
use Rattle.rules.proofs.loads_alike.Goals as goal
use Rattle.rules.proofs.Theorems.{loads_alike}

pub returns : goal.returns
returns g c = loads_alike (length g.C.Core.words) g.C.Core.rule g.met.C.Core.stable
