use Rattle.std.proofs.Common.{length}
use Rattle.checker.proofs.check_decides.Goals as goal
use Rattle.checker.proofs.Loading.{check_decides}

pub returns : goal.returns
returns g c = check_decides (length g.C.Core.words) g.C.Core.rule g.met.C.Core.stable
