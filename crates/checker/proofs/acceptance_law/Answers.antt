use Rattle.std.proofs.Common.{length}
use Rattle.checker.proofs.acceptance_law.Goals as goal
use Rattle.checker.proofs.Loading.{acceptance_law}

pub returns : goal.returns
returns g c = acceptance_law (length g.C.Core.words) g.C.Core.rule g.met.C.Core.stable
