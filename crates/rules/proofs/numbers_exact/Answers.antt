use Rattle.std.proofs.Common.{length}
use Rattle.rules.proofs.numbers_exact.Goals as goal
use Rattle.rules.proofs.Theorems.{numbers_exact}

pub returns : goal.returns
returns g c = numbers_exact (length g.C.Core.words) g.C.Core.rule g.met.C.Core.stable
