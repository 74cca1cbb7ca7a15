use Rattle.std.proofs.Common.{length}
use Rattle.rules.proofs.derived_exactly.Goals as goal
use Rattle.rules.proofs.Theorems.{derived_exactly}

pub returns : goal.returns
returns g c = derived_exactly (length g.C.Core.words) g.C.Core.rule g.met.C.Core.stable
