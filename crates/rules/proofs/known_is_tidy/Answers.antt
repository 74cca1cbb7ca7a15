use Rattle.std.proofs.Common.{length}
use Rattle.rules.proofs.known_is_tidy.Goals as goal
use Rattle.rules.proofs.Theorems.{known_is_tidy}

pub returns : goal.returns
returns g c = known_is_tidy (length g.C.Core.words) g.C.Core.rule g.met.C.Core.stable
