use Rattle.std.proofs.Common.{length}
use Rattle.rules.proofs.checked_is_own.Goals as goal
use Rattle.rules.proofs.Theorems.{checked_is_own}

pub returns : goal.returns
returns g c = checked_is_own (length g.C.Core.words) g.C.Core.rule g.met.C.Core.stable
