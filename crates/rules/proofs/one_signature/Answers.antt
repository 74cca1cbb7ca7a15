use Rattle.std.proofs.Common.{length}
use Rattle.rules.proofs.one_signature.Goals as goal
use Rattle.rules.proofs.Theorems.{one_signature}

pub returns : goal.returns
returns g c = one_signature (length g.C.Core.words) g.C.Core.rule g.met.C.Core.stable
