use Rattle.std.proofs.Common.{length}
use Rattle.rules.proofs.sixth_rule_comes_last.Goals as goal
use Rattle.rules.proofs.Theorems.{sixth_rule_last}

pub returns : goal.returns
returns g c = sixth_rule_last (length g.C.Core.words) g.C.Core.rule g.met.C.Core.stable
