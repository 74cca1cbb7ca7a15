use Rattle.std.proofs.Common.{length}
use Rattle.project_rules.proofs.acceptance_law.Goals as goal
use Rattle.project_rules.proofs.Accepting.{acceptance_law}

pub returns : goal.returns
returns g c = acceptance_law (length g.C.Core.words) g.C.Core.rule g.met.C.Core.stable
