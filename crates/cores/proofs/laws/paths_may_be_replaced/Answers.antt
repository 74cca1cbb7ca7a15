use Rattle.std.proofs.Common.{length}
use Rattle.cores.proofs.Lawful.{stable_paths}
use Rattle.cores.proofs.laws.paths_may_be_replaced.Goals as goal

pub returns : goal.returns
returns g c = stable_paths (length g.C.Core.words) g.C.Core.rule g.met.C.Core.stable
