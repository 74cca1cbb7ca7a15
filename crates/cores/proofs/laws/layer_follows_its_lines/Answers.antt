use Rattle.std.proofs.Common.{length}
use Rattle.cores.proofs.Lawful.{own_written, own_first, below_kept, above_first}
use Rattle.cores.proofs.laws.layer_follows_its_lines.Goals as goal

pub returns : goal.returns
returns g c =
    let es = g.L.Layer.entries in
    let b = length g.C.Core.words in
    let below = g.C.Core.rule in
    record {
      gives = own_written es b below g.met.L.Layer.closed;
      refuses = own_first es b below;
      keeps = below_kept es b below;
      all = above_first es b below;
    }
