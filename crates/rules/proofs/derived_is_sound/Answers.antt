use Rattle.std.proofs.Common.{length}
use Rattle.rules.proofs.derived_is_sound.Goals as goal
use Rattle.rules.proofs.Theorems.{derived_is_sound}

pub returns : goal.returns
returns g c = derived_is_sound (length g.C.Core.words) g.C.Core.rule g.met.C.Core.stable
