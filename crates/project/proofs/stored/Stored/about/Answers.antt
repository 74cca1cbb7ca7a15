use Rattle.std.proofs.Common.{arith}
use Rattle.std.proofs.lemmas.Grind.{common_steps}
use Rattle.project.proofs.Viewed.{name_is}
use Rattle.project.proofs.stored.Stored.about.Goals as goal

pub returns : goal.returns
returns g c = grind (arith, common_steps, name_is)
