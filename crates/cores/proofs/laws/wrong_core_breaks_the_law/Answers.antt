use Rattle.cores.proofs.Lawful.{wrong_breaks}
use Rattle.cores.proofs.laws.wrong_core_breaks_the_law.Goals as goal

pub returns : goal.returns
returns c = wrong_breaks
