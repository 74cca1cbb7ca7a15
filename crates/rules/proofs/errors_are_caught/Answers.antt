use Rattle.rules.proofs.errors_are_caught.Goals as goal
use Rattle.rules.proofs.Sampling.{errors_caught}

pub returns : goal.returns
returns c = errors_caught c.check_decides.ensures
