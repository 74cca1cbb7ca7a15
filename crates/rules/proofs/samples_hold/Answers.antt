use Rattle.rules.proofs.samples_hold.Goals as goal
use Rattle.rules.proofs.Sampling.{samples}

pub returns : goal.returns
returns c = samples c.check_decides.ensures c.fit_decides.ensures
