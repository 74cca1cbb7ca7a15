use Rattle.checker.proofs.first_failure_is_told.Goals as goal
use Rattle.checker.proofs.Settled.{first_failure}

pub returns : goal.returns
returns c = first_failure
