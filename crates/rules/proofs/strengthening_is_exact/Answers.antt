use Rattle.rules.proofs.strengthening_is_exact.Goals as goal
use Rattle.rules.proofs.Theorems.{strengthening_exact}

pub returns : goal.returns
returns c = strengthening_exact
