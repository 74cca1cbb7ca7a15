use Rattle.rules.proofs.mismatch_is_first.Goals as goal
use Rattle.rules.proofs.Theorems.{mismatch_is_first}

pub returns : goal.returns
returns c = mismatch_is_first
