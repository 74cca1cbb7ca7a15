use Rattle.rules.proofs.matching_is_reflexive.Goals as goal
use Rattle.rules.proofs.Theorems.{matching_reflexive}

pub returns : goal.returns
returns c = matching_reflexive
