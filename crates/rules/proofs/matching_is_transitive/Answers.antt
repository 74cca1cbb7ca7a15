use Rattle.rules.proofs.matching_is_transitive.Goals as goal
use Rattle.rules.proofs.Theorems.{matching_transitive}

pub returns : goal.returns
returns c = matching_transitive
