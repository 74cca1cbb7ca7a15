use Rattle.rules.proofs.no_mismatch_matches.Goals as goal
use Rattle.rules.proofs.Theorems.{no_mismatch_matches}

pub returns : goal.returns
returns c = no_mismatch_matches
