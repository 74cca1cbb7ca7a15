use Rattle.checker.proofs.signature_matches_itself.Goals as goal
use Rattle.checker.proofs.Itself.{matches_itself}

pub returns : goal.returns
returns c = matches_itself
