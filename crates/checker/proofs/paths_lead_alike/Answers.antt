use Rattle.checker.proofs.paths_lead_alike.Goals as goal
use Rattle.checker.proofs.Fitted.{paths_lead_alike}

pub returns : goal.returns
returns c = paths_lead_alike
