use Rattle.project_rules.proofs.view_means.Goals as goal
use Rattle.project_rules.proofs.Viewing.{view_means}

pub returns : goal.returns
returns c = view_means
