use Rattle.resolution.proofs.heads_around.Goals as goal
use Rattle.resolution.proofs.Around.{heads_around}

pub returns : goal.returns
returns c = heads_around
