use Rattle.resolution.proofs.declared_once.Goals as goal
use Rattle.resolution.proofs.Once.{declared_once}

pub returns : goal.returns
returns c = declared_once
