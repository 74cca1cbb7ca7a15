use Rattle.resolution.proofs.units_named.Goals as goal
use Rattle.resolution.proofs.Named.{units_named}

pub returns : goal.returns
returns c = units_named
