use Rattle.resolution.proofs.signatures_named.Goals as goal
use Rattle.resolution.proofs.Named.{signatures_named}

pub returns : goal.returns
returns c = signatures_named
