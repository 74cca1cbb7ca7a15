use Rattle.resolution.proofs.places_stand.Goals as goal
use Rattle.resolution.proofs.Standing.{places_stand}

pub returns : goal.returns
returns c = places_stand
