use Rattle.checker.proofs.numbers_are_places.Goals as goal
use Rattle.checker.proofs.Placing.{numbers_are_places}

pub returns : goal.returns
returns g c = numbers_are_places g.C.Core.rule
