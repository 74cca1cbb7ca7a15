use Rattle.order.proofs.Placed.{all_within}
use Rattle.order.proofs.marks.within.Goals as goal

pub returns : goal.returns
returns c = all_within c.args.needs c.args.placed
