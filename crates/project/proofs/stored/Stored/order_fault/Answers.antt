use Rattle.std.proofs.Common.{arith}
use Rattle.std.proofs.lemmas.Grind.{common_steps}
use Rattle.store.specs.Units.{units}
use Rattle.project.specs.Loading.{unit_at}
use Rattle.project.proofs.Viewed.{named_missing}
use Rattle.project.proofs.stored.Stored.order_fault.Goals as goal

pub returns-in-Missing : goal.returns-in-Missing
returns-in-Missing g c =
    let s = c.args.self.now.store.now in
    let told = (named_missing g.C.Core.words s (unit_at (units s) c.in-Missing.i).text c.named-found.result c.named-found.ensures).0 in
    grind (arith, common_steps, told)
