use Rattle.std.proofs.Common.{rules}
use borrow.Author.Tests.{tests}
use Rattle.order.specs.Seen.{bit, seen}
use Rattle.order.proofs.Runs.{readied}
use Rattle.order.proofs.picking.ready.Goals as goal

pub returns-then-not-lacks-clause-law : goal.returns-then-not-lacks-clause-law
returns-then-not-lacks-clause-law c =
    (readied (seen c.args.units.now) (bit c.args.placed) c.args.i c.within.result (search (rules, tests))).law
