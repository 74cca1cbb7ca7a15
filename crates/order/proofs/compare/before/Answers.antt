use Rattle.std.proofs.Common.{arith}
use Rattle.std.proofs.lemmas.Bool.Decides.{nat_tests}
use Rattle.order.specs.Seen.{seen}
use Rattle.order.proofs.Precedence.{preceded}
use Rattle.order.proofs.compare.before.Goals as goal

pub returns-then-a-b-2-clause-law : goal.returns-then-a-b-2-clause-law
returns-then-a-b-2-clause-law c =
    (preceded (seen c.args.units.now) c.args.a c.args.b c.name_before.result (grind (arith, nat_tests))).law
