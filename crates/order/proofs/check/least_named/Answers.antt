use Rattle.std.proofs.Common.{◌∙◌, rules, arith}
use Rattle.std.proofs.lemmas.Iterator.{YieldsList-from_range}
use Rattle.std.proofs.lemmas.Iterator.Consumers.{YieldsList-from_filter}
use borrow.Author.Tests.{tests}
use Rattle.order.specs.Compare.{by_name}
use Rattle.order.specs.Seen.{seen}
use Rattle.order.proofs.Chains.{reduce_from_chain, best_from_range, better}
use Rattle.order.proofs.check.least_named.Goals as goal

pub returns : goal.returns
returns g c mark acts =
    let u = seen c.args.units.now in
    reduce_from_chain _ (better (by_name u)) (λ x y r q k. search (rules, tests)) c.filter.result c.reduce.result c.reduce.ensures.ran
    (YieldsList-from_filter _ mark (YieldsList-from_range 0 u.count u.count (cc) (omega arith)) c.filter.ensures.closure (λ x b q k. search (rules, tests, acts)))
    ∙ best_from_range mark (by_name u) u.count
