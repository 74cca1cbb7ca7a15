use Rattle.std.proofs.Common.{◌∙◌, slice_index, rules}
use borrow.Author.Tests.{tests}
use Rattle.order.specs.Compare.{by_name}
use Rattle.order.specs.Reaching.{cyclic}
use Rattle.order.specs.Seen.{bit, seen}
use Rattle.order.proofs.LeastOf.{best_same}
use Rattle.order.proofs.few.Few.cycle.Goals as goal

pub returns : goal.returns
returns c =
    let u = seen c.args.self.units.now in
    c.least_named.ensures (λ i. bit (slice_index c.reached-rows.result i) i) (λ i b p. search (rules, tests))
    ∙ best_same (λ i. bit (slice_index c.reached-rows.result i) i) (cyclic u) (by_name u) u.count (λ i l. c.reached-rows.ensures i i l l)
