use Rattle.std.proofs.Common.{◌∙◌, sym, ap, zero-add, rules}
use Rattle.std.specs.List.{reduce}
use Rattle.std.proofs.lemmas.Iterator.{YieldsList-from_slice, YieldsList-from_map}
use Rattle.std.proofs.lemmas.Iterator.Consumers.{YieldsList-from_enumerate, YieldsList-from_filter, YieldsList-at}
use borrow.Author.Tests.{tests}
use Rattle.order.specs.Compare.{tuple_before}
use Rattle.order.specs.Picking.{ready}
use Rattle.order.specs.Seen.{bit, seen, nobody}
use Rattle.order.proofs.Chains.{reduce_from_chain, ranked_places, better, best_tuple}
use Rattle.order.proofs.Existence.{picked_all}
use Rattle.order.proofs.picking.pick.Goals as goal

pub returns : goal.returns
returns c =
    let u = seen c.args.units.now in
    let mark = ready u (bit c.args.placed) in
    picked_all u (bit c.args.placed) c.reduce.result
    (reduce_from_chain _ (better (tuple_before u)) (λ x y r q k. search (rules, tests)) c.map.result c.reduce.result c.reduce.ensures.ran
    (YieldsList-from_map _ (λ p. (p.1.rank, p.0))
    (YieldsList-at c.map.ensures.source
    (YieldsList-from_filter _ (λ p. mark p.0)
    (YieldsList-at c.filter.ensures.source
    (YieldsList-from_enumerate (YieldsList-from_slice c.args.units.now cc) (cc)))
    c.filter.ensures.closure (λ x b q k. search (rules, tests))))
    c.map.ensures.closure (λ x r q k. search (rules, tests)))
    ∙ ap (reduce (better (tuple_before u))) (ranked_places nobody (λ x. x.rank) mark u.rank c.args.units.now 0 (λ k l. ap u.rank (sym (zero-add k))))
    ∙ best_tuple u mark u.count)
