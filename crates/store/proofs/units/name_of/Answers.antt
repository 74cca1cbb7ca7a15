use Rattle.std.proofs.Common.{arith}
use Rattle.store.proofs.Reading.{within_text, name_told}
use Rattle.store.proofs.units.name_of.Goals as goal

pub slice_bounds-result-end : goal.slice_bounds-result-end
slice_bounds-result-end c =
    let h = c.in_ok-e.ensures in
    omega (arith, (within_text c.args.store.now c.in_ok-e.text.now c.args.k c.in_ok-e.e h.0 h.1.0 h.1.1).0)

pub returns : goal.returns
returns c =
    let h = c.in_ok-e.ensures in
    name_told c.args.store.now c.in_ok-e.text.now c.args.k c.in_ok-e.at c.from-place.result c.from.result c.in_ok-e.e h.0 h.1.0 h.1.1 h.1.2.0 h.1.2.1 c.from-place.ensures c.from.ensures
