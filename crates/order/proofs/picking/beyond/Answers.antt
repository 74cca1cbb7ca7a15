use Rattle.std.proofs.Common.{not, sym, ap, ◌∙◌}
use Rattle.std.proofs.lemmas.Bool.{le-ltb}
use Rattle.order.proofs.Placed.{none_beyond}
use Rattle.order.proofs.picking.beyond.Goals as goal

pub returns-else-count-lt-MOST : goal.returns-else-count-lt-MOST
returns-else-count-lt-MOST c =
    le-ltb c.args.count 16 c.if-count-lt-MOST.false
    ∙ sym (ap not (none_beyond c.args.count c.args.marks c.ranges.marks.fits c.if-count-lt-MOST.false))
