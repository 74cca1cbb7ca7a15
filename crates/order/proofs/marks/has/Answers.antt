use Rattle.std.proofs.Common.{sym, ◌∙◌}
use Rattle.std.proofs.lemmas.Bool.{le-ltb}
use Rattle.order.proofs.Bit.{bit_past}
use Rattle.order.proofs.marks.has.Goals as goal

pub returns-else-place-lt-MOST : goal.returns-else-place-lt-MOST
returns-else-place-lt-MOST c =
    le-ltb c.args.place 16 c.if-place-lt-MOST.false
    ∙ sym (bit_past c.args.marks 16 c.args.place c.ranges.marks.fits c.if-place-lt-MOST.false)
