use Rattle.std.proofs.Common.{◌∙◌}
use Rattle.order.proofs.Comparing.{compared_is}
use Rattle.order.proofs.Precedence.{named}
use Rattle.order.proofs.compare.compare_names.Goals as goal

pub returns : goal.returns
returns c = named c.args.a.now c.args.b.now c.cmp.result (c.cmp.ensures ∙ compared_is c.args.a.now c.args.b.now)
