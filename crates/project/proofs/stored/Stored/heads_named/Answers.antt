use Rattle.store.specs.Layout.{stored}
use Rattle.project.proofs.Naming.{naming_more}
use Rattle.project.proofs.stored.Stored.heads_named.Goals as goal

pub loop-head-preserved : goal.loop-head-preserved
loop-head-preserved c =
    naming_more (stored c.args.self.now.store.now) c.args.text.now c.args.heads.now c.loop-head.head-index c.loop-head.found c.noted-found.result c.named_at.result
    c.loop-head-test.true c.loop-head.invariant c.named_at.ensures c.noted-found.ensures.needs c.noted-found.ensures.missing
