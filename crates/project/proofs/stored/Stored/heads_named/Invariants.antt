use Rattle.std.proofs.Common.{take}
use Rattle.store.specs.Layout.{stored}
use Rattle.project.specs.Naming.{NamingOf}
use Rattle.project.proofs.stored.Stored.heads_named.Given as goal

abbrev pub invariant-loop-head : goal.invariant-loop-head
invariant-loop-head l = NamingOf (stored l.self.store.now) l.text (take l.head-index l.heads) l.found
