use Rattle.std.proofs.Common.{ap, length, arith}
use Rattle.reader.proofs.Outward.{scope_goes}
use Rattle.reader.proofs.row.ScopeIterator.next.Goals as goal

pub returns-clause-steps : goal.returns-clause-steps
returns-clause-steps c = scope_goes c.args.self.now c.in_ok-at.at c.parent_at-self.result c.entry_at.result (omega arith) (omega arith) c.parent_at-self.ensures c.entry_at.ensures

pub returns-clause-goes : goal.returns-clause-goes
returns-clause-goes c =
    let s = scope_goes c.args.self.now c.in_ok-at.at c.parent_at-self.result c.entry_at.result (omega arith) (omega arith) c.parent_at-self.ensures c.entry_at.ensures in
    let shorter = ap length s in omega (arith, shorter)
