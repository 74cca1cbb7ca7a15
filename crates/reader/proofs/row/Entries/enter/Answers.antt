use Rattle.std.proofs.Common.{Option, sym, ap, ◌∙◌, subst, arith}
use Rattle.reader.specs.declared.scope.Binder.{Binder}
use Rattle.reader.specs.Firsts.{EnteredRow}
use Rattle.reader.specs.Frames.{four_at}
use Rattle.reader.specs.Rows.{Entered, binder_number}
use Rattle.reader.proofs.Appended.{appended}
use Rattle.reader.proofs.row.Entries.enter.Goals as goal

pub returns-in-Some-clause-entered : goal.returns-in-Some-clause-entered
returns-in-Some-clause-entered c =
    let count = ap (λ (x : Entered). x.count) c.self.view_is in
    subst (λ (o : Option Binder). EnteredRow c.args.self.now.words c.append-self-inside.new.words c.args.self.now.count o c.args.parent c.args.from c.args.end c.append-self-inside.result c.append-self-inside.result)
    (sym c.in-Some.is)
    (appended c.args.self.now.words c.append-self-inside.new.words c.args.self.now.count c.in-Some.b c.args.parent c.args.from c.args.end c.append-self-inside.result
    (omega arith) (omega arith) (omega (arith, count))
    (c.append-self-inside.ensures.row ∙ ap (λ (x : Entered). four_at x.words x.count (binder_number c.in-Some.b) c.args.parent c.args.from c.args.end) c.self.view_is))
