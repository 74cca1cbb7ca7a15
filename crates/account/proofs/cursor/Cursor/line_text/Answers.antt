use Rattle.std.proofs.Common.{arith}
use Rattle.account.proofs.Places.{line_small, line_is}
use Rattle.account.proofs.cursor.Cursor.line_text.Goals as goal

pub overflow_sub-start : goal.overflow_sub-start
overflow_sub-start c = omega (arith, (line_small c.args.self.text.now c.args.self.place c.args.self.within).1)

pub returns : goal.returns
returns c =
    let self = c.args.self in
    line_is self.text.now self.place self.position.column c.before_feed.result self.reached (omega (arith, (line_small self.text.now self.place self.within).1)) c.before_feed.ensures.value
