use Rattle.std.proofs.Common.{arith, length-set}
use Rattle.reader.proofs.StackWords.{put_within, put}
use Rattle.reader.proofs.stack.Stack.push.Goals as goal

pub bounds-self-inside-self-inside : goal.bounds-self-inside-self-inside
bounds-self-inside-self-inside c = put_within _ _ c.args.self.now c.self.view_is c.requires

pub invariant_of-self : goal.invariant_of-self
invariant_of-self c =
    let h = put_within _ _ c.args.self.now c.self.view_is c.requires in
    omega (arith, length-set c.self.inside.words.now c.self.inside.depth c.from.result)

pub returns : goal.returns
returns c = put _ _ c.args.self.now _ _ c.self.view_is (put_within _ _ c.args.self.now c.self.view_is c.requires) c.from.ensures
