use Rattle.std.proofs.Common.{length, ap, ◌∙◌, arith}
use Rattle.reader.specs.Codes.{symbol_number}
use Rattle.reader.specs.Frames.{attr_of}
use Rattle.reader.proofs.Framed.{frame_within, frame_put, five_long}
use Rattle.reader.proofs.frame.Frames.push.Goals as goal

pub write_frame-requires : goal.write_frame-requires
write_frame-requires c = frame_within _ _ c.args.self.now c.self.view_is c.requires

pub invariant_of-self : goal.invariant_of-self
invariant_of-self c =
    let h = frame_within _ _ c.args.self.now c.self.view_is c.requires in
    let l = ap length c.write_frame.ensures
    ∙ five_long c.self.inside.words.now c.self.inside.depth (symbol_number c.args.symbol) c.args.frame.inner.opened c.args.frame.inner.scope c.args.frame.outer.opened c.args.frame.outer.scope in
    omega (arith, l)

pub returns : goal.returns
returns c = frame_put _ _ c.args.self.now c.args.symbol (attr_of c.args.frame) _ c.self.view_is (frame_within _ _ c.args.self.now c.self.view_is c.requires) c.write_frame.ensures
