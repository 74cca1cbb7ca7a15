use Rattle.reader.proofs.Framed.{frame_below}
use Rattle.reader.specs.Frames.{attr_of}
use Rattle.reader.proofs.frame.Frames.pop.Goals as goal

pub returns : goal.returns
returns c = frame_below _ _ c.args.self.now c.top-top.result.0 (attr_of c.top-top.result.1) c.self.view_is c.top-top.ensures.symbol c.top-top.ensures.attr
