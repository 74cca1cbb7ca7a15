use Rattle.reader.proofs.Framed.{frame_pop, frame_top}
use Rattle.reader.specs.Frames.{attr_of}
use Rattle.reader.proofs.frame.Frames.top.Goals as goal

pub returns : goal.returns
returns c =
    let t = frame_top c.args.self.now c.read_frame.result.0 (attr_of c.read_frame.result.1) _ _ _
    (frame_pop _ _ c.args.self.now c.read_frame.result.0 (attr_of c.read_frame.result.1) c.self.view_is c.requires c.read_frame.ensures.symbol c.read_frame.ensures.attr) in
    record { symbol = t.0; attr = t.1 }
