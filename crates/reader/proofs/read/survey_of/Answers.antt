use Rattle.std.proofs.Common.{length, sym, ◌∙◌, arith}
use Rattle.reader.specs.Parsing.{start_of, outcome}
use Rattle.reader.specs.Reading.{reads, default_rank}
use Rattle.reader.specs.Streams.{stream_of}
use Rattle.reader.proofs.Means.{accepts, asked_in}
use Rattle.reader.proofs.read.survey_of.Goals as goal

pub go_through-requires-clause-accepted : goal.go_through-requires-clause-accepted
go_through-requires-clause-accepted g c = accepts c.args.start g.C.Core.words c.args.text.now c.in_ok-rank.rank c.in_ok-rank.ensures

pub returns-clause-rank : goal.returns-clause-rank
returns-clause-rank g c =
    c.in_ok-rank.ensures
    ∙ sym (asked_in (length c.args.scratch.now) (length c.args.text.now) (outcome (reads (start_of c.args.start) (stream_of g.C.Core.words c.args.text.now) default_rank)) (omega arith) (omega arith))
