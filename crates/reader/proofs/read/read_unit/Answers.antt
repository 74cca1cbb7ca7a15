use Rattle.std.proofs.Common.{◌≡◌, length, Ok, rules, arith}
use Rattle.reader.specs.Answers.{headed, unit_answer}
use Rattle.reader.specs.Parsing.{outcome}
use Rattle.reader.specs.Reading.{reads, unit_start, default_rank}
use Rattle.reader.specs.Streams.{stream_of}
use Rattle.reader.proofs.Means.{unit_so, rank_fits}
use Rattle.reader.proofs.read.read_unit.Goals as goal

pub returns-in_err-found-clause-meaning : goal.returns-in_err-found-clause-meaning
returns-in_err-found-clause-meaning g c =
    let a : headed c.from_residual.result ≡ unit_answer g.C.Core.words c.args.text.now (length c.args.scratch.now) = search rules in
    unit_so g.C.Core.words c.args.text.now (length c.args.scratch.now) (headed c.from_residual.result) a

pub returns-in_err-verdict-clause-meaning : goal.returns-in_err-verdict-clause-meaning
returns-in_err-verdict-clause-meaning g c =
    let a : headed c.from_residual-in_err-verdict.result ≡ unit_answer g.C.Core.words c.args.text.now (length c.args.scratch.now) = search rules in
    unit_so g.C.Core.words c.args.text.now (length c.args.scratch.now) (headed c.from_residual-in_err-verdict.result) a

pub returns-in_err-name-clause-meaning : goal.returns-in_err-name-clause-meaning
returns-in_err-name-clause-meaning g c =
    let a : headed c.from_residual-in_err-name.result ≡ unit_answer g.C.Core.words c.args.text.now (length c.args.scratch.now) = search rules in
    unit_so g.C.Core.words c.args.text.now (length c.args.scratch.now) (headed c.from_residual-in_err-name.result) a

pub overflow_cast-result : goal.overflow_cast-result
overflow_cast-result g c =
    let r : Ok c.in_ok-found.found.rank ≡ outcome (reads unit_start (stream_of g.C.Core.words c.args.text.now) default_rank) = search rules in
    let h = rank_fits (stream_of g.C.Core.words c.args.text.now) c.in_ok-found.found.rank r in
    omega arith

pub returns-clause-meaning : goal.returns-clause-meaning
returns-clause-meaning g c =
    let a : Ok (record { name = c.in_ok-name.name.now; place = c.in_ok-name.place; rank = c.in_ok-found.found.rank }) ≡ unit_answer g.C.Core.words c.args.text.now (length c.args.scratch.now) = search rules in
    unit_so g.C.Core.words c.args.text.now (length c.args.scratch.now) (Ok (record { name = c.in_ok-name.name.now; place = c.in_ok-name.place; rank = c.in_ok-found.found.rank })) a
