use Rattle.std.proofs.Common.{◌≡◌, length, rules}
use Rattle.reader.specs.Answers.{signature_answer}
use Rattle.reader.proofs.Means.{signature_so}
use Rattle.reader.proofs.read.read_signature.Goals as goal

pub returns-in_err-found-clause-meaning : goal.returns-in_err-found-clause-meaning
returns-in_err-found-clause-meaning g c =
    let a : c.from_residual.result ≡ signature_answer g.C.Core.words c.args.text.now (length c.args.scratch.now) = search rules in
    signature_so g.C.Core.words c.args.text.now (length c.args.scratch.now) c.from_residual.result a

pub returns-clause-meaning : goal.returns-clause-meaning
returns-clause-meaning g c =
    let a : c.verdict.result ≡ signature_answer g.C.Core.words c.args.text.now (length c.args.scratch.now) = search rules in
    signature_so g.C.Core.words c.args.text.now (length c.args.scratch.now) c.verdict.result a
