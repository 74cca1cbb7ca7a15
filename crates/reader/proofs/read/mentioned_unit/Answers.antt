use Rattle.std.proofs.Common.{◌≡◌, length, Ok, rules}
use Rattle.reader.specs.Mentions.{mention_answer}
use Rattle.reader.specs.Named.{mentioned}
use Rattle.reader.proofs.Mentioned.{mention_so}
use Rattle.reader.proofs.read.mentioned_unit.Goals as goal

pub returns-in_err-found-clause-meaning : goal.returns-in_err-found-clause-meaning
returns-in_err-found-clause-meaning g c =
    let a : mentioned c.from_residual.result ≡ mention_answer g.C.Core.words c.args.text.now (length c.args.scratch.now) c.args.from = search rules in
    mention_so g.C.Core.words c.args.text.now (length c.args.scratch.now) c.args.from (mentioned c.from_residual.result) a

pub returns-clause-meaning : goal.returns-clause-meaning
returns-clause-meaning g c =
    let a : mentioned (Ok c.and_then.result) ≡ mention_answer g.C.Core.words c.args.text.now (length c.args.scratch.now) c.args.from = search rules in
    mention_so g.C.Core.words c.args.text.now (length c.args.scratch.now) c.args.from (mentioned (Ok c.and_then.result)) a
