use Rattle.std.proofs.Common.{◌≡◌, length, Ok, rules}
use Rattle.reader.specs.Mentions.{heads_answer}
use Rattle.reader.specs.Named.{held}
use Rattle.reader.proofs.Heads.{heads_so, heads_inside}
use Rattle.reader.proofs.read.heads_of.Goals as goal

pub returns-in_err-found-clause-meaning : goal.returns-in_err-found-clause-meaning
returns-in_err-found-clause-meaning g c =
    let a : held c.from_residual.result ≡ heads_answer c.args.start g.C.Core.words c.args.text.now (length c.args.scratch.now) = search rules in
    heads_so c.args.start g.C.Core.words c.args.text.now (length c.args.scratch.now) (held c.from_residual.result) a

pub returns-clause-meaning : goal.returns-clause-meaning
returns-clause-meaning g c =
    let a : held (Ok c.in_ok-found.found.heads) ≡ heads_answer c.args.start g.C.Core.words c.args.text.now (length c.args.scratch.now) = search rules in
    heads_so c.args.start g.C.Core.words c.args.text.now (length c.args.scratch.now) (Ok c.in_ok-found.found.heads.now) a

pub returns-clause-inside : goal.returns-clause-inside
returns-clause-inside g c =
    let a : held (Ok c.in_ok-found.found.heads) ≡ heads_answer c.args.start g.C.Core.words c.args.text.now (length c.args.scratch.now) = search rules in
    heads_inside c.args.start g.C.Core.words c.args.text.now (length c.args.scratch.now) (Ok c.in_ok-found.found.heads.now) a
