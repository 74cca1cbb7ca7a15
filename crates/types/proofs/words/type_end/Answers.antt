use Rattle.std.proofs.Common.{◌≡◌, arith}
use Rattle.std.proofs.lemmas.Grind.{common_steps}
use Rattle.types.specs.Words.{span}
use Rattle.types.proofs.Ends.{ending_none}
use Rattle.types.proofs.Encodings.{first_type}
use Rattle.types.proofs.words.type_end.Goals as goal

pub returns-then-wanted-eq0 : goal.returns-then-wanted-eq0
returns-then-wanted-eq0 c =
    let e = ending_none c.args.words.now c.loop-i.i c.loop-i.wanted c.loop-i.invariant.0 (omega arith) in
    record { end = e; means = first_type c.args.words.now (λ i. omega (arith, c.type_inv.words i)) _ e }

pub returns-clause-means : goal.returns-clause-means
returns-clause-means c =
    let e : c.then_some.result ≡ span c.args.words.now 1 = grind (arith, common_steps) in
    first_type c.args.words.now (λ i. omega (arith, c.type_inv.words i)) _ e
