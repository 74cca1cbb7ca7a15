use Rattle.std.proofs.Common.{◌∙◌, arith}
use Rattle.std.proofs.lemmas.Grind.{common_steps}
use Rattle.store.specs.Layout.{stored}
use Rattle.store.specs.Units.{units}
use Rattle.store.proofs.Holding.{length_held}
use Rattle.project.specs.Loading.{unit_at}
use Rattle.project.proofs.Viewed.{named_needs, named_within, named_missing, rank_is}
use Rattle.project.proofs.stored.Stored.seen.Goals as goal

pub returns : goal.returns
returns g c =
    let s = c.args.self.now.store.now in
    let ws = g.C.Core.words in
    let text = (unit_at (units s) c.args.i).text in
    let f = c.named-found.result in
    let n = c.named-found.ensures in
    λ inside. record {
      rank = grind (arith, common_steps, rank_is);
      name = c.name.ensures;
      needs = named_needs ws s text f n;
      within = named_within ws s text f n (omega arith);
      misses = c.is_some.ensures ∙ (named_missing ws s text f n).1;
    }

pub returns-then-i-len : goal.returns-then-i-len
returns-then-i-len g c =
    let s = c.args.self.now.store.now in
    λ inside. absurd (omega (arith, inside, c.len.ensures, length_held (stored s) s))
