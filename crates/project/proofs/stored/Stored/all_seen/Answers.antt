use Rattle.std.proofs.Common.{◌≡◌, ◌<◌, length, rules, refl, arith}
use Rattle.order.specs.Seen.{nobody}
use Rattle.store.specs.Layout.{stored}
use Rattle.store.specs.Units.{units}
use Rattle.store.proofs.Holding.{length_held}
use Rattle.project.specs.Naming.{UnitSeen}
use Rattle.project.proofs.Made.{made_each}
use Rattle.project.proofs.Viewed.{few_units}
use Rattle.project.proofs.stored.Stored.all_seen.Goals as goal

pub returns : goal.returns
returns g c = λ i h.
    let s = c.args.self.now.store.now in
    made_each _ (λ f. f.0.now ≡ c.args.self.now) (λ k u. k < length (units s) → UnitSeen g.C.Core.words (units s) k u)
    (λ p q k y same called. search rules)
    16 _ c.from_fn.result 0 refl c.from_fn.ensures.items.each i nobody (omega arith) (omega (arith, h, few_units s, length_held (stored s) s)) h
