use Rattle.std.proofs.Common.{◌≡◌, ℕ, ◌<◌, slice_index, ap, arith, rules}
use Rattle.std.proofs.lemmas.Iterator.{YieldsList-from_range}
use Rattle.order.specs.Rows.{joined, Rows}
use Rattle.order.specs.Seen.{bit, seen}
use Rattle.order.proofs.Chains.{kept_over}
use Rattle.order.proofs.Closure.{rows_more, rows_none}
use Rattle.order.proofs.few.Few.reached.Goals as goal

pub returns : goal.returns
returns c =
    let u = seen c.args.self.units.now in
    kept_over _ u.count (Rows u)
    (λ k a b q l h r.
    let t : (i j : ℕ) → i < 16 → bit (slice_index b i) j ≡ joined a k i j = search rules in
    (rows_more u k a b l c.args.self.few h t, search rules))
    _ c.all_needs.result c.fold.result
    (rows_none u c.all_needs.result (λ i j l. ap (λ r. bit r j) (c.all_needs.ensures i (omega (arith, c.args.self.few)))))
    c.fold.ensures.ran (YieldsList-from_range 0 u.count u.count (cc) (omega arith))
