use Rattle.std.proofs.Common.{sym, refl, subst, arith, rules}
use Rattle.order.specs.Picking.{next, also}
use Rattle.order.specs.Seen.{bit, seen}
use Rattle.order.proofs.Turns.{Turns, picked_left, picked_none, picked_some, turns_more, turns_none, turns_stop}
use Rattle.order.proofs.few.Few.in_turn.Goals as goal

pub loop-place-init : goal.loop-place-init
loop-place-init c =
    let u = seen c.args.self.units.now in
    subst (λ o. Turns u o (bit 0)) (sym c.new-order.ensures) (turns_none u (bit 0) (λ j. search rules))

pub push-requires : goal.push-requires
push-requires c =
    let placed = bit c.loop-place.placed in
    omega (
      arith,
      c.args.self.few,
      c.loop-place.invariant.left,
      picked_left (seen c.args.self.units.now) c.in-Some.place placed (also placed c.in-Some.place) c.in-Some.ensures.law.1 (λ j. refl),
    )

pub loop-place-smaller : goal.loop-place-smaller
loop-place-smaller c =
    omega (
      arith,
      picked_left (seen c.args.self.units.now) c.in-Some.place (bit c.loop-place.placed) (bit c.with-placed.result) c.in-Some.ensures.law.1 c.with-placed.ensures,
    )

pub loop-place-preserved : goal.loop-place-preserved
loop-place-preserved c =
    let u = seen c.args.self.units.now in
    let placed = bit c.loop-place.placed in
    subst (λ o. Turns u o (bit c.with-placed.result)) (sym c.push.ensures)
    (turns_more u c.in-Some.place c.loop-place.order placed (bit c.with-placed.result)
    c.in-Some.ensures.law.1 c.loop-place.invariant
    (picked_some u (next u placed) (c.in-Some.field-0-0, c.in-Some.place) c.in-Some.ensures.value)
    c.with-placed.ensures)

pub returns : goal.returns
returns c =
    let u = seen c.args.self.units.now in
    let placed = bit c.loop-place.placed in
    turns_stop u c.loop-place.order placed c.loop-place.invariant (picked_none u (next u placed) c.in_default.ensures.value)
