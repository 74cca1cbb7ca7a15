use Rattle.std.proofs.Common.{◌+◌, ◌-◌, ◌*◌, length, get_or, take, sym, ap, ◌∙◌, subst, add-one, arith, false-eqb}
use mathlib.Core.Bool.{false≢true}
use Rattle.std.proofs.lemmas.List.{take_all}
use Rattle.std.proofs.lemmas.List.Sums.{fold_more}
use Rattle.tokens.specs.Bytes.{is_digit}
use Rattle.tokens.specs.Integers.{decimal}
use Rattle.tokens.specs.Pieces.{All}
use Rattle.tokens.proofs.Decimals.{all_at, all_more, digit_small, below_power, next_power}
use Rattle.tokens.proofs.integer.value_of.Goals as goal

pub returns-then-not-takes : goal.returns-then-not-takes
returns-then-not-takes c =
    λ digits. false≢true (c.if-not-takes.ensures ∙ all_at is_digit c.args.bytes.now c.loop-b.b-index digits.0 (omega arith))

pub overflow_mul-value : goal.overflow_mul-value
overflow_mul-value c = omega (arith, below_power c.loop-b.value c.loop-b.b-index 8 c.loop-b.invariant.2 (omega arith))

pub overflow_add-value : goal.overflow_add-value
overflow_add-value c =
    let digit = digit_small (get_or c.args.bytes.now c.loop-b.b-index 0) (sym c.if-not-takes.ensures) in
    omega (arith, below_power c.loop-b.value c.loop-b.b-index 8 c.loop-b.invariant.2 (omega arith), digit.1, c.from.ensures)

pub loop-b-preserved : goal.loop-b-preserved
loop-b-preserved c =
    let bs = c.args.bytes.now in
    let i = c.loop-b.b-index in
    let digit = sym c.if-not-takes.ensures in
    let worth = c.from.ensures in
    let small = (digit_small (get_or bs i 0) digit).1 in (
      rw add-one (all_more is_digit bs i c.loop-b.invariant.0 (omega arith) digit),
      ap (λ n. n * 10 + c.from.result) c.loop-b.invariant.1 ∙ ap (λ d. decimal (take i bs) * 10 + d) worth ∙ sym (fold_more (λ n b. n * 10 + (b - 48)) 0 bs i 0 (omega arith)),
      rw (add-one i) (next_power c.loop-b.value c.from.result i c.loop-b.invariant.2 (omega arith)),
    )

pub returns : goal.returns
returns c =
    let bs = c.args.bytes.now in
    let i = c.loop-b.b-index in
    let all = take_all i bs (omega arith) in
    let some = false-eqb (length bs) 0 c.if-is_empty.ensures in (
      (subst (All is_digit) all c.loop-b.invariant.0, omega arith, omega arith),
      c.loop-b.invariant.1 ∙ ap decimal all,
      below_power c.loop-b.value i 9 c.loop-b.invariant.2 (omega arith),
    )
