use Rattle.std.proofs.Common.{◌≡◌, ◌+◌, ◌-◌, min, length, take, drop, sym, ap, ◌∙◌, arith}
use Rattle.std.proofs.lemmas.Grind.{common_steps}
use Rattle.account.specs.declared.cursor.Position.{Position}
use Rattle.account.proofs.Places.{behind_feed, behind_other, line_small, passed_at}
use Rattle.account.proofs.cursor.Cursor.forward.Goals as goal
use Rattle.account.proofs.cursor.Cursor.forward.Goals.{then-b-eq10, else-b-eq10}

pub overflow_add-position-else-b-eq10 : goal.overflow_add-position-else-b-eq10
overflow_add-position-else-b-eq10 c =
    let text = c.args.self.text.now in
    let from = c.args.self.place in
    let passed : c.unwrap_or-passed.result.now ≡ take (min c.args.place (length text) - from) (drop from text) = grind (arith, common_steps) in
    let here = passed_at text _ from c.args.place c.loop-b.b-index passed c.loop-b-test.true in
    omega (arith, here.0, c.loop-b.invariant.1, (line_small text (from + c.loop-b.b-index) (omega (arith, here.0))).1, c.args.self.within)

pub loop-b-preserved : goal.loop-b-preserved
loop-b-preserved c =
    let text = c.args.self.text.now in
    let from = c.args.self.place in
    let at = from + c.loop-b.b-index in
    let passed : c.unwrap_or-passed.result.now ≡ take (min c.args.place (length text) - from) (drop from text) = grind (arith, common_steps) in
    let here = passed_at text _ from c.args.place c.loop-b.b-index passed c.loop-b-test.true in
    let on : from + (c.loop-b.b-index + 1) ≡ at + 1 = omega arith in
    rw on
    elim c.if-b-eq10.branch [
      | then-b-eq10 w ↦
          let next = behind_feed text at here.0 (sym here.1 ∙ w.if-b-eq10.true) in
          (omega (arith, next.0, ap (λ (p : Position). p.line) w.position-is), omega (arith, next.1, ap (λ (p : Position). p.column) w.position-is))
      | else-b-eq10 w ↦
          let next = behind_other text at here.0 (λ e. w.if-b-eq10.false (here.1 ∙ e)) in
          (omega (arith, next.0, ap (λ (p : Position). p.line) w.position-is), omega (arith, next.1, ap (λ (p : Position). p.column) w.position-is))
    ]
