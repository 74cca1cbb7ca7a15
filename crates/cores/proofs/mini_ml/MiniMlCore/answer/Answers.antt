use Rattle.std.proofs.Common.{length, refl, ap, ◌∙◌}
use Rattle.cores.specs.Steps.{line_reply, line_leaves}
use Rattle.cores.specs.MiniMl.{ml_entries, ml_line}
use Rattle.cores.specs.Judging.{line_reply_lem, line_leaves_lem}
use Rattle.cores.specs.Shipped.{ml_fits}
use Rattle.cores.proofs.Tables.{language_lines}
use Rattle.cores.proofs.mini_ml.MiniMlCore.answer.Goals as goal

pub returns : goal.returns
returns c =
    let o = c.args.operation in
    let args = c.args.args.now in
    let out = c.args.out.now in
    record {
      result =
          c.answer_line.ensures.result ∙ ap (λ l. line_reply 0 l args (length out)) (c.line.ensures ∙ language_lines ml_line ml_entries _ (λ n. refl) refl refl refl o) ∙ line_reply_lem 0 (ml_line o) args (length out) (ml_fits o);
      left =
          c.answer_line.ensures.left ∙ ap (λ l. line_leaves 0 l args out) (c.line.ensures ∙ language_lines ml_line ml_entries _ (λ n. refl) refl refl refl o) ∙ line_leaves_lem (λ n. record { number = n }) 0 (ml_line o) args out (ml_fits o);
    }
