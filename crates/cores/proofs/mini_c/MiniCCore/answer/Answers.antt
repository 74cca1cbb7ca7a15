use Rattle.std.proofs.Common.{◌≡◌, ℕ, length, Ok, Err, Result, refl, ap, ◌∙◌, rules, MatchResult, IsErrAnd}
use Rattle.cores.specs.Steps.{line_leaves}
use Rattle.cores.specs.MiniC.{c_entries, c_line, pointer_at, c_refusal}
use Rattle.cores.specs.Judging.{line_leaves_lem}
use Rattle.cores.specs.Shipped.{c_fits, c_outcome, c_reply}
use Rattle.cores.specs.declared.interface.Refusal.{Refusal}
use Rattle.cores.specs.declared.interface.Operation.{Operation}
use Rattle.cores.specs.declared.lines.Position.{Position}
use Rattle.cores.specs.declared.mini_c.CCause.{CCause}
use Rattle.cores.proofs.Tables.{language_lines}
use Rattle.cores.proofs.mini_c.MiniCCore.answer.Goals as goal

outcome : (o : Operation) (r : Result ℕ (Refusal Position)) (m : Result ℕ (Refusal CCause)) →
    MatchResult r (λ x. m ≡ Ok x) (λ e. IsErrAnd m (λ d. d ≡ c_refusal o e)) → m ≡ c_outcome o r
outcome o (Ok n) m h = h
outcome o (Err e) (Ok n) h = absurd h
outcome o (Err e) (Err d) h = ap Err h

pub returns : goal.returns
returns c =
    let o = c.args.operation in
    let args = c.args.args.now in
    let out = c.args.out.now in
    let e = c.line.ensures ∙ language_lines c_line c_entries _ (λ n. refl) refl refl refl o in
    record {
      result =
          outcome o c.answer_line.result c.map_err.result (search rules)
          ∙ c_reply o args (length out) c.answer_line.result _ c.answer_line.ensures.result e;
      left =
          c.answer_line.ensures.left ∙ ap (λ l. line_leaves 0 l args out) e
          ∙ line_leaves_lem (λ n. record { position = n; pointer = pointer_at (c_line o) n }) 0 (c_line o) args out (c_fits o);
    }
