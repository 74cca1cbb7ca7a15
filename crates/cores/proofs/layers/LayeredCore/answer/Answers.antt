use Rattle.std.proofs.Common.{◌≡◌, ℕ, Ok, Err, Result, MatchResult, IsErrAnd, ap, ◌∙◌, rules}
use Rattle.std.specs.Option.{option_map}
use Rattle.cores.specs.Steps.{row_items}
use Rattle.cores.specs.Layers.{own_cause}
use Rattle.cores.specs.Stacks.{owned, own_answer}
use Rattle.cores.specs.declared.interface.Refusal.{Refusal}
use Rattle.cores.specs.declared.lines.Position.{Position}
use Rattle.cores.specs.declared.layers.LayerCause.{LayerCause}
use Rattle.cores.proofs.layers.LayeredCore.answer.Goals as goal

-- a refusal of the layer's own is told as such
told : {K : Type 0} (r : Result ℕ (Refusal Position)) (a : Result ℕ (Refusal (LayerCause K))) →
    MatchResult r (λ n. a ≡ Ok n) (λ e. IsErrAnd a (λ f. f ≡ own_cause e)) → a ≡ owned r
told (Ok n) a m = m
told (Err e) (Ok n) m = search rules
told (Err e) (Err f) m = ap Err m

pub returns-in-Operator-clause-result : goal.returns-in-Operator-clause-result
returns-in-Operator-clause-result g c =
    let d =
    own_answer g.L.Layer.entries g.C.Core.words g.C.Core.rule c.count-base.result c.in-Operator.number c.args.operation
    c.args.args.now c.args.out.now (option_map (λ l. row_items l) c.line_at.result) g.met.L.Layer.inside c.count-base.ensures
    c.if-number-base.true c.in-Operator.is c.line_at.ensures in
    told c.answer_line.result c.map_err.result (search rules) ∙ ap owned c.answer_line.ensures.result ∙ d.0

pub returns-in-Operator-clause-left : goal.returns-in-Operator-clause-left
returns-in-Operator-clause-left g c =
    let d =
    own_answer g.L.Layer.entries g.C.Core.words g.C.Core.rule c.count-base.result c.in-Operator.number c.args.operation
    c.args.args.now c.args.out.now (option_map (λ l. row_items l) c.line_at.result) g.met.L.Layer.inside c.count-base.ensures
    c.if-number-base.true c.in-Operator.is c.line_at.ensures in
    c.answer_line.ensures.left ∙ d.1
