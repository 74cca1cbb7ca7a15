use Rattle.std.proofs.Common.{◌≡◌, rules, tests, not, take, ◌∙◌}
use Rattle.std.specs.List.{list_any, prefix_len}
use Rattle.std.proofs.lemmas.Iterator.Consumers.{YieldsList-from_first}
use Rattle.std.proofs.lemmas.Iterator.Search.{any_from_yields_List, YieldsList-from_take_while}
use Rattle.reader.specs.Scopes.{Binding, is_component, is_itself}
use Rattle.reader.specs.Rows.{binding_of, entries_of}
use Rattle.reader.proofs.Outward.{declared_by_any}
use Rattle.reader.proofs.row.Scope.is_declared.Goals as goal

pub returns : goal.returns
returns c =
    let inside = λ (b : Binding). not (is_itself b.binder) in
    let test = λ (b : Binding). is_component c.args.sort c.args.name.now b.binder b.name in
    let found : c.any.result ≡ list_any test (take (prefix_len inside (entries_of c.args.self)) (entries_of c.args.self)) =
    any_from_yields_List test _ _ c.any.result c.any.ensures.ran
    (YieldsList-from_take_while _ inside (YieldsList-from_first binding_of entries_of (entries_of c.args.self) cc) c.take_while.ensures.closure c.take_while.ensures.done (λ x b q k. search (rules, tests)))
    (λ x b q k. search (rules, tests)) in
    found ∙ declared_by_any c.args.sort c.args.name.now (entries_of c.args.self)
