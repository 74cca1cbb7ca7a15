use Rattle.std.proofs.Common.{◌≡◌, refl, rules, tests, not, ap, ◌∙◌}
use Rattle.std.specs.List.{list_any}
use Rattle.std.proofs.lemmas.Iterator.Consumers.{YieldsList-from_first}
use Rattle.std.proofs.lemmas.Iterator.Search.{any_from_yields_List}
use Rattle.reader.specs.Scopes.{Binding, is_sought}
use Rattle.reader.specs.Rows.{binding_of, entries_of}
use Rattle.reader.proofs.Outward.{nowhere_by_any}
use Rattle.reader.proofs.row.Scope.is_nowhere.Goals as goal

pub returns : goal.returns
returns c =
    let test = λ (b : Binding). is_sought c.args.sort c.args.name.now b.binder b.name in
    let found : c.any.result ≡ list_any test (entries_of c.args.self) =
    any_from_yields_List test c.any.new.self _ c.any.result c.any.ensures.ran (YieldsList-from_first binding_of entries_of (entries_of c.args.self) refl) (λ x b q k. search (rules, tests)) in
    ap not found ∙ nowhere_by_any c.args.sort c.args.name.now (entries_of c.args.self)
