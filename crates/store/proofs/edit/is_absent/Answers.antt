use Rattle.std.proofs.Common.{not, ap, ◌∙◌, rules, tests}
use Rattle.std.proofs.lemmas.Iterator.{YieldsList-from_slice}
use Rattle.std.proofs.lemmas.Iterator.Search.{any_from_yields_List}
use Rattle.store.specs.Entries.{clash}
use Rattle.store.proofs.Seats.{absent_is}
use Rattle.store.proofs.edit.is_absent.Goals as goal

pub returns : goal.returns
returns c =
    ap not (any_from_yields_List (λ e. clash e.name c.args.name) _ _ _ c.any.ensures.ran (YieldsList-from_slice c.args.entries.now cc) (λ x b q k. search (rules, tests)))
    ∙ absent_is c.args.name c.args.entries.now
