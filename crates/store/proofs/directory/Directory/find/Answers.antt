use Rattle.std.proofs.Common.{eqb, sym, ◌∙◌, rules, tests}
use Rattle.std.proofs.lemmas.Iterator.{YieldsList-from_slice}
use Rattle.std.proofs.lemmas.Iterator.Search.{position_from_yields_List}
use Rattle.store.proofs.Seats.{found_is}
use Rattle.store.proofs.directory.Directory.find.Goals as goal

pub returns : goal.returns
returns c =
    position_from_yields_List (λ e. eqb e.name c.args.name) _ _ _ c.position.ensures.ran (YieldsList-from_slice c.args.self.now cc) (λ x b q k. search (rules, tests))
    ∙ sym (found_is c.args.name c.args.self.now)
