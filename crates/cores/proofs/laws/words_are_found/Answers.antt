use Rattle.cores.proofs.Lawful.{finds_each, finds_no_other}
use Rattle.cores.proofs.laws.words_are_found.Goals as goal

pub returns : goal.returns
returns g c = record { each = finds_each g.C.Core.words; only = finds_no_other g.C.Core.words }
