use Rattle.cores.proofs.Lawful.{shipped_distinct}
use Rattle.cores.proofs.laws.shipped_words_are_distinct.Goals as goal

pub returns : goal.returns
returns c = shipped_distinct
