use Rattle.reader.proofs.Laws.{one_tree}
use Rattle.reader.proofs.Back.{prints_are_read}
use Rattle.reader.proofs.read.one_tree_stands.Goals as goal

pub returns : goal.returns
returns c = record { one = one_tree; back = prints_are_read }
