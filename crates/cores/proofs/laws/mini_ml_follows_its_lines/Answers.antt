use Rattle.cores.proofs.Lawful.{ml_written, ml_first}
use Rattle.cores.proofs.laws.mini_ml_follows_its_lines.Goals as goal

pub returns : goal.returns
returns c = record { gives = ml_written; refuses = ml_first }
