use Rattle.cores.proofs.Lawful.{c_written, c_first, mark_says_ptr}
use Rattle.cores.proofs.laws.mini_c_follows_its_lines.Goals as goal

pub returns : goal.returns
returns c = record { gives = c_written; refuses = c_first; marks = mark_says_ptr }
