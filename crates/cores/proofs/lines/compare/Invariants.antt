use Rattle.std.proofs.Common.{◌≡◌, drop}
use Rattle.cores.specs.Steps.{run, reached, start}
use Rattle.cores.proofs.lines.compare.Given as goal

abbrev pub invariant-loop-item : goal.invariant-loop-item
invariant-loop-item l = (run l.base (drop l.item-index l.items) (reached l.at) ≡ run l.base l.items (start l.args)) × (l.at.base ≡ l.base)
