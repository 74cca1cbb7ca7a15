use Rattle.std.proofs.Common.{◌≡◌, ◌++◌, drop}
use Rattle.cores.specs.Steps.{reached, result_words}
use Rattle.cores.proofs.lines.Progress.result_words.Given as goal

-- the words kept, then those of the items to come
abbrev pub invariant-loop-item : goal.invariant-loop-item
invariant-loop-item l =
    l.words.items ++ result_words l.self.base (reached l.self) (drop l.item-index l.items) ≡ result_words l.self.base (reached l.self) l.items
