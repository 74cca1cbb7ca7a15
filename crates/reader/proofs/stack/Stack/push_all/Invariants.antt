use Rattle.std.proofs.Common.{◌≡◌, ◌++◌}
use Rattle.std.specs.Iterator.Adapters.{rev_source}
use Rattle.std.specs.Slice.Iter.{iter_rest}
use Rattle.reader.proofs.stack.Stack.push_all.Given as goal

-- what is not put on the stack yet, in front of what is
abbrev pub invariant-loop-symbol : goal.invariant-loop-symbol
invariant-loop-symbol l =
    (iter_rest (rev_source l.symbol-iterator) ++ l.self.symbols ≡ l.symbols ++ l.initial.self.symbols)
    × (l.self.room ≡ l.initial.self.room)
