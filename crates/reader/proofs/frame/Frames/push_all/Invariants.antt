use Rattle.std.proofs.Common.{◌≡◌, ◌≤◌, ◌++◌, drop, length}
use Rattle.std.specs.Iterator.Adapters.{rev_source, enumerate_source, enumerate_count}
use Rattle.std.specs.Slice.Iter.{iter_rest}
use Rattle.reader.specs.Annotate.{inherits}
use Rattle.reader.specs.Frames.{placed, attr_of}
use Rattle.reader.proofs.frame.Frames.push_all.Given as goal

-- the symbols behind those that are left lie on the stack, with what they get
abbrev pub invariant-push : goal.invariant-push
invariant-push l =
    let rest = iter_rest (enumerate_source (rev_source l.i-iterator)) in
    record {
      counted : enumerate_count (rev_source l.i-iterator) ≡ 0;
      within : length rest ≤ length l.after;
      symbols : rest ++ l.self.symbols ≡ l.after ++ l.initial.self.symbols;
      attrs : l.self.attrs ≡ drop (length rest) (inherits l.after l.rules (attr_of l.origin.frame) (placed l.origin.place) l.origin.new) ++ l.initial.self.attrs;
      room : l.self.room ≡ l.initial.self.room;
    }
