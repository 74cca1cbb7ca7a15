use Rattle.std.proofs.Common.{◌≡◌, ◌+◌, ◌*◌, ◌≤◌, length}
use Rattle.reader.specs.Parsing.{start_of}
use Rattle.reader.proofs.Turns.{State}
use Rattle.reader.proofs.parse.parse.Given as goal

-- what lies on the stack gives the answer for the rest, and each byte read leaves at most four symbols more
abbrev pub invariant-tokens : goal.invariant-tokens
invariant-tokens g l = record {
  same_text : l.found-iterator.text.now ≡ l.text;
  inside : l.found-iterator.from ≤ length l.text;
  room : l.stack.room ≡ 65536;
  few : length l.stack.symbols ≤ 2 + 4 * l.found-iterator.from;
  goes_on : State g.C.Core.words l.text (start_of l.fn.start) l.stack.symbols l.found-iterator.from l.rank;
}
