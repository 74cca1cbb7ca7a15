use Rattle.std.proofs.Common.{◌≡◌, length}
use Rattle.reader.proofs.Passes.{Pass}
use Rattle.reader.proofs.statics.go_through.Given as goal

abbrev pub invariant-tokens : goal.invariant-tokens
invariant-tokens g l = record {
  same_text : l.found-iterator.text.now ≡ l.text;
  pass : Pass g.C.Core.words l.text l.fn.start l.asked l.frames l.entries.words l.entries.count l.found-iterator.from l.firsts l.heads.places;
  frames_room : l.frames.room ≡ 32768;
  entries_room : length l.entries.words ≡ 16384;
  heads_room : l.heads.room ≡ 16384;
}
