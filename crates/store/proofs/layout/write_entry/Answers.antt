use Rattle.std.proofs.Common.{◌+◌, ◌∙◌, arith}
use Rattle.std.proofs.lemmas.List.{length-set}
use Rattle.store.proofs.Coding.{laid_record}
use Rattle.store.proofs.Digits.{high_first}
use Rattle.store.proofs.Laid.{laid_one}
use Rattle.store.proofs.layout.write_entry.Goals as goal

pub returns : goal.returns
returns c =
    let e = c.args.e in
    let at = c.args.at in
    let name = c.to_be_bytes.ensures ∙ high_first 16 e.name in
    let place = c.to_be_bytes-2.ensures ∙ high_first 2 e.place in
    let span = c.to_be_bytes-3.ensures ∙ high_first 2 e.span in
    let size = laid_one (at + 16) e.size c.write_bytes.new.store (omega arith) (omega arith) in
    let rank = laid_one (at + 21) e.rank c.write_bytes-3.new.store (omega arith) (omega (arith, length-set c.write_bytes.new.store (at + 16) e.size)) in
    let a = c.write_bytes.ensures in
    let b = c.write_bytes-2.ensures in
    let d = c.write_bytes-3.ensures in
    cc (laid_record e at c.args.store.now (omega arith))
