use Rattle.std.proofs.Common.{◌≡◌, ℕ, ◌+◌, ◌≤◌, List, length, take, drop, ap, ◌∙◌, arith}
use Rattle.std.proofs.lemmas.List.{length-take-le, length-drop}
use Rattle.store.specs.Layout.{record_at}
use Rattle.store.proofs.Digits.{gathered, gather_one}
use Rattle.store.proofs.layout.read_entry.Goals as goal

part : (w at : ℕ) (s bs : List ℕ) → at + w ≤ length s → bs ≡ take w (drop at s) → length bs ≡ w
part w at s bs h e = ap length e ∙ length-take-le w (drop at s) (omega (arith, length-drop at s))

pub returns : goal.returns
unfolding record_at
returns c =
    let s = c.args.store.now in
    let at = c.args.at in
    let name = c.from_be_bytes.ensures ∙ gathered 15 c.bytes_at.result (part 16 at s _ (omega arith) c.bytes_at.ensures) in
    let place = c.from_be_bytes-2.ensures ∙ gathered 1 c.bytes_at-2.result (part 2 (at + 17) s _ (omega arith) c.bytes_at-2.ensures) in
    let span = c.from_be_bytes-3.ensures ∙ gathered 1 c.bytes_at-3.result (part 2 (at + 19) s _ (omega arith) c.bytes_at-3.ensures) in
    let size = gather_one s (at + 16) (omega arith) in
    let rank = gather_one s (at + 21) (omega arith) in
    let a = c.bytes_at.ensures in
    let b = c.bytes_at-2.ensures in
    let d = c.bytes_at-3.ensures in
    cc
