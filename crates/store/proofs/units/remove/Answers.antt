use Rattle.std.proofs.Common.{◌≡◌, ◌-◌, length, get_or, sym, ap, ◌∙◌, subst, arith}
use Rattle.store.specs.Entries.{blank}
use Rattle.store.specs.Layout.{stored}
use Rattle.store.specs.Units.{slot, units, Removed}
use Rattle.store.proofs.Reading.{record_bounds}
use Rattle.store.proofs.Done.{remove_done}
use Rattle.store.proofs.Holding.{seat_held, length_held}
use Rattle.store.proofs.Members.{once_units, removed}
use Rattle.store.proofs.units.remove.Goals as goal

pub move_bytes-requires : goal.move_bytes-requires
move_bytes-requires c =
    let s = c.args.store.now in
    let n : c.len-last.result ≡ length (stored s) = c.len-last.ensures.value ∙ ap length c.read-directory.ensures.records in
    let p = rw c.read-directory.ensures.records at c.in-Some.ensures in
    let below = p.0 in
    let at = p.2 in
    let b = record_bounds s (c.len-last.result - 1) (omega arith) in
    let span = c.from-span.ensures ∙ ap (λ es. (get_or es (c.len-last.result - 1) blank).span) (c.records.ensures.value ∙ c.read-directory.ensures.records) in
    (omega (arith, c.slot.ensures, c.slot-2.ensures), omega (arith, b.0, b.2, b.3, c.slot.ensures))

pub returns : goal.returns
returns c =
    let s = c.args.store.now in
    let n : c.len-last.result ≡ length (stored s) = c.len-last.ensures.value ∙ ap length c.read-directory.ensures.records in
    let p = rw c.read-directory.ensures.records at c.in-Some.ensures in
    let span = c.from-span.ensures ∙ ap (λ es. (get_or es (c.len-last.result - 1) blank).span) (c.records.ensures.value ∙ c.read-directory.ensures.records) in
    let done = remove_done s c.move_bytes.new.store c.write.new.store c.args.name _ c.slot.result c.slot-2.result c.from-span.result _
    c.if-store-ne-STORE_BYTES.false p.0 p.1 p.2 (c.slot.ensures ∙ ap (λ m. slot (m - 1)) n) c.slot-2.ensures
    (span ∙ ap (λ m. (get_or (stored s) (m - 1) blank).span) n) c.move_bytes.ensures c.write.ensures.bytes in
    record { answer = sym done.0; bytes = done.1; law = done.2; removed = λ x. subst (Removed c.args.name (units s)) (sym done.2) (removed c.args.name (units s) (once_units s) (omega (arith, seat_held c.args.name (stored s) s, length_held (stored s) s, p.0))) }
