use Rattle.std.proofs.Common.{◌≡◌, ◌^◌, ◌<◌, false, length, sym, refl, subst, arith, rules}
use Rattle.store.specs.Entries.{fits}
use Rattle.store.specs.Calls.{number_in, unit_for}
use Rattle.store.specs.Units.{units, Replaced}
use Rattle.store.specs.declared.units.Refusal.TheVariants.{Full}
use Rattle.store.proofs.Done.{told, number_small, sound_for, put_full, put_refused, put_done}
use Rattle.store.proofs.Members.{once_units, replaced}
use Rattle.store.proofs.units.put.Goals as goal

pub returns-in_default-with : goal.returns-in_default-with
returns-in_default-with c =
    let s = c.args.store.now in
    let text = c.args.text.now in
    let place = c.args.place in
    let size = c.args.size in
    let rank = c.args.rank in
    let n = c.in-Some.name in
    let t = told text place size n c.in-Some.ensures in
    let small : number_in text place size < 256 ^ 16 = number_small text place size (λ k. omega (arith, c.type_inv.text k)) t.0 in
    let ok = sound_for text place size rank n t.0 c.if-text-gt-LONGEST_TEXT.false (omega arith) (subst (λ m. m < 256 ^ 16) (sym t.1) small) in
    let full = put_full s text place size rank n c.if-store-ne-STORE_BYTES.false c.if-text-gt-LONGEST_TEXT.false t.0 t.1 ok
    (subst (λ es. fits (record { name = n; size = size; place = place; span = length text; rank = rank }) es ≡ false) c.read.ensures.records c.in_default-with.ensures) in
    record { answer = sym full; bytes = sym (put_refused s text place size rank Full full); law = refl; replaced = search rules }

pub returns : goal.returns
returns c =
    let s = c.args.store.now in
    let text = c.args.text.now in
    let place = c.args.place in
    let size = c.args.size in
    let rank = c.args.rank in
    let n = c.in-Some.name in
    let t = told text place size n c.in-Some.ensures in
    let small : number_in text place size < 256 ^ 16 = number_small text place size (λ k. omega (arith, c.type_inv.text k)) t.0 in
    let ok = sound_for text place size rank n t.0 c.if-text-gt-LONGEST_TEXT.false (omega arith) (subst (λ m. m < 256 ^ 16) (sym t.1) small) in
    let p = rw c.read.ensures.records at c.in-Some-with.ensures in
    let done = put_done text s c.write_bytes.new.store c.write.new.store place size rank n _ c.slot.result _
    c.if-store-ne-STORE_BYTES.false c.if-text-gt-LONGEST_TEXT.false t.0 t.1 ok p.0 p.1 p.2 c.slot.ensures c.write_bytes.ensures c.write.ensures.bytes in
    record { answer = sym done.0; bytes = done.1; law = done.2; replaced = λ x. subst (Replaced (unit_for text place size rank) (units s)) (sym done.2) (replaced (unit_for text place size rank) (units s) (once_units s)) }
