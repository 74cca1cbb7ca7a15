use Rattle.std.proofs.Common.{◌≡◌, ◌+◌, ◌*◌, true, eqb, length, get_or, set, sym, ap, ◌∙◌, subst, arith}
use Rattle.std.specs.List.{flat_map}
use Rattle.std.proofs.lemmas.List.{take_all, length-set}
use Rattle.std.proofs.lemmas.Bool.{cond-true, eq-eqb}
use Rattle.store.specs.Numbers.{laid, spread}
use Rattle.store.specs.Entries.{blank, lawful}
use Rattle.store.specs.Restored.{restored_count}
use Rattle.store.specs.Layout.{encode, record_bytes, stored}
use Rattle.store.proofs.Coding.{laid_records, laid_directory, length_encode, stored_laid}
use Rattle.store.proofs.Laid.{length_laid, laid_one}
use Rattle.store.proofs.layout.write.Goals as goal

pub loop-i-preserved : goal.loop-i-preserved
loop-i-preserved c =
    let i = c.loop-i.i in
    let es = c.records-e-items.result.now in
    c.write_entry.ensures
    ∙ ap (λ s. laid (1 + 22 * i) (record_bytes (get_or es i blank)) s) c.loop-i.invariant
    ∙ laid_records i es (set c.args.store.now 0 c.directory.inside.count) (omega arith) (omega (arith, length-set c.args.store.now 0 c.directory.inside.count))

pub returns : goal.returns
returns c =
    let es = c.args.directory in
    let n = c.directory.inside.count in
    let s = c.args.store.now in
    let h = c.directory.invariant in
    let v = c.directory.view_is in
    let whole : length es ≡ n = sym (ap length v) ∙ restored_count c.directory.inside h in
    let count : set s 0 n ≡ laid 0 (spread 1 (length es)) s = laid_one 0 n s (omega (arith, h.few)) (omega arith) ∙ ap (λ k. laid 0 (spread 1 k) s) (sym whole) in
    let all = take_all c.loop-i.i c.records-e-items.result.now (omega arith) ∙ c.records-e-items.ensures.value in
    let is : eqb (length s) 65536 ≡ true = eq-eqb (length s) 65536 (omega arith) in
    let bytes : c.loop-i.store ≡ laid 0 (encode es) s =
    c.loop-i.invariant
    ∙ ap (λ t. laid 1 (flat_map record_bytes t) (set s 0 n)) all
    ∙ ap (laid 1 (flat_map record_bytes es)) count
    ∙ laid_directory es s in
    let size = length_laid 0 (encode es) s (omega (arith, length_encode es)) in
    record {
      answer = sym is;
      bytes = bytes ∙ sym (cond-true (eqb (length s) 65536) (laid 0 (encode es) s) s is);
      back = λ yes. ap stored bytes ∙ stored_laid es s (subst (λ t. lawful t ≡ true) v h.ok) (size ∙ omega arith);
    }
