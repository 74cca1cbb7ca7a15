use Rattle.std.proofs.Common.{◌+◌, ◌*◌, [], ◌∷◌, ◌++◌, replicate, sym, ap, ◌∙◌, arith}
use Rattle.std.proofs.lemmas.List.FromFn.{map-range_with_len_more}
use Rattle.std.proofs.lemmas.List.{length-take-le, length-replicate, take_more_set}
use Rattle.store.specs.Entries.{blank}
use Rattle.store.specs.Layout.{record_at, records}
use Rattle.store.proofs.Changes.{filled}
use Rattle.store.proofs.Coding.{stored_many}
use Rattle.store.proofs.Digits.{gather_one}
use Rattle.store.proofs.Members.{kept_units}
use Rattle.store.proofs.layout.read.Goals as goal

pub returns-then-store-ne-STORE_BYTES-clause-kept : goal.returns-then-store-ne-STORE_BYTES-clause-kept
returns-then-store-ne-STORE_BYTES-clause-kept c = kept_units c.args.store.now

pub returns-then-count-gt-MOST_UNITS : goal.returns-then-count-gt-MOST_UNITS
returns-then-count-gt-MOST_UNITS c =
    record {
      records = c.empty-then-count-gt-MOST_UNITS.ensures ∙ sym (stored_many c.args.store.now (omega (arith, c.from-count.ensures, gather_one c.args.store.now 0 (omega arith))));
      kept = kept_units c.args.store.now;
    }

pub loop-i-preserved : goal.loop-i-preserved
loop-i-preserved c =
    let i = c.loop-i.i in
    let s = c.args.store.now in
    take_more_set c.loop-i.e-items i c.read_entry.result (omega arith)
    ∙ ap (λ es. es ++ (c.read_entry.result ∷ [])) c.loop-i.invariant
    ∙ ap (λ e. records s i ++ (e ∷ [])) c.read_entry.ensures
    ∙ sym (map-range_with_len_more (λ k. record_at s (1 + 22 * k)) 0 i i (omega arith))

pub invariant_of-result : goal.invariant_of-result
invariant_of-result c =
    let n = c.from-count.result in
    let long = c.loop-i.auto.e-items ∙ length-take-le n (replicate 16 blank) (omega (arith, length-replicate 16 blank)) in
    filled n c.loop-i.e-items long c.if-count-gt-MOST_UNITS.false (sym c.if-is_lawful.ensures)

pub returns-then-is_lawful-clause-kept : goal.returns-then-is_lawful-clause-kept
returns-then-is_lawful-clause-kept c = kept_units c.args.store.now

pub returns-else-is_lawful-clause-kept : goal.returns-else-is_lawful-clause-kept
returns-else-is_lawful-clause-kept c = kept_units c.args.store.now
