use Rattle.std.proofs.Common.{◌≡◌, true, ltb, take, length, unwrap_or, sym, ap, ◌∙◌, subst, arith}
use Rattle.std.proofs.lemmas.List.{length-set}
use Rattle.std.proofs.lemmas.Bool.{and_from, lt-ltb}
use Rattle.store.specs.Entries.{sound, lawful, seat, entered}
use Rattle.store.specs.Restored.{restored_count}
use Rattle.store.proofs.Seats.{found_or}
use Rattle.store.proofs.Lawful.{lawful_entered}
use Rattle.store.proofs.Changes.{records_with, rest_with}
use Rattle.store.proofs.directory.Directory.with.Goals as goal

pub invariant_of-result : goal.invariant_of-result
invariant_of-result c =
    let d = c.self.inside in
    let h = c.self.invariant in
    let e = c.args.e in
    let i = c.unwrap_or-i.result in
    let sat : i ≡ seat e.name c.args.self = c.unwrap_or-i.ensures ∙ ap (λ r. unwrap_or r d.count) c.find.ensures ∙ found_or e.name d.count c.args.self (sym (ap length c.self.view_is) ∙ restored_count d h) in
    let at = sat ∙ ap (seat e.name) (sym c.self.view_is) in
    let records = records_with d.count i c.max.result e d.entries h.long h.few at c.max.ensures c.if-i-ge-MOST_UNITS.false in record {
      long = length-set d.entries i e ∙ h.long;
      few = omega (arith, h.few, c.max.ensures);
      ok = subst (λ es. lawful es ≡ true) (sym records) (lawful_entered e (take d.count d.entries) (sym c.if-not-is_sound.ensures) h.ok (omega arith));
      rest = rest_with d.count i c.max.result e d.entries c.max.ensures h.rest;
    }

pub returns : goal.returns
returns c =
    let d = c.self.inside in
    let h = c.self.invariant in
    let e = c.args.e in
    let i = c.unwrap_or-i.result in
    let sat : i ≡ seat e.name c.args.self = c.unwrap_or-i.ensures ∙ ap (λ r. unwrap_or r d.count) c.find.ensures ∙ found_or e.name d.count c.args.self (sym (ap length c.self.view_is) ∙ restored_count d h) in
    let at = sat ∙ ap (seat e.name) (sym c.self.view_is) in (
      and_from (sound e) (ltb (seat e.name c.args.self) 16) (sym c.if-not-is_sound.ensures) (lt-ltb (seat e.name c.args.self) 16 (omega arith)),
      records_with d.count i c.max.result e d.entries h.long h.few at c.max.ensures c.if-i-ge-MOST_UNITS.false ∙ ap (λ es. entered (seat e.name es) e es) c.self.view_is,
      sat,
    )
