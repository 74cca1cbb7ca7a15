use Rattle.std.proofs.Common.{◌≡◌, ◌-◌, ◌<◌, true, length, get_or, take, set, sym, ap, ◌∙◌, subst, arith}
use Rattle.std.proofs.lemmas.List.{length-set, take-set}
use Rattle.store.specs.Restored.{restored_count}
use Rattle.store.specs.Entries.{blank, lawful, seat, vacated}
use Rattle.store.proofs.Seats.{found_told, not_found}
use Rattle.store.proofs.Lawful.{lawful_vacated}
use Rattle.store.proofs.Changes.{records_without, rest_without}
use Rattle.store.proofs.directory.Directory.without.Goals as goal

pub invariant_of-result : goal.invariant_of-result
invariant_of-result c =
    let d = c.self.inside in
    let h = c.self.invariant in
    let i = c.in_ok-i.i in
    let t = found_told c.args.name i c.args.self (sym c.in_ok-i.was ∙ c.find.ensures) in
    let whole = sym (ap length c.self.view_is) ∙ restored_count d h in
    let below : i < d.count = omega (arith, t.0, t.1) in
    let last = get_or d.entries (d.count - 1) blank in
    let at = t.1 ∙ ap (seat c.args.name) (sym c.self.view_is) in
    let whole2 = restored_count d h in
    let records = take-set (set d.entries i last) (d.count - 1) blank ∙ records_without d.count i c.args.name d.entries h.long h.few at below in record {
      long = length-set (set d.entries i last) (d.count - 1) blank ∙ length-set d.entries i last ∙ h.long;
      few = omega (arith, h.few);
      ok = subst (λ es. lawful es ≡ true) (sym records) (lawful_vacated (seat c.args.name (take d.count d.entries)) blank (take d.count d.entries) (omega arith) h.ok);
      rest = rest_without d.count i last d.entries h.long h.few below h.rest;
    }

pub returns : goal.returns
returns c =
    let d = c.self.inside in
    let h = c.self.invariant in
    let i = c.in_ok-i.i in
    let t = found_told c.args.name i c.args.self (sym c.in_ok-i.was ∙ c.find.ensures) in
    let whole = sym (ap length c.self.view_is) ∙ restored_count d h in
    let below : i < d.count = omega (arith, t.0, t.1) in
    let last = get_or d.entries (d.count - 1) blank in
    let at = t.1 ∙ ap (seat c.args.name) (sym c.self.view_is) in (
      t.0,
      take-set (set d.entries i last) (d.count - 1) blank ∙ records_without d.count i c.args.name d.entries h.long h.few at below
          ∙ ap (λ es. vacated (seat c.args.name es) blank es) c.self.view_is,
      t.1,
    )

pub returns-in_err-i : goal.returns-in_err-i
returns-in_err-i c = rw c.from_residual.ensures (not_found c.args.name c.args.self (sym c.in_err-i.was ∙ c.find.ensures))
