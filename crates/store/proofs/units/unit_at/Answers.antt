use Rattle.std.proofs.Common.{◌≤◌, length, sym, ap, ◌∙◌, arith}
use Rattle.store.specs.Entries.{entry_at}
use Rattle.store.specs.Layout.{stored}
use Rattle.store.specs.Units.{units}
use Rattle.store.proofs.Holding.{length_held}
use Rattle.store.proofs.Reading.{entry_told, no_entry, record_bounds, text_told}
use Rattle.store.proofs.units.unit_at.Goals as goal

pub returns-in_err-e : goal.returns-in_err-e
returns-in_err-e c =
    let s = c.args.store.now in
    let none : length (units s) ≤ c.args.k = omega (arith, length_held (stored s) s, no_entry (stored s) c.args.k (sym c.in_err-e.was ∙ c.entry.ensures ∙ ap (entry_at c.args.k) c.read.ensures.records)) in
    rw c.from_residual.ensures none

pub slice_bounds-result-end : goal.slice_bounds-result-end
slice_bounds-result-end c =
    let s = c.args.store.now in
    let e = entry_told (stored s) c.args.k c.in_ok-e.e (sym c.in_ok-e.was ∙ c.entry.ensures ∙ ap (entry_at c.args.k) c.read.ensures.records) in
    let b = record_bounds s c.args.k e.0 in
    let span = ap (λ x. x.span) e.1 in
    omega (arith, b.0, b.2, b.3, c.slot-at.ensures, c.from.ensures)

pub returns : goal.returns
returns c =
    let s = c.args.store.now in
    let e = entry_told (stored s) c.args.k c.in_ok-e.e (sym c.in_ok-e.was ∙ c.entry.ensures ∙ ap (entry_at c.args.k) c.read.ensures.records) in
    (e.1, text_told s c.args.k c.slot-at.result c.from.result e.0 c.slot-at.ensures (c.from.ensures ∙ ap (λ x. x.span) e.1))
