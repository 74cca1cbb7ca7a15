use Rattle.std.proofs.Common.{◌≡◌, ℕ, ◌<◌, List, Err, length, take, get_or, refl, ap, ◌∙◌, subst, arith, rules}
use Rattle.std.proofs.lemmas.Result.{MatchResult-weaker, err_from_is_err_and}
use Rattle.store.specs.Layout.{stored}
use Rattle.store.specs.Units.{units}
use Rattle.order.specs.Seen.{nobody}
use Rattle.order.proofs.Meaning.{means}
use Rattle.project.specs.Loading.{stored_view, order_fault}
use Rattle.project.specs.Naming.{UnitSeen}
use Rattle.project.proofs.Viewed.{view_of_front, order_told}
use Rattle.project.proofs.loading.load_order.Goals as goal

pub returns-then-store-ne-STORE_BYTES-clause-law : goal.returns-then-store-ne-STORE_BYTES-clause-law
returns-then-store-ne-STORE_BYTES-clause-law g c = means (stored_view g.C.Core.words (units c.args.store.now))

pub returns-in_default-clause-law : goal.returns-in_default-clause-law
returns-in_default-clause-law g c = means (stored_view g.C.Core.words (units c.args.store.now))

pub returns-clause-answer : goal.returns-clause-answer
returns-clause-answer g c =
    let ws = g.C.Core.words in
    let s = c.args.store.now in
    let row = c.all_seen-seen.result in
    let all = subst (λ (z : List ℕ). (i : ℕ) → i < length (units z) → UnitSeen ws (units z) i (get_or row i nobody)) c.read-units.ensures c.all_seen-seen.ensures in
    let same = view_of_front ws s row (take c.len.result row) c.len.result (omega arith) (c.len.ensures ∙ ap (λ (z : List ℕ). length (stored z)) c.read-units.ensures) refl all in
    order_told ws s (length c.args.scratch.now) c.arrange.result c.map_err.result (omega arith) c.in-Some.ensures.cases.long (c.arrange.ensures.answer ∙ same)
    (MatchResult-weaker c.arrange.result c.map_err.ensures.cases (λ o is. is)
    (λ e told.
    let f = err_from_is_err_and c.map_err.result told in
    let is : f.0 ≡ order_fault ws (units c.read-units.result.store.now) e = search rules in
    f.1 ∙ ap Err (is ∙ ap (λ (z : List ℕ). order_fault ws (units z) e) c.read-units.ensures)))

pub returns-clause-law : goal.returns-clause-law
returns-clause-law g c = means (stored_view g.C.Core.words (units c.args.store.now))
