-- A record that was read from a store, and the parts of the store that it tells.
use Rattle.std.proofs.Common.{◌≡◌, ℕ, ◌+◌, ◌-◌, ◌<◌, ◌≤◌, ltb, List, length, get_or, take, drop, Some, None, sym, ap, ◌∙◌, arith}
use Rattle.std.proofs.lemmas.List.{length-take-le, length-drop, take-take, drop-drop, drop-take}
use Rattle.std.proofs.lemmas.Bool.{ltb-true, ltb-false}
use Rattle.store.specs.declared.entry.Entry.{Entry}
use Rattle.store.specs.Entries.{blank, entry_at}
use Rattle.store.specs.Layout.{stored}
use Rattle.store.specs.Units.{slot, units, no_unit}
use Rattle.std.proofs.lemmas.Option.{cond_some}
use Rattle.store.proofs.Seats.{none_told}
use Rattle.store.proofs.Holding.{length_held, get_d_held, lawful_stored, span_at}
use Rattle.store.proofs.Lawful.{lawful_parts}
use Rattle.store.proofs.Done.{full_length}

-- the k-th record is told where there is one
pub entry_told : (es : List Entry) (k : ℕ) (e : Entry) → Some e ≡ entry_at k es → (k < length es) × (e ≡ get_or es k blank)
entry_told es k e h = let p = cond_some (ltb k (length es)) (get_or es k blank) e (sym h) in (ltb-true k (length es) p.0, sym p.1)

pub no_entry : (es : List Entry) (k : ℕ) → None ≡ entry_at k es → length es ≤ k
no_entry es k h = ltb-false k (length es) (none_told (ltb k (length es)) (get_or es k blank) h)

-- the numbers of a record that was read
pub record_bounds : (s : List ℕ) (k : ℕ) → k < length (stored s) →
    ((get_or (stored s) k blank).span ≤ 4000) × ((get_or (stored s) k blank).place + (get_or (stored s) k blank).size ≤ (get_or (stored s) k blank).span) × (length s ≡ 65536) × (k < 16)
record_bounds s k h =
    let p = span_at (stored s) k (lawful_stored s) h in
    (p.0, p.1, full_length s (omega arith), omega (arith, (lawful_parts (stored s) (lawful_stored s)).0))

-- the part of the store that holds a text
pub text_told : (s : List ℕ) (k at n : ℕ) → k < length (stored s) → at ≡ slot k → n ≡ (get_or (stored s) k blank).span →
    (k < length (units s)) × (take (at + n - at) (drop at s) ≡ (get_or (units s) k no_unit).text)
    × ((at ≡ slot k) × (take (at + n - at) (drop at s) ≡ take (length (take (at + n - at) (drop at s))) (drop (slot k) s)))
text_told s k at n h place span =
    let b = record_bounds s k h in
    let m : at + n - at ≡ n = omega arith in
    let part : take (at + n - at) (drop at s) ≡ take n (drop (slot k) s) = ap (λ x. take x (drop at s)) m ∙ ap (λ x. take n (drop x s)) place in
    let count : length (take (at + n - at) (drop at s)) ≡ n = ap length part ∙ length-take-le n (drop (slot k) s) (omega (arith, length-drop (slot k) s)) in (
      omega (arith, length_held (stored s) s),
      part ∙ ap (λ x. take x (drop (slot k) s)) span ∙ sym (ap (λ u. u.text) (get_d_held (stored s) s k no_unit h)),
      (place, part ∙ ap (λ x. take x (drop (slot k) s)) (sym count)),
    )

-- a part of a part
pub part_within : (s text : List ℕ) (a b p n : ℕ) → text ≡ take (length text) (drop a s) → p + n ≤ length text → a + p ≡ b →
    take (p + n - p) (drop p text) ≡ take (length (take (p + n - p) (drop p text))) (drop b s)
part_within s text a b p n e h at =
    let m : p + n - p ≡ n = omega arith in
    let rest = length text - p in
    let sum : length text ≡ p + rest = omega arith in
    let count : length (take (p + n - p) (drop p text)) ≡ n = ap (λ x. length (take x (drop p text))) m ∙ length-take-le n (drop p text) (omega (arith, length-drop p text)) in
    ap (λ x. take x (drop p text)) m ∙ ap (λ t. take n (drop p t)) (e ∙ ap (λ x. take x (drop a s)) sum)
    ∙ ap (take n) (drop-take p rest (drop a s)) ∙ take-take n rest (drop p (drop a s)) (omega arith)
    ∙ ap (take n) (drop-drop p a s ∙ ap (λ x. drop x s) at) ∙ ap (λ x. take x (drop b s)) (sym count)

-- the numbers of the record of a unit lie in its text
pub within_text : (s text : List ℕ) (k : ℕ) (e : Entry) → e ≡ get_or (stored s) k blank → k < length (units s) → text ≡ (get_or (units s) k no_unit).text →
    (e.place + e.size ≤ length text) × (e.size ≡ (get_or (units s) k no_unit).size) × (e.place ≡ (get_or (units s) k no_unit).place)
within_text s text k e is below same =
    let h : k < length (stored s) = omega (arith, length_held (stored s) s) in
    let b = record_bounds s k h in
    let u = get_d_held (stored s) s k no_unit h in
    let r = get_or (stored s) k blank in
    let count : length text ≡ r.span = ap length (same ∙ ap (λ v. v.text) u) ∙ length-take-le r.span (drop (slot k) s) (omega (arith, length-drop (slot k) s)) in
    let size = ap (λ x. x.size) is in
    let place = ap (λ x. x.place) is in
    (omega arith, size ∙ sym (ap (λ v. v.size) u), place ∙ sym (ap (λ v. v.place) u))

-- the part of a text that holds the name
pub name_told : (s text : List ℕ) (k at p n : ℕ) (e : Entry) → e ≡ get_or (stored s) k blank → k < length (units s) → text ≡ (get_or (units s) k no_unit).text →
    at ≡ slot k → text ≡ take (length text) (drop (slot k) s) → p ≡ e.place → n ≡ e.size →
    (k < length (units s)) × (take (p + n - p) (drop p text) ≡ take (get_or (units s) k no_unit).size (drop (get_or (units s) k no_unit).place (get_or (units s) k no_unit).text))
    × ((at + p ≡ slot k + (get_or (units s) k no_unit).place) × (take (p + n - p) (drop p text) ≡ take (length (take (p + n - p) (drop p text))) (drop (slot k + (get_or (units s) k no_unit).place) s)))
name_told s text k at p n e is below same place part p_is n_is =
    let w = within_text s text k e is below same in
    let u = get_or (units s) k no_unit in
    let m : p + n - p ≡ n = omega arith in
    let p_of : p ≡ u.place = p_is ∙ w.2 in
    let n_of : p + n - p ≡ u.size = m ∙ n_is ∙ w.1 in (
      below,
      ap (λ x. take x (drop p text)) n_of ∙ ap (λ x. take u.size (drop x text)) p_of ∙ ap (λ t. take u.size (drop u.place t)) same,
      (omega arith, part_within s text (slot k) (slot k + u.place) p n part (omega arith) (omega arith)),
    )
