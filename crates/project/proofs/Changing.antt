-- What put and drop do to a store of the right length, and to its units.
use Rattle.std.proofs.Common.{◌≡◌, ℕ, ◌-◌, ◌^◌, ◌<◌, ◌≤◌, Bool, true, false, cond, ◌||◌, eqb, ltb, leb, List, length, get_or, drop, is_ok, Ok, Err, Result, sym, refl, ap, ◌∙◌, subst, ⊎_elim, arith, length-take}
use Rattle.std.proofs.lemmas.Bool.{eq-eqb, le-leb, ltb-true, cond-true, cond-false, cases_lt, le-ltb}
use Rattle.reader.specs.Answers.{Heading}
use Rattle.store.specs.declared.entry.Entry.{Entry}
use Rattle.store.specs.declared.units.Refusal.{Refusal}
use Rattle.store.specs.declared.units.Refusal.TheVariants.{StoreLength, TextLength, NoName, Full as FullStore, Missing}
use Rattle.store.specs.Numbers.{laid}
use Rattle.store.specs.Entries.{blank, seat, entered, vacated}
use Rattle.store.specs.Layout.{encode, stored}
use Rattle.store.specs.Names.{number_of}
use Rattle.store.specs.Units.{StoredUnit, slot, units, put_in, taken_out, unit_of_entry}
use Rattle.store.specs.Calls.{has_name, number_in, room, record_for, put_answer, with_unit, store_after_put, remove_answer, last_text, without_unit, store_after_remove}
use Rattle.store.proofs.Coding.{length_encode}
use Rattle.store.proofs.Done.{sound_for}
use Rattle.store.proofs.Holding.{length_held, seat_held, lawful_stored, put_units, remove_units, span_at}
use Rattle.store.proofs.Laid.{length_laid}
use Rattle.store.proofs.Lawful.{lawful_parts, length_entered, length_vacated}
use Rattle.store.proofs.Seats.{seat_le}
use Rattle.project.specs.Calls.{unit_for, stores, has_room}
use Rattle.project.proofs.Headings.{Headed, heading_has_name, upper_number}

-- the units of a store stand where its records do
pub stores_is : (n : ℕ) (s : List ℕ) → stores n (units s) ≡ ltb (seat n (stored s)) (length (stored s))
stores_is n s = ap (λ (k : ℕ). ltb k (length (units s))) (seat_held n (stored s) s) ∙ ap (ltb (seat n (stored s))) (length_held (stored s) s)

room_is : (n : ℕ) (s : List ℕ) → has_room n (units s) ≡ room n (stored s)
room_is n s = ap (λ (k : ℕ). ltb k 16 || stores n (units s)) (length_held (stored s) s) ∙ ap (λ (b : Bool). ltb (length (stored s)) 16 || b) (stores_is n s)

number_is : (text : List ℕ) (k : ℕ) (h : Heading) → Headed text k h → number_in text h.place (length h.name) ≡ number_of h.name
number_is text k h p = ap number_of p.spelled

-- the last question of put
pub last_question : (s text : List ℕ) (k : ℕ) (h : Heading) → Headed text k h → length s ≡ 65536 →
    put_answer s text h.place (length h.name) ≡ cond (has_room (number_of h.name) (units s)) (Ok (seat (number_of h.name) (stored s))) (Err FullStore)
last_question s text k h p long =
    let n = number_in text h.place (length h.name) in
    let last = cond (room n (stored s)) (Ok (seat n (stored s))) (Err FullStore) in
    cond-true (eqb (length s) 65536) (cond (leb (length text) 4000) (cond (has_name text h.place (length h.name)) last (Err NoName)) (Err TextLength)) (Err StoreLength) (eq-eqb (length s) 65536 long)
    ∙ cond-true (leb (length text) 4000) (cond (has_name text h.place (length h.name)) last (Err NoName)) (Err TextLength) (le-leb (length text) 4000 p.short)
    ∙ cond-true (has_name text h.place (length h.name)) last (Err NoName) (heading_has_name text k h p)
    ∙ ap (λ (m : ℕ). cond (room m (stored s)) (Ok (seat m (stored s))) (Err FullStore)) (number_is text k h p)
    ∙ ap (λ (b : Bool). cond b (Ok (seat (number_of h.name) (stored s))) (Err FullStore)) (sym (room_is (number_of h.name) s))

-- where there is room, the place is below 16
seat_low : (n : ℕ) (s : List ℕ) → has_room n (units s) ≡ true → seat n (stored s) < 16
seat_low n s e =
    let few = (lawful_parts (stored s) (lawful_stored s)).0 in
    let le = seat_le n (stored s) in
    ⊎_elim {C = seat n (stored s) < 16} (λ less. omega arith)
    (λ full.
    let t = ltb (seat n (stored s)) (length (stored s)) in
    let in_store : t ≡ true = sym (ap (λ (b : Bool). b || t) (le-ltb (length (stored s)) 16 full)) ∙ sym (room_is n s) ∙ e in
    omega (arith, ltb-true (seat n (stored s)) (length (stored s)) in_store))
    (cases_lt (length (stored s)) 16)

-- what is written keeps the length of the store
with_unit_long : (k : ℕ) (e : Entry) (text s : List ℕ) → length s ≡ 65536 → k < 16 → k ≤ length (stored s) → length text ≤ 4000 → length (with_unit k e text s) ≡ length s
with_unit_long k e text s long low behind short =
    let few = (lawful_parts (stored s) (lawful_stored s)).0 in
    let mid = length_laid (slot k) text s (omega arith) in
    length_laid 0 (encode (entered k e (stored s))) (laid (slot k) text s)
    (omega (arith, length_encode (entered k e (stored s)), length_entered k e (stored s) behind, mid)) ∙ mid

without_unit_long : (k : ℕ) (s : List ℕ) → length s ≡ 65536 → k < length (stored s) → length (without_unit k s) ≡ length s
without_unit_long k s long low =
    let few = (lawful_parts (stored s) (lawful_stored s)).0 in
    let short = (span_at (stored s) (length (stored s) - 1) (lawful_stored s) (omega arith)).0 in
    let text = last_text (stored s) s in
    let size : length text ≤ 4000 = omega (arith, length-take (get_or (stored s) (length (stored s) - 1) blank).span (drop (slot (length (stored s) - 1)) s)) in
    let mid = length_laid (slot k) text s (omega arith) in
    length_laid 0 (encode (vacated k blank (stored s))) (laid (slot k) text s)
    (omega (arith, length_encode (vacated k blank (stored s)), length_vacated k blank (stored s), mid)) ∙ mid

-- a put with room: it is answered with a place, and the unit is among the units
pub put_taken : (s text : List ℕ) (k : ℕ) (h : Heading) → Headed text k h → length s ≡ 65536 → has_room (number_of h.name) (units s) ≡ true →
    (put_answer s text h.place (length h.name) ≡ Ok (seat (number_of h.name) (stored s)))
    × (units (store_after_put s text h.place (length h.name) h.rank) ≡ put_in (unit_for text h) (units s))
    × (length (store_after_put s text h.place (length h.name) h.rank) ≡ length s)
put_taken s text k h p long fits =
    let size = length h.name in
    let m = number_in text h.place size in
    let is = number_is text k h p in
    let answer = last_question s text k h p long ∙ cond-true (has_room (number_of h.name) (units s)) (Ok (seat (number_of h.name) (stored s))) (Err FullStore) fits in
    let e = record_for text h.place size h.rank in
    let small : m < 256 ^ 16 = subst (λ (x : ℕ). x < 256 ^ 16) (sym is) (upper_number h.name p.named) in
    let ok = sound_for text h.place size h.rank m (heading_has_name text k h p) p.short p.ranked small in
    let low : seat m (stored s) < 16 = subst (λ (x : ℕ). seat x (stored s) < 16) (sym is) (seat_low (number_of h.name) s fits) in
    let done : store_after_put s text h.place size h.rank ≡ with_unit (seat m (stored s)) e text s =
    ap (λ (a : Result ℕ Refusal). cond (is_ok a) (with_unit (seat m (stored s)) e text s) s) answer in
    let named : unit_of_entry e text ≡ unit_for text h = ap (λ (x : ℕ). unit_of_entry (record { name = x; size = size; place = h.place; span = length text; rank = h.rank }) text) is in (
      answer,
      ap units done ∙ put_units e text s long ok refl low ∙ ap (λ (u : StoredUnit). put_in u (units s)) named,
      ap length done ∙ with_unit_long (seat m (stored s)) e text s long low (seat_le m (stored s)) p.short,
    )

-- a put without room: nothing is written
pub put_refused : (s text : List ℕ) (k : ℕ) (h : Heading) → Headed text k h → length s ≡ 65536 → has_room (number_of h.name) (units s) ≡ false →
    (put_answer s text h.place (length h.name) ≡ Err FullStore) × (store_after_put s text h.place (length h.name) h.rank ≡ s)
put_refused s text k h p long lacks =
    let size = length h.name in
    let answer = last_question s text k h p long ∙ cond-false (has_room (number_of h.name) (units s)) (Ok (seat (number_of h.name) (stored s))) (Err FullStore) lacks in
    (answer, ap (λ (a : Result ℕ Refusal). cond (is_ok a) (with_unit (seat (number_in text h.place size) (stored s)) (record_for text h.place size h.rank) text s) s) answer)

-- the last question of drop
pub drop_question : (s : List ℕ) (n : ℕ) → length s ≡ 65536 → remove_answer s n ≡ cond (stores n (units s)) (Ok (seat n (stored s))) (Err Missing)
drop_question s n long =
    cond-true (eqb (length s) 65536) (cond (ltb (seat n (stored s)) (length (stored s))) (Ok (seat n (stored s))) (Err Missing)) (Err StoreLength) (eq-eqb (length s) 65536 long)
    ∙ ap (λ (b : Bool). cond b (Ok (seat n (stored s))) (Err Missing)) (sym (stores_is n s))

-- a drop of a unit that is stored, and of one that is not
pub drop_taken : (s : List ℕ) (n : ℕ) → length s ≡ 65536 → stores n (units s) ≡ true →
    (remove_answer s n ≡ Ok (seat n (stored s))) × (units (store_after_remove s n) ≡ taken_out n (units s)) × (length (store_after_remove s n) ≡ length s)
drop_taken s n long here =
    let answer = drop_question s n long ∙ cond-true (stores n (units s)) (Ok (seat n (stored s))) (Err Missing) here in
    let done : store_after_remove s n ≡ without_unit (seat n (stored s)) s = ap (λ (a : Result ℕ Refusal). cond (is_ok a) (without_unit (seat n (stored s)) s) s) answer in
    let low = ltb-true (seat n (stored s)) (length (stored s)) (sym (stores_is n s) ∙ here) in
    (answer, ap units done ∙ remove_units n s long low, ap length done ∙ without_unit_long (seat n (stored s)) s long low)

pub drop_refused : (s : List ℕ) (n : ℕ) → length s ≡ 65536 → stores n (units s) ≡ false →
    (remove_answer s n ≡ Err Missing) × (store_after_remove s n ≡ s)
drop_refused s n long gone =
    let answer = drop_question s n long ∙ cond-false (stores n (units s)) (Ok (seat n (stored s))) (Err Missing) gone in
    (answer, ap (λ (a : Result ℕ Refusal). cond (is_ok a) (without_unit (seat n (stored s)) s) s) answer)
