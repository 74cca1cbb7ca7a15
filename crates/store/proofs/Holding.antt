-- The units of a store after a change.
use Rattle.std.proofs.Common.{◌≡◌, ℕ, suc, ◌+◌, ◌-◌, ◌<◌, ◌≤◌, max, Bool, true, false, cond, ◌&&◌, eqb, ltb, leb, ◌≢◌, List, [], ◌∷◌, length, get_or, take, drop, sym, refl, ap, ◌∙◌, subst, ⊎_elim, arith}
use Rattle.std.proofs.lemmas.List.FromFn.{length-map-range_with_len, get_or-map-range_with_len}
use Rattle.std.proofs.lemmas.List.{same_lists, length-take-le, length-drop}
use Rattle.std.proofs.lemmas.Bool.{and_parts, leb-true, ltb-true, cases_eq, cases_lt}
use Rattle.store.specs.declared.entry.Entry.{Entry}
use Rattle.store.specs.Numbers.{laid}
use Rattle.store.specs.Entries.{blank, bounded, narrow, sound, lawful, seat, entered, vacated}
use Rattle.store.specs.Layout.{encode, decode, stored}
use Rattle.store.specs.Units.{StoredUnit, slot, unit_of_entry, unit_held_at, held, units, no_unit, seat_in, put_in, taken_out}
use Rattle.store.specs.Calls.{with_unit, without_unit, last_text}
use Rattle.store.proofs.Laid.{length_laid, laid_behind, laid_before, take_laid}
use Rattle.store.proofs.Lawful.{lawful_parts, lawful_entered, lawful_vacated, length_entered, length_vacated}
use Rattle.store.proofs.Coding.{sound_at, stored_laid, length_encode}
use Rattle.store.proofs.Places.{get_d_entered_same, get_d_entered_other, get_d_vacated_same, get_d_vacated_other}
use Rattle.store.proofs.Seats.{seat_le}

pub length_held : (es : List Entry) (s : List ℕ) → length (held es s) ≡ length es
unfolding held
length_held es s = length-map-range_with_len (unit_held_at es s) 0 (length es)

pub get_d_held : (es : List Entry) (s : List ℕ) (k : ℕ) (d : StoredUnit) → k < length es → get_or (held es s) k d ≡ unit_held_at es s k
unfolding held
get_d_held es s k d h = get_or-map-range_with_len (unit_held_at es s) 0 (length es) k k d h (omega arith)

-- a name has the same place among records and units
seat_same : (n : ℕ) (us : List StoredUnit) (es : List Entry) → length us ≡ length es → ((k : ℕ) → k < length es → (get_or us k no_unit).name ≡ (get_or es k blank).name) → seat_in n us ≡ seat n es
seat_same n [] [] h f = refl
seat_same n [] (e ∷ es) h f = absurd (omega arith)
seat_same n (u ∷ us) [] h f = absurd (omega arith)
seat_same n (u ∷ us) (e ∷ es) h f =
    ap (λ m. cond (eqb m n) 0 (suc (seat_in n us))) (f 0 (omega arith))
    ∙ ap (λ m. cond (eqb e.name n) 0 (suc m)) (seat_same n us es (omega arith) (λ k l. f (suc k) (omega arith)))

pub seat_held : (n : ℕ) (es : List Entry) (s : List ℕ) → seat_in n (held es s) ≡ seat n es
seat_held n es s = seat_same n (held es s) es (length_held es s) (λ k h. ap (λ u. u.name) (get_d_held es s k no_unit h))

pub sound_parts : (e : Entry) → sound e ≡ true → (0 < e.size) × (e.size ≤ 16) × (e.place + e.size ≤ e.span) × (e.span ≤ 4000)
sound_parts e s =
    let two = and_parts (bounded e) (narrow e) s in
    let a = and_parts (ltb 0 e.size) (leb e.size 16 && (leb (e.place + e.size) e.span && leb e.span 4000)) two.0 in
    let b = and_parts (leb e.size 16) (leb (e.place + e.size) e.span && leb e.span 4000) a.1 in
    let d = and_parts (leb (e.place + e.size) e.span) (leb e.span 4000) b.1 in
    (ltb-true 0 e.size a.0, leb-true e.size 16 b.0, leb-true (e.place + e.size) e.span d.0, leb-true e.span 4000 d.1)

pub sound_span : (e : Entry) → sound e ≡ true → (e.span ≤ 4000) × (e.place + e.size ≤ e.span)
sound_span e s = let p = sound_parts e s in (p.3, p.2)

-- the records of any store are lawful
pub lawful_stored : (s : List ℕ) → lawful (stored s) ≡ true
lawful_stored s = go (eqb (length s) 65536 && lawful (decode s)) refl
  where
    go : (t : Bool) → (eqb (length s) 65536 && lawful (decode s)) ≡ t → lawful (cond t (decode s) []) ≡ true
    go true h = (and_parts (eqb (length s) 65536) (lawful (decode s)) h).1
    go false h = refl

-- a text in another slot stays
other_slot : (k i m : ℕ) (t s : List ℕ) → k ≢ i → m ≤ 4000 → length t ≤ 4000 → slot i ≤ length s → take m (drop (slot k) (laid (slot i) t s)) ≡ take m (drop (slot k) s)
other_slot k i m t s ne hm ht hs =
    ⊎_elim {C = take m (drop (slot k) (laid (slot i) t s)) ≡ take m (drop (slot k) s)}
    (λ lt. laid_before (slot i) (slot k) m t s (omega arith) hs)
    (λ le. let gt : i < k = omega arith in ap (take m) (laid_behind (slot i) (slot k) t s (omega arith) hs))
    (cases_lt k i)

-- the slots lie behind the records
behind_records : (k : ℕ) (es : List Entry) (s : List ℕ) → length es ≤ 16 → drop (slot k) (laid 0 (encode es) s) ≡ drop (slot k) s
behind_records k es s h = laid_behind 0 (slot k) (encode es) s (omega (arith, length_encode es)) (omega arith)

held_entered : (i : ℕ) (e : Entry) (es : List Entry) (text s t : List ℕ) → i ≤ length es → e.span ≡ length text →
    ((k : ℕ) → k < length es → k ≢ i → take (get_or es k blank).span (drop (slot k) t) ≡ take (get_or es k blank).span (drop (slot k) s)) →
    take (length text) (drop (slot i) t) ≡ text →
    held (entered i e es) t ≡ entered i (unit_of_entry e text) (held es s)
held_entered i e es text s t h long others own =
    same_lists (held (entered i e es) t) (entered i (unit_of_entry e text) (held es s)) sizes
    (λ k d l. ⊎_elim {C = get_or (held (entered i e es) t) k d ≡ get_or (entered i (unit_of_entry e text) (held es s)) k d}
    (λ same. subst (λ j. get_or (held (entered i e es) t) j d ≡ get_or (entered i (unit_of_entry e text) (held es s)) j d) (sym same) (here d))
    (λ ne. there k d ne l) (cases_eq k i))
  where
    sizes : length (held (entered i e es) t) ≡ length (entered i (unit_of_entry e text) (held es s))
    sizes =
        let n = length_held es s in
        length_held (entered i e es) t ∙ length_entered i e es h ∙ ap (λ m. max m (i + 1)) (sym n)
        ∙ sym (length_entered i (unit_of_entry e text) (held es s) (omega arith))

    here : (d : StoredUnit) → get_or (held (entered i e es) t) i d ≡ get_or (entered i (unit_of_entry e text) (held es s)) i d
    here d =
        let n = length_held es s in
        let at : i < length (entered i e es) = omega (arith, length_entered i e es h) in
        get_d_held (entered i e es) t i d at
        ∙ ap (λ x. unit_of_entry x (take x.span (drop (slot i) t))) (get_d_entered_same i e blank es h)
        ∙ ap (λ m. unit_of_entry e (take m (drop (slot i) t))) long ∙ ap (unit_of_entry e) own
        ∙ sym (get_d_entered_same i (unit_of_entry e text) d (held es s) (omega arith))

    there : (k : ℕ) (d : StoredUnit) → k ≢ i → k < length (held (entered i e es) t) → get_or (held (entered i e es) t) k d ≡ get_or (entered i (unit_of_entry e text) (held es s)) k d
    there k d ne l =
        let n = length_held es s in
        let m : k < length (entered i e es) = omega (arith, length_held (entered i e es) t) in
        let below : k < length es = omega (arith, length_entered i e es h) in
        get_d_held (entered i e es) t k d m
        ∙ ap (λ x. unit_of_entry x (take x.span (drop (slot k) t))) (get_d_entered_other i k e blank es h ne)
        ∙ ap (unit_of_entry (get_or es k blank)) (others k below ne)
        ∙ sym (get_d_entered_other i k (unit_of_entry e text) d (held es s) (omega arith) ne ∙ get_d_held es s k d below)

held_vacated : (i : ℕ) (es : List Entry) (s t : List ℕ) → i < length es →
    ((k : ℕ) → k < length es → k ≢ i → take (get_or es k blank).span (drop (slot k) t) ≡ take (get_or es k blank).span (drop (slot k) s)) →
    take (get_or es (length es - 1) blank).span (drop (slot i) t) ≡ last_text es s →
    held (vacated i blank es) t ≡ vacated i no_unit (held es s)
held_vacated i es s t h others own =
    same_lists (held (vacated i blank es) t) (vacated i no_unit (held es s)) sizes
    (λ k d l. ⊎_elim {C = get_or (held (vacated i blank es) t) k d ≡ get_or (vacated i no_unit (held es s)) k d}
    (λ same. subst (λ j. j < length (held (vacated i blank es) t) → get_or (held (vacated i blank es) t) j d ≡ get_or (vacated i no_unit (held es s)) j d) (sym same) (here d) l)
    (λ ne. there k d ne l) (cases_eq k i))
  where
    sizes : length (held (vacated i blank es) t) ≡ length (vacated i no_unit (held es s))
    sizes =
        length_held (vacated i blank es) t ∙ length_vacated i blank es ∙ ap (λ m. m - 1) (sym (length_held es s)) ∙ sym (length_vacated i no_unit (held es s))

    here : (d : StoredUnit) → i < length (held (vacated i blank es) t) → get_or (held (vacated i blank es) t) i d ≡ get_or (vacated i no_unit (held es s)) i d
    here d l =
        let n = length_held es s in
        let m : i < length (vacated i blank es) = omega (arith, length_held (vacated i blank es) t) in
        let below : i < length es - 1 = omega (arith, length_vacated i blank es) in
        get_d_held (vacated i blank es) t i d m
        ∙ ap (λ x. unit_of_entry x (take x.span (drop (slot i) t))) (get_d_vacated_same i blank es below blank)
        ∙ ap (unit_of_entry (get_or es (length es - 1) blank)) own
        ∙ sym (get_d_vacated_same i no_unit (held es s) (omega arith) d ∙ ap (λ j. get_or (held es s) (j - 1) no_unit) n ∙ get_d_held es s (length es - 1) no_unit (omega arith))

    there : (k : ℕ) (d : StoredUnit) → k ≢ i → k < length (held (vacated i blank es) t) → get_or (held (vacated i blank es) t) k d ≡ get_or (vacated i no_unit (held es s)) k d
    there k d ne l =
        let n = length_held es s in
        let m : k < length (vacated i blank es) = omega (arith, length_held (vacated i blank es) t) in
        let below : k < length es - 1 = omega (arith, length_vacated i blank es) in
        let inside : k < length es = omega arith in
        get_d_held (vacated i blank es) t k d m
        ∙ ap (λ x. unit_of_entry x (take x.span (drop (slot k) t))) (get_d_vacated_other i k blank es below ne blank)
        ∙ ap (unit_of_entry (get_or es k blank)) (others k inside ne)
        ∙ sym (get_d_vacated_other i k no_unit (held es s) (omega arith) ne d ∙ get_d_held es s k d inside)

-- the span of a lawful record
pub span_at : (es : List Entry) (k : ℕ) → lawful es ≡ true → k < length es → ((get_or es k blank).span ≤ 4000) × ((get_or es k blank).place + (get_or es k blank).size ≤ (get_or es k blank).span)
span_at es k l h = sound_span (get_or es k blank) (sound_at es k (lawful_parts es l).1 h)

-- after a unit was put, the units are those before with this one
pub put_units : (e : Entry) (text s : List ℕ) → length s ≡ 65536 → sound e ≡ true → e.span ≡ length text → seat e.name (stored s) < 16 →
    units (with_unit (seat e.name (stored s)) e text s) ≡ put_in (unit_of_entry e text) (units s)
put_units e text s long ok span room =
    let es = stored s in
    let k = seat e.name es in
    let es2 = entered k e es in
    let l = lawful_stored s in
    let l2 = lawful_entered e es ok l room in
    let few = (lawful_parts es2 l2).0 in
    let short : length text ≤ 4000 = omega (arith, (sound_span e ok).0) in
    let mid = laid (slot k) text s in
    let size_mid : length mid ≡ length s = length_laid (slot k) text s (omega arith) in
    let size : length (laid 0 (encode es2) mid) ≡ length mid = length_laid 0 (encode es2) mid (omega (arith, length_encode es2)) in
    let back : stored (laid 0 (encode es2) mid) ≡ es2 = stored_laid es2 mid l2 (size ∙ size_mid ∙ long) in
    ap (λ x. held x (laid 0 (encode es2) mid)) back
    ∙ held_entered k e es text s (laid 0 (encode es2) mid) (seat_le e.name es) span
    (λ j h ne. ap (take (get_or es j blank).span) (behind_records j es2 mid few) ∙ other_slot j k (get_or es j blank).span text s ne (span_at es j l h).0 short (omega arith))
    (ap (take (length text)) (behind_records k es2 mid few) ∙ take_laid (slot k) text s (omega arith))
    ∙ ap (λ i. entered i (unit_of_entry e text) (held es s)) (sym (seat_held e.name es s))

-- after a unit was removed, the units are those before without it
pub remove_units : (name : ℕ) (s : List ℕ) → length s ≡ 65536 → seat name (stored s) < length (stored s) →
    units (without_unit (seat name (stored s)) s) ≡ taken_out name (units s)
remove_units name s long room =
    let es = stored s in
    let k = seat name es in
    let es2 = vacated k blank es in
    let l = lawful_stored s in
    let many = (lawful_parts es l).0 in
    let l2 = lawful_vacated k blank es (omega arith) l in
    let few = (lawful_parts es2 l2).0 in
    let last = get_or es (length es - 1) blank in
    let short = (span_at es (length es - 1) l (omega arith)).0 in
    let text = last_text es s in
    let behind = length-drop (slot (length es - 1)) s in
    let count : length text ≡ last.span = length-take-le last.span (drop (slot (length es - 1)) s) (omega arith) in
    let mid = laid (slot k) text s in
    let size_mid : length mid ≡ length s = length_laid (slot k) text s (omega arith) in
    let size : length (laid 0 (encode es2) mid) ≡ length mid = length_laid 0 (encode es2) mid (omega (arith, length_encode es2)) in
    let back : stored (laid 0 (encode es2) mid) ≡ es2 = stored_laid es2 mid l2 (size ∙ size_mid ∙ long) in
    ap (λ x. held x (laid 0 (encode es2) mid)) back
    ∙ held_vacated k es s (laid 0 (encode es2) mid) room
    (λ j h ne. ap (take (get_or es j blank).span) (behind_records j es2 mid few) ∙ other_slot j k (get_or es j blank).span text s ne (span_at es j l h).0 (omega arith) (omega arith))
    (ap (take last.span) (behind_records k es2 mid few) ∙ ap (λ n. take n (drop (slot k) mid)) (sym count) ∙ take_laid (slot k) text s (omega arith))
    ∙ ap (λ i. vacated i no_unit (held es s)) (sym (seat_held name es s))

-- a store of another length, or without records, has no unit
pub no_units : (s : List ℕ) → stored s ≡ [] → units s ≡ []
unfolding held
no_units s e = ap (λ es. held es s) e
