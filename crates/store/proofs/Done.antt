-- What put and remove leave and answer, step by step.
use Rattle.std.proofs.Common.{◌≡◌, ℕ, zero, suc, ◌+◌, ◌-◌, ◌^◌, ◌<◌, ◌≤◌, Bool, true, false, cond, ◌&&◌, ◌||◌, eqb, ltb, leb, List, [], ◌∷◌, ◌++◌, length, get_or, take, drop, replicate, is_ok, Some, Ok, Err, sym, refl, ap, ◌∙◌, subst, ⊎_elim, arith}
use Rattle.std.specs.Int.Digits.{AllBelowBase}
use Rattle.std.proofs.lemmas.Int.Digits.{number_lt}
use Rattle.std.proofs.lemmas.List.{length-append, length-replicate, length-take-le, length-drop}
use Rattle.std.proofs.lemmas.Bool.{and_parts, and_from, eqb-true, leb-true, ltb-true, le-leb, lt-ltb, le-ltb, or_left, cases_lt, eq-eqb, cond-true, cond-false}
use Rattle.store.specs.declared.entry.Entry.{Entry}
use Rattle.store.specs.declared.units.Refusal.{Refusal}
use Rattle.store.specs.declared.units.Refusal.TheVariants.{StoreLength, TextLength, NoName, Full, Missing}
use Rattle.store.specs.Numbers.{laid}
use Rattle.store.specs.Names.{is_name, no_zero}
use Rattle.store.specs.Entries.{blank, sound, lawful, seat, fits, entered, vacated}
use Rattle.store.specs.Layout.{encode, decode, stored, written}
use Rattle.store.specs.Units.{slot, units, put_in, taken_out}
use Rattle.store.specs.Calls.{has_name, number_in, room, name_in, record_for, unit_for, put_answer, with_unit, store_after_put, remove_answer, last_text, without_unit, store_after_remove}
use Rattle.std.proofs.lemmas.Option.{cond_some}
use Rattle.store.proofs.Order.{under_from}
use Rattle.store.proofs.Laid.{length_laid}
use Rattle.store.proofs.Lawful.{lawful_parts}
use Rattle.store.proofs.Seats.{seat_le}
use Rattle.store.proofs.Holding.{put_units, remove_units, lawful_stored, span_at}

-- the number of a name in a text is told only where a name stands there
pub told : (text : List ℕ) (place size n : ℕ) → Some n ≡ name_in text place size → (has_name text place size ≡ true) × (n ≡ number_in text place size)
told text place size n e = let p = cond_some (has_name text place size) (number_in text place size) n (sym e) in (p.0, sym p.1)

-- a name in a text lies in it and has 1 to 16 bytes
pub name_inside : (text : List ℕ) (place size : ℕ) → has_name text place size ≡ true → (place + size ≤ length text) × (0 < size) × (size ≤ 16)
name_inside text place size h =
    let part = take size (drop place text) in
    let two = and_parts (leb (place + size) (length text)) (is_name part) h in
    let inside = leb-true (place + size) (length text) two.0 in
    let long : length part ≡ size = length-take-le size (drop place text) (omega (arith, length-drop place text)) in
    let named = and_parts (ltb 0 (length part)) (leb (length part) 16 && no_zero part) two.1 in
    let short = and_parts (leb (length part) 16) (no_zero part) named.1 in
    let some = ltb-true 0 (length part) named.0 in
    let few = leb-true (length part) 16 short.0 in
    (inside, omega arith, omega arith)

pub under_pad : (bs : List ℕ) (n : ℕ) → AllBelowBase 256 bs → AllBelowBase 256 (bs ++ replicate n 0)
under_pad [] zero u = tt
under_pad [] (suc n) u = (omega arith, under_pad [] n tt)
under_pad (b ∷ bs) n u = (u.0, under_pad bs n u.1)

under_take : (n : ℕ) (bs : List ℕ) → AllBelowBase 256 bs → AllBelowBase 256 (take n bs)
under_take zero bs u = tt
under_take (suc n) [] u = tt
under_take (suc n) (b ∷ bs) u = (u.0, under_take n bs u.1)

under_drop : (n : ℕ) (bs : List ℕ) → AllBelowBase 256 bs → AllBelowBase 256 (drop n bs)
under_drop zero bs u = u
under_drop (suc n) [] u = tt
under_drop (suc n) (b ∷ bs) u = under_drop n bs u.1

-- the number of a name in bytes has 16 digits
pub number_small : (text : List ℕ) (place size : ℕ) → ((k : ℕ) → get_or text k 0 < 256) → has_name text place size ≡ true → number_in text place size < 256 ^ 16
number_small text place size f h =
    let part = take size (drop place text) in
    let p = name_inside text place size h in
    let long : length part ≡ size = length-take-le size (drop place text) (omega (arith, length-drop place text, p.0)) in
    let pad = part ++ replicate (16 - length part) 0 in
    let whole : length pad ≡ 16 = length-append part (replicate (16 - length part) 0) ∙ omega (arith, length-replicate {A = ℕ} (16 - length part) 0, p.2) in
    subst (λ n. number_in text place size < 256 ^ n) whole
    (number_lt 256 pad (under_pad part (16 - length part) (under_take size (drop place text) (under_drop place text (under_from text f)))))

-- the record of a text that has a name is sound
pub sound_for : (text : List ℕ) (place size rank n : ℕ) → has_name text place size ≡ true → length text ≤ 4000 → rank < 256 → n < 256 ^ 16 →
    sound (record { name = n; size = size; place = place; span = length text; rank = rank }) ≡ true
sound_for text place size rank n h short r small =
    let p = name_inside text place size h in
    and_from (ltb 0 size && (leb size 16 && (leb (place + size) (length text) && leb (length text) 4000))) (ltb n (256 ^ 16) && ltb rank 256)
    (and_from (ltb 0 size) (leb size 16 && (leb (place + size) (length text) && leb (length text) 4000)) (lt-ltb 0 size p.1)
    (and_from (leb size 16) (leb (place + size) (length text) && leb (length text) 4000) (le-leb size 16 p.2)
    (and_from (leb (place + size) (length text)) (leb (length text) 4000) (le-leb (place + size) (length text) p.0) (le-leb (length text) 4000 short))))
    (and_from (ltb n (256 ^ 16)) (ltb rank 256) (lt-ltb n (256 ^ 16) small) (lt-ltb rank 256 r))

-- three questions with a yes
yeses : {X : Type 0} (a b c : Bool) (x n t s : X) → a ≡ true → b ≡ true → c ≡ true → cond a (cond b (cond c x n) t) s ≡ x
yeses a b c x n t s ha hb hc = cond-true a (cond b (cond c x n) t) s ha ∙ cond-true b (cond c x n) t hb ∙ cond-true c x n hc

-- there is room where the place is below 16
room_is : (n : ℕ) (es : List Entry) → length es ≤ 16 → room n es ≡ ltb (seat n es) 16
room_is n es h =
    let le = seat_le n es in
    ⊎_elim {C = room n es ≡ ltb (seat n es) 16}
    (λ few. or_left (ltb (length es) 16) (ltb (seat n es) (length es)) (lt-ltb (length es) 16 few) ∙ sym (lt-ltb (seat n es) 16 (omega arith)))
    (λ full.
    let all : length es ≡ 16 = omega arith in
    ap (λ b. b || ltb (seat n es) (length es)) (le-ltb (length es) 16 full) ∙ ap (ltb (seat n es)) all)
    (cases_lt (length es) 16)

last_question : (s text : List ℕ) (place size : ℕ) → length s ≡ 65536 → length text ≤ 4000 → has_name text place size ≡ true →
    put_answer s text place size ≡ cond (ltb (seat (number_in text place size) (stored s)) 16) (Ok (seat (number_in text place size) (stored s))) (Err Full)
last_question s text place size long short named =
    yeses (eqb (length s) 65536) (leb (length text) 4000) (has_name text place size)
    (cond (room (number_in text place size) (stored s)) (Ok (seat (number_in text place size) (stored s))) (Err Full)) (Err NoName) (Err TextLength) (Err StoreLength)
    (eq-eqb (length s) 65536 long) (le-leb (length text) 4000 short) named
    ∙ ap (λ b. cond b (Ok (seat (number_in text place size) (stored s))) (Err Full)) (room_is (number_in text place size) (stored s) (lawful_parts (stored s) (lawful_stored s)).0)

-- 16 other units are stored
pub put_full : (s text : List ℕ) (place size rank n : ℕ) → length s ≡ 65536 → length text ≤ 4000 → has_name text place size ≡ true → n ≡ number_in text place size →
    sound (record { name = n; size = size; place = place; span = length text; rank = rank }) ≡ true →
    fits (record { name = n; size = size; place = place; span = length text; rank = rank }) (stored s) ≡ false →
    put_answer s text place size ≡ Err Full
put_full s text place size rank n long short named is ok no_room =
    let t = ltb (seat n (stored s)) 16 in
    let closed : t ≡ false = sym (ap (λ b. b && t) ok) ∙ no_room in
    last_question s text place size long short named
    ∙ cond-false (ltb (seat (number_in text place size) (stored s)) 16) (Ok (seat (number_in text place size) (stored s))) (Err Full)
    (ap (λ m. ltb (seat m (stored s)) 16) (sym is) ∙ closed)

-- a refusal leaves the store as it was
pub put_refused : (s text : List ℕ) (place size rank : ℕ) (r : Refusal) → put_answer s text place size ≡ Err r → store_after_put s text place size rank ≡ s
put_refused s text place size rank r e =
    ap (λ a. cond (is_ok a) (with_unit (seat (number_in text place size) (stored s)) (record_for text place size rank) text s) s) e

written_is : (es : List Entry) (s : List ℕ) → length s ≡ 65536 → written es s ≡ laid 0 (encode es) s
written_is es s h = cond-true (eqb (length s) 65536) (laid 0 (encode es) s) s (eq-eqb (length s) 65536 h)

pub put_done : (text s mid out : List ℕ) (place size rank n k at : ℕ) (es : List Entry) →
    length s ≡ 65536 → length text ≤ 4000 → has_name text place size ≡ true → n ≡ number_in text place size →
    sound (record { name = n; size = size; place = place; span = length text; rank = rank }) ≡ true →
    fits (record { name = n; size = size; place = place; span = length text; rank = rank }) (stored s) ≡ true →
    es ≡ entered (seat n (stored s)) (record { name = n; size = size; place = place; span = length text; rank = rank }) (stored s) →
    k ≡ seat n (stored s) → at ≡ slot k → mid ≡ laid at text s → out ≡ written es mid →
    (put_answer s text place size ≡ Ok k) × (out ≡ store_after_put s text place size rank) × (units out ≡ put_in (unit_for text place size rank) (units s))
put_done text s mid out place size rank n k at es long short named is ok room change seated slotted middle end =
    let m = number_in text place size in
    let e = record_for text place size rank in
    let sat : k ≡ seat m (stored s) = seated ∙ ap (λ x. seat x (stored s)) is in
    let ok2 : sound e ≡ true = ap (λ x. sound (record { name = x; size = size; place = place; span = length text; rank = rank })) (sym is) ∙ ok in
    let room2 : ltb (seat n (stored s)) 16 ≡ true = (and_parts (sound (record { name = n; size = size; place = place; span = length text; rank = rank })) (ltb (seat n (stored s)) 16) room).1 in
    let below : seat m (stored s) < 16 = ltb-true (seat m (stored s)) 16 (ap (λ x. ltb (seat x (stored s)) 16) (sym is) ∙ room2) in
    let answer : put_answer s text place size ≡ Ok (seat m (stored s)) =
    last_question s text place size long short named
    ∙ cond-true (ltb (seat m (stored s)) 16) (Ok (seat m (stored s))) (Err Full) (lt-ltb (seat m (stored s)) 16 below) in
    let place_is : at ≡ slot (seat m (stored s)) = slotted ∙ ap slot sat in
    let mid_is : mid ≡ laid (slot (seat m (stored s))) text s = middle ∙ ap (λ p. laid p text s) place_is in
    let mid_long : length (laid (slot (seat m (stored s))) text s) ≡ length s = length_laid (slot (seat m (stored s))) text s (omega arith) in
    let es_is : es ≡ entered (seat m (stored s)) e (stored s) = change ∙ ap (λ x. entered (seat x (stored s)) (record { name = x; size = size; place = place; span = length text; rank = rank }) (stored s)) is in
    let out_is : out ≡ with_unit (seat m (stored s)) e text s =
    end ∙ ap (λ x. written x mid) es_is ∙ ap (written (entered (seat m (stored s)) e (stored s))) mid_is
    ∙ written_is (entered (seat m (stored s)) e (stored s)) (laid (slot (seat m (stored s))) text s) (mid_long ∙ long) in (
      answer ∙ ap Ok (sym sat),
      out_is ∙ sym (ap (λ a. cond (is_ok a) (with_unit (seat m (stored s)) e text s) s) answer),
      ap units out_is ∙ put_units e text s long ok2 refl below,
    )

pub remove_done : (s mid out : List ℕ) (name k from to n : ℕ) (es : List Entry) →
    length s ≡ 65536 → seat name (stored s) < length (stored s) → es ≡ vacated (seat name (stored s)) blank (stored s) → k ≡ seat name (stored s) →
    from ≡ slot (length (stored s) - 1) → to ≡ slot k → n ≡ (get_or (stored s) (length (stored s) - 1) blank).span →
    mid ≡ laid to (take n (drop from s)) s → out ≡ written es mid →
    (remove_answer s name ≡ Ok k) × (out ≡ store_after_remove s name) × (units out ≡ taken_out name (units s))
remove_done s mid out name k from to n es long room change seated from_is to_is n-is middle end =
    let i = seat name (stored s) in
    let answer : remove_answer s name ≡ Ok i =
    cond-true (eqb (length s) 65536) (cond (ltb i (length (stored s))) (Ok i) (Err Missing)) (Err StoreLength) (eq-eqb (length s) 65536 long)
    ∙ cond-true (ltb i (length (stored s))) (Ok i) (Err Missing) (lt-ltb i (length (stored s)) room) in
    let text = last_text (stored s) s in
    let few = (lawful_parts (stored s) (lawful_stored s)).0 in
    let short = (span_at (stored s) (length (stored s) - 1) (lawful_stored s) (omega arith)).0 in
    let behind = length-drop (slot (length (stored s) - 1)) s in
    let count : length text ≡ (get_or (stored s) (length (stored s) - 1) blank).span = length-take-le (get_or (stored s) (length (stored s) - 1) blank).span (drop (slot (length (stored s) - 1)) s) (omega arith) in
    let mid_is : mid ≡ laid (slot i) text s =
    middle ∙ ap (λ p. laid p (take n (drop from s)) s) (to_is ∙ ap slot seated) ∙ ap (λ x. laid (slot i) (take x (drop from s)) s) n-is
    ∙ ap (λ x. laid (slot i) (take (get_or (stored s) (length (stored s) - 1) blank).span (drop x s)) s) from_is in
    let mid_long : length (laid (slot i) text s) ≡ length s = length_laid (slot i) text s (omega arith) in
    let out_is : out ≡ without_unit i s =
    end ∙ ap (λ x. written x mid) change ∙ ap (written (vacated i blank (stored s))) mid_is
    ∙ written_is (vacated i blank (stored s)) (laid (slot i) text s) (mid_long ∙ long) in (
      answer ∙ ap Ok (sym seated),
      out_is ∙ sym (ap (λ a. cond (is_ok a) (without_unit i s) s) answer),
      ap units out_is ∙ remove_units name s long room,
    )

-- a store with a record has the bytes of a store
pub full_length : (s : List ℕ) → 0 < length (stored s) → length s ≡ 65536
full_length s h = go (eqb (length s) 65536) refl h
  where
    go : (t : Bool) → eqb (length s) 65536 ≡ t → 0 < length (cond (t && lawful (decode s)) (decode s) []) → length s ≡ 65536
    go true e l = eqb-true (length s) 65536 e
    go false e l = absurd (omega arith)
