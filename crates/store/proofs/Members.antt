-- Which units are stored, whatever their places.
use Rattle.std.proofs.Common.{◌≡◌, ℕ, zero, suc, ◌-◌, ◌<◌, ◌≤◌, Bool, true, false, cond, eqb, ◌≢◌, ◌⊎◌, List, [], ◌∷◌, length, get_or, drop, sym, refl, ap, ◌∙◌, subst, inl, inr, ⊎_elim, arith}
use Rattle.std.proofs.lemmas.List.{length-take-le, length-drop}
use Rattle.std.proofs.lemmas.Bool.{eqb-true, eqb-false, eq-eqb, cases_eq, cases_order, cases_lt}
use Rattle.store.specs.declared.entry.Entry.{Entry}
use Rattle.store.specs.Entries.{blank, absent, well}
use Rattle.store.specs.Layout.{stored}
use Rattle.store.specs.Units.{StoredUnit, slot, units, no_unit, seat_in, put_in, taken_out, Among, Once, Kept, Replaced, Removed}
use Rattle.store.proofs.Lawful.{absent_parts, well_parts, lawful_parts, length_entered, length_vacated}
use Rattle.store.proofs.Coding.{sound_at}
use Rattle.store.proofs.Places.{get_d_entered_same, get_d_entered_other, get_d_vacated_same, get_d_vacated_other}
use Rattle.store.proofs.Holding.{length_held, get_d_held, lawful_stored, sound_parts}
use Rattle.store.proofs.Done.{full_length}

absent_at : (m k : ℕ) (es : List Entry) → absent m es ≡ true → k < length es → (get_or es k blank).name ≡ m → ⊥
absent_at m k [] a h e = absurd (omega arith)
absent_at m zero (x ∷ xs) a h e = eqb-false x.name m (absent_parts m x xs a).0 e
absent_at m (suc k) (x ∷ xs) a h e = absent_at m k xs (absent_parts m x xs a).1 (omega arith) e

apart : (i j : ℕ) (es : List Entry) → well es ≡ true → i < j → j < length es → (get_or es i blank).name ≡ (get_or es j blank).name → ⊥
apart i j [] w lt h e = absurd (omega arith)
apart i zero (x ∷ xs) w lt h e = absurd (omega arith)
apart zero (suc j) (x ∷ xs) w lt h e = absent_at x.name j xs (well_parts x xs w).1 (omega arith) (sym e)
apart (suc i) (suc j) (x ∷ xs) w lt h e = apart i j xs (well_parts x xs w).2 (omega arith) (omega arith) e

-- no two units of a store have one name
pub once_units : (s : List ℕ) → Once (units s)
once_units s i j hi hj e =
    let n = length_held (stored s) s in
    let hi2 : i < length (stored s) = omega arith in
    let hj2 : j < length (stored s) = omega arith in
    let w = (lawful_parts (stored s) (lawful_stored s)).1 in
    let same : (get_or (stored s) i blank).name ≡ (get_or (stored s) j blank).name =
    sym (ap (λ u. u.name) (get_d_held (stored s) s i no_unit hi2)) ∙ e ∙ ap (λ u. u.name) (get_d_held (stored s) s j no_unit hj2) in
    ⊎_elim {C = i ≡ j} (λ x. x) (λ x. ⊎_elim {C = i ≡ j}
    (λ lt. absurd (apart i j (stored s) w lt hj2 same))
    (λ gt. absurd (apart j i (stored s) w gt hi2 (sym same))) x) (cases_order i j)

pub kept_units : (s : List ℕ) → Kept (units s)
kept_units s =
    let l = lawful_parts (stored s) (lawful_stored s) in
    let n = length_held (stored s) s in
    record {
      few = omega (arith, l.0);
      once = once_units s;
      bounds = λ k h.
          let h2 : k < length (stored s) = omega arith in
          let u = get_d_held (stored s) s k no_unit h2 in
          let e = get_or (stored s) k blank in
          let p = sound_parts e (sound_at (stored s) k l.1 h2) in
          let long = full_length s (omega arith) in
          let text : length (get_or (units s) k no_unit).text ≡ e.span = ap (λ v. length v.text) u ∙ length-take-le e.span (drop (slot k) s) (omega (arith, p.3, l.0, length-drop (slot k) s)) in
          let size = ap (λ v. v.size) u in
          let place = ap (λ v. v.place) u in
          (omega (arith, p.0), omega (arith, p.1), omega (arith, p.2), omega (arith, p.3));
    }

seat_in_le : (n : ℕ) (us : List StoredUnit) → seat_in n us ≤ length us
seat_in_le n [] = omega arith
seat_in_le n (u ∷ us) = go (eqb u.name n) (seat_in_le n us)
  where
    go : (t : Bool) → seat_in n us ≤ length us → cond t 0 (suc (seat_in n us)) ≤ suc (length us)
    go true more = omega arith
    go false more = omega arith

pub seat_first : (n : ℕ) (us : List StoredUnit) → seat_in n us < length us → (get_or us (seat_in n us) no_unit).name ≡ n
seat_first n [] h = absurd (omega arith)
seat_first n (u ∷ us) h = go (eqb u.name n) refl (seat_first n us) h
  where
    go : (t : Bool) → eqb u.name n ≡ t → (seat_in n us < length us → (get_or us (seat_in n us) no_unit).name ≡ n) → cond t 0 (suc (seat_in n us)) < suc (length us) → (get_or (u ∷ us) (cond t 0 (suc (seat_in n us))) no_unit).name ≡ n
    go true e more l = eqb-true u.name n e
    go false e more l = more (omega arith)

seat_before : (n k : ℕ) (us : List StoredUnit) → k < length us → (get_or us k no_unit).name ≡ n → seat_in n us ≤ k
seat_before n k [] h e = absurd (omega arith)
seat_before n zero (u ∷ us) h e = subst (λ t. cond t 0 (suc (seat_in n us)) ≤ 0) (sym (eq-eqb u.name n e)) (omega arith)
seat_before n (suc k) (u ∷ us) h e = go (eqb u.name n) (seat_before n k us (omega arith) e)
  where
    go : (t : Bool) → seat_in n us ≤ k → cond t 0 (suc (seat_in n us)) ≤ suc k
    go true more = omega arith
    go false more = omega arith

-- the unit of a name is at its place only
pub seat_only : (n k : ℕ) (us : List StoredUnit) → Once us → k < length us → (get_or us k no_unit).name ≡ n → k ≡ seat_in n us
seat_only n k us once h e =
    let le = seat_before n k us h e in
    once k (seat_in n us) h (omega arith) (e ∙ sym (seat_first n us (omega arith)))

pub replaced : (u : StoredUnit) (us : List StoredUnit) → Once us → Replaced u us (put_in u us)
replaced u us once v = (there, ⊎_elim {C = Among v (put_in u us)} own other)
  where
    le : seat_in u.name us ≤ length us
    le = seat_in_le u.name us

    there : Among v (put_in u us) → (v ≡ u) ⊎ (Among v us × (v.name ≢ u.name))
    there (k, h, e) =
        ⊎_elim {C = (v ≡ u) ⊎ (Among v us × (v.name ≢ u.name))}
        (λ same. inl (sym e ∙ ap (λ j. get_or (put_in u us) j no_unit) same ∙ get_d_entered_same (seat_in u.name us) u no_unit us le))
        (λ ne.
        let below : k < length us = omega (arith, length_entered (seat_in u.name us) u us le, le) in
        let old : get_or us k no_unit ≡ v = sym (get_d_entered_other (seat_in u.name us) k u no_unit us le ne) ∙ e in
        inr ((k, below, old), λ n. ne (seat_only u.name k us once below (ap (λ x. x.name) old ∙ n))))
        (cases_eq k (seat_in u.name us))

    own : v ≡ u → Among v (put_in u us)
    own e = (
      seat_in u.name us,
      omega (arith, length_entered (seat_in u.name us) u us le, le),
      get_d_entered_same (seat_in u.name us) u no_unit us le ∙ sym e,
    )

    other : Among v us × (v.name ≢ u.name) → Among v (put_in u us)
    other ((k, h, e), ne) =
        let apart : k ≢ seat_in u.name us = λ same. ne (sym (ap (λ x. x.name) e) ∙ ap (λ j. (get_or us j no_unit).name) same ∙ seat_first u.name us (omega arith)) in
        (k, omega (arith, length_entered (seat_in u.name us) u us le, le), get_d_entered_other (seat_in u.name us) k u no_unit us le apart ∙ e)

pub removed : (n : ℕ) (us : List StoredUnit) → Once us → seat_in n us < length us → Removed n us (taken_out n us)
removed n us once room v = (there, other)
  where
    there : Among v (taken_out n us) → Among v us × (v.name ≢ n)
    there (k, h, e) =
        let below : k < length us - 1 = omega (arith, length_vacated (seat_in n us) no_unit us) in
        ⊎_elim {C = Among v us × (v.name ≢ n)}
        (λ same.
        let here : seat_in n us < length us - 1 = omega arith in
        let old : get_or us (length us - 1) no_unit ≡ v = sym (get_d_vacated_same (seat_in n us) no_unit us here no_unit) ∙ ap (λ j. get_or (taken_out n us) j no_unit) (sym same) ∙ e in
        let last : length us - 1 < length us = omega arith in
        ((length us - 1, last, old), λ m. absurd (omega (arith, seat_only n (length us - 1) us once last (ap (λ x. x.name) old ∙ m)))))
        (λ ne.
        let old : get_or us k no_unit ≡ v = sym (get_d_vacated_other (seat_in n us) k no_unit us below ne no_unit) ∙ e in
        let inside : k < length us = omega arith in
        ((k, inside, old), λ m. ne (seat_only n k us once inside (ap (λ x. x.name) old ∙ m))))
        (cases_eq k (seat_in n us))

    other : Among v us × (v.name ≢ n) → Among v (taken_out n us)
    other ((k, h, e), ne) =
        let apart : k ≢ seat_in n us = λ same. ne (sym (ap (λ x. x.name) e) ∙ ap (λ j. (get_or us j no_unit).name) same ∙ seat_first n us room) in
        ⊎_elim {C = Among v (taken_out n us)}
        (λ lt. (k, omega (arith, length_vacated (seat_in n us) no_unit us), get_d_vacated_other (seat_in n us) k no_unit us lt apart no_unit ∙ e))
        (λ le.
        let same : k ≡ length us - 1 = omega arith in
        let here : seat_in n us < length us - 1 = omega arith in (
          seat_in n us,
          omega (arith, length_vacated (seat_in n us) no_unit us),
          get_d_vacated_same (seat_in n us) no_unit us here no_unit ∙ ap (λ j. get_or us j no_unit) (sym same) ∙ e,
        ))
        (cases_lt k (length us - 1))
