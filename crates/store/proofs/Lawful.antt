-- Lawful records stay lawful.
use Rattle.std.proofs.Common.{◌≡◌, ℕ, zero, suc, ◌+◌, ◌-◌, ◌<◌, ◌≤◌, max, Bool, true, false, cond, not, ◌&&◌, eqb, leb, List, [], ◌∷◌, ◌++◌, length, get_or, take, drop, set, sym, refl, ◌∙◌, subst, arith}
use Rattle.std.proofs.lemmas.List.{length-append, length-set, length-take-le, length-drop}
use Rattle.std.proofs.lemmas.Bool.{and_parts, and_from, not-true, not_from_false, eqb-true, eqb-false, ne_eqb, leb-true, le-leb}
use Rattle.store.specs.declared.entry.Entry.{Entry}
use Rattle.store.specs.Entries.{sound, clash, absent, well, lawful, seat, entered, vacated}
use Rattle.store.proofs.Seats.{last_split, seat_le}

clash_sym : (a b : ℕ) → clash a b ≡ false → clash b a ≡ false
clash_sym a b e = ne_eqb b a (λ f. eqb-false a b e (sym f))

-- one entry in front of others
absent_cons : (m : ℕ) (x : Entry) (xs : List Entry) → clash x.name m ≡ false → absent m xs ≡ true → absent m (x ∷ xs) ≡ true
absent_cons m x xs c a = and_from (not (clash x.name m)) (absent m xs) (not_from_false (clash x.name m) c) a

pub absent_parts : (m : ℕ) (x : Entry) (xs : List Entry) → absent m (x ∷ xs) ≡ true → (clash x.name m ≡ false) × (absent m xs ≡ true)
absent_parts m x xs a =
    let two = and_parts (not (clash x.name m)) (absent m xs) a in (not-true (clash x.name m) two.0, two.1)

pub well_parts : (x : Entry) (xs : List Entry) → well (x ∷ xs) ≡ true → (sound x ≡ true) × (absent x.name xs ≡ true) × (well xs ≡ true)
well_parts x xs w =
    let two = and_parts (sound x) (absent x.name xs && well xs) w in
    let more = and_parts (absent x.name xs) (well xs) two.1 in (two.0, more.0, more.1)

well_cons : (x : Entry) (xs : List Entry) → sound x ≡ true → absent x.name xs ≡ true → well xs ≡ true → well (x ∷ xs) ≡ true
well_cons x xs s a w = and_from (sound x) (absent x.name xs && well xs) s (and_from (absent x.name xs) (well xs) a w)

absent_entered : (m i : ℕ) (e : Entry) (es : List Entry) → clash e.name m ≡ false → absent m es ≡ true → absent m (entered i e es) ≡ true
absent_entered m zero e [] c a = absent_cons m e [] c refl
absent_entered m (suc i) e [] c a = absent_cons m e [] c refl
absent_entered m zero e (x ∷ xs) c a = absent_cons m e xs c (absent_parts m x xs a).1
absent_entered m (suc i) e (x ∷ xs) c a =
    let two = absent_parts m x xs a in absent_cons m x (entered i e xs) two.0 (absent_entered m i e xs c two.1)

-- an entry in the place of the one of its name, or behind the last
pub well_entered : (e : Entry) (es : List Entry) → sound e ≡ true → well es ≡ true → well (entered (seat e.name es) e es) ≡ true
well_entered e [] s w = well_cons e [] s refl refl
well_entered e (x ∷ xs) s w = go (eqb x.name e.name) refl (well_parts x xs w) (well_entered e xs s (well_parts x xs w).2)
  where
    go : (t : Bool) → eqb x.name e.name ≡ t → (sound x ≡ true) × (absent x.name xs ≡ true) × (well xs ≡ true) → well (entered (seat e.name xs) e xs) ≡ true → well (entered (cond t 0 (suc (seat e.name xs))) e (x ∷ xs)) ≡ true
    go true h p more = well_cons e xs s (subst (λ n. absent n xs ≡ true) (eqb-true x.name e.name h) p.1) p.2
    go false h p more =
        well_cons x (entered (seat e.name xs) e xs) p.0
        (absent_entered x.name (seat e.name xs) e xs (clash_sym x.name e.name h) p.1) more

absent_append : (m : ℕ) (ys : List Entry) (z : Entry) → absent m (ys ++ (z ∷ [])) ≡ true → (absent m ys ≡ true) × (clash z.name m ≡ false)
absent_append m [] z a = (refl, (absent_parts m z [] a).0)
absent_append m (y ∷ ys) z a =
    let two = absent_parts m y (ys ++ (z ∷ [])) a in
    let more = absent_append m ys z two.1 in (absent_cons m y ys two.0 more.0, more.1)

absent_set : (m i : ℕ) (ys : List Entry) (z : Entry) → absent m ys ≡ true → clash z.name m ≡ false → absent m (set ys i z) ≡ true
absent_set m i [] z a c = refl
absent_set m zero (y ∷ ys) z a c = absent_cons m z ys c (absent_parts m y ys a).1
absent_set m (suc i) (y ∷ ys) z a c =
    let two = absent_parts m y ys a in absent_cons m y (set ys i z) two.0 (absent_set m i ys z two.1 c)

-- the last of lawful entries clashes with none before it
last_absent : (ys : List Entry) (z : Entry) → well (ys ++ (z ∷ [])) ≡ true → (absent z.name ys ≡ true) × (sound z ≡ true) × (well ys ≡ true)
last_absent [] z w = (refl, (well_parts z [] w).0, refl)
last_absent (y ∷ ys) z w =
    let p = well_parts y (ys ++ (z ∷ [])) w in
    let more = last_absent ys z p.2 in
    let apart = absent_append y.name ys z p.1 in
    (absent_cons z.name y ys (clash_sym z.name y.name apart.1) more.0, more.1, well_cons y ys p.0 apart.0 more.2)

set_last : (i : ℕ) (ys : List Entry) (z : Entry) → well (ys ++ (z ∷ [])) ≡ true → well (set ys i z) ≡ true
set_last i [] z w = refl
set_last zero (y ∷ ys) z w =
    let p = well_parts y (ys ++ (z ∷ [])) w in
    let more = last_absent ys z p.2 in well_cons z ys more.1 more.0 more.2
set_last (suc i) (y ∷ ys) z w =
    let p = well_parts y (ys ++ (z ∷ [])) w in
    let apart = absent_append y.name ys z p.1 in
    well_cons y (set ys i z) p.0 (absent_set y.name i ys z apart.0 apart.1) (set_last i ys z p.2)

-- the last entry in the place of another
pub well_vacated : (i : ℕ) (d : Entry) (es : List Entry) → 0 < length es → well es ≡ true → well (vacated i d es) ≡ true
well_vacated i d es h w =
    set_last i (take (length es - 1) es) (get_or es (length es - 1) d) (subst (λ t. well t ≡ true) (sym (last_split d es h)) w)

pub lawful_parts : (es : List Entry) → lawful es ≡ true → (length es ≤ 16) × (well es ≡ true)
lawful_parts es e = let two = and_parts (leb (length es) 16) (well es) e in (leb-true (length es) 16 two.0, two.1)

pub lawful_from : (es : List Entry) → length es ≤ 16 → well es ≡ true → lawful es ≡ true
lawful_from es h w = and_from (leb (length es) 16) (well es) (le-leb (length es) 16 h) w

pub length_entered : {X : Type 0} (i : ℕ) (x : X) (xs : List X) → i ≤ length xs → length (entered i x xs) ≡ max (length xs) (i + 1)
length_entered i x xs h =
    length-append (take i xs) (x ∷ drop (suc i) xs) ∙ omega (arith, length-take-le i xs h, length-drop (suc i) xs)

pub length_vacated : {X : Type 0} (i : ℕ) (d : X) (xs : List X) → length (vacated i d xs) ≡ length xs - 1
length_vacated i d xs = length-set (take (length xs - 1) xs) i (get_or xs (length xs - 1) d) ∙ length-take-le (length xs - 1) xs (omega arith)

-- a sound entry that has room keeps the directory lawful
pub lawful_entered : (e : Entry) (es : List Entry) → sound e ≡ true → lawful es ≡ true → seat e.name es < 16 → lawful (entered (seat e.name es) e es) ≡ true
lawful_entered e es s l room =
    let p = lawful_parts es l in
    lawful_from (entered (seat e.name es) e es)
    (omega (arith, length_entered (seat e.name es) e es (seat_le e.name es), p.0)) (well_entered e es s p.1)

-- and so does taking one away
pub lawful_vacated : (i : ℕ) (d : Entry) (es : List Entry) → 0 < length es → lawful es ≡ true → lawful (vacated i d es) ≡ true
lawful_vacated i d es h l =
    let p = lawful_parts es l in
    lawful_from (vacated i d es) (omega (arith, length_vacated i d es, p.0)) (well_vacated i d es h p.1)
