-- Records written are the records read.
use Rattle.std.proofs.Common.{◌≡◌, ℕ, zero, suc, ◌+◌, ◌*◌, ◌^◌, ◌<◌, ◌≤◌, true, ◌&&◌, eqb, ltb, leb, List, [], ◌∷◌, ◌++◌, map, length, get_or, take, drop, sym, refl, ap, ◌∙◌, arith}
use Rattle.std.specs.List.{range_with_len, flat_map}
use Rattle.std.proofs.lemmas.List.FromFn.{fill_by_all, length-map-range_with_len}
use Rattle.std.proofs.lemmas.List.{append_assoc, length-append, length-take-le, take_at, take_more, drop_at, drop-drop, flat_map_more}
use Rattle.std.proofs.lemmas.Bool.{and_parts, and_from, and_left, and_right, ltb-true, leb-true, lt-leb, eq-eqb, cond-true, cond-false}
use Rattle.store.specs.declared.entry.Entry.{Entry}
use Rattle.store.specs.Numbers.{spread, gather, laid}
use Rattle.store.specs.Entries.{blank, bounded, narrow, sound, well, lawful}
use Rattle.store.specs.Layout.{record_bytes, encode, record_at, decode, stored}
use Rattle.store.proofs.Digits.{length_spread, gather_spread}
use Rattle.store.proofs.Laid.{laid_then}
use Rattle.store.proofs.Lawful.{well_parts, lawful_parts}

-- each number of a record fits its bytes
pub Narrow : Entry → Type 0
Narrow e = (e.name < 256 ^ 16) × (e.size < 256 ^ 1) × (e.place < 256 ^ 2) × (e.span < 256 ^ 2) × (e.rank < 256 ^ 1)

pub sound_narrow : (e : Entry) → sound e ≡ true → Narrow e
unfolding Narrow
sound_narrow e s =
    let two = and_parts (bounded e) (narrow e) s in
    let p = and_parts (ltb e.name (256 ^ 16)) (ltb e.rank 256) two.1 in
    let a = and_parts (ltb 0 e.size) (leb e.size 16 && (leb (e.place + e.size) e.span && leb e.span 4000)) two.0 in
    let b = and_parts (leb e.size 16) (leb (e.place + e.size) e.span && leb e.span 4000) a.1 in
    let d = and_parts (leb (e.place + e.size) e.span) (leb e.span 4000) b.1 in
    let size = leb-true e.size 16 b.0 in
    let inside = leb-true (e.place + e.size) e.span d.0 in
    let short = leb-true e.span 4000 d.1 in
    (ltb-true e.name (256 ^ 16) p.0, omega arith, omega arith, omega arith, ltb-true e.rank 256 p.1)

-- a number that stands at a place, and what follows it
field : (w n q : ℕ) (s t : List ℕ) → drop q s ≡ spread w n ++ t → n < 256 ^ w → gather (take w (drop q s)) ≡ n
field w n q s t e h = ap (λ u. gather (take w u)) e ∙ ap gather (take_at (spread w n) t w (length_spread w n)) ∙ gather_spread w n h

next : (w n q r : ℕ) (s t : List ℕ) → drop q s ≡ spread w n ++ t → q + w ≡ r → drop r s ≡ t
next w n q r s t e h = ap (λ k. drop k s) (sym h) ∙ sym (drop-drop w q s) ∙ ap (drop w) e ∙ drop_at (spread w n) t w (length_spread w n)

pub length_record : (e : Entry) → length (record_bytes e) ≡ 22
unfolding record_bytes
length_record e = simp (length-append, length_spread)

made : ℕ → ℕ → ℕ → ℕ → ℕ → Entry
made a b c d e = record { name = a; size = b; place = c; span = d; rank = e }

-- the record that stands where one was written
pub record_back : (e : Entry) (s t : List ℕ) (q : ℕ) → Narrow e → drop q s ≡ record_bytes e ++ t → record_at s q ≡ e
unfolding record_bytes record_at Narrow made
record_back e s t q n h =
    let e0 = spread 16 e.name in
    let e1 = spread 1 e.size in
    let e2 = spread 2 e.place in
    let e3 = spread 2 e.span in
    let e4 = spread 1 e.rank in
    let h0 : drop q s ≡ e0 ++ (e1 ++ (e2 ++ (e3 ++ (e4 ++ t)))) = h ∙ simp append_assoc in
    let h1 = next 16 e.name q (q + 16) s (e1 ++ (e2 ++ (e3 ++ (e4 ++ t)))) h0 refl in
    let h2 = next 1 e.size (q + 16) (q + 17) s (e2 ++ (e3 ++ (e4 ++ t))) h1 (omega arith) in
    let h3 = next 2 e.place (q + 17) (q + 19) s (e3 ++ (e4 ++ t)) h2 (omega arith) in
    let h4 = next 2 e.span (q + 19) (q + 21) s (e4 ++ t) h3 (omega arith) in
    let f0 = field 16 e.name q s (e1 ++ (e2 ++ (e3 ++ (e4 ++ t)))) h0 n.0 in
    let f1 = field 1 e.size (q + 16) s (e2 ++ (e3 ++ (e4 ++ t))) h1 n.1 in
    let f2 = field 2 e.place (q + 17) s (e3 ++ (e4 ++ t)) h2 n.2 in
    let f3 = field 2 e.span (q + 19) s (e4 ++ t) h3 n.3 in
    let f4 = field 1 e.rank (q + 21) s t h4 n.4 in
    ap (λ x. made x (gather (take 1 (drop (q + 16) s))) (gather (take 2 (drop (q + 17) s))) (gather (take 2 (drop (q + 19) s))) (gather (take 1 (drop (q + 21) s)))) f0
    ∙ ap (λ x. made e.name x (gather (take 2 (drop (q + 17) s))) (gather (take 2 (drop (q + 19) s))) (gather (take 1 (drop (q + 21) s)))) f1
    ∙ ap (λ x. made e.name e.size x (gather (take 2 (drop (q + 19) s))) (gather (take 1 (drop (q + 21) s)))) f2
    ∙ ap (λ x. made e.name e.size e.place x (gather (take 1 (drop (q + 21) s)))) f3
    ∙ ap (λ x. made e.name e.size e.place e.span x) f4

pub length_records : (es : List Entry) → length (flat_map record_bytes es) ≡ 22 * length es
length_records [] = refl
length_records (e ∷ es) =
    length-append (record_bytes e) (flat_map record_bytes es) ∙ omega (arith, length_record e, length_records es)

-- what follows the first k records
tail : (es : List Entry) (k : ℕ) (t : List ℕ) → k < length es → (u : List ℕ) × (drop (22 * k) (flat_map record_bytes es ++ t) ≡ record_bytes (get_or es k blank) ++ u)
tail [] k t h = absurd (omega arith)
tail (e ∷ es) zero t h = (flat_map record_bytes es ++ t, append_assoc (record_bytes e) (flat_map record_bytes es) t)
tail (e ∷ es) (suc k) t h =
    let more = tail es k t (omega arith) in
    let sum : 22 * suc k ≡ 22 + 22 * k = omega arith in (
      more.0,
      ap (λ n. drop n ((record_bytes e ++ flat_map record_bytes es) ++ t)) sum
          ∙ sym (drop-drop (22 * k) 22 ((record_bytes e ++ flat_map record_bytes es) ++ t))
          ∙ ap (λ l. drop (22 * k) (drop 22 l)) (append_assoc (record_bytes e) (flat_map record_bytes es) t)
          ∙ ap (drop (22 * k)) (drop_at (record_bytes e) (flat_map record_bytes es ++ t) 22 (length_record e))
          ∙ more.1,
    )

pub sound_at : (es : List Entry) (k : ℕ) → well es ≡ true → k < length es → sound (get_or es k blank) ≡ true
sound_at [] k w h = absurd (omega arith)
sound_at (e ∷ es) zero w h = (well_parts e es w).0
sound_at (e ∷ es) (suc k) w h = sound_at es k (well_parts e es w).2 (omega arith)

-- the records told by bytes that begin with an encoding
pub decode_encode : (es : List Entry) (t : List ℕ) → lawful es ≡ true → decode (encode es ++ t) ≡ es
unfolding encode
decode_encode es t l =
    let s = (spread 1 (length es) ++ flat_map record_bytes es) ++ t in
    let p = lawful_parts es l in
    let start : drop 0 s ≡ spread 1 (length es) ++ (flat_map record_bytes es ++ t) = append_assoc (spread 1 (length es)) (flat_map record_bytes es) t in
    let count = field 1 (length es) 0 s (flat_map record_bytes es ++ t) start (omega (arith, p.0)) in
    let rest = next 1 (length es) 0 1 s (flat_map record_bytes es ++ t) start refl in
    ap (λ n. map (λ k. record_at s (1 + 22 * k)) (range_with_len 0 n)) count
    ∙ sym (fill_by_all (λ k. record_at s (1 + 22 * k)) es (length es) blank refl (λ k h.
    let more = tail es k t h in
    sym (record_back (get_or es k blank) s more.0 (1 + 22 * k) (sound_narrow (get_or es k blank) (sound_at es k p.1 h))
    (sym (drop-drop (22 * k) 1 s) ∙ ap (drop (22 * k)) rest ∙ more.1))))

-- the directory that is read is the one that was written
pub stored_laid : (es : List Entry) (s : List ℕ) → lawful es ≡ true → length (laid 0 (encode es) s) ≡ 65536 → stored (laid 0 (encode es) s) ≡ es
stored_laid es s l h =
    let w = laid 0 (encode es) s in
    let same : decode w ≡ es = decode_encode es (drop (0 + length (encode es)) s) l in
    cond-true (eqb (length w) 65536 && lawful (decode w)) (decode w) []
    (and_from (eqb (length w) 65536) (lawful (decode w)) (eq-eqb (length w) 65536 h) (ap lawful same ∙ l)) ∙ same

-- the five numbers of a record written one after the other
pub laid_record : (e : Entry) (at : ℕ) (s : List ℕ) → at ≤ length s →
    laid (at + 21) (spread 1 e.rank) (laid (at + 19) (spread 2 e.span) (laid (at + 17) (spread 2 e.place) (laid (at + 16) (spread 1 e.size) (laid at (spread 16 e.name) s)))) ≡ laid at (record_bytes e) s
unfolding record_bytes
laid_record e at s h =
    let e0 = spread 16 e.name in
    let e1 = spread 1 e.size in
    let e2 = spread 2 e.place in
    let e3 = spread 2 e.span in
    let e4 = spread 1 e.rank in
    let n0 : length e0 ≡ 16 = length_spread 16 e.name in
    let n1 : length (e0 ++ e1) ≡ 17 = length-append e0 e1 ∙ omega (arith, n0, length_spread 1 e.size) in
    let n2 : length ((e0 ++ e1) ++ e2) ≡ 19 = length-append (e0 ++ e1) e2 ∙ omega (arith, n1, length_spread 2 e.place) in
    let n3 : length (((e0 ++ e1) ++ e2) ++ e3) ≡ 21 = length-append ((e0 ++ e1) ++ e2) e3 ∙ omega (arith, n2, length_spread 2 e.span) in
    ap (λ t. laid (at + 21) e4 (laid (at + 19) e3 (laid (at + 17) e2 t))) (laid_then at (at + 16) e0 e1 s h (ap (λ n. at + n) n0))
    ∙ ap (λ t. laid (at + 21) e4 (laid (at + 19) e3 t)) (laid_then at (at + 17) (e0 ++ e1) e2 s h (ap (λ n. at + n) n1))
    ∙ ap (λ t. laid (at + 21) e4 t) (laid_then at (at + 19) ((e0 ++ e1) ++ e2) e3 s h (ap (λ n. at + n) n2))
    ∙ laid_then at (at + 21) (((e0 ++ e1) ++ e2) ++ e3) e4 s h (ap (λ n. at + n) n3)
    ∙ ap (λ u. laid at u s) (append_assoc ((e0 ++ e1) ++ e2) e3 e4 ∙ append_assoc (e0 ++ e1) e2 (e3 ++ e4) ∙ append_assoc e0 e1 (e2 ++ (e3 ++ e4)))

pub length_encode : (es : List Entry) → length (encode es) ≡ 1 + 22 * length es
unfolding encode
length_encode es = length-append (spread 1 (length es)) (flat_map record_bytes es) ∙ omega (arith, length_spread 1 (length es), length_records es)

-- one record more behind those that are written
pub laid_records : (i : ℕ) (es : List Entry) (s : List ℕ) → i < length es → 1 ≤ length s →
    laid (1 + 22 * i) (record_bytes (get_or es i blank)) (laid 1 (flat_map record_bytes (take i es)) s) ≡ laid 1 (flat_map record_bytes (take (i + 1) es)) s
laid_records i es s h l =
    let many = length_records (take i es) in
    let few = length-take-le i es (omega arith) in
    laid_then 1 (1 + 22 * i) (flat_map record_bytes (take i es)) (record_bytes (get_or es i blank)) s l (omega arith)
    ∙ ap (λ u. laid 1 u s) (flat_map_more record_bytes [] (take i es) (get_or es i blank) ∙ ap (flat_map record_bytes) (sym (take_more es i blank h)))

-- the count and then the records
pub laid_directory : (es : List Entry) (s : List ℕ) → laid 1 (flat_map record_bytes es) (laid 0 (spread 1 (length es)) s) ≡ laid 0 (encode es) s
unfolding encode
laid_directory es s = laid_then 0 1 (spread 1 (length es)) (flat_map record_bytes es) s (omega arith) (omega (arith, length_spread 1 (length es)))

-- more than 16 records are unlawful
pub stored_many : (s : List ℕ) → 16 < gather (take 1 s) → stored s ≡ []
stored_many s h =
    let long = length-map-range_with_len (λ k. record_at s (1 + 22 * k)) 0 (gather (take 1 s)) in
    cond-false (eqb (length s) 65536 && lawful (decode s)) (decode s) []
    (and_right (eqb (length s) 65536) (lawful (decode s)) (and_left (leb (length (decode s)) 16) (well (decode s)) (lt-leb (length (decode s)) 16 (omega arith))))
