-- Tables: a word is found, and a label or a line read, at its place.
use Rattle.std.proofs.Common.{◌≡◌, ℕ, zero, suc, ◌+◌, ◌-◌, ◌<◌, ◌≤◌, Bool, true, false, cond, nat_eq, List, [], ◌∷◌, map, length, get_or, Some, None, Option, sym, refl, ap, ◌∙◌, arith}
use Rattle.std.proofs.lemmas.Bool.Decides.{nat_tests}
use Rattle.std.proofs.lemmas.Option.{slice_get-map, slice_get_past, slice_get_read}
use Rattle.std.specs.Borrow.{Bor}
use Rattle.std.proofs.lemmas.Iterator.Adapters.{position_from-zero}
use Rattle.std.specs.List.{slice_get, position, position_from}
use Rattle.std.specs.Slice.{IsItemAt}
use Rattle.std.specs.Option.{option_map}
use Rattle.std.specs.Str.{bytes_eq}
use Rattle.types.specs.Types.{Name}
use Rattle.cores.specs.Meaning.{Word, lookup_from, lookup, name_if_label, label_name_from, label_name}
use Rattle.cores.specs.Lines.{Line, Entry as Own, label, operator, line_from}
use Rattle.cores.specs.Steps.{Items, itemized}
use Rattle.cores.specs.declared.interface.Operation.{Operation}
use Rattle.cores.specs.declared.interface.Operation.TheVariants.{Literal, Function, Operator}
use Rattle.cores.specs.Tables.{tabled, row, row_at, joined, Rows, operation_row}
use Rattle.cores.specs.declared.table.Entry.{Entry}

abbrev pub has_name : Name → Entry → Bool
has_name x e = bytes_eq x e.name.now

lookup_none : (x : Name) (k : ℕ) (es : List Entry) → position_from (has_name x) k es ≡ None → lookup_from k (map tabled es) x ≡ None
lookup_none x k [] p = refl
lookup_none x k (e ∷ es) p = go (has_name x e) p (lookup_none x (suc k) es)
  where
    go : (c : Bool) → cond c (Some k) (position_from (has_name x) (k + 1) es) ≡ None →
        (position_from (has_name x) (suc k) es ≡ None → lookup_from (suc k) (map tabled es) x ≡ None) →
        cond c (Some (record { number = k; kind = e.kind })) (lookup_from (suc k) (map tabled es) x) ≡ None
    go true q again = absurd (cc)
    go false q again = again (let i : suc k ≡ k + 1 = omega arith in ap (λ n. position_from (has_name x) n es) i ∙ q)

lookup_some : (x : Name) (k i : ℕ) (es : List Entry) (d : Entry) → position_from (has_name x) k es ≡ Some i →
    (k ≤ i) × (lookup_from k (map tabled es) x ≡ Some (record { number = i; kind = (get_or es (i - k) d).kind }))
lookup_some x k i [] d p = absurd (cc)
lookup_some x k i (e ∷ es) d p = go (has_name x e) p (lookup_some x (suc k) i es d)
  where
    go : (c : Bool) → cond c (Some k) (position_from (has_name x) (k + 1) es) ≡ Some i →
        (position_from (has_name x) (suc k) es ≡ Some i → (suc k ≤ i) × (lookup_from (suc k) (map tabled es) x ≡ Some (record { number = i; kind = (get_or es (i - suc k) d).kind }))) →
        (k ≤ i) × (cond c (Some (record { number = k; kind = e.kind })) (lookup_from (suc k) (map tabled es) x) ≡ Some (record { number = i; kind = (get_or (e ∷ es) (i - k) d).kind }))
    go true q again =
        let h : k ≡ i = cc in
        let z : i - k ≡ 0 = omega arith in
        let f : (get_or (e ∷ es) (i - k) d).kind ≡ e.kind = ap (λ n. (get_or (e ∷ es) n d).kind) z in
        (omega arith, cc)
    go false q again =
        let w = again (let n : suc k ≡ k + 1 = omega arith in ap (λ m. position_from (has_name x) m es) n ∙ q) in
        let l = w.0 in
        let z : i - k ≡ suc (i - suc k) = omega arith in
        let f : (get_or (e ∷ es) (i - k) d).kind ≡ (get_or es (i - suc k) d).kind = ap (λ n. (get_or (e ∷ es) n d).kind) z in
        (omega arith, w.1 ∙ ap (λ j. Some (record { number = i; kind = j })) (sym f))

-- what `position` answers is the number of the first word of the name
pub not_found : (x : Name) (es : List Entry) → position (has_name x) es ≡ None → lookup (map tabled es) x ≡ None
not_found x es p = lookup_none x 0 es (sym (position_from-zero (has_name x) es) ∙ p)

pub found_at : (x : Name) (i : ℕ) (es : List Entry) (d : Entry) → position (has_name x) es ≡ Some i →
    lookup (map tabled es) x ≡ Some (record { number = i; kind = (get_or es i d).kind })
found_at x i es d p =
    let z : i - 0 ≡ i = omega arith in
    (lookup_some x 0 i es d (sym (position_from-zero (has_name x) es) ∙ p)).1
    ∙ ap (λ j. Some (record { number = i; kind = (get_or es j d).kind })) z

abbrev pub named : Option Word → Option Name
named None = None
named (Some w) = name_if_label w.name w.kind

pub label_place : (ws : List Word) (k l : ℕ) → label_name_from k ws (k + l) ≡ named (slice_get ws l)
label_place [] k l = refl
label_place (w ∷ ws) k zero =
    let t : nat_eq (k + 0) k ≡ true = grind (arith, nat_tests) in
    ap (λ (c : Bool). cond c (name_if_label w.name w.kind) (label_name_from (suc k) ws (k + 0))) t
label_place (w ∷ ws) k (suc l) =
    let t : nat_eq (k + suc l) k ≡ false = grind (arith, nat_tests) in
    let i : k + suc l ≡ suc k + l = omega arith in
    ap (λ (c : Bool). cond c (name_if_label w.name w.kind) (label_name_from (suc k) ws (k + suc l))) t
    ∙ ap (label_name_from (suc k) ws) i ∙ label_place ws (suc k) l

pub label_at : (es : List Entry) (l : ℕ) (o : Option Entry) → slice_get es l ≡ o → label_name (map tabled es) l ≡ named (option_map tabled o)
label_at es l o e =
    let z : 0 + l ≡ l = omega arith in
    ap (label_name_from 0 (map tabled es)) (sym z) ∙ label_place (map tabled es) 0 l ∙ ap named (slice_get-map tabled es l ∙ ap (option_map tabled) e)

pub row_of : (es : List Entry) (n : ℕ) (o : Option Entry) → slice_get es n ≡ o → row_at (map row es) n ≡ joined (option_map row o)
row_of es n o e = ap joined (slice_get-map row es n ∙ ap (option_map row) e)

-- what `get` answers
pub got : (es : List Entry) (i : ℕ) (r : Option (Bor Entry)) → IsItemAt es i r → slice_get es i ≡ option_map (λ x. x.now) r
got es i None h = slice_get_past es i h.3
got es i (Some x) h = slice_get_read es (length es) i x.now refl h.3.0 h.1

-- the row of an own word
abbrev pub own_row : Own → Option Items
own_row (label x n) = None
own_row (operator x l) = Some (itemized l)

line_before : (es : List Own) (k n : ℕ) → n < k → line_from k es n ≡ None
line_before [] k n h = refl
line_before (label x m ∷ es) k n h = line_before es (suc k) n (omega arith)
line_before (operator x l ∷ es) k n h =
    let t : nat_eq n k ≡ false = grind (arith, nat_tests) in
    ap (λ (c : Bool). cond c (Some l) (line_from (suc k) es n)) t ∙ line_before es (suc k) n (omega arith)

line_place : (es : List Own) (k n : ℕ) → row_at (map own_row es) n ≡ option_map (λ l. itemized l) (line_from k es (k + n))
line_place [] k n = refl
line_place (label x m ∷ es) k zero = sym (ap (option_map (λ l. itemized l)) (line_before es (suc k) (k + 0) (omega arith)))
line_place (label x m ∷ es) k (suc n) =
    let i : suc k + n ≡ k + suc n = omega arith in
    line_place es (suc k) n ∙ ap (λ j. option_map (λ l. itemized l) (line_from (suc k) es j)) i
line_place (operator x l ∷ es) k zero =
    let t : nat_eq (k + 0) k ≡ true = grind (arith, nat_tests) in
    sym (ap (λ (c : Bool). option_map (λ l. itemized l) (cond c (Some l) (line_from (suc k) es (k + 0)))) t)
line_place (operator x l ∷ es) k (suc n) =
    let t : nat_eq (k + suc n) k ≡ false = grind (arith, nat_tests) in
    let i : suc k + n ≡ k + suc n = omega arith in
    line_place es (suc k) n ∙ ap (λ j. option_map (λ l. itemized l) (line_from (suc k) es j)) i
    ∙ sym (ap (λ (c : Bool). option_map (λ l. itemized l) (cond c (Some l) (line_from (suc k) es (k + suc n)))) t)

-- the lines of a table are those of own words with the same rows
table_line : (es : List Own) (n : ℕ) → row_at (map own_row es) n ≡ option_map (λ l. itemized l) (line_from 0 es n)
table_line es n =
    let z : 0 + n ≡ n = omega arith in
    line_place es 0 n ∙ ap (λ j. option_map (λ l. itemized l) (line_from 0 es j)) z

-- the lines of a language are those written, where its rows are
pub language_lines : (line : Operation → Option Line) (es : List Own) (r : Rows) → ((n : ℕ) → line (Operator n) ≡ line_from 0 es n) →
    Some r.literal ≡ option_map (λ l. itemized l) (line Literal) → Some r.function ≡ option_map (λ l. itemized l) (line Function) →
    r.words ≡ map own_row es → (o : Operation) → operation_row r o ≡ option_map (λ l. itemized l) (line o)
language_lines line es r e a b w Literal = a
language_lines line es r e a b w Function = b
language_lines line es r e a b w (Operator n) =
    ap (λ rs. row_at rs n) w ∙ table_line es n ∙ ap (option_map (λ l. itemized l)) (sym (e n))
