-- The line and the column of the place behind one more byte.
use Rattle.std.proofs.Common.{◌≡◌, ℕ, ◌+◌, ◌-◌, ◌<◌, ◌≤◌, true, false, not, List, length, min, get_or, take, drop, ap, ◌∙◌, arith, length-take, length-drop, length-take-le, eq-eqb, ne_eqb}
use Rattle.std.proofs.lemmas.List.{get_or-take, get_or-drop}
use Rattle.std.proofs.lemmas.List.Sums.{count_by_more_yes, count_by_more_no, count_by-le-length, suffix_len-take_yes, suffix_len-take_no, suffix_len-le-length}
use Rattle.std.proofs.lemmas.Slice.{between_to_end}
use Rattle.std.specs.List.{prefix_len, suffix_len}
use Rattle.account.specs.Lines.{is_line_feed, stays_on_line, line_of, column_of, line_around}

back : (i : ℕ) → i + 1 - 1 ≡ i
back i = omega arith

-- behind a line feed a new line begins
pub behind_feed : (text : List ℕ) (i : ℕ) → i < length text → get_or text i 0 ≡ 10 → (line_of text (i + 1) ≡ line_of text i + 1) × (column_of text (i + 1) ≡ 0)
behind_feed text i h e =
    let feed : is_line_feed (get_or text i 0) ≡ true = eq-eqb (get_or text i 0) 10 e in (
      count_by_more_yes is_line_feed text i 0 h feed,
      suffix_len-take_no stays_on_line text (i + 1) 0 (omega arith) (omega arith) (ap (λ k. stays_on_line (get_or text k 0)) (back i) ∙ ap not feed),
    )

-- behind any other byte the line goes on
pub behind_other : (text : List ℕ) (i : ℕ) → i < length text → (get_or text i 0 ≡ 10 → ⊥) → (line_of text (i + 1) ≡ line_of text i) × (column_of text (i + 1) ≡ column_of text i + 1)
behind_other text i h ne =
    let other : is_line_feed (get_or text i 0) ≡ false = ne_eqb (get_or text i 0) 10 ne in
    let more = suffix_len-take_yes stays_on_line text (i + 1) 0 (omega arith) (omega arith) (ap (λ k. stays_on_line (get_or text k 0)) (back i) ∙ ap not other) in
    let same = ap (λ k. suffix_len stays_on_line (take k text)) (back i) in
    (count_by_more_no is_line_feed text i 0 h other, omega (arith, more, same))

-- neither is past the place
pub line_small : (text : List ℕ) (i : ℕ) → i ≤ length text → (line_of text i ≤ i) × (column_of text i ≤ i)
line_small text i h =
    let long = length-take-le i text h in
    (omega (arith, count_by-le-length is_line_feed (take i text), long), omega (arith, suffix_len-le-length stays_on_line (take i text), long))

-- the part from the start of the line to its end is the line
pub line_is : (text : List ℕ) (place column n : ℕ) → column ≡ column_of text place → column ≤ place → n ≡ prefix_len stays_on_line (take (length text - place) (drop place text)) → take (place + n - (place - column)) (drop (place - column) text) ≡ line_around text place
line_is text place column n here before run =
    let rest : n ≡ prefix_len stays_on_line (drop place text) = run ∙ ap (prefix_len stays_on_line) (between_to_end text place (length text) (omega arith)) in
    let long : place + n - (place - column) ≡ column + n = omega arith in
    ap (λ k. take k (drop (place - column) text)) long
    ∙ ap (λ c. take (c + n) (drop (place - c) text)) here
    ∙ ap (λ k. take (column_of text place + k) (drop (place - column_of text place) text)) rest

-- a byte between two places, by its place in the text
pub passed_at : (text passed : List ℕ) (from to i : ℕ) → passed ≡ take (min to (length text) - from) (drop from text) → i < length passed → (from + i < length text) × (get_or passed i 0 ≡ get_or text (from + i) 0)
passed_at text passed from to i is h =
    let n = min to (length text) - from in
    let long = ap length is ∙ length-take n (drop from text) in
    let inside : i < n = omega (arith, long) in (
      omega (arith, long, length-drop from text),
      ap (λ l. get_or l i 0) is ∙ get_or-take n (drop from text) i 0 inside ∙ get_or-drop from text i 0,
    )
