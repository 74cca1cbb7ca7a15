-- What the lexer's definition finds at the front of a text stands there, as long as it can be.
use Rattle.std.proofs.Common.{◌≡◌, ℕ, suc, ◌≤◌, Bool, true, false, cond, leb, List, [], ◌∷◌, ◌++◌, length, get_or, take, drop, Some, None, Option, sym, refl, ap, ◌∙◌, subst, one-add, arith, take-append-drop, length-take-le, leb-true}
use mathlib.Core.Bool.{false≢true}
use Rattle.std.proofs.lemmas.List.Sums.{prefix_len-le-length}
use Rattle.std.proofs.lemmas.Bool.Decides.{nat_tests}
use Rattle.std.specs.List.{prefix_len}
use Rattle.tokens.specs.Bytes.{is_lower, is_letter, is_digit, is_name_byte}
use Rattle.tokens.specs.Keywords.{keyword_of, mark_bytes}
use Rattle.tokens.specs.Lexer.{Front, piece, none, word, single_mark, is_attribute, is_arrow, mark_of, mark_front, name_front, integer_front, token_front}
use Rattle.tokens.specs.Pieces.{Piece, mark, lower, upper, integer, written, All, Proper, Stops, Begins}
use Rattle.tokens.specs.declared.lexer.Reason.TheVariants.{LongName, LongInteger}
use Rattle.tokens.specs.declared.token.Keyword.{Keyword}
use Rattle.tokens.specs.declared.token.Mark.{Mark}
use Rattle.tokens.specs.declared.token.Mark.TheVariants.{OpenAttribute, Arrow}
use Rattle.tokens.proofs.Runs.{Ends, run_all, run_ends}
use Rattle.tokens.proofs.Words.{keyword_spells, no_keyword}

abbrev Stands : Piece → List ℕ → Type 0
Stands p bs = Begins p bs (drop (length (written p)) bs)

-- the piece of a name's run is written as the run
word_written : (o : Option Keyword) (bs : List ℕ) → keyword_of bs ≡ o → written (word o bs) ≡ bs
word_written (Some k) bs e = keyword_spells bs k e
word_written None bs e = go (is_lower (get_or bs 0 0))
  where
    go : (t : Bool) → written (cond t (lower bs) (upper bs)) ≡ bs
    go true = refl
    go false = refl

word_proper : (o : Option Keyword) (b : ℕ) (bs : List ℕ) → keyword_of (b ∷ bs) ≡ o → is_letter b ≡ true → All is_name_byte bs → length (b ∷ bs) ≤ 16 → Proper (word o (b ∷ bs))
word_proper (Some k) b bs e first all short = tt
word_proper None b bs e first all short = go (is_lower b) refl
  where
    go : (t : Bool) → is_lower b ≡ t → Proper (cond t (lower (b ∷ bs)) (upper (b ∷ bs)))
    go true is = ((is, all, short), no_keyword (b ∷ bs) e)
    go false is = (grind (arith, nat_tests), all, short)

word_stops : (o : Option Keyword) (bs rest : List ℕ) → Ends is_name_byte rest → Stops (word o bs) rest
word_stops o bs [] ends = tt
word_stops (Some k) bs (b ∷ rest) ends = ends
word_stops None bs (b ∷ rest) ends = go (is_lower (get_or bs 0 0))
  where
    go : (t : Bool) → Stops (cond t (lower bs) (upper bs)) (b ∷ rest)
    go true = ends
    go false = ends

-- a piece written as the first n bytes stands there
stands : (p : Piece) (bs : List ℕ) (n : ℕ) → n ≤ length bs → written p ≡ take n bs → Proper p → Stops p (drop n bs) → Stands p bs
stands p bs n inside is proper stops =
    let long : length (written p) ≡ n = ap length is ∙ length-take-le n bs inside in
    subst (Begins p bs) (ap (λ m. drop m bs) (sym long)) (record {
      whole = ap (λ l. l ++ drop n bs) is ∙ take-append-drop n bs;
      proper = proper;
      longest = stops;
    })

-- a test that chose a piece held, and this is the piece
picked : (n m : ℕ) (p q : Piece) (f : Front) → ((r : Piece) → f ≡ piece r → ⊥) → cond (leb n m) (piece q) f ≡ piece p → (n ≤ m) × (q ≡ p)
picked n m p q f never e = go (leb n m) refl e
  where
    go : (t : Bool) → leb n m ≡ t → cond t (piece q) f ≡ piece p → (n ≤ m) × (q ≡ p)
    go true is e = (leb-true n m is, cc)
    go false is e = absurd (never p e)

pub letter_goes_on : (b : ℕ) → is_letter b ≡ true → is_name_byte b ≡ true
letter_goes_on b h = grind (arith, nat_tests)

-- a run that begins with a byte that passes is one longer than the run behind it
longer_run : (p : ℕ → Bool) (b : ℕ) (bs : List ℕ) → p b ≡ true → prefix_len p (b ∷ bs) ≡ suc (prefix_len p bs)
longer_run p b bs e = rw e (one-add (prefix_len p bs))

name_stands : (b : ℕ) (bs : List ℕ) (p : Piece) → is_letter b ≡ true → name_front (prefix_len is_name_byte (b ∷ bs)) (b ∷ bs) ≡ piece p → Stands p (b ∷ bs)
name_stands b bs p first e =
    let m = prefix_len is_name_byte bs in
    let run = longer_run is_name_byte b bs (letter_goes_on b first) in
    let w = b ∷ take m bs in
    let inside = prefix_len-le-length is_name_byte bs in
    let is = picked (suc m) 16 p (word (keyword_of w) w) (none LongName) (λ r e. let z : ◌≡◌ {A = ℕ} 0 1 = cc in omega arith) (ap (λ n. name_front n (b ∷ bs)) (sym run) ∙ e) in
    subst (λ q. Stands q (b ∷ bs)) is.1
    (stands (word (keyword_of w) w) (b ∷ bs) (suc m) (omega arith) (word_written (keyword_of w) w refl)
    (word_proper (keyword_of w) b (take m bs) refl first (run_all is_name_byte bs) (omega (arith, length-take-le m bs inside, is.0)))
    (word_stops (keyword_of w) w (drop m bs) (run_ends is_name_byte bs)))

integer_stops : (bs rest : List ℕ) → Ends is_digit rest → Stops (integer bs) rest
integer_stops bs [] ends = tt
integer_stops bs (b ∷ rest) ends = ends

integer_stands : (b : ℕ) (bs : List ℕ) (p : Piece) → is_digit b ≡ true → integer_front (prefix_len is_digit (b ∷ bs)) (b ∷ bs) ≡ piece p → Stands p (b ∷ bs)
integer_stands b bs p first e =
    let m = prefix_len is_digit bs in
    let run = longer_run is_digit b bs first in
    let w = b ∷ take m bs in
    let inside = prefix_len-le-length is_digit bs in
    let long = length-take-le m bs inside in
    let is = picked (suc m) 9 p (integer w) (none LongInteger) (λ r e. let z : ◌≡◌ {A = ℕ} 0 1 = cc in omega arith) (ap (λ n. integer_front n (b ∷ bs)) (sym run) ∙ e) in
    subst (λ q. Stands q (b ∷ bs)) is.1
    (stands (integer w) (b ∷ bs) (suc m) (omega arith) refl
    ((first, run_all is_digit bs), omega arith, omega (arith, long, is.0))
    (integer_stops w (drop m bs) (run_ends is_digit bs)))

single_spelt : (b : ℕ) (m : Mark) → single_mark b ≡ Some m → mark_bytes m ≡ b ∷ []
single_spelt b m e = grind (arith, nat_tests)

-- the mark is written at the front
abbrev Spelt : List ℕ → Mark → Type 0
Spelt bs m = (length (mark_bytes m) ≤ length bs) × (mark_bytes m ≡ take (length (mark_bytes m)) bs)

attribute_spelt : (bs : List ℕ) → is_attribute bs ≡ true → Spelt bs OpenAttribute
attribute_spelt [] e = absurd (false≢true e)
attribute_spelt (a ∷ []) e = absurd (grind (arith, nat_tests))
attribute_spelt (a ∷ b ∷ []) e = absurd (grind (arith, nat_tests))
attribute_spelt (a ∷ b ∷ c ∷ bs) e =
    let x : a ≡ 91 = grind (arith, nat_tests) in
    let y : b ≡ 64 = grind (arith, nat_tests) in
    let z : c ≡ 64 = grind (arith, nat_tests) in
    (omega arith, cc)

arrow_spelt : (bs : List ℕ) → is_arrow bs ≡ true → Spelt bs Arrow
arrow_spelt [] e = absurd (false≢true e)
arrow_spelt (a ∷ []) e = absurd (grind (arith, nat_tests))
arrow_spelt (a ∷ b ∷ bs) e =
    let x : a ≡ 45 = grind (arith, nat_tests) in
    let y : b ≡ 62 = grind (arith, nat_tests) in
    (omega arith, cc)

short_spelt : (bs : List ℕ) (m : Mark) → single_mark (get_or bs 0 0) ≡ Some m → Spelt bs m
short_spelt [] m e = absurd (let z : ◌≡◌ {A = ℕ} 0 1 = cc in omega arith)
short_spelt (b ∷ bs) m e =
    let is = single_spelt b m e in
    let one : length (mark_bytes m) ≡ 1 = ap length is in
    (omega arith, is ∙ ap (λ n. take n (b ∷ bs)) (sym one))

mark_spelt : (bs : List ℕ) (m : Mark) → mark_of bs ≡ Some m → Spelt bs m
mark_spelt bs m e = go (is_attribute bs) (is_arrow bs) refl refl e
  where
    go : (t u : Bool) → is_attribute bs ≡ t → is_arrow bs ≡ u → cond t (Some OpenAttribute) (cond u (Some Arrow) (single_mark (get_or bs 0 0))) ≡ Some m → Spelt bs m
    go true u attribute arrow e = let is : OpenAttribute ≡ m = cc in subst (Spelt bs) is (attribute_spelt bs attribute)
    go false true attribute arrow e = let is : Arrow ≡ m = cc in subst (Spelt bs) is (arrow_spelt bs arrow)
    go false false attribute arrow e = short_spelt bs m e

mark_stops : (m : Mark) (rest : List ℕ) → Stops (mark m) rest
mark_stops m [] = tt
mark_stops m (b ∷ rest) = refl

mark_stands : (bs : List ℕ) (p : Piece) → mark_front (mark_of bs) ≡ piece p → Stands p bs
mark_stands bs p e = go (mark_of bs) refl e
  where
    go : (o : Option Mark) → mark_of bs ≡ o → mark_front o ≡ piece p → Stands p bs
    go (Some m) is e =
        let spelt = mark_spelt bs m is in
        let same : mark m ≡ p = cc in
        subst (λ q. Stands q bs) same (stands (mark m) bs (length (mark_bytes m)) spelt.0 spelt.1 tt (mark_stops m _))
    go None is e = absurd (let z : ◌≡◌ {A = ℕ} 0 1 = cc in omega arith)

-- the token that the definition finds stands at the front
pub token_stands : (bs : List ℕ) (p : Piece) → token_front bs ≡ piece p → Stands p bs
token_stands [] p e = absurd (let z : ◌≡◌ {A = ℕ} 0 1 = cc in omega arith)
token_stands (b ∷ bs) p e = go (is_letter b) (is_digit b) refl refl e
  where
    go : (l d : Bool) → is_letter b ≡ l → is_digit b ≡ d → cond l (name_front (prefix_len is_name_byte (b ∷ bs)) (b ∷ bs)) (cond d (integer_front (prefix_len is_digit (b ∷ bs)) (b ∷ bs)) (mark_front (mark_of (b ∷ bs)))) ≡ piece p → Stands p (b ∷ bs)
    go true d letter digit e = name_stands b bs p letter e
    go false true letter digit e = integer_stands b bs p digit e
    go false false letter digit e = mark_stands (b ∷ bs) p e
