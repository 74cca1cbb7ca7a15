-- Whatever piece stands at the front of a text, the lexer's definition finds it; so a text divides in one way only.
use Rattle.std.proofs.Common.{◌≡◌, ℕ, ◌≤◌, Bool, true, false, cond, ◌&&◌, List, [], ◌∷◌, ◌++◌, length, get_or, Some, None, codes, Option, sym, refl, ap, ◌∙◌, true≢false, arith, lit≤, le-leb}
use mathlib.Core.Bool.{false≢true}
use lib.Seq.{take-append_seam}
use Rattle.std.specs.List.{list_all}
use Rattle.std.proofs.lemmas.Bool.Decides.{nat_tests}
use Rattle.tokens.specs.Bytes.{is_lower, is_upper, is_letter, is_digit, is_name_byte}
use Rattle.tokens.specs.Keywords.{keyword_bytes, keyword_of, mark_bytes}
use Rattle.tokens.specs.Lexer.{piece, word, name_front, integer_front, token_front}
use Rattle.tokens.specs.Pieces.{Piece, blank, mark, keyword, lower, upper, integer, written, All, Name, LowerName, NoKeyword, Proper, longer, Stops}
use Rattle.tokens.specs.declared.token.Keyword.{Keyword}
use Rattle.tokens.specs.declared.token.Keyword.TheVariants.{Module, Struct, Sig, End, Functor, «Type», Val, Let, Fun, Rank}
use Rattle.tokens.specs.declared.token.Mark.{Mark}
use Rattle.tokens.specs.declared.token.Mark.TheVariants.{Open, Close, Colon, Equals, Comma, Dot, Arrow, OpenAttribute, CloseAttribute}
use Rattle.tokens.proofs.Fronts.{chosen}
use Rattle.tokens.proofs.Runs.{Ends, run_is}
use Rattle.tokens.proofs.Sound.{letter_goes_on}
use Rattle.tokens.proofs.Words.{keyword_spells, keyword_told}

-- a run of name bytes from a letter is found as its word
word_found : (b : ℕ) (xs rest : List ℕ) → is_letter b ≡ true → All is_name_byte xs → length (b ∷ xs) ≤ 16 → Ends is_name_byte rest → token_front (b ∷ (xs ++ rest)) ≡ piece (word (keyword_of (b ∷ xs)) (b ∷ xs))
word_found b xs rest first all short ends =
    let run = run_is is_name_byte (b ∷ xs) rest (letter_goes_on b first, all) ends in
    let front = take-append_seam (b ∷ xs) rest in
    chosen (b ∷ (xs ++ rest)) true (is_digit b) first refl
    ∙ ap (λ n. name_front n (b ∷ (xs ++ rest))) run
    ∙ rw (le-leb (length (b ∷ xs)) 16 short) (ap (λ l. piece (word (keyword_of l) l)) front)

integer_found : (b : ℕ) (xs rest : List ℕ) → is_digit b ≡ true → All is_digit xs → length (b ∷ xs) ≤ 9 → Ends is_digit rest → token_front (b ∷ (xs ++ rest)) ≡ piece (integer (b ∷ xs))
integer_found b xs rest first all short ends =
    let run = run_is is_digit (b ∷ xs) rest (first, all) ends in
    let other : is_letter b ≡ false = grind (arith, nat_tests) in
    chosen (b ∷ (xs ++ rest)) false true other first
    ∙ ap (λ n. integer_front n (b ∷ (xs ++ rest))) run
    ∙ rw (le-leb (length (b ∷ xs)) 9 short) (ap (λ l. piece (integer l)) (take-append_seam (b ∷ xs) rest))

-- bytes for which no keyword is written tell none
tells_none : (bs : List ℕ) → NoKeyword bs → keyword_of bs ≡ None
tells_none bs never = go (keyword_of bs) refl
  where
    go : (o : Option Keyword) → keyword_of bs ≡ o → o ≡ None
    go (Some k) is = absurd (never k (keyword_spells bs k is))
    go None is = refl

keyword_lower : (k : Keyword) → is_lower (get_or (keyword_bytes k) 0 0) ≡ true
keyword_lower Module = refl
keyword_lower Struct = refl
keyword_lower Sig = refl
keyword_lower End = refl
keyword_lower Functor = refl
keyword_lower «Type» = refl
keyword_lower Val = refl
keyword_lower Let = refl
keyword_lower Fun = refl
keyword_lower Rank = refl

upper_no_keyword : (b : ℕ) (xs : List ℕ) → is_upper b ≡ true → NoKeyword (b ∷ xs)
upper_no_keyword b xs up k is =
    let low : is_lower b ≡ true = ap (λ l. is_lower (get_or l 0 0)) (sym is) ∙ keyword_lower k in
    grind (arith, nat_tests)

lower_found : (bs rest : List ℕ) → LowerName bs → Ends is_name_byte rest → token_front (bs ++ rest) ≡ piece (lower bs)
lower_found [] rest name ends = absurd name.0
lower_found (b ∷ xs) rest name ends =
    let low = name.0.0 in
    let letter : is_letter b ≡ true = grind (arith, nat_tests) in
    word_found b xs rest letter name.0.1 name.0.2 ends ∙ rw (tells_none (b ∷ xs) name.1) (ap (λ t. piece (cond t (lower (b ∷ xs)) (upper (b ∷ xs)))) low)

upper_found : (bs rest : List ℕ) → Name is_upper bs → Ends is_name_byte rest → token_front (bs ++ rest) ≡ piece (upper bs)
upper_found [] rest name ends = absurd name
upper_found (b ∷ xs) rest name ends =
    let up = name.0 in
    let letter : is_letter b ≡ true = grind (arith, nat_tests) in
    let low : is_lower b ≡ false = grind (arith, nat_tests) in
    word_found b xs rest letter name.1 name.2 ends ∙ rw (tells_none (b ∷ xs) (upper_no_keyword b xs up)) (ap (λ t. piece (cond t (lower (b ∷ xs)) (upper (b ∷ xs)))) low)

-- a test of each byte that computes
all_pass : (p : ℕ → Bool) (xs : List ℕ) → list_all p xs ≡ true → All p xs
all_pass p [] e = tt
all_pass p (x ∷ xs) e = go (p x) refl e (all_pass p xs)
  where
    go : (t : Bool) → p x ≡ t → (t && list_all p xs) ≡ true → (list_all p xs ≡ true → All p xs) → (p x ≡ true) × All p xs
    go true is e later = (is, later e)
    go false is e later = absurd (false≢true e)

-- a keyword, by its first letter and the others
spelt_found : (b : ℕ) (xs rest : List ℕ) (k : Keyword) → keyword_bytes k ≡ b ∷ xs → is_letter b ≡ true → list_all is_name_byte xs ≡ true → length (b ∷ xs) ≤ 16 → Ends is_name_byte rest → token_front (keyword_bytes k ++ rest) ≡ piece (keyword k)
spelt_found b xs rest k is first all short ends =
    ap (λ l. token_front (l ++ rest)) is
    ∙ word_found b xs rest first (all_pass is_name_byte xs all) short ends
    ∙ ap (λ o. piece (word o (b ∷ xs))) (ap keyword_of (sym is) ∙ keyword_told k)

keyword_found : (k : Keyword) (rest : List ℕ) → Ends is_name_byte rest → token_front (keyword_bytes k ++ rest) ≡ piece (keyword k)
keyword_found Module rest ends = spelt_found 109 (codes "odule") rest Module refl refl refl (lit≤ tt) ends
keyword_found Struct rest ends = spelt_found 115 (codes "truct") rest Struct refl refl refl (lit≤ tt) ends
keyword_found Sig rest ends = spelt_found 115 (codes "ig") rest Sig refl refl refl (lit≤ tt) ends
keyword_found End rest ends = spelt_found 101 (codes "nd") rest End refl refl refl (lit≤ tt) ends
keyword_found Functor rest ends = spelt_found 102 (codes "unctor") rest Functor refl refl refl (lit≤ tt) ends
keyword_found «Type» rest ends = spelt_found 116 (codes "ype") rest «Type» refl refl refl (lit≤ tt) ends
keyword_found Val rest ends = spelt_found 118 (codes "al") rest Val refl refl refl (lit≤ tt) ends
keyword_found Let rest ends = spelt_found 108 (codes "et") rest Let refl refl refl (lit≤ tt) ends
keyword_found Fun rest ends = spelt_found 102 (codes "un") rest Fun refl refl refl (lit≤ tt) ends
keyword_found Rank rest ends = spelt_found 114 (codes "ank") rest Rank refl refl refl (lit≤ tt) ends

mark_found : (m : Mark) (rest : List ℕ) → token_front (mark_bytes m ++ rest) ≡ piece (mark m)
mark_found Open rest = refl
mark_found Close rest = refl
mark_found Colon rest = refl
mark_found Equals rest = refl
mark_found Comma rest = refl
mark_found Dot rest = refl
mark_found Arrow rest = refl
mark_found OpenAttribute rest = refl
mark_found CloseAttribute rest = refl

digits_found : (bs rest : List ℕ) → Proper (integer bs) → Ends is_digit rest → token_front (bs ++ rest) ≡ piece (integer bs)
digits_found [] rest proper ends = absurd (omega arith)
digits_found (b ∷ xs) rest proper ends = integer_found b xs rest proper.0.0 proper.0.1 proper.2 ends

-- whether a piece is a blank
abbrev pub is_gap : Piece → Bool
is_gap (blank _) = true
is_gap (mark _) = false
is_gap (keyword _) = false
is_gap (lower _) = false
is_gap (upper _) = false
is_gap (integer _) = false

-- where a run of name bytes or digits stops, no more of them follow
stops_ends : (p : Piece) (t : ℕ → Bool) (rest : List ℕ) → ((b : ℕ) → longer p b ≡ t b) → Stops p rest → Ends t rest
stops_ends p t [] same stops = tt
stops_ends p t (b ∷ rest) same stops = sym (same b) ∙ stops

pub token_at_front : (p : Piece) (rest : List ℕ) → is_gap p ≡ false → Proper p → Stops p rest → token_front (written p ++ rest) ≡ piece p
token_at_front (blank b) rest no_gap proper stops = absurd (true≢false no_gap)
token_at_front (mark m) rest no_gap proper stops = mark_found m rest
token_at_front (keyword k) rest no_gap proper stops = keyword_found k rest (stops_ends (keyword k) is_name_byte rest (λ b. refl) stops)
token_at_front (lower bs) rest no_gap proper stops = lower_found bs rest proper (stops_ends (lower bs) is_name_byte rest (λ b. refl) stops)
token_at_front (upper bs) rest no_gap proper stops = upper_found bs rest proper (stops_ends (upper bs) is_name_byte rest (λ b. refl) stops)
token_at_front (integer bs) rest no_gap proper stops = digits_found bs rest proper (stops_ends (integer bs) is_digit rest (λ b. refl) stops)
