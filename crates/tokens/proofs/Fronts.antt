-- Which token stands at the front, by the class of the first byte; and the next token behind blanks.
use Rattle.std.proofs.Common.{◌≡◌, ℕ, suc, ◌+◌, ◌<◌, ◌≤◌, Bool, true, false, cond, ◌⊎◌, List, [], ◌∷◌, length, get_or, take, drop, Some, sym, refl, ap, ◌∙◌, add-zero, one-add, arith, length-take-le, le-leb}
use Rattle.std.proofs.lemmas.Bool.Decides.{nat_tests}
use Rattle.std.specs.List.{prefix_len}
use Rattle.tokens.specs.Bytes.{class, is_blank, is_letter, is_digit, is_name_byte}
use Rattle.tokens.specs.Keywords.{keyword_bytes, keyword_of}
use Rattle.tokens.specs.Lexer.{piece, none, mark_of, mark_front, name_front, integer_front, token_front, found, next_from, at_end}
use Rattle.tokens.specs.Pieces.{keyword}
use Rattle.tokens.specs.declared.bytes.Class.TheVariants.{Lower, Upper, Digit}
use Rattle.tokens.specs.declared.lexer.Reason.TheVariants.{Byte}
use Rattle.tokens.specs.declared.token.Keyword.{Keyword}
use Rattle.tokens.proofs.Words.{keyword_spells}

letter : (b : ℕ) → (class b ≡ Lower) ⊎ (class b ≡ Upper) → is_letter b ≡ true
letter b h = grind (arith, nat_tests)

digit : (b : ℕ) → class b ≡ Digit → (is_letter b ≡ false) × (is_digit b ≡ true)
digit b h = (grind (arith, nat_tests), grind (arith, nat_tests))

neither : (b : ℕ) → (class b ≡ Lower → ⊥) → (class b ≡ Upper → ⊥) → (class b ≡ Digit → ⊥) → (is_letter b ≡ false) × (is_digit b ≡ false)
neither b l u d = (grind (arith, nat_tests), grind (arith, nat_tests))

-- the token at the front, where the two tests came out so
pub chosen : (bs : List ℕ) (l d : Bool) → is_letter (get_or bs 0 0) ≡ l → is_digit (get_or bs 0 0) ≡ d → token_front bs ≡ cond l (name_front (prefix_len is_name_byte bs) bs) (cond d (integer_front (prefix_len is_digit bs) bs) (mark_front (mark_of bs)))
chosen bs l d p q = rw (p, q) refl

-- a letter begins a name
pub letter_front : (bs : List ℕ) → (class (get_or bs 0 0) ≡ Lower) ⊎ (class (get_or bs 0 0) ≡ Upper) → token_front bs ≡ name_front (prefix_len is_name_byte bs) bs
letter_front bs h = chosen bs true (is_digit (get_or bs 0 0)) (letter (get_or bs 0 0) h) refl

-- a digit begins an integer
pub digit_front : (bs : List ℕ) → class (get_or bs 0 0) ≡ Digit → token_front bs ≡ integer_front (prefix_len is_digit bs) bs
digit_front bs h = chosen bs false true (digit (get_or bs 0 0) h).0 (digit (get_or bs 0 0) h).1

-- any other byte begins a mark or nothing
pub mark_front_lem : (bs : List ℕ) → (class (get_or bs 0 0) ≡ Lower → ⊥) → (class (get_or bs 0 0) ≡ Upper → ⊥) → (class (get_or bs 0 0) ≡ Digit → ⊥) → token_front bs ≡ mark_front (mark_of bs)
mark_front_lem bs l u d = chosen bs false false (neither (get_or bs 0 0) l u d).0 (neither (get_or bs 0 0) l u d).1

-- no token stands at the front of nothing
pub empty_front : (bs : List ℕ) → length bs < 1 → token_front bs ≡ none Byte
empty_front [] h = refl
empty_front (b ∷ bs) h = absurd (omega arith)

-- a run that spells a keyword is that keyword
pub keyword_front : (bs name rest : List ℕ) (n : ℕ) (k : Keyword) → n ≡ prefix_len is_name_byte bs → n ≤ length bs → n ≤ 16 → name ≡ take n bs → rest ≡ drop n bs → keyword_of name ≡ Some k → (name_front (prefix_len is_name_byte bs) bs ≡ piece (keyword k)) × (rest ≡ drop (length (keyword_bytes k)) bs)
keyword_front bs name rest n k run inside short front back told =
    let long : length (keyword_bytes k) ≡ n = ap length (keyword_spells name k told ∙ front) ∙ length-take-le n bs inside in
    let same : keyword_of (take n bs) ≡ Some k = ap keyword_of (sym front) ∙ told in (
      ap (λ m. name_front m bs) (sym run) ∙ rw (le-leb n 16 short, same) refl,
      back ∙ ap (λ m. drop m bs) (sym long),
    )

-- bytes that are all blank have no token
pub only_blanks : (at : ℕ) (bs : List ℕ) → length bs ≤ prefix_len is_blank bs → next_from at bs ≡ at_end
only_blanks at [] h = refl
only_blanks at (b ∷ bs) h = go (is_blank b) h (only_blanks (suc at) bs)
  where
    go : (t : Bool) → length (b ∷ bs) ≤ cond t (1 + prefix_len is_blank bs) 0 → (length bs ≤ prefix_len is_blank bs → next_from (suc at) bs ≡ at_end) → cond t (next_from (suc at) bs) (found at (token_front (b ∷ bs))) ≡ at_end
    go true h later = later (omega arith)
    go false h later = absurd (omega arith)

-- the next token stands behind the blanks
pub behind_blanks : (at : ℕ) (bs : List ℕ) → prefix_len is_blank bs < length bs → next_from at bs ≡ found (at + prefix_len is_blank bs) (token_front (drop (prefix_len is_blank bs) bs))
behind_blanks at [] h = absurd (omega arith)
behind_blanks at (b ∷ bs) h = go (is_blank b) h (behind_blanks (suc at) bs)
  where
    go : (t : Bool) → cond t (1 + prefix_len is_blank bs) 0 < length (b ∷ bs) → (prefix_len is_blank bs < length bs → next_from (suc at) bs ≡ found (suc at + prefix_len is_blank bs) (token_front (drop (prefix_len is_blank bs) bs))) → cond t (next_from (suc at) bs) (found at (token_front (b ∷ bs))) ≡ found (at + cond t (1 + prefix_len is_blank bs) 0) (token_front (drop (cond t (1 + prefix_len is_blank bs) 0) (b ∷ bs)))
    go true h later =
        let there : suc at + prefix_len is_blank bs ≡ at + (1 + prefix_len is_blank bs) = omega arith in
        later (omega arith) ∙ ap (λ n. found n (token_front (drop (prefix_len is_blank bs) bs))) there ∙ rw (one-add (prefix_len is_blank bs)) refl
    go false h later = rw (add-zero at) refl
