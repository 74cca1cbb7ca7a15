-- Going through a text from token to token cuts it into pieces.
use Rattle.std.proofs.Common.{◌≡◌, ℕ, ◌+◌, ◌<◌, ◌≤◌, Bool, true, false, cond, leb, ◌⊎◌, List, [], ◌∷◌, ◌++◌, length, get_or, take, drop, Some, None, fold, Option, sym, refl, ap, ◌∙◌, subst, inl, inr, ⊎_elim, one-add, arith, lit≤, length-append, length-drop, drop-drop, leb-false}
use mathlib.Core.Bool.{false≢true}
use Rattle.std.proofs.lemmas.List.{drop_all}
use Rattle.std.proofs.lemmas.List.Sums.{fold-append}
use Rattle.std.proofs.str.Laws.{order}
use Rattle.std.specs.List.{prefix_len}
use Rattle.tokens.specs.Bytes.{is_blank, is_letter, is_digit, is_name_byte}
use Rattle.tokens.specs.Keywords.{mark_bytes, keyword_bytes, keyword_of}
use Rattle.tokens.specs.Counting.{more, tally, nothing, total, Why}
use Rattle.tokens.specs.Lexer.{Front, piece, none, at_end, token, no_token, found, token_front, next_token, word, name_front, integer_front, mark_front, mark_of}
use Rattle.tokens.specs.Pieces.{Piece, blank, mark, keyword, lower, upper, integer, written, Proper, Stops, Cuts}
use Rattle.tokens.specs.declared.count.Counts.{Counts}
use Rattle.tokens.specs.declared.lexer.Reason.{Reason}
use Rattle.tokens.specs.declared.lexer.Reason.TheVariants.{Byte, LongName, LongInteger}
use Rattle.tokens.specs.declared.token.Keyword.{Keyword}
use Rattle.tokens.specs.declared.token.Keyword.TheVariants.{Module, Struct, Sig, End, Functor, «Type», Val, Let, Fun, Rank}
use Rattle.tokens.specs.declared.token.Mark.{Mark}
use Rattle.tokens.specs.declared.token.Mark.TheVariants.{Open, Close, Colon, Equals, Comma, Dot, Arrow, OpenAttribute, CloseAttribute}
use Rattle.tokens.proofs.Complete.{is_gap}
use Rattle.tokens.proofs.Fronts.{only_blanks, behind_blanks}
use Rattle.tokens.proofs.Runs.{Ends, run_ends}
use Rattle.tokens.proofs.Sound.{token_stands}

-- pieces that are all blanks
abbrev pub Blanks : List Piece → Type 0
Blanks [] = Unit {0}
Blanks (p ∷ ps) = (is_gap p ≡ true) × Blanks ps

blanks_add_none : (qs : List Piece) (c : Counts) → Blanks qs → fold more c qs ≡ c
blanks_add_none [] c h = refl
blanks_add_none (blank b ∷ qs) c h = blanks_add_none qs c h.1
blanks_add_none (mark m ∷ qs) c h = absurd (false≢true h.0)
blanks_add_none (keyword k ∷ qs) c h = absurd (false≢true h.0)
blanks_add_none (lower x ∷ qs) c h = absurd (false≢true h.0)
blanks_add_none (upper x ∷ qs) c h = absurd (false≢true h.0)
blanks_add_none (integer x ∷ qs) c h = absurd (false≢true h.0)

-- blanks count for nothing
pub tally_blanks : (ps qs : List Piece) → Blanks qs → tally (ps ++ qs) ≡ tally ps
tally_blanks ps qs h = fold-append more nothing ps qs ∙ blanks_add_none qs (tally ps) h

-- a token behind blanks counts once
pub tally_token : (ps qs : List Piece) (p : Piece) → Blanks qs → tally (ps ++ (qs ++ p ∷ [])) ≡ more (tally ps) p
tally_token ps qs p h =
    fold-append more nothing ps (qs ++ p ∷ []) ∙ fold-append more (tally ps) qs (p ∷ []) ∙ ap (λ c. more c p) (blanks_add_none qs (tally ps) h)

pub cuts_append : (ps qs : List Piece) (a b c : List ℕ) → Cuts ps a b → Cuts qs b c → Cuts (ps ++ qs) a c
cuts_append [] qs a b c x y = subst (λ t. Cuts qs t c) (sym x) y
cuts_append (p ∷ ps) qs a b c x y = (x.0, x.1, cuts_append ps qs x.0 b c x.2 y)

mark_long : (m : Mark) → 1 ≤ length (mark_bytes m)
mark_long Open = lit≤ tt
mark_long Close = lit≤ tt
mark_long Colon = lit≤ tt
mark_long Equals = lit≤ tt
mark_long Comma = lit≤ tt
mark_long Dot = lit≤ tt
mark_long Arrow = lit≤ tt
mark_long OpenAttribute = lit≤ tt
mark_long CloseAttribute = lit≤ tt

keyword_long : (k : Keyword) → 1 ≤ length (keyword_bytes k)
keyword_long Module = lit≤ tt
keyword_long Struct = lit≤ tt
keyword_long Sig = lit≤ tt
keyword_long End = lit≤ tt
keyword_long Functor = lit≤ tt
keyword_long «Type» = lit≤ tt
keyword_long Val = lit≤ tt
keyword_long Let = lit≤ tt
keyword_long Fun = lit≤ tt
keyword_long Rank = lit≤ tt

gap_stops : (b : ℕ) (rest : List ℕ) → Stops (blank b) rest
gap_stops b [] = tt
gap_stops b (x ∷ rest) = refl

-- each piece has a byte at least
piece_long : (p : Piece) → Proper p → 1 ≤ length (written p)
piece_long (blank b) h = omega arith
piece_long (mark m) h = mark_long m
piece_long (keyword k) h = keyword_long k
piece_long (lower []) h = absurd h.0
piece_long (lower (b ∷ bs)) h = omega arith
piece_long (upper []) h = absurd h
piece_long (upper (b ∷ bs)) h = omega arith
piece_long (integer bs) h = h.1

pub shrinks : (ps : List Piece) (a b : List ℕ) → Cuts ps a b → length ps + length b ≤ length a
shrinks [] a b x = omega (arith, ap length x)
shrinks (p ∷ ps) a b x =
    omega (arith, shrinks ps x.0 b x.2, piece_long p x.1.proper, length-append (written p) x.0, ap length x.1.whole)

one_more : (c : Counts) (p : Piece) → total (more c p) ≤ total c + 1
one_more c (blank _) = omega arith
one_more c (mark _) = omega arith
one_more c (keyword _) = omega arith
one_more c (lower _) = omega arith
one_more c (upper _) = omega arith
one_more c (integer _) = omega arith

folded_small : (c : Counts) (ps : List Piece) → total (fold more c ps) ≤ total c + length ps
folded_small c [] = omega arith
folded_small c (p ∷ ps) = omega (arith, folded_small (more c p) ps, one_more c p)

-- there are at most as many tokens as pieces
pub tally_small : (ps : List Piece) → total (tally ps) ≤ length ps
tally_small ps = omega (arith, folded_small nothing ps)

-- the blanks at the front are cut off
blank_cuts : (bs : List ℕ) → (qs : List Piece) × Blanks qs × Cuts qs bs (drop (prefix_len is_blank bs) bs)
blank_cuts [] = ([], tt, refl)
blank_cuts (b ∷ bs) = go (is_blank b) refl (blank_cuts bs)
  where
    go : (t : Bool) → is_blank b ≡ t → ((qs : List Piece) × Blanks qs × Cuts qs bs (drop (prefix_len is_blank bs) bs)) → (qs : List Piece) × Blanks qs × Cuts qs (b ∷ bs) (drop (cond t (1 + prefix_len is_blank bs) 0) (b ∷ bs))
    go true is later = (
      blank b ∷ later.0,
      (refl, later.1),
      (bs, record { whole = refl; proper = is; longest = gap_stops b bs }, rw (one-add (prefix_len is_blank bs)) later.2),
    )
    go false is later = ([], tt, refl)

-- the bytes behind a place and the blanks there
abbrev ahead : List ℕ → ℕ → List ℕ
ahead text from = drop (prefix_len is_blank (drop from text)) (drop from text)

-- what is behind them, by its place in the text
ahead_is : (text : List ℕ) (from n : ℕ) → drop n (ahead text from) ≡ drop (from + prefix_len is_blank (drop from text) + n) text
ahead_is text from n =
    ap (drop n) (drop-drop (prefix_len is_blank (drop from text)) from text) ∙ drop-drop n (from + prefix_len is_blank (drop from text)) text

-- the next token, when something is left behind the blanks
next_found : (text : List ℕ) (from : ℕ) → (next_token text from ≡ at_end) ⊎ ((from + prefix_len is_blank (drop from text) < length text) × (next_token text from ≡ found (from + prefix_len is_blank (drop from text)) (token_front (ahead text from))))
next_found text from =
    let n = prefix_len is_blank (drop from text) in
    ⊎_elim
    (λ h. inr (omega (arith, length-drop from text), behind_blanks from (drop from text) h))
    (λ h. inl (only_blanks from (drop from text) h))
    (order n (length (drop from text)))

-- one token more: the blanks before it and the token are cut off
pub record Advance (text : List ℕ) (from : ℕ) (p : Piece) (end : ℕ) : Type 0 where
  pub gaps : List Piece
  pub blanks : Blanks gaps
  pub cuts : Cuts (gaps ++ p ∷ []) (drop from text) (drop end text)
  pub forward : from < end
  pub inside : end ≤ length text

advances : (text : List ℕ) (from place end : ℕ) (p : Piece) → from + prefix_len is_blank (drop from text) < length text → found (from + prefix_len is_blank (drop from text)) (token_front (ahead text from)) ≡ token p place end → Advance text from p end
advances text from place end p more e = go (token_front (ahead text from)) refl e
  where
    go : (f : Front) → token_front (ahead text from) ≡ f → found (from + prefix_len is_blank (drop from text)) f ≡ token p place end → Advance text from p end
    go (none r) is e = absurd (let z : ◌≡◌ {A = ℕ} 0 1 = cc in omega arith)
    go (piece q) is e =
        let n = prefix_len is_blank (drop from text) in
        let same : q ≡ p = cc in
        let there : from + n + length (written q) ≡ end = cc in
        let stands = token_stands (ahead text from) q is in
        let gaps = blank_cuts (drop from text) in
        let left : drop (length (written q)) (ahead text from) ≡ drop end text = ahead_is text from (length (written q)) ∙ ap (λ m. drop m text) there in
        let all = cuts_append gaps.0 (q ∷ []) (drop from text) (ahead text from) (drop end text) gaps.2 (drop (length (written q)) (ahead text from), stands, left) in
        let long = piece_long q stands.proper in
        let whole = ap length stands.whole in
        let size = length-append (written q) (drop (length (written q)) (ahead text from)) in
        record {
          gaps = gaps.0;
          blanks = gaps.1;
          cuts = subst (λ x. Cuts (gaps.0 ++ x ∷ []) (drop from text) (drop end text)) same all;
          forward = omega arith;
          inside = omega (arith, ap length (drop-drop n from text), length-drop (from + n) text);
        }

pub advance : (text : List ℕ) (from place end : ℕ) (p : Piece) → next_token text from ≡ token p place end → Advance text from p end
advance text from place end p e =
    ⊎_elim
    (λ stop. absurd (let z : ◌≡◌ {A = ℕ} 0 1 = cc in omega arith))
    (λ there. advances text from place end p there.0 (sym there.1 ∙ e))
    (next_found text from)

never_end : (at : ℕ) (f : Front) → found at f ≡ at_end → ⊥
never_end at (piece p) e = let z : ◌≡◌ {A = ℕ} 0 1 = cc in omega arith
never_end at (none r) e = let z : ◌≡◌ {A = ℕ} 0 1 = cc in omega arith

-- at the end only blanks are left
pub finish : (text : List ℕ) (from : ℕ) → next_token text from ≡ at_end → (qs : List Piece) × Blanks qs × Cuts qs (drop from text) []
finish text from e =
    let n = prefix_len is_blank (drop from text) in
    let gaps = blank_cuts (drop from text) in
    ⊎_elim
    (λ h. absurd (never_end (from + n) (token_front (ahead text from)) (sym (behind_blanks from (drop from text) h) ∙ e)))
    (λ h. (gaps.0, gaps.1, subst (Cuts gaps.0 (drop from text)) (drop_all n (drop from text) h) gaps.2))
    (order n (length (drop from text)))

-- where no token stands, the blanks before the place are cut off
pub record Halt (text : List ℕ) (from place : ℕ) (r : Reason) : Type 0 where
  pub gaps : List Piece
  pub blanks : Blanks gaps
  pub cuts : Cuts gaps (drop from text) (drop place text)
  pub inside : place < length text
  pub refused : token_front (drop place text) ≡ none r
  pub solid : is_blank (get_or (drop place text) 0 0) ≡ false

no_blank_first : (bs : List ℕ) → Ends is_blank bs → is_blank (get_or bs 0 0) ≡ false
no_blank_first [] h = refl
no_blank_first (b ∷ bs) h = h

halts : (text : List ℕ) (from place : ℕ) (r : Reason) → from + prefix_len is_blank (drop from text) < length text → found (from + prefix_len is_blank (drop from text)) (token_front (ahead text from)) ≡ no_token r place → Halt text from place r
halts text from place r more e = go (token_front (ahead text from)) refl e
  where
    go : (f : Front) → token_front (ahead text from) ≡ f → found (from + prefix_len is_blank (drop from text)) f ≡ no_token r place → Halt text from place r
    go (piece p) is e = absurd (let z : ◌≡◌ {A = ℕ} 0 1 = cc in omega arith)
    go (none q) is e =
        let n = prefix_len is_blank (drop from text) in
        let same : q ≡ r = cc in
        let there : from + n ≡ place = cc in
        let left : ahead text from ≡ drop place text = drop-drop n from text ∙ ap (λ m. drop m text) there in
        let gaps = blank_cuts (drop from text) in
        record {
          gaps = gaps.0;
          blanks = gaps.1;
          cuts = subst (Cuts gaps.0 (drop from text)) left gaps.2;
          inside = omega arith;
          refused = ap token_front (sym left) ∙ is ∙ ap none same;
          solid = ap (λ l. is_blank (get_or l 0 0)) (sym left) ∙ no_blank_first (ahead text from) (run_ends is_blank (drop from text));
        }

pub halt : (text : List ℕ) (from place : ℕ) (r : Reason) → next_token text from ≡ no_token r place → Halt text from place r
halt text from place r e =
    ⊎_elim
    (λ stop. absurd (let z : ◌≡◌ {A = ℕ} 0 1 = cc in omega arith))
    (λ there. halts text from place r there.0 (sym there.1 ∙ e))
    (next_found text from)

-- why a front that is refused is refused
pub why : (bs : List ℕ) (r : Reason) → token_front bs ≡ none r → Why r bs
why bs r e = go (is_letter (get_or bs 0 0)) (is_digit (get_or bs 0 0)) refl refl e
  where
    name : is_letter (get_or bs 0 0) ≡ true → (t : Bool) → leb (prefix_len is_name_byte bs) 16 ≡ t → cond t (piece (word (keyword_of (take (prefix_len is_name_byte bs) bs)) (take (prefix_len is_name_byte bs) bs))) (none LongName) ≡ none r → Why r bs
    name letter true is e = absurd (let z : ◌≡◌ {A = ℕ} 0 1 = cc in omega arith)
    name letter false is e = let same : LongName ≡ r = cc in subst (λ x. Why x bs) same (letter, leb-false (prefix_len is_name_byte bs) 16 is)

    integers : is_digit (get_or bs 0 0) ≡ true → (t : Bool) → leb (prefix_len is_digit bs) 9 ≡ t → cond t (piece (integer (take (prefix_len is_digit bs) bs))) (none LongInteger) ≡ none r → Why r bs
    integers digit true is e = absurd (let z : ◌≡◌ {A = ℕ} 0 1 = cc in omega arith)
    integers digit false is e = let same : LongInteger ≡ r = cc in subst (λ x. Why x bs) same (digit, leb-false (prefix_len is_digit bs) 9 is)

    sign : is_letter (get_or bs 0 0) ≡ false → is_digit (get_or bs 0 0) ≡ false → (o : Option Mark) → mark_front o ≡ none r → Why r bs
    sign letter digit (Some m) e = absurd (let z : ◌≡◌ {A = ℕ} 0 1 = cc in omega arith)
    sign letter digit None e = let same : Byte ≡ r = cc in subst (λ x. Why x bs) same (letter, digit)

    go : (l d : Bool) → is_letter (get_or bs 0 0) ≡ l → is_digit (get_or bs 0 0) ≡ d → cond l (name_front (prefix_len is_name_byte bs) bs) (cond d (integer_front (prefix_len is_digit bs) bs) (mark_front (mark_of bs))) ≡ none r → Why r bs
    go true d letter digit e = name letter (leb (prefix_len is_name_byte bs) 16) refl e
    go false true letter digit e = integers digit (leb (prefix_len is_digit bs) 9) refl e
    go false false letter digit e = sign letter digit (mark_of bs) e
