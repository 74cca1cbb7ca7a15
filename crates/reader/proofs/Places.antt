-- A token's name is the part of the text between its places; a stack is never deeper than what is left of the text.
use Rattle.std.proofs.Common.{◌≡◌, ℕ, suc, ◌+◌, ◌-◌, ◌≤◌, Bool, true, false, cond, ◌&&◌, eqb, leb, ◌⊎◌, List, [], ◌∷◌, length, take, drop, Some, None, Option, sym, refl, ap, ◌∙◌, subst, inl, inr, ⊎_elim, arith, le-leb}
use lib.Seq.{take-append_seam}
use Rattle.std.proofs.lemmas.List.{drop-drop}
use Rattle.tokens.specs.Bytes.{is_blank}
use Rattle.tokens.specs.Lexer.{token, Front, piece, none, found, next_from, next_token, token_front}
use Rattle.tokens.specs.Pieces.{Piece, written}
use Rattle.tokens.proofs.Sound.{token_stands}
use Rattle.tokens.proofs.Walk.{advance}
use Rattle.types.specs.Types.{Name}
use Rattle.cores.specs.Meaning.{Word, lookup}
use Rattle.cores.specs.declared.interface.Found.{Found}
use Rattle.cores.specs.declared.interface.Kind.{Kind}
use Rattle.reader.specs.declared.class.Class.{Class}
use Rattle.tokens.specs.declared.token.Mark.{Mark}
use Rattle.tokens.specs.declared.token.Keyword.{Keyword}
use Rattle.reader.specs.Tokens.{Token, mark, keyword, lower, upper, integer, label0, label1, label2, operator0, operator1, operator2, operator3, text_end, class_of, token_of, name_token, word_token, mark_class, keyword_class, is_rank}
use Rattle.reader.specs.Annotate.{name_of, is}
use Rattle.reader.specs.Rows.{part_of}
use Rattle.reader.specs.Firsts.{span_of}

-- ---- the bytes of a token

-- where the token that comes next stands
pub record Stand (at : ℕ) (bs : List ℕ) (p : Piece) (place end : ℕ) : Type 0 where
  pub ahead : ℕ
  pub there : place ≡ at + ahead
  pub front : token_front (drop ahead bs) ≡ piece p
  pub behind : end ≡ place + length (written p)

found_stand : (at : ℕ) (bs : List ℕ) (p : Piece) (place end : ℕ) (f : Front) → token_front bs ≡ f → found at f ≡ token p place end → Stand at bs p place end
found_stand at bs p place end (none r) is e = cc
found_stand at bs p place end (piece q) is e =
    let same : q ≡ p = cc in
    let here : at ≡ place = cc in
    let last : at + length (written q) ≡ end = cc in
    record {
      ahead = 0;
      there = omega arith;
      front = is ∙ ap piece same;
      behind = sym last ∙ ap (λ (n : ℕ). n + length (written q)) here ∙ ap (λ (x : Piece). place + length (written x)) same;
    }

pub stand_of : (at : ℕ) (bs : List ℕ) (p : Piece) (place end : ℕ) → next_from at bs ≡ token p place end → Stand at bs p place end
stand_of at [] p place end e = cc
stand_of at (b ∷ bs) p place end e = go (stand_of (suc at) bs p place end) (is_blank b) e
  where
    go : (next_from (suc at) bs ≡ token p place end → Stand (suc at) bs p place end) → (t : Bool) →
        cond t (next_from (suc at) bs) (found at (token_front (b ∷ bs))) ≡ token p place end → Stand at (b ∷ bs) p place end
    go ih true h =
        let s = ih h in
        record { ahead = suc s.ahead; there = omega (arith, s.there); front = s.front; behind = s.behind }
    go ih false h = found_stand at (b ∷ bs) p place end (token_front (b ∷ bs)) refl h

true_true : (a b : Bool) → a ≡ true → b ≡ true → a && b ≡ true
true_true true b p q = q
true_true false b p q = p

-- a token's bytes are the part of the text between its places
pub token_part : (text : List ℕ) (from place end : ℕ) (p : Piece) → next_token text from ≡ token p place end → part_of text place end ≡ written p
token_part text from place end p e =
    let s = stand_of from (drop from text) p place end e in
    let adv = advance text from place end p e in
    let at : drop s.ahead (drop from text) ≡ drop place text =
    drop-drop s.ahead from text ∙ ap (λ (n : ℕ). drop n text) (sym s.there) in
    let stands = token_stands (drop place text) p (ap token_front (sym at) ∙ s.front) in
    let long : end - place ≡ length (written p) = omega (arith, s.behind) in
    ap (λ (t : Bool). cond t (take (end - place) (drop place text)) [])
    (true_true (leb place end) (leb end (length text)) (le-leb place end (omega (arith, s.behind))) (le-leb end (length text) adv.inside))
    ∙ ap (λ (n : ℕ). take n (drop place text)) long
    ∙ ap (take (length (written p))) (sym stands.whole)
    ∙ take-append_seam (written p) (drop (length (written p)) (drop place text))

-- ---- the name of a token

-- a token that is a name has the bytes that are written
abbrev IsName : Token → Name → Type 0
IsName k y = (k ≡ lower y) ⊎ (k ≡ upper y)

absurd_name : {k : Token} {y x : Name} → ((k ≡ lower y) → ⊥) → ((k ≡ upper y) → ⊥) → IsName k y → x ≡ y
absurd_name a b h = absurd (⊎_elim a b h)

two_ways : (a b : Token) (y x : Name) → (IsName a y → x ≡ y) → (IsName b y → x ≡ y) → (p : Bool) → IsName (cond p a b) y → x ≡ y
two_ways a b y x f g true h = f h
two_ways a b y x f g false h = g h

lower_name : (x y : Name) → IsName (lower x) y → x ≡ y
lower_name x y h = ⊎_elim low (λ e. cc) h
  where
    low : lower x ≡ lower y → x ≡ y
    low e = cc

upper_name : (x y : Name) → IsName (upper x) y → x ≡ y
upper_name x y h = ⊎_elim (λ e. cc) up h
  where
    up : upper x ≡ upper y → x ≡ y
    up e = cc

no_name : (k : Token) (x y : Name) → (k ≡ lower y → ⊥) → (k ≡ upper y → ⊥) → IsName k y → x ≡ y
no_name k x y a b h = absurd (⊎_elim a b h)

word_name : (kd : Kind) (n : ℕ) (x y : Name) → IsName (word_token kd n x) y → x ≡ y
word_name (Kind.Label p) n x y =
    two_ways _ _ y x (no_name (label0 n) x y (λ e. cc) (λ e. cc))
    (two_ways _ _ y x (no_name (label1 n) x y (λ e. cc) (λ e. cc))
    (two_ways (label2 n) (lower x) y x (no_name (label2 n) x y (λ e. cc) (λ e. cc)) (lower_name x y) (eqb p 2)) (eqb p 1))
    (eqb p 0)
word_name (Kind.Operator p) n x y =
    two_ways _ _ y x (no_name (operator0 n) x y (λ e. cc) (λ e. cc))
    (two_ways _ _ y x (no_name (operator1 n) x y (λ e. cc) (λ e. cc))
    (two_ways _ _ y x (no_name (operator2 n) x y (λ e. cc) (λ e. cc))
    (two_ways (operator3 n) (lower x) y x (no_name (operator3 n) x y (λ e. cc) (λ e. cc)) (lower_name x y) (eqb p 3)) (eqb p 2)) (eqb p 1))
    (eqb p 0)

found_name : (f : Option Found) (x y : Name) → IsName (name_token f x) y → x ≡ y
found_name None x y h = lower_name x y h
found_name (Some f) x y h = word_name f.kind f.number x y h

piece_name : (ws : List Word) (p : Piece) (y : Name) → IsName (token_of ws p) y → written p ≡ y
piece_name ws (Piece.blank b) y h = lower_name (b ∷ []) y h
piece_name ws (Piece.mark m) y h = no_name (mark m) _ y (λ e. cc) (λ e. cc) h
piece_name ws (Piece.keyword k) y h = no_name (keyword k) _ y (λ e. cc) (λ e. cc) h
piece_name ws (Piece.lower x) y h = found_name (lookup ws x) x y h
piece_name ws (Piece.upper x) y h = upper_name x y h
piece_name ws (Piece.integer ds) y h = no_name (integer ds) ds y (λ e. cc) (λ e. cc) h

-- nothing stands between a place and itself
part_none : (text : List ℕ) → part_of text 0 0 ≡ []
part_none text = ap (λ (t : Bool). cond t [] []) (le-leb 0 (length text) (omega arith))

abbrev spanned : List ℕ → Class → ℕ → ℕ → List ℕ
spanned text c place end = part_of text (span_of c place end).0 (span_of c place end).1

mark_span : (text : List ℕ) (place end : ℕ) (m : Mark) → spanned text (mark_class m) place end ≡ []
mark_span text place end Mark.Open = part_none text
mark_span text place end Mark.Close = part_none text
mark_span text place end Mark.Colon = part_none text
mark_span text place end Mark.Equals = part_none text
mark_span text place end Mark.Comma = part_none text
mark_span text place end Mark.Dot = part_none text
mark_span text place end Mark.Arrow = part_none text
mark_span text place end Mark.OpenAttribute = part_none text
mark_span text place end Mark.CloseAttribute = part_none text

keyword_span : (text : List ℕ) (place end : ℕ) (k : Keyword) → spanned text (keyword_class k) place end ≡ []
keyword_span text place end Keyword.Module = part_none text
keyword_span text place end Keyword.Struct = part_none text
keyword_span text place end Keyword.Sig = part_none text
keyword_span text place end Keyword.End = part_none text
keyword_span text place end Keyword.Functor = part_none text
keyword_span text place end Keyword.«Type» = part_none text
keyword_span text place end Keyword.Val = part_none text
keyword_span text place end Keyword.Let = part_none text
keyword_span text place end Keyword.Fun = part_none text
keyword_span text place end Keyword.Rank = part_none text

integer_span : (text : List ℕ) (place end : ℕ) (b : Bool) → spanned text (cond b Class.SmallInteger Class.LargeInteger) place end ≡ []
integer_span text place end true = part_none text
integer_span text place end false = part_none text

span_name : (text : List ℕ) (place end : ℕ) (k : Token) → ((y : Name) → IsName k y → part_of text place end ≡ y) →
    spanned text (class_of k) place end ≡ name_of k
span_name text place end (mark m) h = mark_span text place end m
span_name text place end (keyword k) h = keyword_span text place end k
span_name text place end (lower x) h = h x (inl refl)
span_name text place end (upper x) h = h x (inr refl)
span_name text place end (integer ds) h = integer_span text place end (is_rank ds)
span_name text place end (label0 l) h = part_none text
span_name text place end (label1 l) h = part_none text
span_name text place end (label2 l) h = part_none text
span_name text place end (operator0 o) h = part_none text
span_name text place end (operator1 o) h = part_none text
span_name text place end (operator2 o) h = part_none text
span_name text place end (operator3 o) h = part_none text
span_name text place end text_end h = part_none text

-- the name of the token that comes next, as a part of the text
pub named_part : (ws : List Word) (text : List ℕ) (from place end : ℕ) (p : Piece) → next_token text from ≡ token p place end →
    part_of text (span_of (class_of (token_of ws p)) place end).0 (span_of (class_of (token_of ws p)) place end).1 ≡ name_of (token_of ws p)
named_part ws text from place end p e =
    span_name text place end (token_of ws p) (λ y h. token_part text from place end p e ∙ piece_name ws p y h)

-- a token stands before its end
pub place_low : (text : List ℕ) (from place end : ℕ) (p : Piece) → next_token text from ≡ token p place end → place ≤ end
place_low text from place end p e = let s = stand_of from (drop from text) p place end e in omega (arith, s.behind)

-- a name's part is none behind the token
pub span_low : (c : Class) (place end : ℕ) (s : ℕ × ℕ) → s ≡ span_of c place end → (s.0 ≤ place) × (s.1 ≤ end)
span_low c place end s e = subst (λ (x : ℕ × ℕ). (x.0 ≤ place) × (x.1 ≤ end)) (sym e) (go (is c Class.Lower) (is c Class.Upper))
  where
    go : (a b : Bool) → ((cond {A = ℕ × ℕ} a (place, end) (cond b (place, end) (0, 0))).0 ≤ place) × ((cond {A = ℕ × ℕ} a (place, end) (cond b (place, end) (0, 0))).1 ≤ end)
    go true b = (omega arith, omega arith)
    go false true = (omega arith, omega arith)
    go false false = (omega arith, omega arith)
