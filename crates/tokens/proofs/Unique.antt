-- A text divides into pieces in at most one way.
use Rattle.std.proofs.Common.{◌≡◌, ℕ, Bool, true, false, cond, List, [], ◌∷◌, length, get_or, drop, None, sym, refl, ap, ◌∙◌, subst, arith}
use lib.Seq.{drop-append_seam}
use Rattle.std.proofs.lemmas.Bool.Decides.{nat_tests}
use Rattle.tokens.specs.Bytes.{is_blank, is_letter, is_digit}
use Rattle.tokens.specs.Lexer.{piece, none, mark_of, mark_front, token_front, front}
use Rattle.tokens.specs.Pieces.{Piece, blank, mark, keyword, lower, upper, integer, written, Begins, Cuts, BeginsNone}
use Rattle.tokens.specs.declared.lexer.Reason.{Reason}
use Rattle.tokens.specs.declared.lexer.Reason.TheVariants.{Byte}
use Rattle.tokens.proofs.Complete.{is_gap, token_at_front}
use Rattle.tokens.proofs.Fronts.{chosen}

-- a blank begins no token
blank_none : (bs : List ℕ) → is_blank (get_or bs 0 0) ≡ true → token_front bs ≡ none Byte
blank_none bs e =
    let letter : is_letter (get_or bs 0 0) ≡ false = grind (arith, nat_tests) in
    let digit : is_digit (get_or bs 0 0) ≡ false = grind (arith, nat_tests) in
    let sign : mark_of bs ≡ None = grind (arith, nat_tests) in
    chosen bs false false letter digit ∙ ap mark_front sign

pub not_blank : (bs : List ℕ) (p : Piece) → token_front bs ≡ piece p → is_blank (get_or bs 0 0) ≡ false
not_blank bs p e = go (is_blank (get_or bs 0 0)) refl
  where
    go : (t : Bool) → is_blank (get_or bs 0 0) ≡ t → t ≡ false
    go true is = absurd (let none = blank_none bs is in let z : ◌≡◌ {A = ℕ} 0 1 = cc in omega arith)
    go false is = refl

token_first : (p : Piece) (bs rest : List ℕ) → is_gap p ≡ false → Begins p bs rest → front bs ≡ piece p
token_first p bs rest no_gap b =
    let found : token_front bs ≡ piece p = ap token_front (sym b.whole) ∙ token_at_front p rest no_gap b.proper b.longest in
    ap (λ t. cond t (piece (blank (get_or bs 0 0))) (token_front bs)) (not_blank bs p found) ∙ found

-- the piece at the front is what the definition finds there
pub front_found : (p : Piece) (bs rest : List ℕ) → Begins p bs rest → front bs ≡ piece p
front_found (blank x) bs rest b =
    ap front (sym b.whole) ∙ ap (λ t. cond t (piece (blank x)) (token_front (x ∷ rest))) b.proper
front_found (mark m) bs rest b = token_first (mark m) bs rest refl b
front_found (keyword k) bs rest b = token_first (keyword k) bs rest refl b
front_found (lower x) bs rest b = token_first (lower x) bs rest refl b
front_found (upper x) bs rest b = token_first (upper x) bs rest refl b
front_found (integer x) bs rest b = token_first (integer x) bs rest refl b

-- what a piece leaves
pub left_is : (p : Piece) (bs rest : List ℕ) → Begins p bs rest → rest ≡ drop (length (written p)) bs
left_is p bs rest b = sym (ap (drop (length (written p))) (sym b.whole) ∙ drop-append_seam (written p) rest)

-- where the definition finds none, none stands
pub none_begins : (bs : List ℕ) (r : Reason) → front bs ≡ none r → BeginsNone bs
none_begins bs r e p rest b = let found = front_found p bs rest b in let z : ◌≡◌ {A = ℕ} 0 1 = cc in omega arith

pub empty_begins_none : BeginsNone []
empty_begins_none = none_begins [] Byte refl

same_piece : (p q : Piece) (bs r s : List ℕ) → Begins p bs r → Begins q bs s → p ≡ q
same_piece p q bs r s a b = let x = front_found p bs r a in let y = front_found q bs s b in cc

-- two ways to cut a text until nothing more begins are the same
pub cut_once : (ps qs : List Piece) (text l m : List ℕ) → Cuts ps text l → Cuts qs text m → BeginsNone l → BeginsNone m → (ps ≡ qs) × (l ≡ m)
cut_once [] [] text l m a b u v = (refl, sym a ∙ b)
cut_once [] (q ∷ qs) text l m a b u v = absurd (u q b.0 (subst (λ t. Begins q t b.0) a b.1))
cut_once (p ∷ ps) [] text l m a b u v = absurd (v p a.0 (subst (λ t. Begins p t a.0) b a.1))
cut_once (p ∷ ps) (q ∷ qs) text l m a b u v =
    let same = same_piece p q text a.0 b.0 a.1 b.1 in
    let rest : a.0 ≡ b.0 = left_is p text a.0 a.1 ∙ ap (λ x. drop (length (written x)) text) same ∙ sym (left_is q text b.0 b.1) in
    let later = cut_once ps qs b.0 l m (subst (λ t. Cuts ps t l) rest a.2) b.2 u v in
    let tail = later.0 in
    (cc, later.1)
