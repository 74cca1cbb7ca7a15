-- What the lexer knows of the places as it goes from one token to the next.
use Rattle.std.proofs.Common.{◌≡◌, ℕ, ◌+◌, ◌-◌, ◌<◌, ◌≤◌, List, ◌++◌, length, drop, sym, refl, ap, ◌∙◌, arith, length-append, length-drop}
use Rattle.std.specs.List.{prefix_len}
use Rattle.tokens.specs.Bytes.{is_blank}
use Rattle.tokens.specs.Lexer.{piece, none, token, no_token, token_front, found, next_token, at_end}
use Rattle.tokens.specs.declared.lexer.Reason.{Reason}
use Rattle.tokens.specs.Pieces.{Piece, written}
use Rattle.tokens.proofs.Fronts.{only_blanks, behind_blanks}
use Rattle.tokens.proofs.Sound.{token_stands}

-- `bytes` is what is left of a text behind a place and the blanks there
pub record Skipped (text : List ℕ) (from blanks : ℕ) (bytes : List ℕ) : Type 0 where
  pub run : blanks ≡ prefix_len is_blank (drop from text)
  pub left : bytes ≡ drop blanks (drop from text)

pub skips : (text ahead bytes : List ℕ) (from blanks : ℕ) → ahead ≡ drop from text → blanks ≡ prefix_len is_blank ahead → bytes ≡ drop blanks ahead → Skipped text from blanks bytes
skips text ahead bytes from blanks is run left = record { run = run ∙ ap (prefix_len is_blank) is; left = left ∙ ap (drop blanks) is }

pub none_left : (text bytes : List ℕ) (from blanks : ℕ) → Skipped text from blanks bytes → length bytes ≡ 0 → next_token text from ≡ at_end
none_left text bytes from blanks s empty =
    let long = ap length s.left ∙ length-drop blanks (drop from text) in
    only_blanks from (drop from text) (omega (arith, long, s.run))

pub some_left : (text bytes : List ℕ) (from blanks : ℕ) → Skipped text from blanks bytes → 0 < length bytes → next_token text from ≡ found (from + blanks) (token_front bytes)
some_left text bytes from blanks s more =
    let long = ap length s.left ∙ length-drop blanks (drop from text) in
    behind_blanks from (drop from text) (omega (arith, long, s.run)) ∙ rw (← s.run, ← s.left) refl

-- the places up to the end of the text
pub reached : (text bytes : List ℕ) (from blanks : ℕ) → Skipped text from blanks bytes → 0 < length bytes → from + blanks + length bytes ≡ length text
reached text bytes from blanks s more =
    let long = ap length s.left ∙ length-drop blanks (drop from text) in
    omega (arith, long, length-drop from text)

-- a token and what is left behind it are as long as the bytes
pub taken : (bytes rest : List ℕ) (p : Piece) → token_front bytes ≡ piece p → rest ≡ drop (length (written p)) bytes → length (written p) + length rest ≡ length bytes
taken bytes rest p e is =
    let whole = (token_stands bytes p e).whole in
    sym (length-append (written p) rest) ∙ ap (λ l. length (written p ++ l)) is ∙ ap length whole

pub behind_inside : (text bytes rest : List ℕ) (from blanks n : ℕ) → Skipped text from blanks bytes → rest ≡ drop n bytes → length rest ≤ length text
behind_inside text bytes rest from blanks n s is =
    omega (arith, ap length is, ap length s.left, length-drop n bytes, length-drop blanks (drop from text), length-drop from text)

-- the next token, by how long the text is from its place and from its end
pub token_found : (text bytes rest : List ℕ) (from blanks : ℕ) (p : Piece) → Skipped text from blanks bytes → 0 < length bytes → token_front bytes ≡ piece p → rest ≡ drop (length (written p)) bytes → token p (length text - length bytes) (length text - length rest) ≡ next_token text from
token_found text bytes rest from blanks p s more e left =
    let all = reached text bytes from blanks s more in
    let size = taken bytes rest p e left in
    let place : length text - length bytes ≡ from + blanks = omega arith in
    let end : length text - length rest ≡ from + blanks + length (written p) = omega arith in
    ap (λ n. token p n (length text - length rest)) place
    ∙ ap (token p (from + blanks)) end
    ∙ sym (some_left text bytes from blanks s more ∙ ap (found (from + blanks)) e)

-- and the place where none stands
pub none_found : (text bytes : List ℕ) (from blanks : ℕ) (r : Reason) → Skipped text from blanks bytes → 0 < length bytes → token_front bytes ≡ none r → no_token r (length text - length bytes) ≡ next_token text from
none_found text bytes from blanks r s more e =
    let all = reached text bytes from blanks s more in
    let place : length text - length bytes ≡ from + blanks = omega arith in
    ap (no_token r) place ∙ sym (some_left text bytes from blanks s more ∙ ap (found (from + blanks)) e)
