-- What the loop over the tokens of a text knows, from its first turn to its answer.
use Rattle.std.proofs.Common.{◌≡◌, ℕ, ◌+◌, ◌≤◌, cond, List, [], ◌∷◌, ◌++◌, length, get_or, drop, sym, ap, ◌∙◌, arith, length-drop}
use Rattle.tokens.specs.Counting.{more, tally, total, Why, DividesOnlyAs, StopsAt}
use Rattle.tokens.specs.Lexer.{piece, at_end, token, no_token, token_front, next_token}
use Rattle.tokens.specs.Pieces.{Piece, blank, Cuts}
use Rattle.tokens.specs.declared.count.Counts.{Counts}
use Rattle.tokens.specs.declared.lexer.Reason.{Reason}
use Rattle.tokens.proofs.Unique.{cut_once, none_begins, empty_begins_none}
use Rattle.tokens.proofs.Walk.{advance, finish, halt, why, shrinks, tally_small, tally_token, tally_blanks, cuts_append}

-- the text up to a place is cut into pieces, and they are counted
abbrev pub Sofar : List ℕ → ℕ → Counts → Type 0
Sofar text from counts = (ps : List Piece) × Cuts ps text (drop from text) × (counts ≡ tally ps)

-- fewer tokens than bytes are counted before another one
pub room : (text : List ℕ) (from place end : ℕ) (p : Piece) (counts : Counts) → Sofar text from counts → next_token text from ≡ token p place end → total counts + 1 ≤ length text
room text from place end p counts s e =
    let step = advance text from place end p e in
    omega (arith, ap total s.2, tally_small s.0, shrinks s.0 text (drop from text) s.1, length-drop from text, step.forward, step.inside)

pub again : (text : List ℕ) (from place end : ℕ) (p : Piece) (counts : Counts) → Sofar text from counts → next_token text from ≡ token p place end → Sofar text end (more counts p)
again text from place end p counts s e =
    let step = advance text from place end p e in (
      s.0 ++ (step.gaps ++ p ∷ []),
      cuts_append s.0 (step.gaps ++ p ∷ []) text (drop from text) (drop end text) s.1 step.cuts,
      ap (λ c. more c p) s.2 ∙ sym (tally_token s.0 step.gaps p step.blanks),
    )

pub whole : (text : List ℕ) (from : ℕ) (counts : Counts) → Sofar text from counts → next_token text from ≡ at_end → (ps : List Piece) × DividesOnlyAs text ps × (counts ≡ tally ps)
whole text from counts s e =
    let last = finish text from e in
    let all = cuts_append s.0 last.0 text (drop from text) [] s.1 last.2 in (
      s.0 ++ last.0,
      (all, λ qs other. (cut_once qs (s.0 ++ last.0) text [] [] other all empty_begins_none empty_begins_none).0),
      s.2 ∙ sym (tally_blanks s.0 last.0 last.1),
    )

pub stopped : (text : List ℕ) (from place : ℕ) (r : Reason) (counts : Counts) → Sofar text from counts → next_token text from ≡ no_token r place → (ps : List Piece) × StopsAt text place ps × Why r (drop place text)
stopped text from place r counts s e =
    let stop = halt text from place r e in
    let bs = drop place text in
    let none_here = none_begins bs r (ap (λ t. cond t (piece (blank (get_or bs 0 0))) (token_front bs)) stop.solid ∙ stop.refused) in
    let all = cuts_append s.0 stop.gaps text (drop from text) (drop place text) s.1 stop.cuts in (
      s.0 ++ stop.gaps,
      record {
        before = all;
        inside = stop.inside;
        nothing_begins = none_here;
        divides_never = λ qs other. omega (arith, ap length (cut_once qs (s.0 ++ stop.gaps) text [] (drop place text) other all empty_begins_none none_here).1, length-drop place text, stop.inside);
      },
      why (drop place text) r stop.refused,
    )
