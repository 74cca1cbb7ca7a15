-- What a tree writes is read back.
use Rattle.std.proofs.Common.{◌≡◌, ℕ, List, [], ◌∷◌, ◌++◌, Some, None, Option, sym, refl, ap, ◌∙◌, subst}
use Rattle.reader.specs.Tokens.{Token, text_end}
use Rattle.reader.specs.Streams.{Stream, finish, broken, next, in_front, tokens_in}
use Rattle.reader.specs.Syntax.{UnitTree, SignatureTree}
use Rattle.reader.specs.Print.{print_unit, print_signature_text}
use Rattle.reader.specs.Reading.{Outcome, accepted, refused, reads, unit_start, signature_start, default_rank, rank_of, Begins, StandsAt, NeverGoesOn, FirstRefused, UnitOutcome, SignatureOutcome, PrintsAreRead}
use Rattle.reader.proofs.Laws.{units_are_read, signatures_are_read, one_tree}

behind : (k : Token) (o : Option (List Token)) (ks : List Token) → in_front k o ≡ Some ks → (rest : List Token) × (o ≡ Some rest) × (ks ≡ k ∷ rest)
behind k None ks e = cc
behind k (Some rest) ks e = (rest, refl, cc)

-- what stands behind the first tokens of a whole text is one of its tokens
stands_begins : (s : Stream) (before : List Token) (bad : Option Token) (place : ℕ) (ks : List Token) → tokens_in s ≡ Some ks → StandsAt s before bad place →
    (k : Token) × (bad ≡ Some k) × Begins (before ++ k ∷ []) ks
stands_begins (finish p) before bad place ks e h =
    let all : text_end ∷ [] ≡ ks = cc in
    (text_end, h.1, ([], ap (λ (b : List Token). (b ++ text_end ∷ []) ++ []) h.0 ∙ all))
stands_begins (broken p) before bad place ks e h = cc
stands_begins (next k p s) [] bad place ks e h =
    let b = behind k (tokens_in s) ks e in (k, h.0, (b.0, sym b.2))
stands_begins (next k p s) (x ∷ before) bad place ks e h =
    let b = behind k (tokens_in s) ks e in
    let r = stands_begins s before bad place b.0 b.1 h.1 in
    (r.0, r.1, (r.2.0, ap (λ (y : Token). y ∷ ((before ++ r.0 ∷ []) ++ r.2.0)) h.0 ∙ ap (λ (l : List Token). k ∷ l) r.2.1 ∙ sym b.2))

-- a print is not refused
never_refused : {T : Type 0} (print : T → List Token) (s : Stream) (t : T) (place : ℕ) → tokens_in s ≡ Some (print t) → FirstRefused print s place → ⊥
never_refused {T} print s t place e f =
    let r = stands_begins s f.before f.bad place (print t) e f.stands in
    subst (NeverGoesOn print f.before) r.1 f.stops t r.2

pub prints_are_read : PrintsAreRead
prints_are_read = (
  λ s u e. unit_back s u e (reads unit_start s default_rank) (units_are_read s),
  λ s t e. signature_back s t e (reads signature_start s default_rank) (signatures_are_read s),
)
  where
    unit_back : (s : Stream) (u : UnitTree) → tokens_in s ≡ Some (print_unit u) → (o : Outcome) → UnitOutcome s o → o ≡ accepted (rank_of u.rank)
    unit_back s u e (accepted rank) h =
        let same : h.0 ≡ u = one_tree.0 h.0 u (cc (h.1, e)) in
        ap (λ (n : ℕ). accepted n) (h.2 ∙ ap (λ (v : UnitTree). rank_of v.rank) same)
    unit_back s u e (refused place) h = absurd (never_refused print_unit s u place e h)

    signature_back : (s : Stream) (t : SignatureTree) → tokens_in s ≡ Some (print_signature_text t) → (o : Outcome) → SignatureOutcome s o → (rank : ℕ) × (o ≡ accepted rank)
    signature_back s t e (accepted rank) h = (rank, refl)
    signature_back s t e (refused place) h = absurd (never_refused print_signature_text s t place e h)
