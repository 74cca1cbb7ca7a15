-- What an answer of reading tells.
use Rattle.std.proofs.Common.{◌≡◌, ℕ, zero, suc, ◌≤◌, Bool, true, false, cond, eqb, leb, List, [], ◌∷◌, length, Some, None, Ok, Err, Option, Result, sym, refl, ap, ◌∙◌, subst, arith, eq-eqb, le-leb, leb-false, leb-true}
use borrow.Author.Tests.{eqb-false}
use Rattle.reader.specs.declared.parse.Start.{Start}
use Rattle.reader.specs.Annotate.{annotate, static_fault, first_where, is_too_deep, is_again, is_undeclared}
use Rattle.reader.specs.Firsts.{ask_firsts, start_attrs}
use Rattle.reader.specs.Notes.{Note}
use Rattle.reader.specs.Parsing.{outcome, start_of, is_accepted}
use Rattle.reader.proofs.Noted.{unit_annotated, signature_annotated}
use Rattle.tokens.specs.declared.token.Keyword.{Keyword}
use Rattle.tokens.specs.Integers.{decimal}
use Rattle.tokens.specs.Lexer.{Next, at_end, token, no_token, next_token}
use Rattle.tokens.specs.Pieces.{Piece}
use Rattle.types.specs.Types.{Name}
use Rattle.cores.specs.Meaning.{Word, lookup}
use Rattle.cores.specs.declared.interface.Found.{Found}
use Rattle.cores.specs.declared.interface.Kind.{Kind}
use Rattle.reader.specs.declared.fault.ReadFault.{ReadFault}
use Rattle.reader.specs.declared.fault.ReadFault.TheVariants.{Scratch, TooLong, Syntax, TooDeep, Redeclared, Undeclared}
use Rattle.reader.specs.Tokens.{Token, keyword, lower, upper, label2, operator3, text_end, token_of, name_token, word_token}
use Rattle.reader.specs.Syntax.{UnitTree, RankTree, SignatureTree}
use Rattle.reader.specs.Print.{print_unit, print_signature_text, equals, print_items, print_rank}
use Rattle.reader.specs.Streams.{Stream, ahead, stream_from, stream_of, tokens_in, in_front}
use Rattle.reader.specs.Reading.{Outcome, accepted, refused, reads, unit_start, signature_start, default_rank, rank_of, StandsAt, UnitOutcome, SignatureOutcome}
use Rattle.reader.specs.Answers.{Heading, upper_piece, upper_at, behind_first, name_in, heading_of, unit_read, signature_read, asked, unit_answer, signature_answer, UnitMeaning, SignatureMeaning, UnitStatic, SignatureStatic, scratch_words, text_limit}
use Rattle.reader.proofs.Laws.{units_are_read, signatures_are_read}

-- ---- ranks are small

rank_of_small : (o : Option RankTree) → rank_of o ≤ 255
rank_of_small None = omega arith
rank_of_small (Some r) = leb-true (decimal r.digits) 255 r.small

pub rank_small : (s : Stream) (n : ℕ) → reads unit_start s default_rank ≡ accepted n → n ≤ 255
rank_small s n e =
    let h = subst (UnitOutcome s) e (units_are_read s) in
    subst (λ (x : ℕ). x ≤ 255) (sym h.2) (rank_of_small h.0.rank)

-- ---- no core word is an upper name

two_ways : (a b : Token) (y : Name) → (a ≡ upper y → ⊥) → (b ≡ upper y → ⊥) → (p : Bool) → cond p a b ≡ upper y → ⊥
two_ways a b y x z true e = x e
two_ways a b y x z false e = z e

no_lower : (x y : Name) → lower x ≡ upper y → ⊥
no_lower x y e = cc

word_no_upper : (k : Kind) (n : ℕ) (x y : Name) → word_token k n x ≡ upper y → ⊥
word_no_upper (Kind.Label p) n x y =
    two_ways _ _ y (λ e. cc)
    (two_ways _ _ y (λ e. cc)
    (two_ways (label2 n) (lower x) y (λ e. cc) (no_lower x y) (eqb p 2)) (eqb p 1))
    (eqb p 0)
word_no_upper (Kind.Operator p) n x y =
    two_ways _ _ y (λ e. cc)
    (two_ways _ _ y (λ e. cc)
    (two_ways _ _ y (λ e. cc)
    (two_ways (operator3 n) (lower x) y (λ e. cc) (no_lower x y) (eqb p 3)) (eqb p 2))
    (eqb p 1))
    (eqb p 0)

name_no_upper : (f : Option Found) (x y : Name) → name_token f x ≡ upper y → ⊥
name_no_upper None x y e = no_lower x y e
name_no_upper (Some f) x y e = word_no_upper f.kind f.number x y e

-- a piece that is an upper name as a token is one
pub upper_piece_lem : (ws : List Word) (p : Piece) (y : Name) (place : ℕ) → token_of ws p ≡ upper y → upper_piece p place ≡ Some (y, place)
upper_piece_lem ws (Piece.blank b) y place e = absurd (no_lower (b ∷ []) y e)
upper_piece_lem ws (Piece.mark m) y place e = cc
upper_piece_lem ws (Piece.keyword k) y place e = cc
upper_piece_lem ws (Piece.lower x) y place e = absurd (name_no_upper (lookup ws x) x y e)
upper_piece_lem ws (Piece.upper x) y place e = ap (λ (z : Name). Some (z, place)) (upper_same e)
  where
    upper_same : upper x ≡ upper y → x ≡ y
    upper_same e = cc
upper_piece_lem ws (Piece.integer ds) y place e = cc

-- ---- the second token

some_some : {X : Type 0} {x y : X} → Some x ≡ Some y → x ≡ y
some_some e = cc

none_some : {X : Type 0} {x : X} → None ≡ Some x → ⊥
none_some e = cc

cons_head : {X : Type 0} {x y : X} {xs ys : List X} → x ∷ xs ≡ y ∷ ys → x ≡ y
cons_head e = cc

cons_tail : {X : Type 0} {x y : X} {xs ys : List X} → x ∷ xs ≡ y ∷ ys → xs ≡ ys
cons_tail e = cc

-- what stands behind the first token of a stream with these tokens
front_is : (k k' : Token) (ks : List Token) (o : Option (List Token)) → in_front k o ≡ Some (k' ∷ ks) → (k ≡ k') × (o ≡ Some ks)
front_is k k' ks None e = absurd (none_some e)
front_is k k' ks (Some xs) e = (cons_head (some_some e), ap Some (cons_tail (some_some e)))

-- where the first token is an upper name, the lexer finds it
named_there : (ws : List Word) (text : List ℕ) (n from : ℕ) (y : Name) (rest : List Token) (k2 : Token) →
    tokens_in (stream_from n ws text from) ≡ Some (upper y ∷ k2 ∷ rest) →
    (place : ℕ) × (upper_at (next_token text from) ≡ Some (y, place)) × StandsAt (stream_from n ws text from) [] (Some (upper y)) place
named_there ws text zero from y rest k2 e = absurd (text_end_no (cons_head (some_some e)))
  where
    text_end_no : text_end ≡ upper y → ⊥
    text_end_no e = cc
named_there ws text (suc n) from y rest k2 e = go (next_token text from) e
  where
    go : (x : Next) → tokens_in (ahead ws (length text) x (λ end. stream_from n ws text end)) ≡ Some (upper y ∷ k2 ∷ rest) →
        (place : ℕ) × (upper_at x ≡ Some (y, place)) × StandsAt (ahead ws (length text) x (λ end. stream_from n ws text end)) [] (Some (upper y)) place
    go at_end e = cc
    go (token p place end) e =
        let f = front_is (token_of ws p) (upper y) (k2 ∷ rest) (tokens_in (stream_from n ws text end)) e in
        (place, upper_piece_lem ws p y place f.0, (ap Some (sym f.0), refl))
    go (no_token r place) e = absurd (none_some e)

-- a unit's name is the second token
unit_named : (ws : List Word) (text : List ℕ) (n : ℕ) (y : Name) (k k3 : Token) (rest : List Token) → (text_end ≡ k → ⊥) →
    tokens_in (stream_from (suc n) ws text 0) ≡ Some (k ∷ upper y ∷ k3 ∷ rest) →
    (place : ℕ) × (name_in text ≡ Some (y, place)) × StandsAt (stream_from (suc n) ws text 0) (k ∷ []) (Some (upper y)) place
unit_named ws text n y k k3 rest no_end e = go (next_token text 0) e
  where
    go : (x : Next) → tokens_in (ahead ws (length text) x (λ end. stream_from n ws text end)) ≡ Some (k ∷ upper y ∷ k3 ∷ rest) →
        (place : ℕ) × (behind_first text x ≡ Some (y, place)) × StandsAt (ahead ws (length text) x (λ end. stream_from n ws text end)) (k ∷ []) (Some (upper y)) place
    go at_end e = absurd (no_end (cons_head (some_some e)))
    go (token p place end) e =
        let f = front_is (token_of ws p) k (upper y ∷ k3 ∷ rest) (tokens_in (stream_from n ws text end)) e in
        let s = named_there ws text n end y rest k3 f.1 in
        (s.0, s.1, (sym f.0, s.2))
    go (no_token r place) e = absurd (none_some e)

-- ---- what the answers mean

-- a static fault is one of three
abbrev pub IsStatic : ReadFault → Type 0
IsStatic Scratch = ⊥
IsStatic TooLong = ⊥
IsStatic (Syntax p) = ⊥
IsStatic (TooDeep p) = Unit {0}
IsStatic (Redeclared p) = Unit {0}
IsStatic (Undeclared p) = Unit {0}

ask_static : (d g m : Option ℕ) (e : ReadFault) → ask_firsts d g m ≡ Some e → IsStatic e
ask_static (Some p) g m e h = subst IsStatic (some_some h) tt
ask_static None (Some p) m e h = subst IsStatic (some_some h) tt
ask_static None None (Some p) e h = subst IsStatic (some_some h) tt
ask_static None None None e h = absurd (none_some h)

-- a unit that reads: its notes are those that the reader finds
unit_static : (ws : List Word) (text : List ℕ) (u : UnitTree) (o : Option ReadFault) → tokens_in (stream_of ws text) ≡ Some (print_unit u) →
    static_fault (annotate unit_start (start_attrs Start.«Unit») (stream_of ws text)) ≡ o → UnitStatic ws text u o
unit_static ws text u o e h = (e, ap static_fault (sym (unit_annotated (stream_of ws text) u e)) ∙ h)

signature_static : (ws : List Word) (text : List ℕ) (t : SignatureTree) (o : Option ReadFault) → tokens_in (stream_of ws text) ≡ Some (print_signature_text t) →
    static_fault (annotate signature_start (start_attrs Start.Signature) (stream_of ws text)) ≡ o → SignatureStatic ws text t o
signature_static ws text t o e h = (e, ap static_fault (sym (signature_annotated (stream_of ws text) t e)) ∙ h)

unit_fault : (ws : List Word) (text : List ℕ) (room : ℕ) (u : UnitTree) (e : ReadFault) → IsStatic e → UnitStatic ws text u (Some e) → UnitMeaning ws text room (Err e)
unit_fault ws text room u Scratch i h = absurd i
unit_fault ws text room u TooLong i h = absurd i
unit_fault ws text room u (Syntax p) i h = absurd i
unit_fault ws text room u (TooDeep p) i h = (u, h)
unit_fault ws text room u (Redeclared p) i h = (u, h)
unit_fault ws text room u (Undeclared p) i h = (u, h)

signature_fault : (ws : List Word) (text : List ℕ) (room : ℕ) (t : SignatureTree) (e : ReadFault) → IsStatic e → SignatureStatic ws text t (Some e) → SignatureMeaning ws text room (Err e)
signature_fault ws text room t Scratch i h = absurd i
signature_fault ws text room t TooLong i h = absurd i
signature_fault ws text room t (Syntax p) i h = absurd i
signature_fault ws text room t (TooDeep p) i h = (t, h)
signature_fault ws text room t (Redeclared p) i h = (t, h)
signature_fault ws text room t (Undeclared p) i h = (t, h)

is_static : (ns : List (Note × ℕ)) (e : ReadFault) → static_fault ns ≡ Some e → IsStatic e
is_static ns e h = ask_static (first_where is_too_deep ns) (first_where is_again ns) (first_where is_undeclared ns) e h

heading_means : (ws : List Word) (text : List ℕ) (room n : ℕ) → UnitOutcome (stream_of ws text) (accepted n) →
    static_fault (annotate unit_start (start_attrs Start.«Unit») (stream_of ws text)) ≡ None →
    UnitMeaning ws text room (heading_of (name_in text) n (length text))
heading_means ws text room n h s =
    let u = h.0 in
    let named = unit_named ws text (length text) u.name (keyword Keyword.Module) equals
    (keyword Keyword.Struct ∷ print_items u.items (print_rank u.rank (text_end ∷ [])))
    (λ e. cc) h.1 in
    subst (λ (x : Option (Name × ℕ)). UnitMeaning ws text room (heading_of x n (length text))) (sym named.1)
    (u, unit_static ws text u None h.1 s, refl, sym h.2, named.2)

unit_outcome_means : (ws : List Word) (text : List ℕ) (room : ℕ) (o : Outcome) (st : Option ReadFault) → UnitOutcome (stream_of ws text) o →
    static_fault (annotate unit_start (start_attrs Start.«Unit») (stream_of ws text)) ≡ st → UnitMeaning ws text room (unit_read text o st)
unit_outcome_means ws text room (accepted n) None h s = heading_means ws text room n h s
unit_outcome_means ws text room (accepted n) (Some e) h s =
    unit_fault ws text room h.0 e (is_static (annotate unit_start (start_attrs Start.«Unit») (stream_of ws text)) e s) (unit_static ws text h.0 (Some e) h.1 s)
unit_outcome_means ws text room (refused place) st h s = h

signature_outcome_means : (ws : List Word) (text : List ℕ) (room : ℕ) (o : Outcome) (st : Option ReadFault) → SignatureOutcome (stream_of ws text) o →
    static_fault (annotate signature_start (start_attrs Start.Signature) (stream_of ws text)) ≡ st → SignatureMeaning ws text room (signature_read o st)
signature_outcome_means ws text room (accepted n) None h s = (h.0, signature_static ws text h.0 None h.1 s)
signature_outcome_means ws text room (accepted n) (Some e) h s =
    signature_fault ws text room h.0 e (is_static (annotate signature_start (start_attrs Start.Signature) (stream_of ws text)) e s) (signature_static ws text h.0 (Some e) h.1 s)
signature_outcome_means ws text room (refused place) st h s = h

-- what the text comes to, once the first two questions are answered
abbrev pub unit_body : List Word → List ℕ → Result Heading ReadFault
unit_body ws text =
    unit_read text (reads unit_start (stream_of ws text) default_rank) (static_fault (annotate unit_start (start_attrs Start.«Unit») (stream_of ws text)))

abbrev pub signature_body : List Word → List ℕ → Result (Unit {0}) ReadFault
signature_body ws text =
    signature_read (reads signature_start (stream_of ws text) default_rank) (static_fault (annotate signature_start (start_attrs Start.Signature) (stream_of ws text)))

pub unit_means : (ws : List Word) (text : List ℕ) (room : ℕ) → UnitMeaning ws text room (unit_answer ws text room)
unit_means ws text room = by_room (eqb room scratch_words) refl
  where
    by_length : (b : Bool) → leb (length text) text_limit ≡ b → UnitMeaning ws text room (cond b (unit_body ws text) (Err TooLong))
    by_length true e =
        unit_outcome_means ws text room (reads unit_start (stream_of ws text) default_rank)
        (static_fault (annotate unit_start (start_attrs Start.«Unit») (stream_of ws text))) (units_are_read (stream_of ws text)) refl
    by_length false e = leb-false (length text) text_limit e

    by_room : (b : Bool) → eqb room scratch_words ≡ b →
        UnitMeaning ws text room (cond b (cond (leb (length text) text_limit) (unit_body ws text) (Err TooLong)) (Err Scratch))
    by_room true e = by_length (leb (length text) text_limit) refl
    by_room false e = eqb-false room scratch_words e

pub signature_means : (ws : List Word) (text : List ℕ) (room : ℕ) → SignatureMeaning ws text room (signature_answer ws text room)
signature_means ws text room = by_room (eqb room scratch_words) refl
  where
    by_length : (b : Bool) → leb (length text) text_limit ≡ b → SignatureMeaning ws text room (cond b (signature_body ws text) (Err TooLong))
    by_length true e =
        signature_outcome_means ws text room (reads signature_start (stream_of ws text) default_rank)
        (static_fault (annotate signature_start (start_attrs Start.Signature) (stream_of ws text))) (signatures_are_read (stream_of ws text)) refl
    by_length false e = leb-false (length text) text_limit e

    by_room : (b : Bool) → eqb room scratch_words ≡ b →
        SignatureMeaning ws text room (cond b (cond (leb (length text) text_limit) (signature_body ws text) (Err TooLong)) (Err Scratch))
    by_room true e = by_length (leb (length text) text_limit) refl
    by_room false e = eqb-false room scratch_words e

-- ---- the code's answers

pub asked_in : {X : Type 0} (room len : ℕ) (rest : Result X ReadFault) → room ≡ scratch_words → len ≤ text_limit → asked room len rest ≡ rest
asked_in room len rest e h =
    ap (λ (b : Bool). cond b (cond (leb len text_limit) rest (Err TooLong)) (Err Scratch)) (eq-eqb room scratch_words e)
    ∙ ap (λ (b : Bool). cond b rest (Err TooLong)) (le-leb len text_limit h)

pub outcome_err : (o : Outcome) (e : ReadFault) → Err e ≡ outcome o → (p : ℕ) × (o ≡ refused p) × (e ≡ Syntax p)
outcome_err (accepted n) e h = cc
outcome_err (refused p) e h = (p, refl, err_same h)
  where
    err_same : {e : ReadFault} → ◌≡◌ {A = Result ℕ ReadFault} (Err e) (Err (Syntax p)) → e ≡ Syntax p
    err_same h = cc

pub outcome_ok : (o : Outcome) (n : ℕ) → Ok n ≡ outcome o → o ≡ accepted n
outcome_ok (accepted m) n h = ap accepted (sym (ok_same h))
  where
    ok_same : {n : ℕ} → ◌≡◌ {A = Result ℕ ReadFault} (Ok n) (Ok m) → n ≡ m
    ok_same h = cc
outcome_ok (refused p) n h = cc

-- a text that was read is accepted
pub accepts : (s : Start) (ws : List Word) (text : List ℕ) (n : ℕ) → Ok n ≡ outcome (reads (start_of s) (stream_of ws text) default_rank) →
    is_accepted (reads (start_of s) (stream_of ws text) default_rank) ≡ true
accepts s ws text n h = ap is_accepted (outcome_ok (reads (start_of s) (stream_of ws text) default_rank) n h)

pub rank_fits : (s : Stream) (n : ℕ) → Ok n ≡ outcome (reads unit_start s default_rank) → n ≤ 255
rank_fits s n r = rank_small s n (outcome_ok (reads unit_start s default_rank) n r)

-- an answer means what the answer that it equals means
pub unit_so : (ws : List Word) (text : List ℕ) (room : ℕ) (r : Result Heading ReadFault) → r ≡ unit_answer ws text room → UnitMeaning ws text room r
unit_so ws text room r e = subst (UnitMeaning ws text room) (sym e) (unit_means ws text room)

pub signature_so : (ws : List Word) (text : List ℕ) (room : ℕ) (r : Result (Unit {0}) ReadFault) → r ≡ signature_answer ws text room → SignatureMeaning ws text room r
signature_so ws text room r e = subst (SignatureMeaning ws text room) (sym e) (signature_means ws text room)
