-- What a text that reads as a unit has at its head: a name that stands in it, and a rank below 256.
use Rattle.std.proofs.Common.{◌≡◌, ℕ, ◌+◌, ◌-◌, ◌^◌, ◌<◌, ◌≤◌, Bool, true, false, cond, not, ◌&&◌, eqb, ltb, leb, List, [], ◌∷◌, ◌++◌, length, take, drop, replicate, Some, None, Ok, Err, Option, Result, sym, refl, ap, ◌∙◌, subst, arith, length-append}
use lib.Seq.{take-append_seam}
use Rattle.std.specs.Int.Digits.{AllBelowBase}
use Rattle.std.proofs.lemmas.Int.Digits.{number_lt}
use Rattle.std.proofs.lemmas.List.{drop-drop, length-replicate}
use Rattle.std.proofs.lemmas.Bool.{and_from, lt-ltb, le-leb, eqb-true, leb-true}
use Rattle.std.proofs.lemmas.Bool.Decides.{nat_tests}
use Rattle.tokens.specs.Bytes.{is_upper, is_name_byte}
use Rattle.tokens.specs.Lexer.{Next, at_end, token, no_token, next_token, token_front}
use Rattle.tokens.specs.Pieces.{Piece, blank, mark, keyword, lower, upper, integer, All, UpperName}
use Rattle.tokens.proofs.Walk.{advance}
use Rattle.tokens.proofs.Sound.{token_stands}
use Rattle.types.specs.Types.{Name}
use Rattle.cores.specs.Meaning.{Word}
use Rattle.reader.specs.declared.fault.ReadFault.{ReadFault}
use Rattle.reader.specs.declared.parse.Start.{Start}
use Rattle.reader.specs.Annotate.{annotate, static_fault}
use Rattle.reader.specs.Answers.{Heading, upper_piece, upper_at, behind_first, name_in, heading_of, unit_read, asked, unit_answer}
use Rattle.reader.specs.Firsts.{start_attrs}
use Rattle.reader.specs.Parsing.{outcome}
use Rattle.reader.specs.Reading.{Outcome, accepted, refused, reads, unit_start, default_rank}
use Rattle.reader.specs.Streams.{stream_of}
use Rattle.reader.proofs.Means.{rank_fits}
use Rattle.reader.proofs.Places.{stand_of}
use Rattle.store.specs.Names.{no_zero, is_name, number_of}
use Rattle.store.specs.Calls.{has_name}
use Rattle.store.proofs.Done.{under_pad}

-- what is known of a heading that was read with a scratch of so many words
pub record Headed (text : List ℕ) (room : ℕ) (h : Heading) : Type 0 where
  pub scratch : room ≡ 65536
  pub short : length text ≤ 4000
  pub spelled : take (length h.name) (drop h.place text) ≡ h.name
  pub inside : h.place + length h.name ≤ length text
  pub named : UpperName h.name
  pub ranked : h.rank < 256

-- an upper name of a text stands there
pub record Standing (text : List ℕ) (x : Name) (place : ℕ) : Type 0 where
  pub spelled : take (length x) (drop place text) ≡ x
  pub inside : place + length x ≤ length text
  pub named : UpperName x

pub upper_stands : (text : List ℕ) (from place end : ℕ) (x : Name) → next_token text from ≡ token (upper x) place end → Standing text x place
upper_stands text from place end x e =
    let s = stand_of from (drop from text) (upper x) place end e in
    let adv = advance text from place end (upper x) e in
    let at : drop s.ahead (drop from text) ≡ drop place text =
    drop-drop s.ahead from text ∙ ap (λ (n : ℕ). drop n text) (sym s.there) in
    let stands = token_stands (drop place text) (upper x) (ap token_front (sym at) ∙ s.front) in
    record {
      spelled = ap (take (length x)) (sym stands.whole) ∙ take-append_seam x (drop (length x) (drop place text));
      inside = omega (arith, s.behind, adv.inside);
      named = stands.proper;
    }

piece_upper : (p : Piece) (place end : ℕ) (x : Name) (at : ℕ) → upper_piece p place ≡ Some (x, at) → token p place end ≡ token (upper x) at end
piece_upper (blank b) place end x at e = cc
piece_upper (mark m) place end x at e = cc
piece_upper (keyword k) place end x at e = cc
piece_upper (lower y) place end x at e = cc
piece_upper (upper y) place end x at e =
    let same : ◌≡◌ {A = Name × ℕ} (y, place) (x, at) = cc in ap (λ (z : Name × ℕ). token (upper z.0) z.1 end) same
piece_upper (integer ds) place end x at e = cc

-- the upper name that is told behind a place stands in the text
pub told_stands : (text : List ℕ) (from : ℕ) (x : Name) (place : ℕ) → upper_at (next_token text from) ≡ Some (x, place) → Standing text x place
told_stands text from x place e = go (next_token text from) refl e
  where
    go : (n : Next) → next_token text from ≡ n → upper_at n ≡ Some (x, place) → Standing text x place
    go at_end is h = cc
    go (token p at end) is h = upper_stands text from place end x (is ∙ piece_upper p at end x place h)
    go (no_token r at) is h = cc

name_stands : (text : List ℕ) (x : Name) (place : ℕ) → name_in text ≡ Some (x, place) → Standing text x place
name_stands text x place e = go (next_token text 0) e
  where
    go : (n : Next) → behind_first text n ≡ Some (x, place) → Standing text x place
    go at_end h = cc
    go (token p at end) h = told_stands text end x place h
    go (no_token r at) h = cc

heading_is : (o : Option (Name × ℕ)) (rank len : ℕ) (h : Heading) → heading_of o rank len ≡ Ok h → (o ≡ Some (h.name, h.place)) × (rank ≡ h.rank)
heading_is None rank len h e = cc
heading_is (Some x) rank len h e =
    let same : record { name = x.0; place = x.1; rank = rank } ≡ h = cc in
    (ap (λ (k : Heading). Some (k.name, k.place)) same, ap (λ (k : Heading). k.rank) same)

read_heading : (text : List ℕ) (o : Outcome) (st : Option ReadFault) (h : Heading) → unit_read text o st ≡ Ok h → (name_in text ≡ Some (h.name, h.place)) × (o ≡ accepted h.rank)
read_heading text (accepted rank) None h e =
    let p = heading_is (name_in text) rank (length text) h e in (p.0, ap (λ (r : ℕ). accepted r) p.1)
read_heading text (accepted rank) (Some x) h e = cc
read_heading text (refused place) st h e = cc

asked_yes : {X : Type 0} (room len : ℕ) (rest : Result X ReadFault) (x : X) → asked room len rest ≡ Ok x → (room ≡ 65536) × (len ≤ 4000) × (rest ≡ Ok x)
asked_yes {X} room len rest x e = go (eqb room 65536) (leb len 4000) refl refl e
  where
    go : (a b : Bool) → eqb room 65536 ≡ a → leb len 4000 ≡ b → cond a (cond b rest (Err ReadFault.TooLong)) (Err ReadFault.Scratch) ≡ Ok x → (room ≡ 65536) × (len ≤ 4000) × (rest ≡ Ok x)
    go true true p q h = (eqb-true room 65536 p, leb-true len 4000 q, h)
    go true false p q h = cc
    go false b p q h = cc

pub heading_read : (ws : List Word) (text : List ℕ) (room : ℕ) (h : Heading) → unit_answer ws text room ≡ Ok h → Headed text room h
heading_read ws text room h e =
    let o = reads unit_start (stream_of ws text) default_rank in
    let a = asked_yes room (length text) (unit_read text o (static_fault (annotate unit_start (start_attrs Start.«Unit») (stream_of ws text)))) h e in
    let p = read_heading text o (static_fault (annotate unit_start (start_attrs Start.«Unit») (stream_of ws text))) h a.2 in
    let s = name_stands text h.name h.place p.0 in
    let r = rank_fits (stream_of ws text) h.rank (sym (ap outcome p.1)) in
    record { scratch = a.0; short = a.1; spelled = s.spelled; inside = s.inside; named = s.named; ranked = omega (arith, r) }

-- ---- an upper name is a name with a number

no_zeros : (bs : List ℕ) → All is_name_byte bs → no_zero bs ≡ true
no_zeros [] h = refl
no_zeros (b ∷ bs) h =
    let first : not (eqb b 0) ≡ true = byte_first b h.0 in and_from (not (eqb b 0)) (no_zero bs) first (no_zeros bs h.1)
  where
    byte_first : (c : ℕ) → is_name_byte c ≡ true → not (eqb c 0) ≡ true
    byte_first c k = grind (arith, nat_tests)

small_bytes : (bs : List ℕ) → All is_name_byte bs → AllBelowBase 256 bs
small_bytes [] h = tt
small_bytes (b ∷ bs) h = (byte_small b h.0, small_bytes bs h.1)
  where
    byte_small : (c : ℕ) → is_name_byte c ≡ true → c < 256
    byte_small c k = grind (arith, nat_tests)

upper_byte : (b : ℕ) → is_upper b ≡ true → is_name_byte b ≡ true
upper_byte b h = grind (arith, nat_tests)

upper_all : (x : Name) → UpperName x → All is_name_byte x
upper_all [] h = absurd h
upper_all (b ∷ bs) h = (upper_byte b h.0, h.1)

upper_long : (x : Name) → UpperName x → (0 < length x) × (length x ≤ 16)
upper_long [] h = absurd h
upper_long (b ∷ bs) h = (omega arith, h.2)

pub upper_is_name : (x : Name) → UpperName x → is_name x ≡ true
upper_is_name x h =
    let l = upper_long x h in
    and_from (ltb 0 (length x)) (leb (length x) 16 && no_zero x) (lt-ltb 0 (length x) l.0)
    (and_from (leb (length x) 16) (no_zero x) (le-leb (length x) 16 l.1) (no_zeros x (upper_all x h)))

pub upper_number : (x : Name) → UpperName x → number_of x < 256 ^ 16
upper_number x h =
    let l = upper_long x h in
    let pad = x ++ replicate (16 - length x) 0 in
    let whole : length pad ≡ 16 = length-append x (replicate (16 - length x) 0) ∙ omega (arith, length-replicate {A = ℕ} (16 - length x) 0, l.1) in
    subst (λ n. number_of x < 256 ^ n) whole (number_lt 256 pad (under_pad x (16 - length x) (small_bytes x (upper_all x h))))

pub heading_has_name : (text : List ℕ) (room : ℕ) (h : Heading) → Headed text room h → has_name text h.place (length h.name) ≡ true
heading_has_name text room h k =
    and_from (leb (h.place + length h.name) (length text)) (is_name (take (length h.name) (drop h.place text)))
    (le-leb (h.place + length h.name) (length text) k.inside)
    (ap is_name k.spelled ∙ upper_is_name h.name k.named)
