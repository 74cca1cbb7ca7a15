-- The heads that name units, as the reader finds them.
use Rattle.std.proofs.Common.{◌≡◌, ℕ, suc, Bool, true, false, cond, eqb, leb, List, length, Some, Ok, Err, Result, sym, refl, ap, ◌∙◌, subst, leb-false}
use borrow.Author.Tests.{eqb-false}
use Rattle.cores.specs.Meaning.{Word}
use Rattle.reader.specs.declared.fault.ReadFault.{ReadFault}
use Rattle.reader.specs.declared.fault.ReadFault.TheVariants.{Scratch, TooLong}
use Rattle.reader.specs.declared.parse.Start.{Start}
use Rattle.reader.specs.Tokens.{Token}
use Rattle.reader.specs.Print.{print_unit, print_signature_text}
use Rattle.reader.specs.Streams.{stream_of, tokens_in}
use Rattle.reader.specs.Reading.{Outcome, accepted, refused, reads, default_rank, FirstRefused, UnitOutcome, SignatureOutcome}
use Rattle.reader.specs.Parsing.{start_of}
use Rattle.reader.specs.Notes.{Note, notes_unit, notes_signature_text}
use Rattle.reader.specs.Annotate.{unit_places, with_places}
use Rattle.reader.specs.Answers.{scratch_words, text_limit}
use Rattle.reader.specs.Firsts.{start_attrs, text_notes}
use Rattle.reader.specs.Mentions.{mentions_in, HeadsAt, heads_read, heads_answer, HeadsMeaning, HeadsMeaningOf, Inside}
use Rattle.reader.proofs.Laws.{units_are_read, signatures_are_read}
use Rattle.reader.proofs.Noted.{unit_annotated, signature_annotated}
use Rattle.reader.proofs.Upper.{mentions_of, mentions_same, mention_places, some_names, names_there, names_inside}

-- a text whose notes are those of a tree: its heads
heads_at : (start : Start) (ws : List Word) (text : List ℕ) (ns : List Note) → text_notes start ws text ≡ with_places ns (stream_of ws text) →
    HeadsAt text (unit_places (text_notes start ws text)) (mentions_in ns (stream_of ws text))
heads_at start ws text ns e =
    record {
      there = ap unit_places e ∙ mention_places ns (stream_of ws text);
      names = names_there (suc (length text)) ws text 0 (start_of start) (start_attrs start)
          ∙ ap (λ (x : List (Note × ℕ)). some_names (mentions_of x (stream_of ws text))) e
          ∙ ap some_names (mentions_same ns (stream_of ws text));
    }

-- what reading comes to, as a tree or a first token with which none goes on
abbrev Told : {T : Type 0} → (T → List Token) → (T → List Note) → Start → List Word → List ℕ → Outcome → Type 0
Told {T} print notes start ws text (accepted n) =
    (t : T) × (tokens_in (stream_of ws text) ≡ Some (print t)) × (text_notes start ws text ≡ with_places (notes t) (stream_of ws text))
Told print notes start ws text (refused place) = FirstRefused print (stream_of ws text) place

unit_told : (ws : List Word) (text : List ℕ) (o : Outcome) → UnitOutcome (stream_of ws text) o → Told print_unit notes_unit Start.«Unit» ws text o
unit_told ws text (accepted n) h = (h.0, h.1, unit_annotated (stream_of ws text) h.0 h.1)
unit_told ws text (refused place) h = h

signature_told : (ws : List Word) (text : List ℕ) (o : Outcome) → SignatureOutcome (stream_of ws text) o →
    Told print_signature_text notes_signature_text Start.Signature ws text o
signature_told ws text (accepted n) h = (h.0, h.1, signature_annotated (stream_of ws text) h.0 h.1)
signature_told ws text (refused place) h = h

abbrev heads_body : Start → List Word → List ℕ → Result (List ℕ) ReadFault
heads_body start ws text = heads_read (reads (start_of start) (stream_of ws text) default_rank) (unit_places (text_notes start ws text))

module _ {T : Type 0} (print : T → List Token) (notes : T → List Note) (start : Start) (ws : List Word) (text : List ℕ) (room : ℕ) where
  outcome_means : (o : Outcome) → Told print notes start ws text o → HeadsMeaning print notes ws text room (heads_read o (unit_places (text_notes start ws text)))
  outcome_means (accepted n) h = (h.0, h.1, heads_at start ws text (notes h.0) h.2)
  outcome_means (refused place) h = h

  heads_mean : Told print notes start ws text (reads (start_of start)
      (stream_of ws text) default_rank) → HeadsMeaning print notes ws text room (heads_answer start ws text room)
  heads_mean h = by_room (eqb room scratch_words) refl
    where
      by_length : (b : Bool) → leb (length text) text_limit ≡ b → HeadsMeaning print notes ws text room (cond b (heads_body start ws text) (Err TooLong))
      by_length true e = outcome_means (reads (start_of start) (stream_of ws text) default_rank) h
      by_length false e = leb-false (length text) text_limit e

      by_room : (b : Bool) → eqb room scratch_words ≡ b →
          HeadsMeaning print notes ws text room (cond b (cond (leb (length text) text_limit) (heads_body start ws text) (Err TooLong)) (Err Scratch))
      by_room true e = by_length (leb (length text) text_limit) refl
      by_room false e = eqb-false room scratch_words e

  -- the names that stand at the places are inside the text
  meaning_inside : (r : Result (List ℕ) ReadFault) → HeadsMeaning print notes ws text room r → Inside (length text) r
  meaning_inside (Ok places) h = names_inside text places (mentions_in (notes h.0) (stream_of ws text)) h.2.names
  meaning_inside (Err e) h = tt

-- what an answer is, with what it means
pub record HeadsTold {T : Type 0} (print : T → List Token) (notes : T → List Note) (start : Start) (ws : List Word) (text : List ℕ) (room : ℕ)
    (r : Result (List ℕ) ReadFault) : Type 0 where
  pub answer : r ≡ heads_answer start ws text room
  pub meaning : HeadsMeaning print notes ws text room r
  pub inside : Inside (length text) r

heads_told : {T : Type 0} (print : T → List Token) (notes : T → List Note) (start : Start) (ws : List Word) (text : List ℕ) (room : ℕ)
    (r : Result (List ℕ) ReadFault) → Told print notes start ws text (reads (start_of start) (stream_of ws text) default_rank) →
    r ≡ heads_answer start ws text room → HeadsTold print notes start ws text room r
heads_told print notes start ws text room r h e =
    let m = subst (HeadsMeaning print notes ws text room) (sym e) (heads_mean print notes start ws text room h) in
    record { answer = e; meaning = m; inside = meaning_inside print notes start ws text room r m }

pub unit_heads_told : (ws : List Word) (text : List ℕ) (room : ℕ) (r : Result (List ℕ) ReadFault) → r ≡ heads_answer Start.«Unit» ws text room →
    HeadsTold print_unit notes_unit Start.«Unit» ws text room r
unit_heads_told ws text room r e =
    heads_told print_unit notes_unit Start.«Unit» ws text room r (unit_told ws text (reads (start_of Start.«Unit») (stream_of ws text) default_rank)
    (units_are_read (stream_of ws text))) e

pub signature_heads_told : (ws : List Word) (text : List ℕ) (room : ℕ) (r : Result (List ℕ) ReadFault) → r ≡ heads_answer Start.Signature ws text room →
    HeadsTold print_signature_text notes_signature_text Start.Signature ws text room r
signature_heads_told ws text room r e =
    heads_told print_signature_text notes_signature_text Start.Signature ws text room r
    (signature_told ws text (reads (start_of Start.Signature) (stream_of ws text) default_rank) (signatures_are_read (stream_of ws text))) e

-- the same by what the text is read as
pub heads_so : (start : Start) (ws : List Word) (text : List ℕ) (room : ℕ) (r : Result (List ℕ) ReadFault) → r ≡ heads_answer start ws text room →
    HeadsMeaningOf start ws text room r
heads_so Start.«Unit» ws text room r e = (unit_heads_told ws text room r e).meaning
heads_so Start.Signature ws text room r e = (signature_heads_told ws text room r e).meaning

pub heads_inside : (start : Start) (ws : List Word) (text : List ℕ) (room : ℕ) (r : Result (List ℕ) ReadFault) → r ≡ heads_answer start ws text room →
    Inside (length text) r
heads_inside Start.«Unit» ws text room r e = (unit_heads_told ws text room r e).inside
heads_inside Start.Signature ws text room r e = (signature_heads_told ws text room r e).inside
