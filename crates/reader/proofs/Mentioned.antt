-- The units that a text names, as the reader finds them.
use Rattle.std.proofs.Common.{◌≡◌, ℕ, suc, Bool, true, false, cond, eqb, leb, List, length, Err, Option, Result, sym, refl, ap, ◌∙◌, subst, leb-false}
use borrow.Author.Tests.{eqb-false}
use Rattle.types.specs.Types.{Name}
use Rattle.cores.specs.Meaning.{Word}
use Rattle.reader.specs.declared.fault.ReadFault.{ReadFault}
use Rattle.reader.specs.declared.fault.ReadFault.TheVariants.{Scratch, TooLong}
use Rattle.reader.specs.declared.parse.Start.{Start}
use Rattle.reader.specs.Streams.{stream_of}
use Rattle.reader.specs.Reading.{Outcome, accepted, refused, reads, unit_start, default_rank, UnitOutcome}
use Rattle.reader.specs.Notes.{Note, notes_unit}
use Rattle.reader.specs.Annotate.{annotate, names_unit, first_where}
use Rattle.reader.specs.Answers.{scratch_words, text_limit}
use Rattle.reader.specs.Firsts.{start_attrs}
use Rattle.reader.specs.Mentions.{first_from, mention_read, mention_answer, MentionMeaning}
use Rattle.reader.proofs.Laws.{units_are_read}
use Rattle.reader.proofs.Noted.{unit_annotated}
use Rattle.reader.proofs.Upper.{mentions_of, mentions_same, name_of_first}

abbrev mention_body : List Word → List ℕ → ℕ → Result (Option (Name × ℕ)) ReadFault
mention_body ws text from =
    mention_read text (reads unit_start (stream_of ws text) default_rank) (first_where (names_unit from) (annotate unit_start (start_attrs Start.«Unit») (stream_of ws text)))

outcome_means : (ws : List Word) (text : List ℕ) (room from : ℕ) (o : Outcome) → UnitOutcome (stream_of ws text) o →
    MentionMeaning ws text room from (mention_read text o (first_where (names_unit from) (annotate unit_start (start_attrs Start.«Unit») (stream_of ws text))))
outcome_means ws text room from (accepted n) h = (
  h.0,
  h.1,
  name_of_first (suc (length text)) ws text 0 from unit_start (start_attrs Start.«Unit»)
      ∙ ap (λ (ns : List (Note × ℕ)). first_from from (mentions_of ns (stream_of ws text))) (unit_annotated (stream_of ws text) h.0 h.1)
      ∙ ap (first_from from) (mentions_same (notes_unit h.0) (stream_of ws text)),
)
outcome_means ws text room from (refused place) h = h

mention_means : (ws : List Word) (text : List ℕ) (room from : ℕ) → MentionMeaning ws text room from (mention_answer ws text room from)
mention_means ws text room from = by_room (eqb room scratch_words) refl
  where
    by_length : (b : Bool) → leb (length text) text_limit ≡ b → MentionMeaning ws text room from (cond b (mention_body ws text from) (Err TooLong))
    by_length true e = outcome_means ws text room from (reads unit_start (stream_of ws text) default_rank) (units_are_read (stream_of ws text))
    by_length false e = leb-false (length text) text_limit e

    by_room : (b : Bool) → eqb room scratch_words ≡ b →
        MentionMeaning ws text room from (cond b (cond (leb (length text) text_limit) (mention_body ws text from) (Err TooLong)) (Err Scratch))
    by_room true e = by_length (leb (length text) text_limit) refl
    by_room false e = eqb-false room scratch_words e

pub mention_so : (ws : List Word) (text : List ℕ) (room from : ℕ) (r : Result (Option (Name × ℕ)) ReadFault) → r ≡ mention_answer ws text room from →
    MentionMeaning ws text room from r
mention_so ws text room from r e = subst (MentionMeaning ws text room from) (sym e) (mention_means ws text room from)
