-- What going through a text that reads tells.
use Rattle.std.specs.Prelude.{◌≡◌, ℕ, List, Ok, Err, Result}
use Rattle.std.specs.Borrow.{Bor}
use Rattle.reader.specs.declared.fault.ReadFault.{ReadFault}
use Rattle.reader.specs.declared.notes.Firsts.{Firsts}
use Rattle.reader.specs.declared.read.Survey.{Survey}
use Rattle.reader.specs.Notes.{Note}
use Rattle.reader.specs.Annotate.{first_where, is_too_deep, is_again, is_undeclared, names_unit, unit_places}

-- the first places are those of the notes
pub record Surveyed (asked : ℕ) (ns : List (Note × ℕ)) (f : Firsts) : Type 0 where
  pub deep : f.deep ≡ first_where is_too_deep ns
  pub again : f.again ≡ first_where is_again ns
  pub missing : f.missing ≡ first_where is_undeclared ns
  pub mention : f.mention ≡ first_where (names_unit asked) ns

-- a text that reads is never refused, and the places are those of the heads that name units
abbrev pub SurveyOf : ℕ → List (Note × ℕ) → Result (Firsts × Bor (List ℕ)) ReadFault → Type 0
SurveyOf asked ns (Ok x) = Surveyed asked ns x.0 × (x.1.now ≡ unit_places ns)
SurveyOf asked ns (Err e) = ⊥

-- the rank alone of what is learned of a text
abbrev pub ranked : Result Survey ReadFault → Result ℕ ReadFault
ranked (Ok s) = Ok s.rank
ranked (Err e) = Err e
