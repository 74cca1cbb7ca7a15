-- What put and drop mean for the units of a project.
use Rattle.std.specs.Prelude.{◌≡◌, ℕ, true, false, List, is_ok, Some, Ok, Result}
use Rattle.cores.specs.Meaning.{Word}
use Rattle.reader.specs.Answers.{unit_answer, UnitMeaning}
use Rattle.store.specs.Names.{name_number}
use Rattle.store.specs.Units.{StoredUnit, units, Replaced, Removed, Kept}
use Rattle.project.specs.declared.fault.Fault.{Fault}
use Rattle.project.specs.Calls.{unit_of, unless_refused, put_outcome, drop_outcome}

-- A refused put leaves every byte of the store. An accepted one leaves exactly the unit of the text and the units of other names.
-- What reading answers is what the grammar and the notes of its trees say of the text.
pub record PutMeans {K : Type 0} (ws : List Word) (store : List ℕ) (book room : ℕ) (text : List ℕ) (r : Result (Unit {0}) (Fault K)) (left : List ℕ) : Type 0 where
  pub reading : UnitMeaning ws text room (unit_answer ws text room)
  pub untouched : is_ok r ≡ false → left ≡ store
  pub entered : is_ok r ≡ true → (u : StoredUnit) × (unit_of {K = K} ws text room ≡ Ok u) × Replaced u (units store) (units left)
  pub holds : units left ≡ unless_refused (units store) (put_outcome {K = K} ws store book room text)
  pub kept : Kept (units left)

-- a refused drop leaves every byte of the store, and an accepted one exactly the units of other names
pub record DropMeans {K : Type 0} (store : List ℕ) (book : ℕ) (name : List ℕ) (r : Result (Unit {0}) (Fault K)) (left : List ℕ) : Type 0 where
  pub untouched : is_ok r ≡ false → left ≡ store
  pub taken : is_ok r ≡ true → (n : ℕ) × (name_number name ≡ Some n) × Removed n (units store) (units left)
  pub holds : units left ≡ unless_refused (units store) (drop_outcome {K = K} store book name)
  pub kept : Kept (units left)
