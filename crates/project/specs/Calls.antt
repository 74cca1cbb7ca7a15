-- Open, put and drop: what each answers, and what store and book then hold. The units of a project are those of its store.
use Rattle.std.specs.Prelude.{ℕ, Bool, cond, ◌&&◌, ◌||◌, List, [], length, replicate, Some, None, Ok, Err, Option, Result, ◌==◌, nat_lt}
use Rattle.cores.specs.Meaning.{Word}
use Rattle.reader.specs.declared.fault.ReadFault.{ReadFault}
use Rattle.reader.specs.Answers.{Heading, unit_answer}
use Rattle.store.specs.Names.{number_of, name_number}
use Rattle.store.specs.Layout.{written}
use Rattle.store.specs.Units.{StoredUnit, units, seat_in, put_in, taken_out}
use Rattle.store.specs.Calls.{store_after_put, store_after_remove}
use Rattle.project.specs.declared.fault.Question.TheVariants.{Lengths, Full, NotStored}
use Rattle.project.specs.declared.fault.Fault.{Fault}
use Rattle.project.specs.Faults.{about, without, reading_fault}

-- question 1: a store of 65,536 bytes and a book of 16,384 words
abbrev pub right_lengths : ℕ → ℕ → Bool
right_lengths store book = store == 65536 && book == 16384

-- what the question about the lengths is answered; a refusal tells the unit that the call is about
abbrev pub lengths_answer : {K : Type 0} → ℕ → ℕ → Option ℕ → Result (Unit {0}) (Fault K)
lengths_answer store book unit = cond (right_lengths store book) (Ok tt) (Err (about unit Lengths))

-- the unit that a text is, by what was read at its head
abbrev pub unit_for : List ℕ → Heading → StoredUnit
unit_for text h =
    record { name = number_of h.name; size = length h.name; place = h.place; rank = h.rank; text = text }

abbrev pub as_unit : {K : Type 0} → List ℕ → Result Heading ReadFault → Result StoredUnit (Fault K)
as_unit text (Ok h) = Ok (unit_for text h)
as_unit text (Err e) = Err (reading_fault e)

-- questions 2 to 6, of a text that is read with a scratch of so many words: the unit that it is, or the first no
abbrev pub unit_of : {K : Type 0} → List Word → List ℕ → ℕ → Result StoredUnit (Fault K)
unit_of ws text room = as_unit text (unit_answer ws text room)

-- a unit of this name is among the units
abbrev pub stores : ℕ → List StoredUnit → Bool
stores n us = nat_lt (seat_in n us) (length us)

-- question 7: there are fewer than 16 units, or one of this name
abbrev pub has_room : ℕ → List StoredUnit → Bool
has_room n us = nat_lt (length us) 16 || stores n us

-- the units once this one is put among them, in place of the one of its name if there is one; or the first no
abbrev pub put_among : {K : Type 0} → Result StoredUnit (Fault K) → List StoredUnit → Result (List StoredUnit) (Fault K)
put_among (Ok u) us = cond (has_room u.name us) (Ok (put_in u us)) (Err (without Full))
put_among (Err e) us = Err e

-- question 8, and the units once the one of this name is dropped from them; bytes that are no name have no number
abbrev pub drop_among : {K : Type 0} → Option ℕ → List StoredUnit → Result (List StoredUnit) (Fault K)
drop_among None us = Err (without NotStored)
drop_among (Some n) us = cond (stores n us) (Ok (taken_out n us)) (Err (about (Some n) NotStored))

-- accepted, whatever is handed on
abbrev pub accepted : {X E : Type 0} → Result X E → Result (Unit {0}) E
accepted (Ok x) = Ok tt
accepted (Err e) = Err e

-- the new units, or the old ones where the call was refused
abbrev pub unless_refused : {E : Type 0} → List StoredUnit → Result (List StoredUnit) E → List StoredUnit
unless_refused old (Ok new) = new
unless_refused old (Err e) = old

-- put: the lengths are asked first, then the text, then the room; the units once it is done, or the first no
abbrev pub put_outcome : {K : Type 0} → List Word → List ℕ → ℕ → ℕ → List ℕ → Result (List StoredUnit) (Fault K)
put_outcome ws store book room text =
    cond (right_lengths (length store) book) (put_among (unit_of ws text room) (units store)) (Err (without Lengths))

-- the bytes of the store once a unit is put: its text and the records; a refusal writes none
abbrev pub store_with : Result Heading ReadFault → List ℕ → List ℕ → List ℕ
store_with (Ok h) text store = store_after_put store text h.place (length h.name) h.rank
store_with (Err e) text store = store

abbrev pub put_store : List Word → List ℕ → ℕ → ℕ → List ℕ → List ℕ
put_store ws store book room text = cond (right_lengths (length store) book) (store_with (unit_answer ws text room) text store) store

-- drop: the lengths, then whether the unit is stored; every refusal tells the unit that was given
abbrev pub drop_outcome : {K : Type 0} → List ℕ → ℕ → List ℕ → Result (List StoredUnit) (Fault K)
drop_outcome store book name =
    cond (right_lengths (length store) book) (drop_among (name_number name) (units store)) (Err (about (name_number name) Lengths))

abbrev pub store_without : Option ℕ → List ℕ → List ℕ
store_without None store = store
store_without (Some n) store = store_after_remove store n

abbrev pub drop_store : List ℕ → ℕ → List ℕ → List ℕ
drop_store store book name = cond (right_lengths (length store) book) (store_without (name_number name) store) store

-- open: the lengths; no units, and a book of zeros
abbrev pub open_answer : {X K : Type 0} → X → List ℕ → List ℕ → Result X (Fault K)
open_answer new store book = cond (right_lengths (length store) (length book)) (Ok new) (Err (without Lengths))

abbrev pub open_store : List ℕ → List ℕ → List ℕ
open_store store book = cond (right_lengths (length store) (length book)) (written [] store) store

abbrev pub open_book : List ℕ → List ℕ → List ℕ
open_book store book = cond (right_lengths (length store) (length book)) (replicate (length book) 0) book
