-- What the calls that change a store answer and leave.
use Rattle.std.specs.Prelude.{ℕ, ◌+◌, ◌-◌, Bool, cond, ◌&&◌, ◌||◌, List, length, take, drop, is_ok, Some, None, Ok, Err, Option, Result, ◌==◌, nat_le, nat_lt, slice_index_or}
use Rattle.store.specs.declared.entry.Entry.{Entry}
use Rattle.store.specs.declared.units.Refusal.{Refusal}
use Rattle.store.specs.declared.units.Refusal.TheVariants.{StoreLength, TextLength, NoName, Full, Missing}
use Rattle.store.specs.Numbers.{laid}
use Rattle.store.specs.Names.{is_name, number_of}
use Rattle.store.specs.Entries.{blank, seat, entered, vacated}
use Rattle.store.specs.Layout.{encode, stored}
use Rattle.store.specs.Units.{StoredUnit, slot, unit_of_entry}

-- a name stands in the text at this place with this size
abbrev pub has_name : List ℕ → ℕ → ℕ → Bool
has_name text place size = nat_le (place + size) (length text) && is_name (take size (drop place text))

-- its number
abbrev pub number_in : List ℕ → ℕ → ℕ → ℕ
number_in text place size = number_of (take size (drop place text))

-- the number of the name that stands there, if one does
abbrev pub name_in : List ℕ → ℕ → ℕ → Option ℕ
name_in text place size = cond (has_name text place size) (Some (number_in text place size)) None

-- the record of a text with its name and rank
abbrev pub record_for : List ℕ → ℕ → ℕ → ℕ → Entry
record_for text place size rank = record { name = number_in text place size; size = size; place = place; span = length text; rank = rank }

-- the unit of a text with its name and rank
abbrev pub unit_for : List ℕ → ℕ → ℕ → ℕ → StoredUnit
unit_for text place size rank = unit_of_entry (record_for text place size rank) text

-- fewer than 16 units are stored, or one of this name
abbrev pub room : ℕ → List Entry → Bool
room n es = nat_lt (length es) 16 || nat_lt (seat n es) (length es)

-- put answers the place of the unit among the stored ones, or the first that is wrong: the store's length, the text's
-- length, the name, and last that 16 other units are stored
abbrev pub put_answer : List ℕ → List ℕ → ℕ → ℕ → Result ℕ Refusal
put_answer s text place size =
    cond (length s == 65536)
    (cond (nat_le (length text) 4000)
    (cond (has_name text place size)
    (cond (room (number_in text place size) (stored s)) (Ok (seat (number_in text place size) (stored s))) (Err Full))
    (Err NoName))
    (Err TextLength))
    (Err StoreLength)

-- the store once a unit stands at a place: its text in the slot there, and the records
abbrev pub with_unit : ℕ → Entry → List ℕ → List ℕ → List ℕ
with_unit k e text s = laid 0 (encode (entered k e (stored s))) (laid (slot k) text s)

-- the store after put; a refusal leaves it untouched
abbrev pub store_after_put : List ℕ → List ℕ → ℕ → ℕ → ℕ → List ℕ
store_after_put s text place size rank =
    cond (is_ok (put_answer s text place size))
    (with_unit (seat (number_in text place size) (stored s)) (record_for text place size rank) text s) s

-- remove answers the place that the unit had, or what is wrong: the store's length, or that no unit has the name
abbrev pub remove_answer : List ℕ → ℕ → Result ℕ Refusal
remove_answer s name =
    cond (length s == 65536)
    (cond (nat_lt (seat name (stored s)) (length (stored s))) (Ok (seat name (stored s))) (Err Missing))
    (Err StoreLength)

-- the text of the last unit
abbrev pub last_text : List Entry → List ℕ → List ℕ
last_text es s = take (slice_index_or es (length es - 1) blank).span (drop (slot (length es - 1)) s)

-- the store without the unit at a place: the last unit's text in the slot there, and the records
abbrev pub without_unit : ℕ → List ℕ → List ℕ
without_unit k s = laid 0 (encode (vacated k blank (stored s))) (laid (slot k) (last_text (stored s) s) s)

-- the store after remove; a refusal leaves it untouched
abbrev pub store_after_remove : List ℕ → ℕ → List ℕ
store_after_remove s name = cond (is_ok (remove_answer s name)) (without_unit (seat name (stored s)) s) s
