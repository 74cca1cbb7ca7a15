-- What stored units name, and their load order.
use Rattle.std.specs.Prelude.{ℕ, Bool, false, cond, not, ◌&&◌, List, [], length, take, drop, Some, None, Ok, Err, Option, Result, ◌==◌, slice_index_or}
use Rattle.types.specs.Types.{Name}
use Rattle.cores.specs.Meaning.{Word}
use Rattle.reader.specs.declared.fault.ReadFault.{ReadFault}
use Rattle.reader.specs.declared.parse.Start.{Start}
use Rattle.reader.specs.Mentions.{head_name, heads_answer}
use Rattle.store.specs.Names.{name_number}
use Rattle.store.specs.Units.{StoredUnit, units, no_unit}
use Rattle.order.specs.Units.{Units}
use Rattle.order.specs.Answer.{arranged}
use Rattle.order.specs.declared.Order.{Order}
use Rattle.order.specs.declared.Fault.{Fault as Unarranged}
use Rattle.order.specs.declared.Fault.TheVariants.{TooMany, Missing, Cycle}
use Rattle.project_rules.specs.Project.{some, first_where}
use Rattle.project.specs.declared.fault.Question.TheVariants.{Lengths, UnitMissing, Circle}
use Rattle.project.specs.declared.fault.Fault.{Fault}
use Rattle.project.specs.Faults.{about, without}
use Rattle.project.specs.Calls.{stores}

-- the places of the heads of a text that name units; a text that is no unit has none
abbrev pub places_or : Result (List ℕ) ReadFault → List ℕ
places_or (Ok places) = places
places_or (Err e) = []

abbrev pub heads_of : List Word → List ℕ → List ℕ
heads_of ws text = places_or (heads_answer Start.«Unit» ws text 65536)

-- the number of the name that stands at a place, if one does
abbrev pub numbered : Option Name → Option ℕ
numbered None = None
numbered (Some x) = name_number x

abbrev pub head_number : List ℕ → ℕ → Option ℕ
head_number text place = numbered (head_name text place)

-- this number is that one
abbrev pub is_number : Option ℕ → ℕ → Bool
is_number None n = false
is_number (Some m) n = m == n

-- a unit of this number is among the units
abbrev pub is_stored : List StoredUnit → Option ℕ → Bool
is_stored us None = false
is_stored us (Some n) = stores n us

-- a head that names none of the units
abbrev pub strange : List StoredUnit → List ℕ → ℕ → Bool
strange us text place = not (is_stored us (head_number text place))

-- the unit at a place among the units, and the bytes of its name
abbrev pub unit_at : List StoredUnit → ℕ → StoredUnit
unit_at us i = slice_index_or us i no_unit

abbrev pub name_bytes : StoredUnit → List ℕ
name_bytes u = take u.size (drop u.place u.text)

-- what the load order sees of stored units: a unit names the one at a place where one of its heads has that one's name, and lacks one
-- where one of its heads names none of the units
abbrev pub stored_view : List Word → List StoredUnit → Units
stored_view ws us = record {
  count = length us;
  rank = λ i. (unit_at us i).rank;
  name = λ i. name_bytes (unit_at us i);
  marks = λ i j. some (λ p. is_number (head_number (unit_at us i).text p) (unit_at us j).name) (heads_of ws (unit_at us i).text);
  lacks = λ i. some (strange us (unit_at us i).text) (heads_of ws (unit_at us i).text);
}

-- the place in its text of the first head of a unit that names none of the units; 0 where there is none
abbrev pub place_or : Option ℕ → ℕ
place_or None = 0
place_or (Some p) = p

abbrev pub first_strange : List Word → List StoredUnit → ℕ → ℕ
first_strange ws us i = place_or (first_where (strange us (unit_at us i).text) (heads_of ws (unit_at us i).text))

-- questions 10 and 11, each told of a unit; 10 with the place of the unit's first head that names none. A store never holds more than 16.
abbrev pub order_fault : {K : Type 0} → List Word → List StoredUnit → Unarranged → Fault K
order_fault ws us TooMany = without Lengths
order_fault ws us (Missing i) = about (Some (unit_at us i).name) (UnitMissing (first_strange ws us i))
order_fault ws us (Cycle i) = about (Some (unit_at us i).name) Circle

abbrev pub or_order_fault : {K : Type 0} → List Word → List StoredUnit → Result Order Unarranged → Result Order (Fault K)
or_order_fault ws us (Ok o) = Ok o
or_order_fault ws us (Err e) = Err (order_fault ws us e)

-- the load order of the units of a store, by their places among the units, or why there is none; store and scratch must have their lengths
abbrev pub load_order : {K : Type 0} → List Word → List ℕ → ℕ → Result Order (Fault K)
load_order ws store room =
    cond (length store == 65536 && room == 65536) (or_order_fault ws (units store) (arranged (stored_view ws (units store)))) (Err (without Lengths))
