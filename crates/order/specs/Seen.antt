-- The units as the code holds them.
use Rattle.std.specs.Prelude.{ℕ, ◌/◌, ◌%◌, ◌^◌, Bool, false, not, ◌||◌, List, [], length, ◌==◌, slice_index_or}
use Rattle.order.specs.declared.Unit.{Unit}
use Rattle.order.specs.Units.{Units}

-- the bit at a place of a number
abbrev pub bit : ℕ → ℕ → Bool
bit m j = m / 2 ^ j % 2 == 1

-- what stands where there is no unit
abbrev pub nobody : Unit
nobody = record { rank = 0; name = record { ref_ptr = (0, 0); now = [] }; needs = 0; misses = false }

-- the units of a slice: bit j of `needs` says that the unit names the one at place j;
-- it names one that is not stored where it says so, or where it names a place at which no unit stands
abbrev pub seen : List Unit → Units
seen us = record {
  count = length us;
  rank = λ i. (slice_index_or us i nobody).rank;
  name = λ i. (slice_index_or us i nobody).name.now;
  marks = λ i j. bit (slice_index_or us i nobody).needs j;
  lacks = λ i. (slice_index_or us i nobody).misses || not ((slice_index_or us i nobody).needs / 2 ^ length us == 0);
}
