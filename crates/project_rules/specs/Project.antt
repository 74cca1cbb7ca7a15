-- A project: its units in any order, and what the load order sees of them. A unit goes by its place in the list, from 0.
use Rattle.std.specs.Prelude.{ℕ, Bool, false, cond, not, ◌||◌, List, [], ◌∷◌, length, Some, None, Option, slice_index_or}
use Rattle.std.specs.Str.{bytes_eq}
use Rattle.types.specs.Types.{Name}
use Rattle.order.specs.Units.{Units as Seen}
use Rattle.order.specs.Picking.{load_order}
use Rattle.rules.specs.Syntax.{struct, no_items, CompilationUnit}
use Rattle.rules.specs.Naming.{unit_names}
use Rattle.rules.specs.Projects.{Units, no_units, more_units}

-- a unit of a project: its rank, and its text with the heads found
pub record ProjectUnit : Type 0 where
  pub rank : ℕ
  pub text : CompilationUnit

-- some element passes a test
abbrev pub some : {A : Type 0} → (A → Bool) → List A → Bool
some test [] = false
some test (a ∷ rest) = test a || some test rest

-- the first element that passes a test
abbrev pub first_where : {A : Type 0} → (A → Bool) → List A → Option A
first_where test [] = None
first_where test (a ∷ rest) = cond (test a) (Some a) (first_where test rest)

-- what stands where there is no unit
abbrev pub nobody : ProjectUnit
nobody = record { rank = 0; text = record { name = []; body = struct 0 no_items } }

-- the unit at a place
abbrev pub unit_at : List ProjectUnit → ℕ → CompilationUnit
unit_at us i = (slice_index_or us i nobody).text

-- its name
abbrev pub name_at : List ProjectUnit → ℕ → Name
name_at us i = (unit_at us i).name

-- its heads that name units, each with its place in the text
abbrev pub heads_at : List ProjectUnit → ℕ → List (Name × ℕ)
heads_at us i = unit_names (unit_at us i)

-- some unit has this name
abbrev pub stored : List ProjectUnit → Name → Bool
stored us x = some (λ u. bytes_eq u.text.name x) us

-- a head that names none of the units
abbrev pub strange : List ProjectUnit → Name × ℕ → Bool
strange us h = not (stored us h.0)

-- what the load order sees: a unit names the one at a place where some head has its name, and lacks one where some head has no unit's name
abbrev pub seen : List ProjectUnit → Seen
seen us = record {
  count = length us;
  rank = λ i. (slice_index_or us i nobody).rank;
  name = name_at us;
  marks = λ i j. some (λ h. bytes_eq h.0 (name_at us j)) (heads_at us i);
  lacks = λ i. some (strange us) (heads_at us i);
}

-- the place of a head that was looked for; 0 where there is none
abbrev pub place_of_head : Option (Name × ℕ) → ℕ
place_of_head (Some h) = h.1
place_of_head None = 0

-- the place in its text of the first head of a unit that names none of the units
abbrev pub first_lacking : List ProjectUnit → ℕ → ℕ
first_lacking us i = place_of_head (first_where (strange us) (heads_at us i))

-- the load order of a project
abbrev pub order_of : List ProjectUnit → List ℕ
order_of us = load_order (seen us)

-- the units at some places, in the order of these, behind others
abbrev pub behind : List ProjectUnit → Units → List ℕ → Units
behind us before [] = before
behind us before (i ∷ is) = behind us (more_units before (unit_at us i)) is

-- the units at some places, in the order of these
abbrev pub units_at : List ProjectUnit → List ℕ → Units
units_at us is = behind us no_units is
