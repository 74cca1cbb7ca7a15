-- Tables of words as the code has them: the words, and the lines as items.
use Rattle.std.specs.Prelude.{ℕ, List, None, Some, Option, map, slice_get}
use Rattle.std.specs.Option.{option_map}
use Rattle.cores.specs.Meaning.{Word}
use Rattle.cores.specs.Steps.{Items, row_items}
use Rattle.cores.specs.declared.interface.Operation.{Operation}
use Rattle.cores.specs.declared.interface.Operation.TheVariants.{Literal, Function, Operator}
use Rattle.cores.specs.declared.table.Entry.{Entry}
use Rattle.cores.specs.declared.table.Language.{Language}

abbrev pub tabled : Entry → Word
tabled e = record { name = e.name.now; kind = e.kind }

abbrev pub row : Entry → Option Items
row e = option_map (λ l. row_items l) e.line

abbrev pub joined : {A : Type 0} → Option (Option A) → Option A
joined None = None
joined (Some o) = o

-- the row of number n, if it has one
abbrev pub row_at : List (Option Items) → ℕ → Option Items
row_at rs n = joined (slice_get rs n)

-- a language as items: the lines of the literal and the function, and the rows of its words
pub record Rows : Type 0 where
  pub literal : Items
  pub function : Items
  pub words : List (Option Items)

abbrev pub rows : Language → Rows
rows l = record { literal = row_items l.literal; function = row_items l.function; words = map row l.words.now }

-- the row of an operation
abbrev pub operation_row : Rows → Operation → Option Items
operation_row r Literal = Some r.literal
operation_row r Function = Some r.function
operation_row r (Operator n) = row_at r.words n
