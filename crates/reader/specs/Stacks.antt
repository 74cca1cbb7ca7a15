-- A stack of symbols in words of memory.
use Rattle.std.specs.Prelude.{ℕ, zero, suc, List, [], ◌∷◌, length, slice_index}
use Rattle.reader.specs.declared.symbol.Symbol.{Symbol}
use Rattle.reader.specs.Codes.{symbol_at}

-- the first n words as a stack of symbols, the last of them on top
abbrev pub stack_of : List ℕ → ℕ → List Symbol
stack_of words zero = []
stack_of words (suc n) = symbol_at (slice_index words n) ∷ stack_of words n

-- what a stack in lent words holds, the top first, and how many symbols fit
pub record Stacked : Type 0 where
  pub symbols : List Symbol
  pub room : ℕ

-- the stack in the first n of these words
abbrev pub stacked : List ℕ → ℕ → Stacked
stacked words n = record { symbols = stack_of words n; room = length words }
