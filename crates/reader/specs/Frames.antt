-- Frames in words of memory: a symbol, and what surrounds it and what follows it, scopes by the numbers of their entries.
use Rattle.std.specs.Prelude.{ℕ, zero, suc, ◌+◌, ◌*◌, List, [], ◌∷◌, length, slice_index, slice_set}
use Rattle.reader.specs.declared.frame.Place.{Place}
use Rattle.reader.specs.declared.frame.Frame.{Frame}
use Rattle.reader.specs.declared.symbol.Symbol.{Symbol}
use Rattle.reader.specs.Codes.{symbol_at}
use Rattle.reader.specs.Notes.{Around}
use Rattle.reader.specs.Annotate.{Attr}

abbrev pub placed : Place → Around ℕ
placed p = record { opened = p.opened; scope = p.scope }

abbrev pub attr_of : Frame → Attr ℕ
attr_of f = record { inner = placed f.inner; outer = placed f.outer }

-- what is kept of the frame at a place
abbrev pub attr_at : List ℕ → ℕ → Attr ℕ
attr_at words i =
    record {
      inner = record { opened = slice_index words (5 * i + 1); scope = slice_index words (5 * i + 2) };
      outer = record { opened = slice_index words (5 * i + 3); scope = slice_index words (5 * i + 4) };
    }

abbrev pub symbol_kept : List ℕ → ℕ → Symbol
symbol_kept words i = symbol_at (slice_index words (5 * i))

-- the first n frames as a stack, the last of them on top: their symbols, and what is kept with them
abbrev pub symbols_of : List ℕ → ℕ → List Symbol
symbols_of words zero = []
symbols_of words (suc n) = symbol_kept words n ∷ symbols_of words n

abbrev pub attrs_of : List ℕ → ℕ → List (Attr ℕ)
attrs_of words zero = []
attrs_of words (suc n) = attr_at words n ∷ attrs_of words n

-- what a stack of frames holds, the top first: their symbols, what is kept with them, and how many words there are
pub record Framed : Type 0 where
  pub symbols : List Symbol
  pub attrs : List (Attr ℕ)
  pub room : ℕ

-- the stack of the first n frames of these words
abbrev pub framed : List ℕ → ℕ → Framed
framed words n = record { symbols = symbols_of words n; attrs = attrs_of words n; room = length words }

-- five words written from a place on
abbrev pub five_at : List ℕ → ℕ → ℕ → ℕ → ℕ → ℕ → ℕ → List ℕ
five_at words i a b c d e = slice_set (slice_set (slice_set (slice_set (slice_set words (5 * i) a) (5 * i + 1) b) (5 * i + 2) c) (5 * i + 3) d) (5 * i + 4) e

-- four words written from a place on
abbrev pub four_at : List ℕ → ℕ → ℕ → ℕ → ℕ → ℕ → List ℕ
four_at words i a b c d = slice_set (slice_set (slice_set (slice_set words (4 * i) a) (4 * i + 1) b) (4 * i + 2) c) (4 * i + 3) d
