-- Scopes in words of memory: a row of entries, each with the number of the entry around it; 0 stands for no entry.
use Rattle.std.specs.Prelude.{ℕ, zero, suc, ◌+◌, ◌*◌, Bool, true, false, cond, ◌&&◌, List, [], ◌∷◌, length, ◌==◌, nat_le, slice_index, slice_range}
use Rattle.reader.specs.declared.scope.Sort.{Sort}
use Rattle.reader.specs.declared.scope.Binder.{Binder}
use Rattle.reader.specs.declared.row.Entry.{Entry}
use Rattle.reader.specs.declared.row.Scope.{Scope as Outward}
use Rattle.reader.specs.Scopes.{Binding, Scope, Resolution, component, bound, nowhere}

-- the number of a binder
abbrev pub binder_number : Binder → ℕ
binder_number Binder.Itself = 0
binder_number (Binder.Component Sort.«Type») = 1
binder_number (Binder.Component Sort.Value) = 2
binder_number (Binder.Component Sort.Module) = 3
binder_number Binder.Parameter = 4
binder_number Binder.Variable = 5

-- the binder of a number
abbrev pub binder_at : ℕ → Binder
binder_at n =
    cond (n == 0) Binder.Itself
    (cond (n == 1) (Binder.Component Sort.«Type»)
    (cond (n == 2) (Binder.Component Sort.Value)
    (cond (n == 3) (Binder.Component Sort.Module) (cond (n == 4) Binder.Parameter Binder.Variable))))

-- the bytes of a text from a place to another; none where there is no such part
abbrev pub part_of : List ℕ → ℕ → ℕ → List ℕ
part_of text from end = cond (nat_le from end && nat_le end (length text)) (slice_range text from end) []

-- the entry at a place of the row: its binder, and its name as a part of the text
abbrev pub entry_at : List ℕ → List ℕ → ℕ → Binding
entry_at row text i =
    record { binder = binder_at (slice_index row (4 * i)); name = part_of text (slice_index row (4 * i + 2)) (slice_index row (4 * i + 3)) }

-- the number of the entry around it, which stands before it
abbrev pub parent_at : List ℕ → ℕ → ℕ
parent_at row i = cond (nat_le (slice_index row (4 * i + 1)) i) (slice_index row (4 * i + 1)) 0

-- the scope of an entry's number: the entry, and those around it; n is at least the number
abbrev pub scope_from : ℕ → List ℕ → List ℕ → ℕ → Scope
scope_from zero row text i = []
scope_from (suc n) row text zero = []
scope_from (suc n) row text (suc i) = entry_at row text i ∷ scope_from n row text (parent_at row i)

abbrev pub scope_of : List ℕ → List ℕ → ℕ → Scope
scope_of row text i = scope_from i row text i

-- the words of a row, and how many entries there are
pub record Entered : Type 0 where
  pub words : List ℕ
  pub count : ℕ

-- what the code hands out of a scope: an entry, with the name's bytes in place of the reference to them, and those that it goes through
abbrev pub binding_of : Entry → Binding
binding_of e = record { binder = e.binder; name = e.name.now }

abbrev pub entries_of : Outward → Scope
entries_of s = scope_of s.row.now s.text.now s.number

abbrev pub is_nowhere : Resolution → Bool
is_nowhere (component n) = false
is_nowhere (bound n) = false
is_nowhere nowhere = true
