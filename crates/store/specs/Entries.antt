-- The records of a directory: which are lawful together, and how they change.
use Rattle.std.specs.Prelude.{ℕ, suc, ◌+◌, ◌-◌, ◌^◌, Bool, true, cond, not, ◌&&◌, List, [], ◌∷◌, ◌++◌, length, take, drop, Some, None, Option, ◌==◌, nat_le, nat_lt, slice_index_or, slice_set}
use Rattle.store.specs.declared.entry.Entry.{Entry}

-- the record of zeros
abbrev pub blank : Entry
blank = record { name = 0; size = 0; place = 0; span = 0; rank = 0 }

-- a name number of 16 digits to the base 256, and a rank of one
abbrev pub narrow : Entry → Bool
narrow e = nat_lt e.name (256 ^ 16) && nat_lt e.rank 256

-- a name of 1 to 16 bytes that lies in the text, and a text of at most 4,000
abbrev pub bounded : Entry → Bool
bounded e = nat_lt 0 e.size && (nat_le e.size 16 && (nat_le (e.place + e.size) e.span && nat_le e.span 4000))

-- a record with all numbers within their bounds
abbrev pub sound : Entry → Bool
sound e = bounded e && narrow e

-- two names that may not stand in one directory
abbrev pub clash : ℕ → ℕ → Bool
clash m n = m == n

-- no entry has a name that clashes with this one
abbrev pub absent : ℕ → List Entry → Bool
absent n [] = true
absent n (e ∷ es) = not (clash e.name n) && absent n es

-- each entry is sound, and no two names clash
abbrev pub well : List Entry → Bool
well [] = true
well (e ∷ es) = sound e && (absent e.name es && well es)

-- what every directory keeps: at most 16 entries, each one sound, and no two of one name
abbrev pub lawful : List Entry → Bool
lawful es = nat_le (length es) 16 && well es

-- the place of the entry of this name; the count of entries where there is none
abbrev pub seat : ℕ → List Entry → ℕ
seat n [] = 0
seat n (e ∷ es) = cond (e.name == n) 0 (suc (seat n es))

-- the place of the entry of this name, if there is one
abbrev pub found : ℕ → List Entry → Option ℕ
found n es = cond (nat_lt (seat n es) (length es)) (Some (seat n es)) None

-- the k-th entry, if there is one
abbrev pub entry_at : ℕ → List Entry → Option Entry
entry_at k es = cond (nat_lt k (length es)) (Some (slice_index_or es k blank)) None

-- there is room for this entry: in place of the one of its name, or behind fewer than 16
abbrev pub fits : Entry → List Entry → Bool
fits e es = sound e && nat_lt (seat e.name es) 16

-- this element at a place, instead of the one there, or behind the last
abbrev pub entered : {X : Type 0} → ℕ → X → List X → List X
entered i x xs = take i xs ++ (x ∷ drop (suc i) xs)

-- without the element at a place: the last one takes its place
abbrev pub vacated : {X : Type 0} → ℕ → X → List X → List X
vacated i d xs = slice_set (take (length xs - 1) xs) i (slice_index_or xs (length xs - 1) d)
