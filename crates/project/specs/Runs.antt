-- Runs of calls on an open project, and the register of its units, which the arguments of the calls alone decide.
use Rattle.std.specs.Prelude.{◌≡◌, ℕ, List, [], ◌∷◌, length, replicate, Ok}
use Rattle.cores.specs.Meaning.{Word}
use Rattle.store.specs.Names.{name_number}
use Rattle.store.specs.Units.{StoredUnit, units, Among, Kept}
use Rattle.project.specs.Calls.{unit_of, put_among, drop_among, unless_refused, put_store, drop_store, open_store, open_book}

-- a call with its arguments: put has a text and a scratch of so many words, drop a name
pub data Call : Type 0 where
  put : List ℕ → ℕ → Call
  drop : List ℕ → Call

-- the memory that a project keeps from call to call
pub record Memory : Type 0 where
  pub store : List ℕ
  pub book : List ℕ

-- what open leaves
abbrev pub opened : List ℕ → List ℕ → Memory
opened store book = record { store = open_store store book; book = open_book store book }

-- what a call leaves, accepted or refused; put and drop are lent the book for reading only
abbrev pub step : List Word → Memory → Call → Memory
step ws m (put text room) = record { store = put_store ws m.store (length m.book) room text; book = m.book }
step ws m (drop name) = record { store = drop_store m.store (length m.book) name; book = m.book }

-- the calls of a run, the first one first
abbrev pub run : List Word → Memory → List Call → Memory
run ws m [] = m
run ws m (c ∷ cs) = run ws (step ws m c) cs

-- A call changes the register as it would change these units, if they were the stored ones: a put that no question refuses
-- enters its text, and such a drop takes its unit out. K is the kind of cause of the core, which no such call tells.
abbrev pub registered : (K : Type 0) → List Word → List StoredUnit → Call → List StoredUnit
registered K ws us (put text room) = unless_refused us (put_among (unit_of {K = K} ws text room) us)
registered K ws us (drop name) = unless_refused us (drop_among {K = K} (name_number name) us)

abbrev pub register_from : (K : Type 0) → List Word → List StoredUnit → List Call → List StoredUnit
register_from K ws us [] = us
register_from K ws us (c ∷ cs) = register_from K ws (registered K ws us c) cs

-- the register starts empty
abbrev pub register : (K : Type 0) → List Word → List Call → List StoredUnit
register K ws cs = register_from K ws [] cs

-- each unit is what its text reads as
abbrev pub AllRead : (K : Type 0) → List Word → List StoredUnit → Type 0
AllRead K ws us = (u : StoredUnit) → Among u us → unit_of {K = K} ws u.text 65536 ≡ Ok u

-- what holds of a memory behind the calls of a run: the stored units are those of the register, no two of one name, at most 16,
-- each an accepted text; the store has kept its length, and the book its zeros
pub record Registered (K : Type 0) (ws : List Word) (us : List StoredUnit) (m : Memory) : Type 0 where
  pub stored : units m.store ≡ us
  pub kept : Kept us
  pub read : AllRead K ws us
  pub long : length m.store ≡ 65536
  pub zeros : m.book ≡ replicate 16384 0

-- after any run on a store and a book of the right lengths, whatever they held before
abbrev pub RegisterLaw : (K : Type 0) → List Word → Type 0
RegisterLaw K ws =
    (store book : List ℕ) → length store ≡ 65536 → length book ≡ 16384 → (cs : List Call) →
    Registered K ws (register K ws cs) (run ws (opened store book) cs)
