-- Signatures: what is known of a module.
use Rattle.std.specs.Prelude.{ℕ, suc, ◌+◌, Bool, true, false, cond, ◌&&◌, Some, None, Option}
use Rattle.std.specs.Str.{bytes_eq}
use Rattle.types.specs.Types.{Name, Ty}

-- the three sorts of components
pub data Sort : Type 0 where
  a_type : Sort
  a_value : Sort
  a_module : Sort

mutual
  -- a structure binds itself in its components (binder 0 there); a functor binds its parameter in its result
  pub data Signature : Type 0 where
    structure : Components → Signature
    functor : Signature → Signature → Signature

  -- components in the order of their declaration: what was declared before, a name, and what it is declared as
  pub data Components : Type 0 where
    empty : Components
    more : Components → Name → Declaration → Components

  -- an abstract type, a defined type, a value of a type, or a module of a signature
  pub data Declaration : Type 0 where
    abstract : Declaration
    defined : Ty → Declaration
    value : Ty → Declaration
    nested : Signature → Declaration

-- the sort of what is declared
abbrev pub sort_of : Declaration → Sort
sort_of abstract = a_type
sort_of (defined t) = a_type
sort_of (value t) = a_value
sort_of (nested s) = a_module

-- whether two sorts are the same
abbrev pub same_sort : Sort → Sort → Bool
same_sort a_type a_type = true
same_sort a_type a_value = false
same_sort a_type a_module = false
same_sort a_value a_type = false
same_sort a_value a_value = true
same_sort a_value a_module = false
same_sort a_module a_type = false
same_sort a_module a_value = false
same_sort a_module a_module = true

-- the first of two answers that is one
abbrev pub first_of : {A : Type 0} → Option A → Option A → Option A
first_of (Some a) o = Some a
first_of None o = o

-- an answer, changed
abbrev pub on_some : {A B : Type 0} → (A → B) → Option A → Option B
on_some f (Some a) = Some (f a)
on_some f None = None

-- the declaration under a sort and a name; where there are several, the first
abbrev pub find : Sort → Name → Components → Option Declaration
find s x empty = None
find s x (more c y d) =
    first_of (find s x c) (cond (same_sort s (sort_of d) && bytes_eq x y) (Some d) None)

-- the number of structures and functors in a signature
abbrev mutual
  pub extent : Signature → ℕ
  extent (structure c) = suc (extent_all c)
  extent (functor s r) = suc (extent s + extent r)

  pub extent_all : Components → ℕ
  extent_all empty = 0
  extent_all (more c x d) = extent_all c + extent_one d

  pub extent_one : Declaration → ℕ
  extent_one abstract = 0
  extent_one (defined t) = 0
  extent_one (value t) = 0
  extent_one (nested s) = extent s
