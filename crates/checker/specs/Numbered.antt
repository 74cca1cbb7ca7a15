-- Numbered signatures: an abstract type is known by a number, and every type is in normal form, its leaves such numbers.
--
-- Numbers are places in one row of words, one word for each unit of size: a component has a word and then the words of its
-- type or signature; a functor has a word for its parameter, then the parameter's words and the result's. The number of an
-- abstract type is the place of its component's word. So a signature is made for the place where its words begin: a
-- structure's components stand one behind the other; a module path makes a copy; the parts of an application and the module
-- of an ascription stand there only for a while, and the result is moved down to the place where they began.
use Rattle.std.specs.Prelude.{◌≡◌, ℕ, suc, ◌+◌, Bool, true, cond, ◌&&◌, Some, None, Option, nat_le}
use Rattle.std.specs.Str.{bytes_eq}
use Rattle.types.specs.Types.{Name, Ty, size}
use Rattle.rules.specs.Signatures.{Sort, a_type, a_value, a_module, same_sort, first_of}

mutual
  -- a structure has components; a functor has its parameter's signature and its result's
  pub data Sig : Type 0 where
    sig : Parts → Sig
    functor_sig : Sig → Sig → Sig

  -- components in the order of their declaration, the last one outermost
  pub data Parts : Type 0 where
    no_parts : Parts
    more_parts : Parts → Name → Part → Parts

  -- an abstract type with its number, a defined type, a value of a type, or a module of a signature
  pub data Part : Type 0 where
    abstract_part : ℕ → Part
    defined_part : Ty → Part
    value_part : Ty → Part
    module_part : Sig → Part

-- the sort of a component
abbrev pub sort_of_part : Part → Sort
sort_of_part (abstract_part n) = a_type
sort_of_part (defined_part t) = a_type
sort_of_part (value_part t) = a_value
sort_of_part (module_part s) = a_module

-- the component of a sort and a name; where there are several, the first
abbrev pub find_part : Sort → Name → Parts → Option Part
find_part s x no_parts = None
find_part s x (more_parts c y d) =
    first_of (find_part s x c) (cond (same_sort s (sort_of_part d) && bytes_eq x y) (Some d) None)

-- the size: components at every depth, functor parameters, and the labels and leaves of types
abbrev mutual
  pub size_of : Sig → ℕ
  size_of (sig c) = size_of_parts c
  size_of (functor_sig s r) = suc (size_of s + size_of r)

  pub size_of_parts : Parts → ℕ
  size_of_parts no_parts = 0
  size_of_parts (more_parts c x d) = size_of_parts c + suc (size_of_part d)

  pub size_of_part : Part → ℕ
  size_of_part (abstract_part n) = 0
  size_of_part (defined_part t) = size t
  size_of_part (value_part t) = size t
  size_of_part (module_part s) = size_of s

-- the limit of a type: 32 labels and leaves
abbrev pub small_type : Ty → Bool
small_type t = nat_le (size t) 32

-- each type in a signature is within the limit of types
abbrev mutual
  pub small_types : Sig → Bool
  small_types (sig c) = small_types_in c
  small_types (functor_sig s r) = small_types s && small_types r

  pub small_types_in : Parts → Bool
  small_types_in no_parts = true
  small_types_in (more_parts c x d) = small_types_in c && small_types_of d

  pub small_types_of : Part → Bool
  small_types_of (abstract_part n) = true
  small_types_of (defined_part t) = small_type t
  small_types_of (value_part t) = small_type t
  small_types_of (module_part s) = small_types s

-- the limit of a signature: size 128, and each type in it within its own
abbrev pub small_sig : Sig → Bool
small_sig s = nat_le (size_of s) 128 && small_types s

-- the numbers are the places of their components, the signature's words beginning at q
abbrev mutual
  pub Placed : ℕ → Sig → Type 0
  Placed q (sig c) = PlacedAll q c
  Placed q (functor_sig s r) = Placed (suc q) s × Placed (suc (q + size_of s)) r

  pub PlacedAll : ℕ → Parts → Type 0
  PlacedAll q no_parts = Unit {0}
  PlacedAll q (more_parts c x d) = PlacedAll q c × PlacedOne (q + size_of_parts c) d

  pub PlacedOne : ℕ → Part → Type 0
  PlacedOne q (abstract_part n) = n ≡ q
  PlacedOne q (defined_part t) = Unit {0}
  PlacedOne q (value_part t) = Unit {0}
  PlacedOne q (module_part s) = Placed (suc q) s
