-- Sizes, as the limits count them, and the row positions that follow from them.
use Rattle.std.specs.Prelude.{◌≡◌, ℕ, suc, ◌+◌, ◌≤◌, Bool, true, ◌&&◌, ◌⊎◌, List, [], ◌∷◌, Some, None, Option, nat_le}
use Rattle.types.specs.Types.{Name, Head, ModulePath, at, dot, Leaf, named, numbered, Ty, leaf, size, replace}
use Rattle.rules.specs.Signatures.{Sort, a_type, a_module, Signature, structure, functor, Components, empty, more, Declaration, abstract, defined, value, nested, find}
use Rattle.rules.specs.Lookup.{Env, Normal}
use Rattle.rules.specs.Checker.{lookup}

-- components at every depth, functor parameters and the sizes of types
abbrev mutual
  pub signature_size : Signature → ℕ
  signature_size (structure c) = components_size c
  signature_size (functor s r) = suc (signature_size s + signature_size r)

  pub components_size : Components → ℕ
  components_size empty = 0
  components_size (more c x d) = components_size c + suc (declaration_size d)

  pub declaration_size : Declaration → ℕ
  declaration_size abstract = 0
  declaration_size (defined t) = size t
  declaration_size (value t) = size t
  declaration_size (nested s) = signature_size s

-- at most 32 labels and paths in a type
abbrev pub small_type : Ty → Bool
small_type t = nat_le (size t) 32

-- every type in a signature is within its limit
abbrev mutual
  pub small_types : Signature → Bool
  small_types (structure c) = small_types_all c
  small_types (functor s r) = small_types s && small_types r

  pub small_types_all : Components → Bool
  small_types_all empty = true
  small_types_all (more c x d) = small_types_all c && small_types_one d

  pub small_types_one : Declaration → Bool
  small_types_one abstract = true
  small_types_one (defined t) = small_type t
  small_types_one (value t) = small_type t
  small_types_one (nested s) = small_types s

-- a signature's size is at most 128, and its types are within their limit
abbrev pub small_signature : Signature → Bool
small_signature s = nat_le (signature_size s) 128 && small_types s

-- Known signatures stand one behind the other in a row, a position for each unit of size. A component comes before what it is
-- declared as, so a head's signature stands from some position on, and each component's position follows.

-- what is found, or else what is not
abbrev pub found_or : Option Declaration → ℕ → ℕ → ℕ
found_or (Some d) m n = m
found_or None m n = n

-- how far behind the first component of a structure a component stands
abbrev pub offset : Sort → Name → Components → ℕ
offset s x empty = 0
offset s x (more c y d) = found_or (find s x c) (offset s x c) (components_size c)

abbrev pub offset_in : Sort → Name → Option Signature → ℕ
offset_in s x None = 0
offset_in s x (Some (structure c)) = offset s x c
offset_in s x (Some (functor a b)) = 0

-- where the signature at a path stands, if each head's stands where `from` says
abbrev pub stands_at : (Head → ℕ) → Env → ModulePath → ℕ
stands_at from Γ (at h) = from h
stands_at from Γ (dot p x) = suc (stands_at from Γ p + offset_in a_module x (lookup Γ p))

-- a path to an abstract type as the position where that type is declared; a number stays
abbrev pub by_number : (Head → ℕ) → Env → Leaf → Ty
by_number from Γ (named p x) = leaf (numbered (stands_at from Γ p + offset_in a_type x (lookup Γ p)))
by_number from Γ (numbered n) = leaf (numbered n)

-- a type in normal form as a core sees it: its paths are numbers
abbrev pub in_numbers : (Head → ℕ) → Env → Ty → Ty
in_numbers from Γ t = replace (by_number from Γ) t

-- the known signatures stand apart from each other, and all before position k
pub record Laid (from : Head → ℕ) (Γ : Env) (k : ℕ) : Type 0 where
  pub before : (h : Head) (s : Signature) → Γ h ≡ Some s → from h + signature_size s ≤ k
  pub apart :
      (h i : Head) (s t : Signature) → Γ h ≡ Some s → Γ i ≡ Some t →
      (h ≡ i) ⊎ ((from h + signature_size s ≤ from i) ⊎ (from i + signature_size t ≤ from h))

-- each type is its own normal form
pub data AllNormal (Γ : Env) : List Ty → Type 0 where
  none_normal : AllNormal Γ []
  more_normal : {n : Ty} {ns : List Ty} → Normal Γ n n → AllNormal Γ ns → AllNormal Γ (n ∷ ns)
