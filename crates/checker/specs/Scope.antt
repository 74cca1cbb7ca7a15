-- What is known where a text stands, and where a path leads there.
use Rattle.std.specs.Prelude.{cond, Some, None, Option}
use Rattle.std.specs.Str.{bytes_eq}
use Rattle.types.specs.Types.{Name, Head, unit, binder, ModulePath, at, dot, Ty}
use Rattle.rules.specs.Signatures.{Sort, a_type, a_value, a_module}
use Rattle.rules.specs.Substitution.{under}
use Rattle.checker.specs.Numbered.{Sig, sig, functor_sig, Part, abstract_part, defined_part, value_part, module_part, find_part}
use Rattle.checker.specs.Meanings.{numbered_type}

-- the signature of each head that is known
abbrev pub Scope : Type 0
Scope = Head → Option Sig

-- nothing is known
abbrev pub nothing : Scope
nothing h = None

-- one more binder
abbrev pub inner : Scope → Sig → Scope
inner Γ s = under (Some s) Γ

-- one more unit
abbrev pub with_unit_of : Name → Sig → Scope → Scope
with_unit_of x s Γ (unit y) = cond (bytes_eq x y) (Some s) (Γ (unit y))
with_unit_of x s Γ (binder n) = Γ (binder n)

-- the component of a sort and a name in what a path leads to: only a structure has components
abbrev pub part_of : Sort → Name → Option Sig → Option Part
part_of s x (Some (sig c)) = find_part s x c
part_of s x (Some (functor_sig p r)) = None
part_of s x None = None

-- a module component's signature
abbrev pub module_of : Option Part → Option Sig
module_of (Some (module_part s)) = Some s
module_of (Some (abstract_part n)) = None
module_of (Some (defined_part t)) = None
module_of (Some (value_part t)) = None
module_of None = None

-- a type component's type: its number, or its definition
abbrev pub type_of_part : Option Part → Option Ty
type_of_part (Some (abstract_part n)) = Some (numbered_type n)
type_of_part (Some (defined_part t)) = Some t
type_of_part (Some (value_part t)) = None
type_of_part (Some (module_part s)) = None
type_of_part None = None

-- a value component's type
abbrev pub value_of_part : Option Part → Option Ty
value_of_part (Some (value_part t)) = Some t
value_of_part (Some (abstract_part n)) = None
value_of_part (Some (defined_part t)) = None
value_of_part (Some (module_part s)) = None
value_of_part None = None

-- the signature of the module that a path leads to, name by name through structures
abbrev pub module_at : Scope → ModulePath → Option Sig
module_at Γ (at h) = Γ h
module_at Γ (dot p x) = module_of (part_of a_module x (module_at Γ p))

-- the type that a type path leads to, in normal form
abbrev pub type_at : Scope → ModulePath → Name → Option Ty
type_at Γ p x = type_of_part (part_of a_type x (module_at Γ p))

-- the type of the value that a value path leads to, in normal form
abbrev pub value_at : Scope → ModulePath → Name → Option Ty
value_at Γ p x = value_of_part (part_of a_value x (module_at Γ p))
