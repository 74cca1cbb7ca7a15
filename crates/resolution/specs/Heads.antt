-- Heads: what a name is found to be, as the rules count. Structures, signatures and functor parameters are counted in one row, from the
-- innermost outward; variables of `fun` are counted in a row of their own.
use Rattle.std.specs.Prelude.{ℕ, suc, cond, ◌&&◌, List, [], ◌∷◌}
use Rattle.std.specs.Str.{bytes_eq}
use Rattle.types.specs.Types.{Name, unit, binder, ModulePath, at, dot}
use Rattle.reader.specs.declared.scope.Sort.{Sort}
use Rattle.reader.specs.declared.scope.Binder.{Binder}
use Rattle.reader.specs.Scopes.{Scope, same_sort}
use Rattle.reader.specs.Syntax.{LongName, ModulePath as WrittenPath}

-- a component of a structure or signature, or a functor parameter, by the number of structures, signatures and parameters between;
-- a variable, by the number of variables between; or nothing
pub data Location : Type 0 where
  component : ℕ → Location
  parameter : ℕ → Location
  variable : ℕ → Location
  nowhere : Location

-- one structure, signature or parameter further out
abbrev pub outward : Location → Location
outward (Location.component n) = Location.component (suc n)
outward (Location.parameter n) = Location.parameter (suc n)
outward (Location.variable n) = Location.variable n
outward Location.nowhere = Location.nowhere

-- one variable further out
abbrev pub past_variable : Location → Location
past_variable (Location.component n) = Location.component n
past_variable (Location.parameter n) = Location.parameter n
past_variable (Location.variable n) = Location.variable (suc n)
past_variable Location.nowhere = Location.nowhere

-- what an entry makes of a name that was not found further in
abbrev pub located : Sort → Name → Binder → Name → Location → Location
located s x Binder.Itself y rest = outward rest
located s x (Binder.Component t) y rest = cond (same_sort s t && bytes_eq x y) (Location.component 0) rest
located s x Binder.Parameter y rest = cond (same_sort s Sort.Module && bytes_eq x y) (Location.parameter 0) (outward rest)
located s x Binder.Variable y rest = cond (same_sort s Sort.Value && bytes_eq x y) (Location.variable 0) (past_variable rest)

-- where a name of a sort is found
abbrev pub locate : Sort → Name → Scope → Location
locate s x [] = Location.nowhere
locate s x (b ∷ scope) = located s x b.binder b.name (locate s x scope)

-- one more for a structure, a signature or a parameter
abbrev pub binder_more : Binder → ℕ → ℕ
binder_more Binder.Itself n = suc n
binder_more (Binder.Component s) n = n
binder_more Binder.Parameter n = suc n
binder_more Binder.Variable n = n

-- one more for a variable
abbrev pub variable_more : Binder → ℕ → ℕ
variable_more Binder.Itself n = n
variable_more (Binder.Component s) n = n
variable_more Binder.Parameter n = n
variable_more Binder.Variable n = suc n

-- how many structures, signatures and parameters are around
abbrev pub binders : Scope → ℕ
binders [] = 0
binders (b ∷ scope) = binder_more b.binder (binders scope)

-- how many variables are around
abbrev pub variables : Scope → ℕ
variables [] = 0
variables (b ∷ scope) = variable_more b.binder (variables scope)

-- the head of a module path. An upper name that is found nowhere is a unit's; none is ever found as a variable.
abbrev pub upper_path : Name → Location → ModulePath
upper_path x (Location.component n) = dot (at (binder n)) x
upper_path x (Location.parameter n) = at (binder n)
upper_path x (Location.variable n) = at (binder n)
upper_path x Location.nowhere = at (unit x)

-- the structure or signature of which a lower name is a component. In a text that passes the static questions a type is always found as a
-- component, and a value as one or as a variable; else the path is that of the binder behind all that are around, which leads nowhere.
abbrev pub lower_path : Scope → Location → ModulePath
lower_path scope (Location.component n) = at (binder n)
lower_path scope (Location.parameter n) = at (binder (binders scope))
lower_path scope (Location.variable n) = at (binder (binders scope))
lower_path scope Location.nowhere = at (binder (binders scope))

-- names behind a path
abbrev pub dots : ModulePath → List Name → ModulePath
dots p [] = p
dots p (x ∷ xs) = dots (dot p x) xs

-- a written module path
abbrev pub module_path_of : Scope → WrittenPath → ModulePath
module_path_of scope p = dots (upper_path p.first (locate Sort.Module p.first scope)) p.more

-- the module names of what stands behind a head, behind that head
abbrev pub tail_path : ModulePath → LongName → ModulePath
tail_path p (LongName.plain x) = p
tail_path p (LongName.inside m q) = tail_path (dot p m) q

-- the last name of a path
abbrev pub last_name : LongName → Name
last_name (LongName.plain x) = x
last_name (LongName.inside m q) = last_name q
