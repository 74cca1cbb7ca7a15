-- Scopes: what is declared at a place of a text, the innermost first, and what a name is found to be.
use Rattle.std.specs.Prelude.{ℕ, suc, Bool, true, false, cond, ◌&&◌, ◌||◌, List, [], ◌∷◌}
use Rattle.std.specs.Str.{bytes_eq}
use Rattle.types.specs.Types.{Name}
use Rattle.reader.specs.declared.scope.Sort.{Sort}
use Rattle.reader.specs.declared.scope.Binder.{Binder}

-- an entry of a scope: what it is, and its name; a structure or signature itself has none
pub record Binding : Type 0 where
  pub binder : Binder
  pub name : Name

abbrev pub Scope : Type 0
Scope = List Binding

abbrev pub same_sort : Sort → Sort → Bool
same_sort Sort.«Type» Sort.«Type» = true
same_sort Sort.«Type» Sort.Value = false
same_sort Sort.«Type» Sort.Module = false
same_sort Sort.Value Sort.«Type» = false
same_sort Sort.Value Sort.Value = true
same_sort Sort.Value Sort.Module = false
same_sort Sort.Module Sort.«Type» = false
same_sort Sort.Module Sort.Value = false
same_sort Sort.Module Sort.Module = true

-- what a name is found to be: a component of a structure or signature around it, or a parameter or variable around it,
-- each by the number of binders between, or nothing
pub data Resolution : Type 0 where
  component : ℕ → Resolution
  bound : ℕ → Resolution
  nowhere : Resolution

-- one binder further out
abbrev pub further : Resolution → Resolution
further (component n) = component (suc n)
further (bound n) = bound (suc n)
further nowhere = nowhere

-- what an entry makes of a name that was not found further in
abbrev pub sought : Sort → Name → Binder → Name → Resolution → Resolution
sought s x Binder.Itself y rest = further rest
sought s x (Binder.Component t) y rest = cond (same_sort s t && bytes_eq x y) (component 0) rest
sought s x Binder.Parameter y rest = cond (same_sort s Sort.Module && bytes_eq x y) (bound 0) (further rest)
sought s x Binder.Variable y rest = cond (same_sort s Sort.Value && bytes_eq x y) (bound 0) (further rest)

-- a name is sought outward
abbrev pub seek : Sort → Name → Scope → Resolution
seek s x [] = nowhere
seek s x (b ∷ scope) = sought s x b.binder b.name (seek s x scope)

-- whether an entry, or one of those further out in the same structure or signature, declares the name
abbrev pub declares : Sort → Name → Binder → Name → Bool → Bool
declares s x Binder.Itself y rest = false
declares s x (Binder.Component t) y rest = (same_sort s t && bytes_eq x y) || rest
declares s x Binder.Parameter y rest = rest
declares s x Binder.Variable y rest = rest

-- whether a sort and name is declared already in the innermost structure or signature
abbrev pub is_declared : Sort → Name → Scope → Bool
is_declared s x [] = false
is_declared s x (b ∷ scope) = declares s x b.binder b.name (is_declared s x scope)

-- whether an entry is a structure or signature itself
abbrev pub is_itself : Binder → Bool
is_itself Binder.Itself = true
is_itself (Binder.Component t) = false
is_itself Binder.Parameter = false
is_itself Binder.Variable = false

-- whether an entry declares this name in this sort
abbrev pub is_component : Sort → Name → Binder → Name → Bool
is_component s x Binder.Itself y = false
is_component s x (Binder.Component t) y = same_sort s t && bytes_eq x y
is_component s x Binder.Parameter y = false
is_component s x Binder.Variable y = false

-- whether an entry is what this name of this sort is sought for
abbrev pub is_sought : Sort → Name → Binder → Name → Bool
is_sought s x Binder.Itself y = false
is_sought s x (Binder.Component t) y = same_sort s t && bytes_eq x y
is_sought s x Binder.Parameter y = same_sort s Sort.Module && bytes_eq x y
is_sought s x Binder.Variable y = same_sort s Sort.Value && bytes_eq x y
