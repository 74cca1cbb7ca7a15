-- How the reader's count of binders and the rules' count go together: the reader counts structures, signatures, parameters and variables
-- in one row.
use Rattle.std.specs.Prelude.{ℕ, zero, suc, Bool, true, false, cond, [], ◌∷◌}
use Rattle.reader.specs.declared.scope.Binder.{Binder}
use Rattle.reader.specs.Scopes.{Scope, Resolution, component, bound, nowhere}
use Rattle.resolution.specs.Heads.{Location}

-- how many structures, signatures and parameters an entry and those further out make, of the innermost so many of the reader's row
abbrev pub binders_from : Binder → ℕ → (ℕ → ℕ) → ℕ
binders_from Binder.Itself zero rest = 0
binders_from Binder.Itself (suc n) rest = suc (rest n)
binders_from (Binder.Component s) n rest = rest n
binders_from Binder.Parameter zero rest = 0
binders_from Binder.Parameter (suc n) rest = suc (rest n)
binders_from Binder.Variable zero rest = 0
binders_from Binder.Variable (suc n) rest = rest n

-- how many of the innermost so many of the reader's row are structures, signatures and parameters
abbrev pub binders_within : ℕ → Scope → ℕ
binders_within n [] = 0
binders_within n (b ∷ scope) = binders_from b.binder n (λ k. binders_within k scope)

-- how many variables an entry and those further out make, of the innermost so many of the reader's row
abbrev pub variables_from : Binder → ℕ → (ℕ → ℕ) → ℕ
variables_from Binder.Itself zero rest = 0
variables_from Binder.Itself (suc n) rest = rest n
variables_from (Binder.Component s) n rest = rest n
variables_from Binder.Parameter zero rest = 0
variables_from Binder.Parameter (suc n) rest = rest n
variables_from Binder.Variable zero rest = 0
variables_from Binder.Variable (suc n) rest = suc (rest n)

-- how many of the innermost so many of the reader's row are variables
abbrev pub variables_within : ℕ → Scope → ℕ
variables_within n [] = 0
variables_within n (b ∷ scope) = variables_from b.binder n (λ k. variables_within k scope)

-- whether the one at a number of the reader's row, from an entry on, is a variable
abbrev pub variable_from : Binder → ℕ → (ℕ → Bool) → Bool
variable_from Binder.Itself zero rest = false
variable_from Binder.Itself (suc n) rest = rest n
variable_from (Binder.Component s) n rest = rest n
variable_from Binder.Parameter zero rest = false
variable_from Binder.Parameter (suc n) rest = rest n
variable_from Binder.Variable zero rest = true
variable_from Binder.Variable (suc n) rest = rest n

-- whether the one at this number of the reader's row is a variable
abbrev pub is_variable : ℕ → Scope → Bool
is_variable n [] = false
is_variable n (b ∷ scope) = variable_from b.binder n (λ k. is_variable k scope)

-- what the reader finds, counted as the rules count
abbrev pub counted : Scope → Resolution → Location
counted scope (component n) = Location.component (binders_within n scope)
counted scope (bound n) =
    cond (is_variable n scope) (Location.variable (variables_within n scope)) (Location.parameter (binders_within n scope))
counted scope nowhere = Location.nowhere
