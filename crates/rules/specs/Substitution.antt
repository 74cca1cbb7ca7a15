-- Substitution: heads of paths replaced by module paths. Renaming, reading a signature's own components as those of a path,
-- and putting an argument for a parameter are all substitutions.
use Rattle.std.specs.Prelude.{zero, suc}
use Rattle.types.specs.Types.{Head, unit, binder, ModulePath, at, dot, named, numbered, Ty, leaf, label0, label1, label2}
use Rattle.rules.specs.Signatures.{Signature, structure, functor, Components, empty, more, Declaration, abstract, defined, value, nested}

-- a module path for each head
abbrev pub Substitution : Type 0
Substitution = Head → ModulePath

-- a function on heads under one more binder: a for the new one, f for the others
abbrev pub under : {A : Type 0} → A → (Head → A) → Head → A
under a f (unit u) = f (unit u)
under a f (binder zero) = a
under a f (binder (suc n)) = f (binder n)

-- the same head, seen from under one more binder
abbrev pub outward : Head → Head
outward (unit u) = unit u
outward (binder n) = binder (suc n)

-- the innermost binder
abbrev pub innermost : ModulePath
innermost = at (binder zero)

-- a path with its head replaced
abbrev pub on_path : Substitution → ModulePath → ModulePath
on_path θ (at h) = θ h
on_path θ (dot p x) = dot (on_path θ p) x

-- the renaming into the scope of one more binder
abbrev pub out : Substitution
out h = at (outward h)

-- a substitution under one more binder, which stays itself
abbrev pub lift : Substitution → Substitution
lift θ = under innermost (λ h. on_path out (θ h))

-- the innermost binder read as a path
abbrev pub reading : ModulePath → Substitution
reading p = under p at

-- a type with the heads of its paths replaced
abbrev pub on_type : Substitution → Ty → Ty
on_type θ (leaf (named p x)) = leaf (named (on_path θ p) x)
on_type θ (leaf (numbered n)) = leaf (numbered n)
on_type θ (label0 l) = label0 l
on_type θ (label1 l t) = label1 l (on_type θ t)
on_type θ (label2 l t u) = label2 l (on_type θ t) (on_type θ u)

-- a signature with the heads of its paths replaced
abbrev mutual
  pub on_signature : Substitution → Signature → Signature
  on_signature θ (structure c) = structure (on_components (lift θ) c)
  on_signature θ (functor s r) = functor (on_signature θ s) (on_signature (lift θ) r)

  pub on_components : Substitution → Components → Components
  on_components θ empty = empty
  on_components θ (more c x d) = more (on_components θ c) x (on_declaration θ d)

  pub on_declaration : Substitution → Declaration → Declaration
  on_declaration θ abstract = abstract
  on_declaration θ (defined t) = defined (on_type θ t)
  on_declaration θ (value t) = value (on_type θ t)
  on_declaration θ (nested s) = nested (on_signature θ s)
