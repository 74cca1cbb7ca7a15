-- Strengthening: what is known of a path is that its abstract types are the path's own.
use Rattle.types.specs.Types.{Name, ModulePath, dot, named, leaf}
use Rattle.rules.specs.Signatures.{Signature, structure, functor, Components, empty, more, Declaration, abstract, defined, value, nested}
use Rattle.rules.specs.Substitution.{out, on_path}

-- each abstract type, in nested structures too but not inside functors, is defined as that type of the path
abbrev mutual
  pub strengthen : ModulePath → Signature → Signature
  strengthen p (structure c) = structure (strengthen_all (on_path out p) c)
  strengthen p (functor s r) = functor s r

  pub strengthen_all : ModulePath → Components → Components
  strengthen_all p empty = empty
  strengthen_all p (more c x d) = more (strengthen_all p c) x (strengthen_one p x d)

  pub strengthen_one : ModulePath → Name → Declaration → Declaration
  strengthen_one p x abstract = defined (leaf (named p x))
  strengthen_one p x (defined t) = defined t
  strengthen_one p x (value t) = value t
  strengthen_one p x (nested s) = nested (strengthen (dot p x) s)
