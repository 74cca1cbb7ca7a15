-- How the table names what is asked.
use Rattle.std.specs.Prelude.{ℕ, cond, List, Some, None, codes, Option}
use Rattle.std.specs.Str.{bytes_eq}
use Rattle.cores.specs.Meaning.{Word, lookup}
use Rattle.cores.specs.declared.interface.Kind.{Kind}
use Rattle.cores.specs.declared.interface.Kind.TheVariants.{Label, Operator as Operates}
use Rattle.cores.specs.declared.interface.Found.{Found}
use Rattle.cores.specs.declared.interface.Operation.{Operation}
use Rattle.cores.specs.declared.interface.Operation.TheVariants.{Literal, Function, Operator}

-- a word that is an operator
abbrev pub if_operator : ℕ → Kind → Option Operation
if_operator n (Label parts) = None
if_operator n (Operates arguments) = Some (Operator n)

abbrev pub operator_found : Option Found → Option Operation
operator_found None = None
operator_found (Some f) = if_operator f.number f.kind

-- `literal`, `function`, or an operator by its name
abbrev pub operation_named : List Word → List ℕ → Option Operation
operation_named ws x =
    cond (bytes_eq x (codes "literal")) (Some Literal)
    (cond (bytes_eq x (codes "function")) (Some Function) (operator_found (lookup ws x)))
