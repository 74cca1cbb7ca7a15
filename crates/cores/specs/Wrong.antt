-- A wrong core: mini-ML, but a function that returns a function is refused.
use Rattle.std.specs.Prelude.{Bool, false, cond, List, [], ◌∷◌, length, ◌==◌}
use Rattle.types.specs.Types.{Ty, leaf, label0, label1, label2}
use Rattle.cores.specs.Meaning.{Outcome, refuses, Stable, StablePaths}
use Rattle.cores.specs.MiniMl.{ml_rule, ml_words}
use Rattle.cores.specs.declared.interface.Operation.{Operation}
use Rattle.cores.specs.declared.interface.Operation.TheVariants.{Literal, Function, Operator}
use Rattle.cores.specs.declared.lines.Position.{Position}

-- whether a type is an arrow
abbrev pub is_arrow : Ty → Bool
is_arrow (leaf x) = false
is_arrow (label0 l) = false
is_arrow (label1 l t) = false
is_arrow (label2 l t u) = l == 2

-- whether a function is asked for whose body is a function
abbrev pub returns_function : Operation → List Ty → Bool
returns_function Literal ts = false
returns_function Function [] = false
returns_function Function (t ∷ []) = false
returns_function Function (t ∷ u ∷ ts) = is_arrow u
returns_function (Operator n) ts = false

abbrev pub wrong_rule : Operation → List Ty → Outcome Position
wrong_rule o ts = cond (returns_function o ts) (refuses (record { number = 2 })) (ml_rule o ts)

-- it does not keep the law, not even for paths alone
abbrev pub WrongBreaksLaw : Type 0
WrongBreaksLaw = (Stable (length ml_words) wrong_rule → ⊥) × (StablePaths wrong_rule → ⊥)
