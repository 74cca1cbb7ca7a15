-- Mini-ML: its words, and a line for each operator, the literal and the function.
use Rattle.std.specs.Prelude.{List, [], ◌∷◌, map, Some, codes, Option}
use Rattle.types.specs.Types.{Ty}
use Rattle.cores.specs.Meaning.{Word, Outcome}
use Rattle.cores.specs.Lines.{Pattern, τ, ρ, plain, two, Line, ◌⟶◌, Entry, label, operator, word, line_from, judge, blame}
use Rattle.cores.specs.declared.interface.Operation.{Operation}
use Rattle.cores.specs.declared.interface.Operation.TheVariants.{Literal, Function, Operator}
use Rattle.cores.specs.declared.lines.Position.{Position}

abbrev int : Pattern
int = plain 0

abbrev bool : Pattern
bool = plain 1

abbrev arrow : Pattern → Pattern → Pattern
arrow p q = two 2 p q

abbrev pub ml_entries : List Entry
ml_entries =
    label (codes "int") 0
    ∷ label (codes "bool") 0
    ∷ label (codes "arrow") 2
    ∷ operator (codes "true") ([] ⟶ bool)
    ∷ operator (codes "add") (int ∷ int ∷ [] ⟶ int)
    ∷ operator (codes "choose") (bool ∷ τ ∷ τ ∷ [] ⟶ τ)
    ∷ operator (codes "apply") (arrow τ ρ ∷ τ ∷ [] ⟶ ρ)
    ∷ []

abbrev pub ml_line : Operation → Option Line
ml_line Literal = Some ([] ⟶ int)
ml_line Function = Some (τ ∷ ρ ∷ [] ⟶ arrow τ ρ)
ml_line (Operator n) = line_from 0 ml_entries n

abbrev pub ml_words : List Word
ml_words = map word ml_entries

-- the cause is the position of the first wrong argument
abbrev pub ml_rule : Operation → List Ty → Outcome Position
ml_rule o ts = blame (λ n. record { number = n }) (judge 0 (ml_line o) ts)
