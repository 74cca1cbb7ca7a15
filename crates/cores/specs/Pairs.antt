-- The pair layer: one label and three operators over any core.
use Rattle.std.specs.Prelude.{List, [], ◌∷◌, codes}
use Rattle.cores.specs.Lines.{Pattern, τ, ρ, two, ◌⟶◌, Entry, label, operator}

abbrev pair : Pattern → Pattern → Pattern
pair p q = two 0 p q

abbrev pub pair_entries : List Entry
pair_entries =
    label (codes "pair") 2
    ∷ operator (codes "mkpair") (τ ∷ ρ ∷ [] ⟶ pair τ ρ)
    ∷ operator (codes "first") (pair τ ρ ∷ [] ⟶ τ)
    ∷ operator (codes "second") (pair τ ρ ∷ [] ⟶ ρ)
    ∷ []
