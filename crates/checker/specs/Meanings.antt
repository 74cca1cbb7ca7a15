-- What numbers mean: a type for each number.
use Rattle.std.specs.Prelude.{ℕ, cond, ◌==◌}
use Rattle.types.specs.Types.{named, numbered, Ty, leaf, label0, label1, label2}

-- a type for each number
abbrev pub Meaning : Type 0
Meaning = ℕ → Ty

-- the abstract type of a number
abbrev pub numbered_type : ℕ → Ty
numbered_type n = leaf (numbered n)

-- each number means itself
abbrev pub itself : Meaning
itself n = numbered_type n

-- one number gets a new meaning
abbrev pub bind : ℕ → Ty → Meaning → Meaning
bind n t σ m = cond (m == n) t (σ m)

-- a type with the meanings of its numbers put in
abbrev pub meant : Meaning → Ty → Ty
meant σ (leaf (numbered n)) = σ n
meant σ (leaf (named p x)) = leaf (named p x)
meant σ (label0 l) = label0 l
meant σ (label1 l t) = label1 l (meant σ t)
meant σ (label2 l t u) = label2 l (meant σ t) (meant σ u)
