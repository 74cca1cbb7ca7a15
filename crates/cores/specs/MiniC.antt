-- Mini-C: its words, and a line for each operator, the literal and the function.
use Rattle.std.specs.Prelude.{ℕ, suc, Bool, false, cond, List, [], ◌∷◌, map, Some, None, codes, Option, ◌==◌}
use Rattle.types.specs.Types.{Ty}
use Rattle.cores.specs.Answers.{with_cause}
use Rattle.cores.specs.Meaning.{Word, Outcome}
use Rattle.cores.specs.Lines.{Pattern, τ, ρ, plain, one, two, Line, ◌⟶◌, Entry, label, operator, word, line_from, judge, blame}
use Rattle.cores.specs.declared.interface.Operation.{Operation}
use Rattle.cores.specs.declared.interface.Operation.TheVariants.{Literal, Function, Operator}
use Rattle.cores.specs.declared.interface.Refusal.{Refusal}
use Rattle.cores.specs.declared.lines.Position.{Position}
use Rattle.cores.specs.declared.mini_c.CCause.{CCause}

abbrev int : Pattern
int = plain 0

abbrev void : Pattern
void = plain 1

abbrev ptr : Pattern → Pattern
ptr p = one 2 p

abbrev func : Pattern → Pattern → Pattern
func p q = two 3 p q

abbrev pub c_entries : List Entry
c_entries =
    label (codes "int") 0
    ∷ label (codes "void") 0
    ∷ label (codes "ptr") 1
    ∷ label (codes "func") 2
    ∷ operator (codes "plus") (int ∷ int ∷ [] ⟶ int)
    ∷ operator (codes "addr") (τ ∷ [] ⟶ ptr τ)
    ∷ operator (codes "deref") (ptr τ ∷ [] ⟶ τ)
    ∷ operator (codes "store") (ptr τ ∷ τ ∷ [] ⟶ void)
    ∷ operator (codes "call") (func τ ρ ∷ τ ∷ [] ⟶ ρ)
    ∷ []

abbrev pub c_line : Operation → Option Line
c_line Literal = Some ([] ⟶ int)
c_line Function = Some (τ ∷ ρ ∷ [] ⟶ func τ ρ)
c_line (Operator n) = line_from 0 c_entries n

abbrev pub c_words : List Word
c_words = map word c_entries

-- whether a pattern writes `ptr`
abbrev pub writes_ptr : Pattern → Bool
writes_ptr τ = false
writes_ptr ρ = false
writes_ptr (plain l) = false
writes_ptr (one l p) = l == 2
writes_ptr (two l p q) = false

-- whether the patterns, numbered from k, write `ptr` at number n
abbrev pub pointer_from : ℕ → List Pattern → ℕ → Bool
pointer_from k [] n = false
pointer_from k (p ∷ ps) n = cond (n == k) (writes_ptr p) (pointer_from (suc k) ps n)

abbrev pub pointer_at : Option Line → ℕ → Bool
pointer_at None n = false
pointer_at (Some l) n = pointer_from 1 l.arguments n

-- the cause is the position of the first wrong argument, and whether the line writes `ptr` there
abbrev pub c_rule : Operation → List Ty → Outcome CCause
c_rule o ts = blame (λ n. record { position = n; pointer = pointer_at (c_line o) n }) (judge 0 (c_line o) ts)

-- a refusal with the pointer mark
abbrev pub c_refusal : Operation → Refusal Position → Refusal CCause
c_refusal o r = with_cause (λ (p : Position). record { position = p.number; pointer = pointer_at (c_line o) p.number }) r
