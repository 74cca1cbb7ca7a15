-- What the rules of the shipped cores obey, in the words of the subject.
use Rattle.std.specs.Prelude.{◌≡◌, ℕ, suc, ◌<◌, ◌≤◌, true, ◌⊎◌, ◌↔◌, List, ◌++◌, map, length, get_or, take, Some, None, Option, ◌≢◌}
use Rattle.types.specs.Types.{Name, Ty}
use Rattle.cores.specs.Meaning.{Word, Absent, Distinct, lookup, Outcome, gives, refuses}
use Rattle.cores.specs.Lines.{Line, Entry, fill, line_from}
use Rattle.cores.specs.MiniMl.{ml_words}
use Rattle.cores.specs.MiniC.{c_words, c_line, c_rule, pointer_at}
use Rattle.cores.specs.Layers.{own, layer_rule, layer_words}
use Rattle.cores.specs.Pairs.{pair_entries}
use Rattle.cores.specs.declared.interface.Operation.{Operation}
use Rattle.cores.specs.declared.interface.Operation.TheVariants.{Operator}
use Rattle.cores.specs.declared.mini_c.CCause.{CCause}
use Rattle.cores.specs.declared.layers.LayerCause.{LayerCause}
use Rattle.cores.specs.declared.layers.LayerCause.TheVariants.{Own, Below}

-- some types for τ and ρ make the arguments, and the type given, what the line writes
abbrev pub Accepts : ℕ → Option Line → List Ty → Ty → Type 0
Accepts b None ts u = ⊥
Accepts b (Some l) ts u = (t : Ty) × (r : Ty) × (ts ≡ map (fill b t r) l.arguments) × (u ≡ fill b t r l.result)

-- a rule gives a type exactly where the operation's line does
abbrev pub AsWritten : {K : Type 0} → ℕ → (Operation → Option Line) → (Operation → List Ty → Outcome K) → Type 0
AsWritten b line rule = (o : Operation) (ts : List Ty) (t : Ty) → rule o ts ≡ gives t ↔ Accepts b (line o) ts t

-- some accepted list of arguments begins with these
abbrev pub GoesOn : {K : Type 0} → (List Ty → Outcome K) → List Ty → Type 0
GoesOn asked ts = (rest : List Ty) × (t : Ty) × (asked (ts ++ rest) ≡ gives t)

-- no list of arguments is accepted at all
abbrev pub TakesNone : {K : Type 0} → (List Ty → Outcome K) → Type 0
TakesNone asked = (ts : List Ty) (t : Ty) → asked ts ≢ gives t

-- Position n, from 1, is that of the first argument with which no accepted list begins, or of the first that lacks:
-- an accepted list begins with the arguments before it, and none with these and the n-th.
-- An operation that takes no list is refused at its first argument.
pub record FirstWrong {K : Type 0} (asked : List Ty → Outcome K) (ts : List Ty) (n : ℕ) : Type 0 where
  pub fine : ℕ
  pub next : n ≡ suc fine
  pub within : fine ≤ length ts
  pub before : GoesOn asked (take fine ts) ⊎ ((fine ≡ 0) × TakesNone asked)
  pub at : fine < length ts → GoesOn asked (take (suc fine) ts) → ⊥

-- every refusal tells that position
abbrev pub FirstRefused : {K : Type 0} → (K → ℕ) → (Operation → List Ty → Outcome K) → Type 0
FirstRefused {K} position rule = (o : Operation) (ts : List Ty) (c : K) → rule o ts ≡ refuses c → FirstWrong (rule o) ts (position c)

-- the position that a layer's cause tells, where that of a cause from below is known
abbrev pub cause_position : {K : Type 0} → (K → ℕ) → LayerCause K → ℕ
cause_position position (Own n) = n
cause_position position (Below c) = position c

-- a layer gives what its own lines write, for its own operators
abbrev pub OwnAsWritten : {K : Type 0} → List Entry → ℕ → (Operation → List Ty → Outcome K) → Type 0
OwnAsWritten es b below =
    (n : ℕ) (ts : List Ty) (t : Ty) → b ≤ n → layer_rule es b below (Operator n) ts ≡ gives t ↔ Accepts b (line_from b (own es b) n) ts t

-- a cause that is not the layer's own is the one from below, whole
abbrev pub BelowKept : {K : Type 0} → List Entry → ℕ → (Operation → List Ty → Outcome K) → Type 0
BelowKept {K} es b below =
    (o : Operation) (ts : List Ty) (c : K) → layer_rule es b below o ts ≡ refuses (Below c) → below o ts ≡ refuses c

-- an own position is that of the first wrong argument
abbrev pub OwnFirstRefused : {K : Type 0} → List Entry → ℕ → (Operation → List Ty → Outcome K) → Type 0
OwnFirstRefused es b below =
    (o : Operation) (ts : List Ty) (n : ℕ) → layer_rule es b below o ts ≡ refuses (Own n) → FirstWrong (layer_rule es b below o) ts n

-- where each cause from below tells the first wrong argument, each cause of the layer does
abbrev pub FirstRefusedAbove : {K : Type 0} → List Entry → ℕ → (Operation → List Ty → Outcome K) → Type 0
FirstRefusedAbove {K} es b below =
    (position : K → ℕ) → FirstRefused position below → FirstRefused (cause_position position) (layer_rule es b below)

-- the mark of mini-C says whether the operation's line writes `ptr` at the refused argument;
-- it is so at the first argument of `deref`, number 6, and of `store`, number 7, and nowhere else
abbrev pub MarkSaysPtr : Type 0
MarkSaysPtr =
    (o : Operation) (ts : List Ty) (c : CCause) → c_rule o ts ≡ refuses c →
    (c.pointer ≡ pointer_at (c_line o) c.position)
    × (c.pointer ≡ true ↔ ((c.position ≡ 1) × ((o ≡ Operator 6) ⊎ (o ≡ Operator 7))))

-- no word occurs twice in the stacks that we ship; pairs over pairs would repeat theirs
abbrev pub ShippedDistinct : Type 0
ShippedDistinct =
    Distinct ml_words × Distinct c_words × Distinct (layer_words pair_entries ml_words) × Distinct (layer_words pair_entries c_words)
    × (Distinct (layer_words pair_entries (layer_words pair_entries ml_words)) → ⊥)

-- where no word occurs twice each word is found by its name, with its number and kind
abbrev pub FindsEach : List Word → Type 0
FindsEach ws =
    Distinct ws → (n : ℕ) (d : Word) → n < length ws →
    lookup ws (get_or ws n d).name ≡ Some (record { number = n; kind = (get_or ws n d).kind })

-- a name is not found exactly where no word has it
abbrev pub FindsNoOther : List Word → Type 0
FindsNoOther ws = (x : Name) → lookup ws x ≡ None ↔ Absent x ws
