-- Layers: a core with words and lines of its own over any other core.
use Rattle.std.specs.Prelude.{ℕ, ◌+◌, cond, List, [], ◌++◌, map, length, Some, codes, decimal, Option, nat_le, nat_lt}
use Rattle.std.specs.Option.{option_map}
use Rattle.types.specs.Types.{Ty}
use Rattle.cores.specs.Answers.{with_cause}
use Rattle.cores.specs.Meaning.{Word, Outcome}
use Rattle.cores.specs.Lines.{Entry, word, line_from, judge, blame}
use Rattle.cores.specs.declared.interface.Operation.{Operation}
use Rattle.cores.specs.declared.interface.Operation.TheVariants.{Literal, Function, Operator}
use Rattle.cores.specs.declared.interface.Refusal.{Refusal}
use Rattle.cores.specs.declared.lines.Position.{Position}
use Rattle.cores.specs.declared.layers.LayerCause.{LayerCause}
use Rattle.cores.specs.declared.layers.LayerCause.TheVariants.{Own, Below}

-- how a layer's cause is shown, where that from below is
abbrev pub cause_shown : {K : Type 0} → (K → Option (List ℕ)) → LayerCause K → Option (List ℕ)
cause_shown shown (Own n) = Some (codes "own:" ++ decimal n)
cause_shown shown (Below c) = option_map (λ s. codes "below:" ++ s) (shown c)

-- a refusal from below, its cause kept whole
abbrev pub above : {K : Type 0} → Refusal K → Refusal (LayerCause K)
above r = with_cause Below r

-- a refusal of an operator of the layer's own
abbrev pub own_cause : {K : Type 0} → Refusal Position → Refusal (LayerCause K)
own_cause r = with_cause (λ (p : Position). Own p.number) r

-- what a layer adds over a core with n words: its entries, unless label numbers would pass 30 bits
abbrev pub own : List Entry → ℕ → List Entry
own es n = cond (nat_le (n + length es) 1073741824) es []

-- the words below, and behind them the layer's own
abbrev pub layer_words : List Entry → List Word → List Word
layer_words es below = below ++ map word (own es (length below))

-- operators from the first own number on are the layer's; all else goes to the core below, whose cause is kept whole
abbrev pub layer_rule : {K : Type 0} → List Entry → ℕ → (Operation → List Ty → Outcome K) → Operation → List Ty → Outcome (LayerCause K)
layer_rule es b below Literal ts = blame Below (below Literal ts)
layer_rule es b below Function ts = blame Below (below Function ts)
layer_rule es b below (Operator n) ts =
    cond (nat_lt n b) (blame Below (below (Operator n) ts)) (blame Own (judge b (line_from b (own es b) n) ts))
