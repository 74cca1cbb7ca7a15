-- How a line is compared with the words of arguments, item by item, and how what it gives is put together.
use Rattle.std.specs.Prelude.{ℕ, suc, ◌+◌, ◌%◌, cond, ◌&&◌, List, [], ◌∷◌, ◌++◌, length, take, drop, Some, None, Ok, Err, Option, Result, ◌==◌, nat_le}
use Rattle.std.specs.Option.{option_map}
use Rattle.std.specs.List.{flat_map}
use Rattle.std.specs.Str.{bytes_eq}
use Rattle.types.specs.Words.{span, whole}
use Rattle.cores.specs.Lines.{Pattern, τ, ρ, plain, one, two, Line, after}
use Rattle.cores.specs.declared.interface.Refusal.{Refusal}
use Rattle.cores.specs.declared.interface.Refusal.TheVariants.{Cause, Size, Arguments, Short}
use Rattle.cores.specs.declared.lines.Position.{Position}
use Rattle.cores.specs.declared.lines.Item.{Item}
use Rattle.cores.specs.declared.lines.Item.TheVariants.{Arg, End, Label, Tau, Rho}
use Rattle.cores.specs.declared.lines.Line.{Line as Row}
use Rattle.cores.specs.declared.lines.Progress.{Progress}

-- a pattern in front of other items: labels by their words, before their parts
abbrev pub items_of : Pattern → List Item → List Item
items_of τ is = Tau ∷ is
items_of ρ is = Rho ∷ is
items_of (plain l) is = Label (1073741824 + l) ∷ is
items_of (one l p) is = Label (2147483648 + l) ∷ items_of p is
items_of (two l p q) is = Label (3221225472 + l) ∷ items_of p (items_of q is)

-- the arguments from the n-th on, each with its position before it, and the position behind the last
abbrev pub argument_items : ℕ → List Pattern → List Item
argument_items n [] = End n ∷ []
argument_items n (p ∷ ps) = Arg n ∷ items_of p (argument_items (suc n) ps)

-- a line as items: its arguments and its result
pub record Items : Type 0 where
  pub arguments : List Item
  pub result : List Item

abbrev pub itemized : Line → Items
itemized l = record { arguments = argument_items 1 l.arguments; result = items_of l.result [] }

abbrev pub row_items : Row → Items
row_items l = record { arguments = l.arguments.now; result = l.result.now }

-- an own label's word where b words stand before the first own one
abbrev pub placed : ℕ → ℕ → ℕ
placed b w = (b + w) % 4294967296

-- how far the comparison has come: the words left, the words that τ and ρ stand for, and the position reached
pub record Reached : Type 0 where
  pub rest : List ℕ
  pub tau : Option (List ℕ)
  pub rho : Option (List ℕ)
  pub position : ℕ

abbrev pub reached : Progress → Reached
reached p = record { rest = p.rest.now; tau = option_map (λ x. x.now) p.tau; rho = option_map (λ x. x.now) p.rho; position = p.position }

abbrev pub compared : Result Progress Position → Result Reached ℕ
compared (Ok p) = Ok (reached p)
compared (Err n) = Err n.number

abbrev pub start : List ℕ → Reached
start args = record { rest = args; tau = None; rho = None; position = 1 }

-- a variable that meets words stands for them, or stood for the same
abbrev pub settle_words : Option (List ℕ) → List ℕ → Option (List ℕ)
settle_words None ws = Some ws
settle_words (Some vs) ws = cond (bytes_eq vs ws) (Some vs) None

-- the words that a variable stands for once it has met the next type, and the words behind that
abbrev pub bound : Option (List ℕ) → List ℕ → Option (List ℕ × List ℕ)
bound known ws = after (span ws 1) (λ n. option_map (λ v. (v, drop n ws)) (settle_words known (take n ws)))

abbrev pub or_at : {A : Type 0} → ℕ → Option A → Result A ℕ
or_at n None = Err n
or_at n (Some x) = Ok x

-- the words behind one that is the label wanted
abbrev pub behind : ℕ → List ℕ → Option (List ℕ)
behind w [] = None
behind w (x ∷ xs) = cond (x == w) (Some xs) None

abbrev pub at_argument : ℕ → List ℕ → Reached → Result Reached ℕ
at_argument n [] s = Err n
at_argument n (x ∷ xs) s = Ok (record { rest = s.rest; tau = s.tau; rho = s.rho; position = n })

abbrev pub at_end : ℕ → List ℕ → Reached → Result Reached ℕ
at_end n [] s = Ok s
at_end n (x ∷ xs) s = Err n

-- one item
abbrev pub step : ℕ → Item → Reached → Result Reached ℕ
step b (Arg n) s = at_argument n s.rest s
step b (End n) s = at_end n s.rest s
step b (Label w) s = or_at s.position (option_map (λ r. record { rest = r; tau = s.tau; rho = s.rho; position = s.position }) (behind (placed b w) s.rest))
step b Tau s = or_at s.position (option_map (λ r. record { rest = r.1; tau = Some r.0; rho = s.rho; position = s.position }) (bound s.tau s.rest))
step b Rho s = or_at s.position (option_map (λ r. record { rest = r.1; tau = s.tau; rho = Some r.0; position = s.position }) (bound s.rho s.rest))

-- the first refusal ends it
abbrev pub proceed : {A B : Type 0} → Result A ℕ → (A → Result B ℕ) → Result B ℕ
proceed (Ok s) f = f s
proceed (Err n) f = Err n

abbrev pub run : ℕ → List Item → Reached → Result Reached ℕ
run b [] s = Ok s
run b (i ∷ is) s = proceed (step b i s) (λ s'. run b is s')

-- the words of a variable; one that met nothing is 0
abbrev pub words_of : Option (List ℕ) → List ℕ
words_of None = 0 ∷ []
words_of (Some ws) = ws

-- the words that an item of a result stands for
abbrev pub item_words : ℕ → Reached → Item → List ℕ
item_words b s (Arg n) = []
item_words b s (End n) = []
item_words b s (Label w) = placed b w ∷ []
item_words b s Tau = words_of s.tau
item_words b s Rho = words_of s.rho

abbrev pub result_words : ℕ → Reached → List Item → List ℕ
result_words b s is = flat_map (item_words b s) is

-- the words that a line gives for whole arguments, or the position of the first wrong one
abbrev pub worked : ℕ → Option Items → List ℕ → Result (List ℕ) ℕ
worked b None args = Err 1
worked b (Some l) args = proceed (run b l.arguments (start args)) (λ s. Ok (result_words b s l.result))

abbrev pub line_verdict : Result (List ℕ) ℕ → ℕ → Result ℕ (Refusal Position)
line_verdict (Ok ws) room = cond (nat_le (length ws) 32) (cond (nat_le (length ws) room) (Ok (length ws)) (Err Short)) (Err Size)
line_verdict (Err n) room = Err (Cause (record { number = n }))

abbrev pub line_put : Result (List ℕ) ℕ → List ℕ → List ℕ
line_put (Ok ws) out = cond (nat_le (length ws) 32 && nat_le (length ws) (length out)) (ws ++ drop (length ws) out) out
line_put (Err n) out = out

-- what is answered, and what is left in the result slice
abbrev pub line_reply : ℕ → Option Items → List ℕ → ℕ → Result ℕ (Refusal Position)
line_reply b l args room = cond (whole args) (line_verdict (worked b l args) room) (Err Arguments)

abbrev pub line_leaves : ℕ → Option Items → List ℕ → List ℕ → List ℕ
line_leaves b l args out = cond (whole args) (line_put (worked b l args) out) out
