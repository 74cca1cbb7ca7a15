-- Reading: a stack of the symbols that are still to be read, and the tokens of a text, one after the other.
use Rattle.std.specs.Prelude.{◌≡◌, ℕ, Bool, cond, List, [], ◌∷◌, ◌++◌, Some, None, Option, ◌==◌}
use Rattle.tokens.specs.Integers.{decimal}
use Rattle.reader.specs.declared.class.Class.{Class}
use Rattle.reader.specs.declared.symbol.Symbol.{Symbol}
use Rattle.reader.specs.Tokens.{Token, mark, keyword, lower, upper, integer, label0, label1, label2, operator0, operator1, operator2, operator3, text_end, class_of}
use Rattle.reader.specs.Grammar.{expand}
use Rattle.reader.specs.Codes.{symbol_number}
use Rattle.reader.specs.Streams.{Stream, finish, broken, next, tokens_in}
use Rattle.reader.specs.Syntax.{UnitTree, RankTree, SignatureTree}
use Rattle.reader.specs.Print.{print_unit, print_signature_text}

-- the rank of a unit that writes none
abbrev pub default_rank : ℕ
default_rank = 100

-- what reading comes to: the text is read, with the rank that it has, or it is refused at a place
pub data Outcome : Type 0 where
  accepted : ℕ → Outcome
  refused : ℕ → Outcome

-- whether a symbol is the value of a rank
abbrev pub is_rank_value : Symbol → Bool
is_rank_value s = symbol_number s == symbol_number Symbol.RankValue

-- the rank known after a token that was read for a symbol
abbrev pub learn : Symbol → Token → ℕ → ℕ
learn s (mark m) rank = rank
learn s (keyword k) rank = rank
learn s (lower x) rank = rank
learn s (upper x) rank = rank
learn s (integer ds) rank = cond (is_rank_value s) (decimal ds) rank
learn s (label0 l) rank = rank
learn s (label1 l) rank = rank
learn s (label2 l) rank = rank
learn s (operator0 o) rank = rank
learn s (operator1 o) rank = rank
learn s (operator2 o) rank = rank
learn s (operator3 o) rank = rank
learn s text_end rank = rank

-- go on with what follows, or refuse at a place
abbrev pub onward : Option (List Symbol) → ℕ → (List Symbol → Outcome) → Outcome
onward None place go = refused place
onward (Some after) place go = go after

-- the text's end is read where the symbol takes it
abbrev pub ending : Option (List Symbol) → ℕ → ℕ → Outcome
ending None place rank = refused place
ending (Some after) place rank = accepted rank

-- Reading with a stack, the top first: the top symbol takes the next token, and what has to follow takes its place.
-- The last symbol takes the text's end, so that an empty stack takes nothing more.
abbrev pub reads : List Symbol → Stream → ℕ → Outcome
reads [] (finish p) rank = refused p
reads [] (broken p) rank = refused p
reads [] (next k p s) rank = refused p
reads (t ∷ stack) (finish p) rank = ending (expand t Class.TextEnd) p rank
reads (t ∷ stack) (broken p) rank = refused p
reads (t ∷ stack) (next k p s) rank = onward (expand t (class_of k)) p (λ after. reads (after ++ stack) s (learn t k rank))

-- what is to be read of a unit, and of a signature alone
abbrev pub unit_start : List Symbol
unit_start = Symbol.«Unit» ∷ []

abbrev pub signature_start : List Symbol
signature_start = Symbol.Signature ∷ Symbol.Token Class.TextEnd ∷ []

-- the rank of a unit: the one written, or the default
abbrev pub rank_of : Option RankTree → ℕ
rank_of None = default_rank
rank_of (Some r) = decimal r.digits

-- one list of tokens begins another
abbrev pub Begins : List Token → List Token → Type 0
Begins front whole = (rest : List Token) × (front ++ rest ≡ whole)

-- behind these tokens of a stream stands a token, or none, at a place
abbrev pub StandsAt : Stream → List Token → Option Token → ℕ → Type 0
StandsAt (finish p) before bad place = (before ≡ []) × (bad ≡ Some text_end) × (place ≡ p)
StandsAt (broken p) before bad place = (before ≡ []) × (bad ≡ None) × (place ≡ p)
StandsAt (next k p s) [] bad place = (bad ≡ Some k) × (place ≡ p)
StandsAt (next k p s) (b ∷ before) bad place = (b ≡ k) × StandsAt s before bad place

-- no text goes on with this token behind those before it; what is no token goes on with none
abbrev pub NeverGoesOn : {T : Type 0} → (T → List Token) → List Token → Option Token → Type 0
NeverGoesOn print before None = Unit {0}
NeverGoesOn {T} print before (Some k) = (t : T) → Begins (before ++ k ∷ []) (print t) → ⊥

-- the first token, or place without one, with which no text goes on: some text begins with the tokens before it, none with it too
pub record FirstRefused {T : Type 0} (print : T → List Token) (s : Stream) (place : ℕ) : Type 0 where
  pub before : List Token
  pub bad : Option Token
  pub stands : StandsAt s before bad place
  pub goes_on : (t : T) × Begins before (print t)
  pub stops : NeverGoesOn print before bad

-- a stream reads as a unit exactly when its tokens are the print of one, and then with that unit's rank; else it is refused
-- at the first token with which no unit goes on
abbrev pub UnitOutcome : Stream → Outcome → Type 0
UnitOutcome s (accepted rank) = (u : UnitTree) × (tokens_in s ≡ Some (print_unit u)) × (rank ≡ rank_of u.rank)
UnitOutcome s (refused place) = FirstRefused print_unit s place

-- the same of a signature alone
abbrev pub SignatureOutcome : Stream → Outcome → Type 0
SignatureOutcome s (accepted rank) = (t : SignatureTree) × (tokens_in s ≡ Some (print_signature_text t))
SignatureOutcome s (refused place) = FirstRefused print_signature_text s place

-- reading a unit is what the grammar says
abbrev pub UnitsAreRead : Type 0
UnitsAreRead = (s : Stream) → UnitOutcome s (reads unit_start s default_rank)

abbrev pub SignaturesAreRead : Type 0
SignaturesAreRead = (s : Stream) → SignatureOutcome s (reads signature_start s default_rank)

-- a list of tokens prints from at most one unit, and from at most one signature
abbrev pub OneTree : Type 0
OneTree =
    ((u v : UnitTree) → print_unit u ≡ print_unit v → u ≡ v)
    × ((u v : SignatureTree) → print_signature_text u ≡ print_signature_text v → u ≡ v)

-- every tree's print is read back: a stream with these tokens is accepted, with the rank that is written there
abbrev pub PrintsAreRead : Type 0
PrintsAreRead =
    ((s : Stream) (u : UnitTree) → tokens_in s ≡ Some (print_unit u) → reads unit_start s default_rank ≡ accepted (rank_of u.rank))
    × ((s : Stream) (t : SignatureTree) → tokens_in s ≡ Some (print_signature_text t) →
    (rank : ℕ) × (reads signature_start s default_rank ≡ accepted rank))
