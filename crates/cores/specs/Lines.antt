-- Rules by their lines, as `(τ, ρ) arrow, τ → ρ`: what each argument has to be, and what is given.
use Rattle.std.specs.Prelude.{◌≡◌, ℕ, suc, ◌+◌, ◌<◌, cond, List, [], ◌∷◌, map, length, Some, None, Ok, Err, Option, Result, ◌==◌}
use Rattle.std.specs.Option.{option_map, unwrap_or}
use Rattle.types.specs.Types.{Name, numbered, Ty, leaf, label0, label1, label2, same}
use Rattle.cores.specs.Meaning.{Word, Outcome, gives, refuses}
use Rattle.cores.specs.declared.interface.Kind.TheVariants.{Label, Operator}

-- τ and ρ stand for any types; labels are counted from the first own word of the core
pub data Pattern : Type 0 where
  τ : Pattern
  ρ : Pattern
  plain : ℕ → Pattern
  one : ℕ → Pattern → Pattern
  two : ℕ → Pattern → Pattern → Pattern

pub record Line : Type 0 where
  pub arguments : List Pattern
  pub result : Pattern

infixr 20 ◌⟶◌
abbrev pub ◌⟶◌ : List Pattern → Pattern → Line
ps ⟶ p = record { arguments = ps; result = p }

-- a pattern with types for τ and ρ, where b words stand before the first own one
abbrev pub fill : ℕ → Ty → Ty → Pattern → Ty
fill b t r τ = t
fill b t r ρ = r
fill b t r (plain l) = label0 (b + l)
fill b t r (one l p) = label1 (b + l) (fill b t r p)
fill b t r (two l p q) = label2 (b + l) (fill b t r p) (fill b t r q)

-- the types that τ and ρ are known to stand for
pub record Known : Type 0 where
  pub tau : Option Ty
  pub rho : Option Ty

abbrev pub nothing : Known
nothing = record { tau = None; rho = None }

-- a variable that meets a type stands for it, or stood for the same
abbrev pub settle : Option Ty → Ty → Option Ty
settle None t = Some t
settle (Some u) t = cond (same u t) (Some u) None

-- one test after another
abbrev pub after : {A B : Type 0} → Option A → (A → Option B) → Option B
after None f = None
after (Some x) f = f x

-- what is known once a type has met a pattern, if it fits
abbrev pub fit : ℕ → Pattern → Ty → Known → Option Known
fit b τ t k = option_map (λ u. record { tau = Some u; rho = k.rho }) (settle k.tau t)
fit b ρ t k = option_map (λ u. record { tau = k.tau; rho = Some u }) (settle k.rho t)
fit b (plain l) (leaf x) k = None
fit b (plain l) (label0 m) k = cond (m == b + l) (Some k) None
fit b (plain l) (label1 m t) k = None
fit b (plain l) (label2 m t u) k = None
fit b (one l p) (leaf x) k = None
fit b (one l p) (label0 m) k = None
fit b (one l p) (label1 m t) k = cond (m == b + l) (fit b p t k) None
fit b (one l p) (label2 m t u) k = None
fit b (two l p q) (leaf x) k = None
fit b (two l p q) (label0 m) k = None
fit b (two l p q) (label1 m t) k = None
fit b (two l p q) (label2 m t u) k = cond (m == b + l) (after (fit b p t k) (λ k'. fit b q u k')) None

-- the same, where the n-th argument is told if it does not fit
abbrev pub onward : {A B : Type 0} → ℕ → Option A → (A → Result B ℕ) → Result B ℕ
onward n None f = Err n
onward n (Some x) f = f x

-- the arguments from the n-th on, one by one; the first that does not fit, lacks or is too many is told
abbrev pub meets : ℕ → ℕ → List Pattern → List Ty → Known → Result Known ℕ
meets b n [] [] k = Ok k
meets b n [] (t ∷ ts) k = Err n
meets b n (p ∷ ps) [] k = Err n
meets b n (p ∷ ps) (t ∷ ts) k = onward n (fit b p t k) (λ k'. meets b (suc n) ps ts k')

-- a variable that met nothing; no line that we ship gives one
abbrev pub value : Option Ty → Ty
value k = unwrap_or k (leaf (numbered 0))

-- what a line says of arguments: the type given, or the position of the first wrong argument, from 1
abbrev pub concludes : ℕ → Pattern → Result Known ℕ → Outcome ℕ
concludes b p (Ok k) = gives (fill b (value k.tau) (value k.rho) p)
concludes b p (Err n) = refuses n

-- an operation that has no line takes no arguments at all
abbrev pub judge : ℕ → Option Line → List Ty → Outcome ℕ
judge b None ts = refuses 1
judge b (Some l) ts = concludes b l.result (meets b 1 l.arguments ts nothing)

-- an own word: a label with so many parts, or an operator with its line
pub data Entry : Type 0 where
  label : Name → ℕ → Entry
  operator : Name → Line → Entry

abbrev pub word : Entry → Word
word (label x n) = record { name = x; kind = Label n }
word (operator x l) = record { name = x; kind = Operator (length l.arguments) }

-- the line of the operator of number n, where the entries are numbered from k
abbrev pub line_from : ℕ → List Entry → ℕ → Option Line
line_from k [] n = None
line_from k (label x m ∷ es) n = line_from (suc k) es n
line_from k (operator x l ∷ es) n = cond (n == k) (Some l) (line_from (suc k) es n)

-- the same outcome, with the cause told in another way
abbrev pub blame : {K L : Type 0} → (K → L) → Outcome K → Outcome L
blame f (gives t) = gives t
blame f (refuses c) = refuses (f c)

-- the arguments of a line settle what it gives
abbrev pub Closed : ℕ → Line → Type 0
Closed b l =
    (t r t' r' : Ty) → map (fill b t r) l.arguments ≡ map (fill b t' r') l.arguments →
    fill b t r l.result ≡ fill b t' r' l.result

-- the labels of a pattern are below n, where b words stand before the first own one
abbrev pub Within : ℕ → ℕ → Pattern → Type 0
Within n b τ = Unit {0}
Within n b ρ = Unit {0}
Within n b (plain l) = b + l < n
Within n b (one l p) = (b + l < n) × Within n b p
Within n b (two l p q) = (b + l < n) × Within n b p × Within n b q

abbrev pub AllWithin : ℕ → ℕ → List Pattern → Type 0
AllWithin n b [] = Unit {0}
AllWithin n b (p ∷ ps) = Within n b p × AllWithin n b ps

abbrev pub Inside : ℕ → ℕ → Line → Type 0
Inside n b l = AllWithin n b l.arguments × Within n b l.result

-- what is said of lines, said of an operation's line if it has one, and of the lines of all entries
abbrev pub OnLine : (Line → Type 0) → Option Line → Type 0
OnLine P None = Unit {0}
OnLine P (Some l) = P l

abbrev pub OnEntries : (Line → Type 0) → List Entry → Type 0
OnEntries P [] = Unit {0}
OnEntries P (label x n ∷ es) = OnEntries P es
OnEntries P (operator x l ∷ es) = P l × OnEntries P es
