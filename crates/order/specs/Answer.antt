-- What arranging answers.
use Rattle.std.specs.Prelude.{◌≡◌, ℕ, ◌<◌, true, cond, List, length, Some, None, Ok, Err, Option, Result, nat_lt, slice_index}
use Rattle.order.specs.declared.Order.{Order}
use Rattle.order.specs.declared.Fault.{Fault}
use Rattle.order.specs.declared.Fault.TheVariants.{TooMany, Missing, Cycle}
use Rattle.order.specs.Units.{Units}
use Rattle.order.specs.Picking.{load_order}
use Rattle.order.specs.Reaching.{missing, cycle, Reaches}
use Rattle.order.specs.Law.{LoadOrder, Least, Complete, Acyclic, LeastNamed}

-- the number of the question that is answered with no: 10 asks for missing units, 11 for units that reach themselves
abbrev pub question : Fault → Option ℕ
question TooMany = None
question (Missing i) = Some 10
question (Cycle i) = Some 11

-- the fault of the unit told, if there is one, else what comes next
abbrev pub unless : {T : Type 0} → Option ℕ → (ℕ → Fault) → Result T Fault → Result T Fault
unless None fault more = more
unless (Some i) fault more = Err (fault i)

-- more than 16 units are refused; then missing units are asked before cycles
abbrev pub arranged : Units → Result Order Fault
arranged u =
    cond (nat_lt 16 u.count) (Err TooMany)
    (unless (missing u) Missing
    (unless (cycle u) Cycle
    (Ok (load_order u))))

-- an order of n units has n places below n
abbrev pub Fits : ℕ → Result Order Fault → Type 0
Fits n (Ok ps) = (length ps ≡ n) × ((k : ℕ) → k < n → slice_index ps k < n)
Fits n (Err fault) = Unit {0}

-- what the answer means, case by case
abbrev pub Means : Units → Result Order Fault → Type 0
Means u (Ok ps) = Complete u × Acyclic u × LoadOrder u ps × Least u ps
Means u (Err TooMany) = 16 < u.count
Means u (Err (Missing i)) = LeastNamed u (λ j. u.lacks j ≡ true) i × ((ps : List ℕ) → LoadOrder u ps → ⊥)
Means u (Err (Cycle i)) = Complete u × LeastNamed u (λ j. Reaches u j j) i × ((ps : List ℕ) → LoadOrder u ps → ⊥)
