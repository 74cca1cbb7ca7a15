-- What a core answers in words: what its rule says of the types that the words spell.
use Rattle.std.specs.Prelude.{◌≡◌, ℕ, cond, ◌&&◌, List, length, drop, Some, None, Ok, Err, Option, Result, nat_le}
use Rattle.types.specs.Types.{Ty, size}
use Rattle.types.specs.Words.{types, spell, whole}
use Rattle.cores.specs.Meaning.{Outcome, gives, refuses}
use Rattle.cores.specs.declared.interface.Operation.{Operation}
use Rattle.cores.specs.declared.interface.Refusal.{Refusal}
use Rattle.cores.specs.declared.interface.Refusal.TheVariants.{Cause, Size, Arguments, Short}

-- the answer to an outcome where there is room for so many words: the cause, else the size, else the room
abbrev pub verdict : {K : Type 0} → Outcome K → ℕ → Result ℕ (Refusal K)
verdict (gives t) room = cond (nat_le (size t) 32) (cond (nat_le (size t) room) (Ok (size t)) (Err Short)) (Err Size)
verdict (refuses c) room = Err (Cause c)

-- what is left in the result slice: the type given, where it is within 32 and has room, in front of what stood there
abbrev pub put : {K : Type 0} → Outcome K → List ℕ → List ℕ
put (gives t) out = cond (nat_le (size t) 32 && nat_le (size t) (length out)) (spell t (drop (size t) out)) out
put (refuses c) out = out

-- words that are no whole types are refused before the rule is asked
abbrev pub reply : {K : Type 0} → (Operation → List Ty → Outcome K) → Operation → List ℕ → ℕ → Result ℕ (Refusal K)
reply rule o args room = cond (whole args) (verdict (rule o (types args)) room) (Err Arguments)

abbrev pub leaves : {K : Type 0} → (Operation → List Ty → Outcome K) → Operation → List ℕ → List ℕ → List ℕ
leaves rule o args out = cond (whole args) (put (rule o (types args)) out) out

-- the number of the question to which a refusal says no: 13, whether the core takes the types, or 16, whether the type is within its limit;
-- arguments that are no types and a short slice belong to no question
abbrev pub question_number : {K : Type 0} → Refusal K → Option ℕ
question_number (Cause c) = Some 13
question_number Size = Some 16
question_number Arguments = None
question_number Short = None

-- the same refusal, its cause told in another way
abbrev pub with_cause : {K L : Type 0} → (K → L) → Refusal K → Refusal L
with_cause f (Cause c) = Cause (f c)
with_cause f Size = Size
with_cause f Arguments = Arguments
with_cause f Short = Short

-- what is asked of a cause, if the refusal has one
abbrev pub ForCause : {K : Type 0} → Refusal K → (K → Type 0) → Type 0
ForCause {K} r P = (c : K) → r ≡ Cause c → P c

-- the same refusal, its cause changed as P says
abbrev pub CauseChanged : {K L : Type 0} → (K → L → Type 0) → Refusal K → Refusal L → Type 0
CauseChanged {K} {L} P (Cause c) r = (l : L) × (r ≡ Cause l) × P c l
CauseChanged P Size r = r ≡ Size
CauseChanged P Arguments r = r ≡ Arguments
CauseChanged P Short r = r ≡ Short
