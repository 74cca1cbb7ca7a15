-- The lines of mini-ML and mini-C: their arguments settle what they give, their labels are their own; so both keep the law.
use Rattle.std.specs.Prelude.{◌≡◌, ℕ, ◌≤◌, Bool, true, false, cond, List, length, Ok, Err, Option, Result, nat_le, refl}
use Rattle.std.proofs.Common.{ap, ◌∙◌, arith}
use Rattle.std.specs.Option.{option_map}
use Rattle.types.specs.Types.{replace_opaque, size}
use Rattle.types.specs.Words.{whole, types}
use Rattle.cores.specs.Answers.{verdict, reply}
use Rattle.cores.specs.Steps.{Items, itemized, line_reply}
use Rattle.cores.specs.MiniC.{c_entries, c_line, c_rule, c_words, c_refusal, pointer_at}
use Rattle.cores.specs.declared.interface.Refusal.{Refusal}
use Rattle.cores.specs.declared.interface.Refusal.TheVariants.{Size, Arguments, Short}
use Rattle.cores.specs.declared.lines.Position.{Position}
use Rattle.cores.specs.declared.mini_c.CCause.{CCause}
use Rattle.cores.specs.Judging.{line_reply_lem}
use Rattle.cores.specs.Meaning.{Outcome, gives, refuses, Stable}
use Rattle.cores.specs.Lines.{Closed, Inside, OnLine, judge, blame}
use Rattle.cores.specs.MiniMl.{ml_entries, ml_line, ml_rule, ml_words}
use Rattle.cores.specs.declared.interface.Operation.{Operation}
use Rattle.cores.specs.declared.interface.Operation.TheVariants.{Literal, Function, Operator}
use Rattle.cores.specs.Rules.{line_from_on, judge_stable, blame_gives, gives_blame}

pub ml_closed : (o : Operation) → OnLine (Closed 0) (ml_line o)
ml_closed Literal = λ t r t' r' e. refl
ml_closed Function = λ t r t' r' e. cc
ml_closed (Operator n) =
    line_from_on (Closed 0) 0 ml_entries n ((λ t r t' r' e. refl), ((λ t r t' r' e. refl), ((λ t r t' r' e. cc), ((λ t r t' r' e. cc), tt))))

ml_inside : (n : ℕ) → 7 ≤ n → (o : Operation) → OnLine (Inside n 0) (ml_line o)
ml_inside n h Literal = omega arith
ml_inside n h Function = omega arith
ml_inside n h (Operator m) = line_from_on (Inside n 0) 0 ml_entries m (omega arith)

pub ml_fits : (o : Operation) → OnLine (Inside 1073741824 0) (ml_line o)
ml_fits = ml_inside 1073741824 (omega arith)

pub ml_stable : Stable (length ml_words) ml_rule
ml_stable θ o ts t e =
    gives_blame _ _ (replace_opaque 7 θ t)
    (judge_stable 7 0 (ml_line o) (ml_closed o) (ml_inside 7 (omega arith) o) θ ts t (blame_gives _ _ t e))

pub c_closed : (o : Operation) → OnLine (Closed 0) (c_line o)
c_closed Literal = λ t r t' r' e. refl
c_closed Function = λ t r t' r' e. cc
c_closed (Operator n) =
    line_from_on (Closed 0) 0 c_entries n
    ((λ t r t' r' e. refl), ((λ t r t' r' e. cc), ((λ t r t' r' e. cc), ((λ t r t' r' e. refl), ((λ t r t' r' e. cc), tt)))))

c_inside : (n : ℕ) → 9 ≤ n → (o : Operation) → OnLine (Inside n 0) (c_line o)
c_inside n h Literal = omega arith
c_inside n h Function = omega arith
c_inside n h (Operator m) = line_from_on (Inside n 0) 0 c_entries m (omega arith)

pub c_fits : (o : Operation) → OnLine (Inside 1073741824 0) (c_line o)
c_fits = c_inside 1073741824 (omega arith)

pub c_stable : Stable (length c_words) c_rule
c_stable θ o ts t e =
    gives_blame _ _ (replace_opaque 9 θ t)
    (judge_stable 9 0 (c_line o) (c_closed o) (c_inside 9 (omega arith) o) θ ts t (blame_gives _ _ t e))

-- the answer of a line with the pointer mark
abbrev pub c_outcome : Operation → Result ℕ (Refusal Position) → Result ℕ (Refusal CCause)
c_outcome o (Ok n) = Ok n
c_outcome o (Err r) = Err (c_refusal o r)

c_verdict : (o : Operation) (w : Bool) (c : Outcome ℕ) (room : ℕ) →
    c_outcome o (cond w (verdict (blame (λ n. let p : Position = record { number = n } in p) c) room) (Err Arguments))
    ≡ cond w (verdict (blame (λ n. let p : CCause = record { position = n; pointer = pointer_at (c_line o) n } in p) c) room) (Err Arguments)
c_verdict o false c room = refl
c_verdict o true (refuses n) room = refl
c_verdict o true (gives t) room = sized (nat_le (size t) 32) (nat_le (size t) room)
  where
    sized : (p q : Bool) → c_outcome o (cond p (cond q (Ok (size t)) (Err Short)) (Err Size)) ≡ cond p (cond q (Ok (size t)) (Err Short)) (Err Size)
    sized true true = refl
    sized true false = refl
    sized false q = refl

pub c_reply : (o : Operation) (args : List ℕ) (room : ℕ) (r : Result ℕ (Refusal Position)) (l : Option Items) →
    r ≡ line_reply 0 l args room → l ≡ option_map (λ l. itemized l) (c_line o) → c_outcome o r ≡ reply c_rule o args room
c_reply o args room r l e f =
    ap (c_outcome o) (e ∙ ap (λ (i : Option Items). line_reply 0 i args room) f ∙ line_reply_lem 0 (c_line o) args room (c_fits o))
    ∙ c_verdict o (whole args) (judge 0 (c_line o) (types args)) room
