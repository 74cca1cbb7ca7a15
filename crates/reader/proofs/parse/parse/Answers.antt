use Rattle.std.proofs.Common.{◌≡◌, ℕ, ◌≤◌, true, List, [], ◌++◌, length, Option, None, Some, Ok, Err, sym, refl, ap, ◌∙◌, rules, arith, length-append}
use borrow.Author.Tests.{tests}
use Rattle.std.specs.Option.{MatchOption, IsSomeAnd, ok_or}
use Rattle.std.proofs.lemmas.Result.{err_from_is_err_and}
use Rattle.tokens.proofs.Walk.{advance}
use Rattle.tokens.proofs.Turns.{Turn, turn, turn_fault, turn_end}
use Rattle.tokens.specs.Lexer.{view, next_token, at_end}
use Rattle.tokens.specs.declared.lexer.Tokens.{Tokens}
use Rattle.reader.specs.declared.fault.ReadFault.TheVariants.{Syntax}
use Rattle.reader.specs.declared.parse.Start.{Start}
use Rattle.reader.specs.declared.symbol.Symbol.{Symbol}
use Rattle.reader.specs.Parsing.{start_of, outcome}
use Rattle.reader.specs.Reading.{ending}
use Rattle.reader.specs.Stacks.{Stacked}
use Rattle.reader.proofs.Checks.{sealed}
use Rattle.reader.proofs.Turns.{begin, deep, found_proper, next_turn, refuses, no_token_lem, at_the_end}
use Rattle.reader.proofs.parse.parse.Given as given
use Rattle.reader.proofs.parse.parse.Goals as goal
use Rattle.reader.proofs.parse.parse.Goals.{In_ok-found, In-None}

start_sealed : (s : Start) → sealed (start_of s) ≡ true
start_sealed Start.«Unit» = refl
start_sealed Start.Signature = refl

start_long : (s : Start) → length (start_of s) ≤ 2
start_long Start.«Unit» = omega arith
start_long Start.Signature = omega arith

-- what a text is read from, put on the empty stack
on_empty : (s : Start) (room : ℕ) → ◌≡◌ {A = Stacked} (record { symbols = start_of s ++ []; room = room }) (record { symbols = start_of s; room = room })
on_empty Start.«Unit» room = refl
on_empty Start.Signature room = refl

begun :
    (s : Start) (xs : List Symbol) (empty first : Stacked) (room : ℕ) → xs ≡ start_of s → empty ≡ record { symbols = []; room = room } →
    first ≡ record { symbols = xs ++ empty.symbols; room = empty.room } → first ≡ record { symbols = start_of s; room = room }
begun s xs empty first room a b e =
    e ∙ ap (λ (y : List Symbol). record { symbols = y ++ empty.symbols; room = empty.room }) a
    ∙ ap (λ (y : Stacked). record { symbols = start_of s ++ y.symbols; room = y.room }) b ∙ on_empty s room

-- the token of this turn
here : (g : given.Over) (c : In_ok-found g) → Turn c.args.text.now c.tokens.found-iterator c.next.new.self c.in_ok-found.found
here g c = turn _ _ _ _ _ _ c.tokens.invariant.same_text c.next.ensures.steps c.in-Some.is c.in_ok-found.was

done : (g : given.Over) (c : In-None g) → next_token c.args.text.now c.tokens.found-iterator.from ≡ at_end
done g c = turn_end _ _ _ _ c.tokens.invariant.same_text c.next.ensures.steps c.in-None.is

-- the answer at the text's end
last_rank :
    (o : Option (List Symbol)) (m : Option ℕ) (rank place : ℕ) (Told : List Symbol → ℕ → Type 0) →
    ((row : List Symbol) (n : ℕ) → Told row n → n ≡ rank) → MatchOption o (m ≡ None) (λ row. IsSomeAnd m (Told row)) →
    ok_or m (Syntax place) ≡ outcome (ending o place rank)
last_rank None m rank place Told same e = ap (λ m. ok_or m (Syntax place)) e
last_rank (Some row) (Some n) rank place Told same e = ap Ok (same row n e)
last_rank (Some row) None rank place Told same e = elim e [ ]

pub tokens-init : goal.tokens-init
tokens-init g c =
    let e = begun c.args.start _ _ _ _ c.symbols.ensures c.new-stack.ensures c.push_all.ensures in
    let at : c.into_iter-found-iterator.result.from ≡ 0 = ap (λ (t : Tokens). t.from) c.into_iter-found-iterator.ensures.into_iter_gives ∙ c.new-found-items.ensures.1 in
    record {
      same_text = ap (λ (t : Tokens). t.text.now) c.into_iter-found-iterator.ensures.into_iter_gives ∙ ap (λ b. b.now) c.new-found-items.ensures.0;
      inside = omega arith;
      room = ap (λ (v : Stacked). v.room) e ∙ c.requires.scratch_len;
      few = omega (arith, ap (λ (v : Stacked). length v.symbols) e, start_long c.args.start);
      goes_on = rw (e, at) (begin _ _ _ (start_sealed c.args.start));
    }

pub returns-in_err-found : goal.returns-in_err-found
returns-in_err-found g c =
    let p = err_from_is_err_and c.from_residual.result c.from_residual.ensures.1 in
    let i = c.tokens.invariant in
    let stop = turn_fault _ _ _ _ _ _ i.same_text c.next.ensures.steps c.in-Some.is c.in_err-found.was in
    p.1 ∙ ap Err p.2 ∙ ap outcome (sym (no_token_lem _ _ _ _ _ _ i.goes_on i.inside _ _ stop))

pub pop-symbol-requires : goal.pop-symbol-requires
pop-symbol-requires g c = deep _ _ _ _ _ _ c.tokens.invariant.goes_on

pub class_of-class-requires : goal.class_of-class-requires
class_of-class-requires g c = found_proper c.args.text.now c.tokens.found-iterator.from _ _ _ (here g (goal.at.class_of-class-requires g c).In_ok-found).next

pub returns-in_default : goal.returns-in_default
returns-in_default g c =
    let i = c.tokens.invariant in
    let t = here g (goal.at.returns-in_default g c).In_ok-found in
    ap outcome (sym (refuses _ _ _ _ _ _ _ _ i.goes_on i.inside c.pop-symbol.ensures _ _ _ _ t.next c.class_of-class.ensures c.in_default.ensures))

pub learned-rank-requires : goal.learned-rank-requires
learned-rank-requires g c = found_proper c.args.text.now c.tokens.found-iterator.from _ _ _ (here g (goal.at.learned-rank-requires g c).In_ok-found).next

pub push_all-requires-in-tokens : goal.push_all-requires-in-tokens
push_all-requires-in-tokens g c =
    let i = c.tokens.invariant in
    let popped = ap (λ (v : Stacked). length v.symbols) c.pop-symbol.ensures in
    omega (arith, c.as_slice.ensures.fits, popped, ap (λ (v : Stacked). v.room) c.pop-symbol.ensures, i.room, i.few, i.inside, c.requires.text_len_bound)

pub tokens-preserved : goal.tokens-preserved
tokens-preserved g c =
    let i = c.tokens.invariant in
    let row = ap Some c.as_slice.ensures.value ∙ c.in-Some-expand.ensures in
    let t = here g (goal.at.tokens-preserved g c).In_ok-found in
    let a = advance c.args.text.now c.tokens.found-iterator.from c.in_ok-found.found.place c.in_ok-found.found.end (view c.in_ok-found.found.token) t.next in
    let popped = ap (λ (v : Stacked). length v.symbols) c.pop-symbol.ensures in
    let pushed = ap (λ (v : Stacked). length v.symbols) c.push_all-in-tokens.ensures in
    record {
      same_text = t.same_text;
      inside = omega (arith, t.behind, a.inside);
      room = ap (λ (v : Stacked). v.room) c.push_all-in-tokens.ensures ∙ sym (ap (λ (v : Stacked). v.room) c.pop-symbol.ensures) ∙ i.room;
      few = omega (arith, c.as_slice.ensures.fits, popped, pushed, length-append c.as_slice.result.now c.pop-symbol.new.self.symbols, i.few, t.behind, a.forward);
      goes_on =
          rw t.behind (next_turn _ _ _ _ _ _ _ _ i.goes_on i.inside c.pop-symbol.ensures _ _ _ _ _ _ _ t.next c.class_of-class.ensures
          row c.push_all-in-tokens.ensures (c.learned-rank.ensures g.C.Core.words));
    }

pub returns : goal.returns
returns g c =
    let i = c.tokens.invariant in
    c.ok_or.ensures.value ∙ last_rank c.expand-2.result c.map.result c.tokens.rank _ _ (λ row n told. search (rules, tests)) c.map.ensures.cases
    ∙ ap outcome (sym (at_the_end _ _ _ _ _ _ _ _ i.goes_on i.inside c.pop.ensures _ (done g (goal.at.returns g c).In-None) c.expand-2.ensures))
