-- A stack from which a text is read to its end is never deeper than what is left of the text.
use Rattle.std.proofs.Common.{◌≡◌, ℕ, zero, suc, ◌-◌, ◌<◌, ◌≤◌, List, [], ◌∷◌, ◌++◌, length, Some, None, Option, sym, refl, ◌∙◌, subst, arith, length-append}
use Rattle.tokens.specs.Lexer.{Next, at_end, token, no_token, next_token}
use Rattle.tokens.proofs.Walk.{advance}
use Rattle.cores.specs.Meaning.{Word}
use Rattle.reader.specs.declared.symbol.Symbol.{Symbol}
use Rattle.reader.specs.Tokens.{Token, token_of}
use Rattle.reader.specs.Streams.{ahead, stream_from, stream_of, tokens_in, in_front}
use Rattle.reader.specs.Reading.{accepted, reads, default_rank}
use Rattle.reader.proofs.Shapes.{Tree, print}
use Rattle.reader.proofs.Choosing.{Alternative, choose}
use Rattle.reader.proofs.Laws.{run, Described, describe}
use Rattle.reader.proofs.Turns.{State}
use Rattle.reader.proofs.Theory as theory

none_some : {X : Type 0} {x : X} → None ≡ Some x → ⊥
none_some e = cc

some_some : {X : Type 0} {x y : X} → Some x ≡ Some y → x ≡ y
some_some e = cc

-- each symbol takes a token
run_step : (s : Symbol) (σ : List Symbol) (k : Token) (ks : List Token) (o : Option (Alternative s k)) →
    ((ρ : List Symbol) → run ρ ks ≡ Some [] → length ρ ≤ length ks) →
    theory.onward Token Symbol Tree print choose (theory.afters Token Symbol Tree print o) σ (λ ρ. run ρ ks) ≡ Some [] → length (s ∷ σ) ≤ length (k ∷ ks)
run_step s σ k ks None ih e = absurd (none_some e)
run_step s σ k ks (Some a) ih e =
    let h = ih (a.after ++ σ) e in
    omega (arith, length-append a.after σ, h)

run_long : (ts : List Token) (σ : List Symbol) → run σ ts ≡ Some [] → length σ ≤ length ts
run_long [] σ e = subst (λ (x : List Symbol). length x ≤ 0) (sym (some_some e)) (omega arith)
run_long (k ∷ ks) [] e = omega arith
run_long (k ∷ ks) (s ∷ σ) e = run_step s σ k ks (choose s k) (λ ρ. run_long ks ρ) e

-- each token takes a byte
stream_long : (n : ℕ) (ws : List Word) (text : List ℕ) (from : ℕ) (ts : List Token) → from ≤ length text →
    tokens_in (stream_from n ws text from) ≡ Some ts → length ts ≤ suc (length text - from)
stream_long zero ws text from ts h e = subst (λ (x : List Token). length x ≤ suc (length text - from)) (some_some e) (omega arith)
stream_long (suc n) ws text from ts h e = go (λ end us. stream_long n ws text end us) (next_token text from) refl e
  where
    behind : (o : Option (List Token)) (k : Token) (end : ℕ) → from < end → end ≤ length text →
        ((us : List Token) → o ≡ Some us → length us ≤ suc (length text - end)) → in_front k o ≡ Some ts → length ts ≤ suc (length text - from)
    behind None k end a b ih q = absurd (none_some q)
    behind (Some us) k end a b ih q =
        let l = ih us refl in
        subst (λ (x : List Token). length x ≤ suc (length text - from)) (some_some q) (omega arith)

    go : ((end : ℕ) (us : List Token) → end ≤ length text → tokens_in (stream_from n ws text end) ≡ Some us → length us ≤ suc (length text - end)) →
        (x : Next) → next_token text from ≡ x → tokens_in (ahead ws (length text) x (λ end. stream_from n ws text end)) ≡ Some ts → length ts ≤ suc (length text - from)
    go ih at_end is q = subst (λ (x : List Token). length x ≤ suc (length text - from)) (some_some q) (omega arith)
    go ih (token p place end) is q =
        let a = advance text from place end p is in
        behind (tokens_in (stream_from n ws text end)) (token_of ws p) end a.forward a.inside (λ us r. ih end us a.inside r) q
    go ih (no_token r place) is q = absurd (none_some q)

-- so the stack has room
pub not_deep : (ws : List Word) (text : List ℕ) (start σ : List Symbol) (from rank n : ℕ) → State ws text start σ from rank → from ≤ length text →
    reads start (stream_of ws text) default_rank ≡ accepted n → length σ ≤ suc (length text - from)
not_deep ws text start σ from rank n s h e =
    let st = stream_from s.fuel ws text from in
    let d : Described σ st rank (accepted n) = subst (Described σ st rank) (s.same_end ∙ e) (describe st σ rank s.closed) in
    let a = run_long d.0 σ d.2 in
    let b = stream_long s.fuel ws text from d.0 h d.1 in
    omega arith
