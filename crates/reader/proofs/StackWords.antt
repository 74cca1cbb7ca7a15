-- Stacks of symbols in words: what a push and a pop leave.
use Rattle.std.proofs.Common.{◌≡◌, ℕ, zero, suc, ◌+◌, ◌<◌, ◌≤◌, ◌≢◌, List, ◌∷◌, length, get_or, set, refl, ap, ◌∙◌, add-one, arith, get_or-set_other, get_or-set_same, length-set}
use Rattle.reader.specs.declared.symbol.Symbol.{Symbol}
use Rattle.reader.specs.Codes.{symbol_at, symbol_number}
use Rattle.reader.specs.Stacks.{Stacked, stack_of, stacked}
use Rattle.reader.proofs.AllSymbols.{symbol_back}

-- a write above leaves the stack
pub stack_below : (w : List ℕ) (n v m : ℕ) → m ≤ n → stack_of (set w n v) m ≡ stack_of w m
stack_below w n v zero h = refl
stack_below w n v (suc m) h =
    let ne : m ≢ n = omega arith in
    ap (λ (x : ℕ). symbol_at x ∷ stack_of (set w n v) m) (get_or-set_other w n m v 0 ne)
    ∙ ap (λ (x : List Symbol). symbol_at (get_or w m 0) ∷ x) (stack_below w n v m (omega arith))

-- a write right above puts a symbol on top
pub stack_push : (w : List ℕ) (n v : ℕ) → n < length w → stack_of (set w n v) (n + 1) ≡ symbol_at v ∷ stack_of w n
stack_push w n v h =
    ap (λ (x : ℕ). stack_of (set w n v) x) (add-one n)
    ∙ ap (λ (x : ℕ). symbol_at x ∷ stack_of (set w n v) n) (get_or-set_same w n v 0 h)
    ∙ ap (λ (x : List Symbol). symbol_at v ∷ x) (stack_below w n v n (omega arith))

-- each word is a symbol of the stack
pub stack_long : (w : List ℕ) (n : ℕ) → length (stack_of w n) ≡ n
stack_long w zero = refl
stack_long w (suc n) = ap suc (stack_long w n)

-- there is a word for one symbol more
pub put_within : (w : List ℕ) (n : ℕ) (v : Stacked) → stacked w n ≡ v → length v.symbols < v.room → n < length w
put_within w n v e h =
    let s = ap (λ (x : Stacked). length x.symbols) e in
    let r = ap (λ (x : Stacked). x.room) e in
    omega (arith, stack_long w n)

-- the stack with one symbol more
pub put : (w : List ℕ) (n : ℕ) (v : Stacked) (s : Symbol) (x : ℕ) → stacked w n ≡ v → n < length w → x ≡ symbol_number s →
    stacked (set w n x) (n + 1) ≡ record { symbols = s ∷ v.symbols; room = v.room }
put w n v s x e h is =
    let top = stack_push w n x h ∙ ap (λ (y : ℕ). symbol_at y ∷ stack_of w n) is ∙ ap (λ (y : Symbol). y ∷ stack_of w n) (symbol_back s)
    ∙ ap (λ (y : Stacked). s ∷ y.symbols) e in
    let room = length-set w n x ∙ ap (λ (y : Stacked). y.room) e in
    λ i. record { symbols = top i; room = room i }
