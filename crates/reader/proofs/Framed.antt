-- Frames in words: what a push leaves.
use Rattle.std.proofs.Common.{◌≡◌, ℕ, zero, suc, ◌+◌, ◌-◌, ◌*◌, ◌<◌, ◌≤◌, ◌≢◌, List, [], ◌∷◌, ◌++◌, length, get_or, drop, set, sym, refl, ap, ◌∙◌, add-one, arith, length-set, get_or-set_other, get_or-set_same}
use Rattle.std.proofs.lemmas.List.{drop_more}
use Rattle.reader.specs.declared.scope.Inherit.{Inherit}
use Rattle.reader.specs.declared.symbol.Symbol.{Symbol}
use Rattle.reader.specs.Codes.{symbol_at, symbol_number}
use Rattle.reader.specs.Notes.{Around}
use Rattle.reader.specs.Annotate.{Attr, inherit, inherits}
use Rattle.reader.specs.Frames.{Framed, framed, attr_at, symbol_kept, symbols_of, attrs_of, five_at}
use Rattle.reader.proofs.AllSymbols.{symbol_back}

-- a set does not reach another place
other : (w : List ℕ) (i j v : ℕ) → j ≢ i → get_or (set w i v) j 0 ≡ get_or w j 0
other w i j v ne = get_or-set_other w i j v 0 ne

module _ (w : List ℕ) (i a b c d e : ℕ) where
  -- words below are as they were
  pub five_below : (j : ℕ) → j < 5 * i → get_or (five_at w i a b c d e) j 0 ≡ get_or w j 0
  five_below j h =
      other (set (set (set (set w (5 * i) a) (5 * i + 1) b) (5 * i + 2) c) (5 * i + 3) d) (5 * i + 4) j e (omega arith)
      ∙ other (set (set (set w (5 * i) a) (5 * i + 1) b) (5 * i + 2) c) (5 * i + 3) j d (omega arith)
      ∙ other (set (set w (5 * i) a) (5 * i + 1) b) (5 * i + 2) j c (omega arith)
      ∙ other (set w (5 * i) a) (5 * i + 1) j b (omega arith)
      ∙ other w (5 * i) j a (omega arith)

  module _ (room : 5 * i + 5 ≤ length w) where
    pub five_0 : get_or (five_at w i a b c d e) (5 * i) 0 ≡ a
    five_0 =
        other (set (set (set (set w (5 * i) a) (5 * i + 1) b) (5 * i + 2) c) (5 * i + 3) d) (5 * i + 4) (5 * i) e (omega arith)
        ∙ other (set (set (set w (5 * i) a) (5 * i + 1) b) (5 * i + 2) c) (5 * i + 3) (5 * i) d (omega arith)
        ∙ other (set (set w (5 * i) a) (5 * i + 1) b) (5 * i + 2) (5 * i) c (omega arith)
        ∙ other (set w (5 * i) a) (5 * i + 1) (5 * i) b (omega arith)
        ∙ get_or-set_same w (5 * i) a 0 (omega arith)

    pub five_1 : get_or (five_at w i a b c d e) (5 * i + 1) 0 ≡ b
    five_1 =
        other (set (set (set (set w (5 * i) a) (5 * i + 1) b) (5 * i + 2) c) (5 * i + 3) d) (5 * i + 4) (5 * i + 1) e (omega arith)
        ∙ other (set (set (set w (5 * i) a) (5 * i + 1) b) (5 * i + 2) c) (5 * i + 3) (5 * i + 1) d (omega arith)
        ∙ other (set (set w (5 * i) a) (5 * i + 1) b) (5 * i + 2) (5 * i + 1) c (omega arith)
        ∙ get_or-set_same (set w (5 * i) a) (5 * i + 1) b 0 (simp length-set (omega arith))

    pub five_2 : get_or (five_at w i a b c d e) (5 * i + 2) 0 ≡ c
    five_2 =
        other (set (set (set (set w (5 * i) a) (5 * i + 1) b) (5 * i + 2) c) (5 * i + 3) d) (5 * i + 4) (5 * i + 2) e (omega arith)
        ∙ other (set (set (set w (5 * i) a) (5 * i + 1) b) (5 * i + 2) c) (5 * i + 3) (5 * i + 2) d (omega arith)
        ∙ get_or-set_same (set (set w (5 * i) a) (5 * i + 1) b) (5 * i + 2) c 0 (simp length-set (omega arith))

    pub five_3 : get_or (five_at w i a b c d e) (5 * i + 3) 0 ≡ d
    five_3 =
        other (set (set (set (set w (5 * i) a) (5 * i + 1) b) (5 * i + 2) c) (5 * i + 3) d) (5 * i + 4) (5 * i + 3) e (omega arith)
        ∙ get_or-set_same (set (set (set w (5 * i) a) (5 * i + 1) b) (5 * i + 2) c) (5 * i + 3) d 0 (simp length-set (omega arith))

    pub five_4 : get_or (five_at w i a b c d e) (5 * i + 4) 0 ≡ e
    five_4 = get_or-set_same (set (set (set (set w (5 * i) a) (5 * i + 1) b) (5 * i + 2) c) (5 * i + 3) d) (5 * i + 4) e 0 (simp length-set (omega arith))

  symbols_below : (n : ℕ) → n ≤ i → symbols_of (five_at w i a b c d e) n ≡ symbols_of w n
  symbols_below zero h = refl
  symbols_below (suc n) h =
      ap (λ (x : ℕ). symbol_at x ∷ symbols_of (five_at w i a b c d e) n) (five_below (5 * n) (omega arith))
      ∙ ap (λ (x : List Symbol). symbol_kept w n ∷ x) (symbols_below n (omega arith))

  attr_below : (n : ℕ) → n < i → attr_at (five_at w i a b c d e) n ≡ attr_at w n
  attr_below n h =
      λ k. record {
        inner = record { opened = five_below (5 * n + 1) (omega arith) k; scope = five_below (5 * n + 2) (omega arith) k };
        outer = record { opened = five_below (5 * n + 3) (omega arith) k; scope = five_below (5 * n + 4) (omega arith) k };
      }

  attrs_below : (n : ℕ) → n ≤ i → attrs_of (five_at w i a b c d e) n ≡ attrs_of w n
  attrs_below zero h = refl
  attrs_below (suc n) h =
      ap (λ (x : Attr ℕ). x ∷ attrs_of (five_at w i a b c d e) n) (attr_below n (omega arith))
      ∙ ap (λ (x : List (Attr ℕ)). attr_at w n ∷ x) (attrs_below n (omega arith))

-- a frame written on top
pub symbols_push : (w : List ℕ) (i b c d e : ℕ) (s : Symbol) → 5 * i + 5 ≤ length w →
    symbols_of (five_at w i (symbol_number s) b c d e) (i + 1) ≡ s ∷ symbols_of w i
symbols_push w i b c d e s h =
    ap (λ (n : ℕ). symbols_of (five_at w i (symbol_number s) b c d e) n) (add-one i)
    ∙ ap (λ (x : ℕ). symbol_at x ∷ symbols_of (five_at w i (symbol_number s) b c d e) i) (five_0 w i (symbol_number s) b c d e h)
    ∙ ap (λ (x : Symbol). x ∷ symbols_of (five_at w i (symbol_number s) b c d e) i) (symbol_back s)
    ∙ ap (λ (x : List Symbol). s ∷ x) (symbols_below w i (symbol_number s) b c d e i (omega arith))

pub attrs_push : (w : List ℕ) (i a : ℕ) (f : Attr ℕ) → 5 * i + 5 ≤ length w →
    attrs_of (five_at w i a f.inner.opened f.inner.scope f.outer.opened f.outer.scope) (i + 1) ≡ f ∷ attrs_of w i
attrs_push w i a f h =
    let b = f.inner.opened in let c = f.inner.scope in let d = f.outer.opened in let e = f.outer.scope in
    ap (λ (n : ℕ). attrs_of (five_at w i a b c d e) n) (add-one i)
    ∙ ap (λ (x : Attr ℕ). x ∷ attrs_of (five_at w i a b c d e) i)
    (λ k. record {
      inner = record { opened = five_1 w i a b c d e h k; scope = five_2 w i a b c d e h k };
      outer = record { opened = five_3 w i a b c d e h k; scope = five_4 w i a b c d e h k };
    })
    ∙ ap (λ (x : List (Attr ℕ)). f ∷ x) (attrs_below w i a b c d e i (omega arith))

-- as many symbols as frames
pub symbols_long : (w : List ℕ) (n : ℕ) → length (symbols_of w n) ≡ n
symbols_long w zero = refl
symbols_long w (suc n) = ap suc (symbols_long w n)

pub five_long : (w : List ℕ) (i a b c d e : ℕ) → length (five_at w i a b c d e) ≡ length w
five_long w i a b c d e = simp length-set

-- there are words for one frame more
pub frame_within : (w : List ℕ) (n : ℕ) (v : Framed) → framed w n ≡ v → 5 * length v.symbols + 5 ≤ v.room → 5 * n + 5 ≤ length w
frame_within w n v e h =
    let s = ap (λ (x : Framed). length x.symbols) e in
    let r = ap (λ (x : Framed). x.room) e in
    omega (arith, symbols_long w n)

-- the top frame and those below
pub frame_pop : (w : List ℕ) (n : ℕ) (v : Framed) (s : Symbol) (f : Attr ℕ) → framed w n ≡ v → 0 < length v.symbols →
    s ≡ symbol_kept w (n - 1) → f ≡ attr_at w (n - 1) →
    v ≡ record { symbols = s ∷ symbols_of w (n - 1); attrs = f ∷ attrs_of w (n - 1); room = length w }
frame_pop w zero v s f e h is at = absurd (let l = ap (λ (x : Framed). length x.symbols) e in omega arith)
frame_pop w (suc n) v s f e h is at =
    let back : suc n - 1 ≡ n = omega arith in
    let top : symbol_kept w n ∷ symbols_of w n ≡ s ∷ symbols_of w (suc n - 1) =
    ap (λ (m : ℕ). symbol_kept w m ∷ symbols_of w m) (sym back) ∙ ap (λ (x : Symbol). x ∷ symbols_of w (suc n - 1)) (sym is) in
    let kept : attr_at w n ∷ attrs_of w n ≡ f ∷ attrs_of w (suc n - 1) =
    ap (λ (m : ℕ). attr_at w m ∷ attrs_of w m) (sym back) ∙ ap (λ (x : Attr ℕ). x ∷ attrs_of w (suc n - 1)) (sym at) in
    sym e ∙ (λ i. record { symbols = top i; attrs = kept i; room = length w })

-- the top alone
pub frame_top : (v : Framed) (s : Symbol) (f : Attr ℕ) (σ : List Symbol) (attrs : List (Attr ℕ)) (n : ℕ) → v ≡ record { symbols = s ∷ σ; attrs = f ∷ attrs; room = n } →
    (v.symbols ≡ s ∷ drop 1 v.symbols) × (v.attrs ≡ f ∷ drop 1 v.attrs)
frame_top v s f σ attrs n e = (
  ap (λ (x : Framed). x.symbols) e ∙ ap (λ (x : Framed). s ∷ drop 1 x.symbols) (sym e),
  ap (λ (x : Framed). x.attrs) e ∙ ap (λ (x : Framed). f ∷ drop 1 x.attrs) (sym e),
)

-- what is left below it
pub frame_below : (w : List ℕ) (n : ℕ) (v : Framed) (s : Symbol) (f : Attr ℕ) → framed w n ≡ v → v.symbols ≡ s ∷ drop 1 v.symbols → v.attrs ≡ f ∷ drop 1 v.attrs →
    v ≡ record { symbols = s ∷ symbols_of w (n - 1); attrs = f ∷ attrs_of w (n - 1); room = length w }
frame_below w zero v s f e h k = absurd (let a = ap (λ (x : Framed). length x.symbols) e in let b = ap length h in omega arith)
frame_below w (suc n) v s f e h k =
    let back : n ≡ suc n - 1 = omega arith in
    let top = h ∙ ap (λ (x : Framed). s ∷ drop 1 x.symbols) (sym e) ∙ ap (λ (m : ℕ). s ∷ symbols_of w m) back in
    let kept = k ∙ ap (λ (x : Framed). f ∷ drop 1 x.attrs) (sym e) ∙ ap (λ (m : ℕ). f ∷ attrs_of w m) back in
    λ i. record { symbols = top i; attrs = kept i; room = ap (λ (x : Framed). x.room) (sym e) i }

-- the stack with one frame more
pub frame_put : (w : List ℕ) (n : ℕ) (v : Framed) (s : Symbol) (f : Attr ℕ) (w' : List ℕ) → framed w n ≡ v → 5 * n + 5 ≤ length w →
    w' ≡ five_at w n (symbol_number s) f.inner.opened f.inner.scope f.outer.opened f.outer.scope →
    framed w' (n + 1) ≡ record { symbols = s ∷ v.symbols; attrs = f ∷ v.attrs; room = v.room }
frame_put w n v s f w' e h is =
    let top = ap (λ (x : List ℕ). symbols_of x (n + 1)) is ∙ symbols_push w n f.inner.opened f.inner.scope f.outer.opened f.outer.scope s h
    ∙ ap (λ (y : Framed). s ∷ y.symbols) e in
    let kept = ap (λ (x : List ℕ). attrs_of x (n + 1)) is ∙ attrs_push w n (symbol_number s) f h ∙ ap (λ (y : Framed). f ∷ y.attrs) e in
    let room = ap length is ∙ five_long w n (symbol_number s) f.inner.opened f.inner.scope f.outer.opened f.outer.scope ∙ ap (λ (y : Framed). y.room) e in
    λ i. record { symbols = top i; attrs = kept i; room = room i }

-- ---- what is handed on, place by place

pub inherits_long : (after : List Symbol) (rs : List Inherit) (a : Attr ℕ) (x : Around ℕ) (new : ℕ) → length (inherits after rs a x new) ≡ length after
inherits_long [] rs a x new = refl
inherits_long (s ∷ after) [] a x new = ap suc (inherits_long after [] a x new)
inherits_long (s ∷ after) (r ∷ rs) a x new = ap suc (inherits_long after rs a x new)

-- the rule of a place; behind the rules, what holds at the token
abbrev pub rule_at : List Inherit → ℕ → Inherit
rule_at rs i = get_or rs i Inherit.Here

pub inherits_at : (after : List Symbol) (rs : List Inherit) (a : Attr ℕ) (x : Around ℕ) (new i : ℕ) (z : Attr ℕ) → i < length after →
    get_or (inherits after rs a x new) i z ≡ inherit (rule_at rs i) a x new
inherits_at [] rs a x new i z h = absurd (omega arith)
inherits_at (s ∷ after) [] a x new zero z h = refl
inherits_at (s ∷ after) [] a x new (suc i) z h = inherits_at after [] a x new i z (omega arith)
inherits_at (s ∷ after) (r ∷ rs) a x new zero z h = refl
inherits_at (s ∷ after) (r ∷ rs) a x new (suc i) z h = inherits_at after rs a x new i z (omega arith)

-- one frame more of those that are pushed
pub frames_more : {X : Type 0} (xs below : List X) (z x : X) (left : ℕ) (now' now : List X) → left < length xs →
    x ≡ get_or xs left z → now' ≡ x ∷ now → now ≡ drop (left + 1) xs ++ below → now' ≡ drop left xs ++ below
frames_more {X} xs below z x left now' now within is push so =
    push ∙ ap (λ (y : X). y ∷ now) is ∙ ap (λ (ys : List X). get_or xs left z ∷ ys) so
    ∙ ap (λ (ys : List X). ys ++ below) (sym (drop_more xs left z within))
