-- Looking outward through a scope, entry by entry, and scopes in a row that grows.
use Rattle.std.proofs.Common.{◌≡◌, ℕ, zero, suc, ◌+◌, ◌-◌, ◌*◌, ◌<◌, ◌≤◌, Bool, true, false, cond, not, ◌&&◌, ◌||◌, leb, List, [], ◌∷◌, get_or, take, sym, refl, ap, ◌∙◌, arith, leb-true}
use Rattle.std.specs.Str.{bytes_eq}
use Rattle.std.specs.List.{list_any, prefix_len}
use Rattle.types.specs.Types.{Name}
use Rattle.reader.specs.declared.scope.Sort.{Sort}
use Rattle.reader.specs.declared.scope.Binder.{Binder}
use Rattle.reader.specs.declared.row.Entry.{Entry}
use Rattle.reader.specs.declared.row.Scope.{Scope as Outward}
use Rattle.reader.specs.Scopes.{Binding, Scope, same_sort, Resolution, component, bound, nowhere, further, sought, seek, declares, is_declared, is_itself, is_component, is_sought}
use Rattle.reader.specs.Rows.{entry_at, parent_at, scope_from, scope_of, binding_of, entries_of, is_nowhere}

-- ---- one entry

pub declares_itself : (s : Sort) (x : Name) (b : Binder) (y : Name) (rest : Bool) → is_itself b ≡ true → declares s x b y rest ≡ false
declares_itself s x Binder.Itself y rest e = refl
declares_itself s x (Binder.Component t) y rest e = cc
declares_itself s x Binder.Parameter y rest e = cc
declares_itself s x Binder.Variable y rest e = cc

pub declares_here : (s : Sort) (x : Name) (b : Binder) (y : Name) (rest : Bool) → is_component s x b y ≡ true → declares s x b y rest ≡ true
declares_here s x Binder.Itself y rest e = cc
declares_here s x (Binder.Component t) y rest e = ap (λ (c : Bool). c || rest) e
declares_here s x Binder.Parameter y rest e = cc
declares_here s x Binder.Variable y rest e = cc

pub declares_later : (s : Sort) (x : Name) (b : Binder) (y : Name) (rest : Bool) → is_itself b ≡ false → is_component s x b y ≡ false → declares s x b y rest ≡ rest
declares_later s x Binder.Itself y rest h e = cc
declares_later s x (Binder.Component t) y rest h e = ap (λ (c : Bool). c || rest) e
declares_later s x Binder.Parameter y rest h e = refl
declares_later s x Binder.Variable y rest h e = refl

-- ---- the answers as searches through the entries

nowhere_further : (r : Resolution) → is_nowhere (further r) ≡ is_nowhere r
nowhere_further (component n) = refl
nowhere_further (bound n) = refl
nowhere_further nowhere = refl

not_or : (b c : Bool) → not (b || c) ≡ not b && not c
not_or true c = refl
not_or false c = refl

past_bound : (here : Bool) (rest : Resolution) → not here && is_nowhere rest ≡ is_nowhere (cond here (bound 0) (further rest))
past_bound true rest = refl
past_bound false rest = sym (nowhere_further rest)

nowhere_past : (s : Sort) (x : Name) (b : Binder) (y : Name) (rest : Resolution) → not (is_sought s x b y) && is_nowhere rest ≡ is_nowhere (sought s x b y rest)
nowhere_past s x Binder.Itself y rest = sym (nowhere_further rest)
nowhere_past s x (Binder.Component t) y rest = go (same_sort s t && bytes_eq x y)
  where
    go : (here : Bool) → not here && is_nowhere rest ≡ is_nowhere (cond here (component 0) rest)
    go true = refl
    go false = refl
nowhere_past s x Binder.Parameter y rest = past_bound (same_sort s Sort.Module && bytes_eq x y) rest
nowhere_past s x Binder.Variable y rest = past_bound (same_sort s Sort.Value && bytes_eq x y) rest

pub sought_here : (s : Sort) (x : Name) (b : Binder) (y : Name) (rest : Resolution) → is_sought s x b y ≡ true → is_nowhere (sought s x b y rest) ≡ false
sought_here s x b y rest e = sym (nowhere_past s x b y rest) ∙ ap (λ (c : Bool). not c && is_nowhere rest) e

pub sought_later : (s : Sort) (x : Name) (b : Binder) (y : Name) (rest : Resolution) → is_sought s x b y ≡ false → is_nowhere (sought s x b y rest) ≡ is_nowhere rest
sought_later s x b y rest e = sym (nowhere_past s x b y rest) ∙ ap (λ (c : Bool). not c && is_nowhere rest) e

-- a name is nowhere where no entry is what it is sought for
pub nowhere_by_any : (s : Sort) (x : Name) (scope : Scope) → not (list_any (λ (b : Binding). is_sought s x b.binder b.name) scope) ≡ is_nowhere (seek s x scope)
nowhere_by_any s x [] = refl
nowhere_by_any s x (b ∷ scope) =
    not_or (is_sought s x b.binder b.name) (list_any (λ (b : Binding). is_sought s x b.binder b.name) scope)
    ∙ ap (λ (c : Bool). not (is_sought s x b.binder b.name) && c) (nowhere_by_any s x scope)
    ∙ nowhere_past s x b.binder b.name (seek s x scope)

one_more : (s : Sort) (x : Name) (b : Binding) (scope : Scope) (n : ℕ) →
    list_any (λ (b : Binding). is_component s x b.binder b.name) (take (1 + n) (b ∷ scope))
    ≡ is_component s x b.binder b.name || list_any (λ (b : Binding). is_component s x b.binder b.name) (take n scope)
one_more s x b scope n =
    let e : 1 + n ≡ suc n = omega arith in
    ap (λ (m : ℕ). list_any (λ (b : Binding). is_component s x b.binder b.name) (take m (b ∷ scope))) e

past_itself : (s : Sort) (x : Name) (k : Binder) (y : Name) (scope : Scope) (n : ℕ) →
    list_any (λ (b : Binding). is_component s x b.binder b.name) (take (cond (not (is_itself k)) (1 + n) 0) (record { binder = k; name = y } ∷ scope))
    ≡ declares s x k y (list_any (λ (b : Binding). is_component s x b.binder b.name) (take n scope))
past_itself s x Binder.Itself y scope n = refl
past_itself s x (Binder.Component t) y scope n = one_more s x (record { binder = Binder.Component t; name = y }) scope n
past_itself s x Binder.Parameter y scope n = one_more s x (record { binder = Binder.Parameter; name = y }) scope n
past_itself s x Binder.Variable y scope n = one_more s x (record { binder = Binder.Variable; name = y }) scope n

-- a name is declared where an entry up to the innermost structure or signature declares it
pub declared_by_any :
    (s : Sort) (x : Name) (scope : Scope) →
    list_any (λ (b : Binding). is_component s x b.binder b.name) (take (prefix_len (λ (b : Binding). not (is_itself b.binder)) scope) scope) ≡ is_declared s x scope
declared_by_any s x [] = refl
declared_by_any s x (b ∷ scope) =
    past_itself s x b.binder b.name scope (prefix_len (λ (b : Binding). not (is_itself b.binder)) scope)
    ∙ ap (declares s x b.binder b.name) (declared_by_any s x scope)

-- ---- entries of a row

pub parent_below : (row : List ℕ) (i : ℕ) → parent_at row i ≤ i
parent_below row i = go (leb (get_or row (4 * i + 1) 0) i) refl
  where
    go : (b : Bool) → leb (get_or row (4 * i + 1) 0) i ≡ b → cond b (get_or row (4 * i + 1) 0) 0 ≤ i
    go true e = leb-true (get_or row (4 * i + 1) 0) i e
    go false e = omega arith

-- more fuel than the number changes nothing
pub fuel_free : (n m i : ℕ) (row text : List ℕ) → i ≤ n → i ≤ m → scope_from n row text i ≡ scope_from m row text i
fuel_free zero zero i row text a b = refl
fuel_free zero (suc m) zero row text a b = refl
fuel_free zero (suc m) (suc i) row text a b = absurd (omega arith)
fuel_free (suc n) zero zero row text a b = refl
fuel_free (suc n) zero (suc i) row text a b = absurd (omega arith)
fuel_free (suc n) (suc m) zero row text a b = refl
fuel_free (suc n) (suc m) (suc i) row text a b =
    let p = parent_below row i in
    ap (λ (x : Scope). entry_at row text i ∷ x) (fuel_free n m (parent_at row i) row text (omega arith) (omega arith))

-- a scope is its entry and the scope around it
pub scope_step : (row text : List ℕ) (i : ℕ) → 0 < i → scope_of row text i ≡ entry_at row text (i - 1) ∷ scope_of row text (parent_at row (i - 1))
scope_step row text zero h = absurd (omega arith)
scope_step row text (suc i) h =
    let p = parent_below row i in
    let e : i ≡ suc i - 1 = omega arith in
    ap (λ (x : Scope). entry_at row text i ∷ x) (fuel_free i (parent_at row i) (parent_at row i) row text p (omega arith))
    ∙ ap (λ (j : ℕ). entry_at row text j ∷ scope_of row text (parent_at row j)) e

-- a step outward
pub scope_goes :
    (s : Outward) (at parent : ℕ) (e : Entry) → 0 < s.number → at ≡ s.number - 1 →
    parent ≡ parent_at s.row.now at → binding_of e ≡ entry_at s.row.now s.text.now at →
    entries_of s ≡ binding_of e ∷ scope_of s.row.now s.text.now parent
scope_goes s at parent e h i p f =
    scope_step s.row.now s.text.now s.number h
    ∙ ap (λ (j : ℕ). entry_at s.row.now s.text.now j ∷ scope_of s.row.now s.text.now (parent_at s.row.now j)) (sym i)
    ∙ ap (λ (b : Binding). b ∷ scope_of s.row.now s.text.now (parent_at s.row.now at)) (sym f)
    ∙ ap (λ (n : ℕ). binding_of e ∷ scope_of s.row.now s.text.now n) (sym p)
