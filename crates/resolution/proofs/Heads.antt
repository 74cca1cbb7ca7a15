-- A head is the one that the reader finds.
use Rattle.std.proofs.Common.{◌≡◌, ℕ, suc, Bool, true, false, cond, ◌&&◌, [], ◌∷◌, sym, refl, ap, ◌∙◌}
use Rattle.std.specs.Str.{bytes_eq}
use Rattle.types.specs.Types.{Name}
use Rattle.reader.specs.declared.scope.Sort.{Sort}
use Rattle.reader.specs.declared.scope.Binder.{Binder}
use Rattle.reader.specs.Scopes.{Scope, same_sort, Resolution, component, bound, nowhere, further, sought, seek}
use Rattle.resolution.specs.Heads.{Location, outward, past_variable, located, locate}
use Rattle.resolution.specs.Counting.{binders_from, binders_within, variables_within, is_variable, counted}
use Rattle.resolution.specs.Resolve.{entry}
use Rattle.resolution.specs.Statements.{HeadsAgree}

either_outward : (t : Bool) (m v : ℕ) →
    outward (cond t (Location.variable v) (Location.parameter m)) ≡ cond t (Location.variable v) (Location.parameter (suc m))
either_outward true m v = refl
either_outward false m v = refl

either_past : (t : Bool) (m v : ℕ) →
    past_variable (cond t (Location.variable v) (Location.parameter m)) ≡ cond t (Location.variable (suc v)) (Location.parameter m)
either_past true m v = refl
either_past false m v = refl

-- one further out in the reader's row is one further out in one of the rules' rows
past_itself : (y : Name) (scope : Scope) (r : Resolution) → outward (counted scope r) ≡ counted (entry Binder.Itself y scope) (further r)
past_itself y scope (component n) = refl
past_itself y scope (bound n) = either_outward (is_variable n scope) (binders_within n scope) (variables_within n scope)
past_itself y scope nowhere = refl

past_component : (s : Sort) (y : Name) (scope : Scope) (r : Resolution) → counted scope r ≡ counted (entry (Binder.Component s) y scope) r
past_component s y scope (component n) = refl
past_component s y scope (bound n) = refl
past_component s y scope nowhere = refl

past_parameter : (y : Name) (scope : Scope) (r : Resolution) → outward (counted scope r) ≡ counted (entry Binder.Parameter y scope) (further r)
past_parameter y scope (component n) = refl
past_parameter y scope (bound n) = either_outward (is_variable n scope) (binders_within n scope) (variables_within n scope)
past_parameter y scope nowhere = refl

past_variable_lem : (y : Name) (scope : Scope) (r : Resolution) → past_variable (counted scope r) ≡ counted (entry Binder.Variable y scope) (further r)
past_variable_lem y scope (component n) = refl
past_variable_lem y scope (bound n) = either_past (is_variable n scope) (binders_within n scope) (variables_within n scope)
past_variable_lem y scope nowhere = refl

-- none are further in than the innermost
none_within : (scope : Scope) → binders_within 0 scope ≡ 0
none_within [] = refl
none_within (b ∷ scope) = at_entry b.binder (none_within scope)
  where
    at_entry : (b : Binder) → binders_within 0 scope ≡ 0 → binders_from b 0 (λ k. binders_within k scope) ≡ 0
    at_entry Binder.Itself e = refl
    at_entry (Binder.Component s) e = e
    at_entry Binder.Parameter e = refl
    at_entry Binder.Variable e = refl

-- where a test decides
chosen : (t : Bool) (scope : Scope) (l : Location) (r q : Resolution) (m : Location) → m ≡ counted scope q → l ≡ counted scope r →
    cond t m l ≡ counted scope (cond t q r)
chosen true scope l r q m e f = e
chosen false scope l r q m e f = f

step : (s : Sort) (x : Name) (b : Binder) (y : Name) (scope : Scope) → locate s x scope ≡ counted scope (seek s x scope) →
    located s x b y (locate s x scope) ≡ counted (entry b y scope) (sought s x b y (seek s x scope))
step s x Binder.Itself y scope e = ap outward e ∙ past_itself y scope (seek s x scope)
step s x (Binder.Component t) y scope e =
    chosen (same_sort s t && bytes_eq x y) (entry (Binder.Component t) y scope) (locate s x scope) (seek s x scope)
    (component 0) (Location.component 0) (ap Location.component (sym (none_within scope))) (e ∙ past_component t y scope (seek s x scope))
step s x Binder.Parameter y scope e =
    chosen (same_sort s Sort.Module && bytes_eq x y) (entry Binder.Parameter y scope) (outward (locate s x scope)) (further (seek s x scope))
    (bound 0) (Location.parameter 0) refl
    (ap outward e ∙ past_parameter y scope (seek s x scope))
step s x Binder.Variable y scope e =
    chosen (same_sort s Sort.Value && bytes_eq x y) (entry Binder.Variable y scope) (past_variable (locate s x scope)) (further (seek s x scope))
    (bound 0) (Location.variable 0) refl
    (ap past_variable e ∙ past_variable_lem y scope (seek s x scope))

pub heads_agree : HeadsAgree
heads_agree s x [] = refl
heads_agree s x (b ∷ scope) = step s x b.binder b.name scope (heads_agree s x scope)
