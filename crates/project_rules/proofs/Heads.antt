-- The heads of a text that name no known unit: as the checker finds them in a scope, and as the names of units say.
use Rattle.std.proofs.Common.{◌≡◌, ℕ, ◌+◌, ◌≤◌, Bool, true, false, cond, not, ◌||◌, List, [], ◌∷◌, ◌++◌, Some, None, Option, sym, refl, ap, ◌∙◌, ap₂, arith}
use Rattle.std.specs.Str.{bytes_eq}
use Rattle.std.specs.Option.{is_some}
use Rattle.std.proofs.Math.Bool.{or_assoc, or_comm, or-false}
use Rattle.types.specs.Types.{Name, unit, binder, ModulePath, at, dot, Ty}
use Rattle.cores.specs.Meaning.{Outcome}
use Rattle.cores.specs.declared.interface.Operation.{Operation}
use Rattle.rules.specs.Signatures.{first_of, on_some}
use Rattle.rules.specs.Syntax.{TypeText, path_text, label_text0, label_text1, label_text2, SignatureText, sig_text, functor_text, SpecTexts, no_specs, more_specs, SpecText, abstract_spec, defined_spec, value_spec, module_spec, CompilationUnit}
use Rattle.rules.specs.Naming.{path_names, type_names, signature_names, specs_names, spec_names}
use Rattle.rules.specs.Projects.{Units, no_units, more_units}
use Rattle.checker.specs.Numbered.{Sig, size_of}
use Rattle.checker.specs.Scope.{Scope, nothing, with_unit_of}
use Rattle.checker.specs.Faults.{Answer, ok, fault}
use Rattle.checker.specs.Modules.{check_module}
use Rattle.checker.specs.Units.{Known, CheckAnswer, accepted, refused, after_unit, check_next, check_units, unknown_here, unknown_in, unknown_in_type, unknown_in_sig, unknown_in_specs, unknown_in_spec}
use Rattle.project_rules.specs.Project.{ProjectUnit, first_where, unit_at, name_at, behind, units_at}
use Rattle.project_rules.specs.Fit.{one_named}
use Rattle.project_rules.proofs.Lists.{first_append}

-- a head's place
abbrev pub spot : Name × ℕ → ℕ
spot h = h.1

first_of_on : {A B : Type 0} (f : A → B) (a b : Option A) → on_some f (first_of a b) ≡ first_of (on_some f a) (on_some f b)
first_of_on f (Some a) b = refl
first_of_on f None b = refl

-- the first head of a text that names no unit of a scope, by a test of which names it has
module _ (Γ : Scope) (known : Name → Bool) (same : (x : Name) → is_some (Γ (unit x)) ≡ known x) where
  abbrev unknown_head : Name × ℕ → Bool
  unknown_head h = not (known h.0)

  abbrev First : List (Name × ℕ) → Option ℕ
  First hs = on_some spot (first_where unknown_head hs)

  here : (x : Name) (place : ℕ) → unknown_here place (Γ (unit x)) ≡ First ((x, place) ∷ [])
  here x place = go (Γ (unit x)) (known x) (same x)
    where
      go : (o : Option Sig) (b : Bool) → is_some o ≡ b → unknown_here place o ≡ on_some spot (cond (not b) (Some (x, place)) None)
      go (Some s) true e = refl
      go (Some s) false e = cc
      go None true e = cc
      go None false e = refl

  both : (l m : List (Name × ℕ)) (a b : Option ℕ) → a ≡ First l → b ≡ First m → first_of a b ≡ First (l ++ m)
  both l m a b e f =
      ap₂ first_of e f ∙ sym (first_of_on spot (first_where unknown_head l) (first_where unknown_head m)) ∙ sym (ap (on_some spot) (first_append unknown_head l m))

  in_path : (p : ModulePath) (place : ℕ) → unknown_in Γ place p ≡ First (path_names p place)
  in_path (at (binder n)) place = refl
  in_path (at (unit x)) place = here x place
  in_path (dot p x) place = in_path p place

  in_type : (t : TypeText) → unknown_in_type Γ t ≡ First (type_names t)
  in_type (path_text place p x) = in_path p place
  in_type (label_text0 place l) = refl
  in_type (label_text1 place l t) = in_type t
  in_type (label_text2 place l t u) = both (type_names t) (type_names u) (unknown_in_type Γ t) (unknown_in_type Γ u) (in_type t) (in_type u)

  mutual
    pub in_sig : (s : SignatureText) → unknown_in_sig Γ s ≡ First (signature_names s)
    in_sig (sig_text place c) = in_specs c
    in_sig (functor_text place s r) = both (signature_names s) (signature_names r) (unknown_in_sig Γ s) (unknown_in_sig Γ r) (in_sig s) (in_sig r)

    in_specs : (c : SpecTexts) → unknown_in_specs Γ c ≡ First (specs_names c)
    in_specs no_specs = refl
    in_specs (more_specs c x d) = both (specs_names c) (spec_names d) (unknown_in_specs Γ c) (unknown_in_spec Γ d) (in_specs c) (in_spec d)

    in_spec : (d : SpecText) → unknown_in_spec Γ d ≡ First (spec_names d)
    in_spec abstract_spec = refl
    in_spec (defined_spec t) = in_type t
    in_spec (value_spec t) = in_type t
    in_spec (module_spec s) = in_sig s

-- one of some units has this name
abbrev pub named_in : Units → Name → Bool
named_in no_units x = false
named_in (more_units us u) x = bytes_eq u.name x || named_in us x

named_in_behind : (us : List ProjectUnit) (b : Units) (is : List ℕ) (x : Name) → named_in (behind us b is) x ≡ (one_named us is x || named_in b x)
named_in_behind us b [] x = refl
named_in_behind us b (i ∷ is) x =
    named_in_behind us (more_units b (unit_at us i)) is x ∙ moves (bytes_eq (name_at us i) x) (one_named us is x) (named_in b x)
  where
    moves : (a b c : Bool) → (b || (a || c)) ≡ ((a || b) || c)
    moves a b c = sym (or_assoc b a c) ∙ ap (λ z. z || c) (or_comm b a)

-- what is known behind one more unit
abbrev after : Name → Sig → Known → Known
after x g k = record { scope = with_unit_of x g k.scope; next = k.next + size_of g }

abbrev start : Known
start = record { scope = nothing; next = 0 }

module _ {C : Type 0} (rule : Operation → List Ty → Outcome C) where
  -- what an accepted unit behind others was answered
  pub record UnitAccepted (b : Units) (u : CompilationUnit) (k : Known) : Type 0 where
    pub earlier : Known
    pub own : Sig
    pub others : check_units rule b ≡ accepted earlier
    pub module_is : check_module rule earlier.scope earlier.next u.body ≡ ok own
    pub known : k ≡ after u.name own earlier

  pub unit_accepted : (b : Units) (u : CompilationUnit) (k : Known) → check_units rule (more_units b u) ≡ accepted k → UnitAccepted b u k
  unit_accepted b u k = outer (check_units rule b) refl
    where
      inner : (k₀ : Known) → check_units rule b ≡ accepted k₀ → (a : Answer C Sig) → check_module rule k₀.scope k₀.next u.body ≡ a →
          after_unit u.name k₀ a ≡ accepted k → UnitAccepted b u k
      inner k₀ e (ok g) f h = record { earlier = k₀; own = g; others = e; module_is = f; known = cc }
      inner k₀ e (fault c) f h = cc

      outer : (a : CheckAnswer C) → check_units rule b ≡ a → check_next rule u a ≡ accepted k → UnitAccepted b u k
      outer (accepted k₀) e h = inner k₀ e (check_module rule k₀.scope k₀.next u.body) refl h
      outer (refused x c) e h = cc

  -- units in front of accepted ones are accepted, with no more words
  pub front_accepted : (us : List ProjectUnit) (b : Units) (is : List ℕ) (k : Known) → check_units rule (behind us b is) ≡ accepted k →
      (k₀ : Known) × (check_units rule b ≡ accepted k₀) × (k₀.next ≤ k.next)
  front_accepted us b [] k e = (k, e, omega arith)
  front_accepted us b (i ∷ is) k e =
      let r = front_accepted us (more_units b (unit_at us i)) is k e in
      let a = unit_accepted b (unit_at us i) r.0 r.1 in
      (a.earlier, a.others, omega (arith, r.2, ap (λ z. z.next) a.known))

  -- a scope knows the names of the units accepted
  scope_names : (b : Units) (k : Known) → check_units rule b ≡ accepted k → (x : Name) → is_some (k.scope (unit x)) ≡ named_in b x
  scope_names no_units k e x =
      let z : k ≡ start = cc in
      ap (λ a. is_some (a.scope (unit x))) z
  scope_names (more_units b u) k e x =
      let a = unit_accepted b u k e in
      ap (λ z. is_some (z.scope (unit x))) a.known ∙ go (a.earlier.scope (unit x)) a.own (bytes_eq u.name x) (scope_names b a.earlier a.others x)
    where
      go : (o : Option Sig) (s : Sig) {n : Bool} (t : Bool) → is_some o ≡ n → is_some (cond t (Some s) o) ≡ (t || n)
      go o s true h = refl
      go o s false h = h

  pub scope_before : (us : List ProjectUnit) (is : List ℕ) (k : Known) → check_units rule (units_at us is) ≡ accepted k →
      (x : Name) → is_some (k.scope (unit x)) ≡ one_named us is x
  scope_before us is k e x = scope_names (units_at us is) k e x ∙ named_in_behind us no_units is x ∙ or-false (one_named us is x)
