-- Units in load order.
use Rattle.std.proofs.Common.{◌≡◌, ℕ, ◌+◌, ◌<◌, Bool, true, false, cond, ◌⊎◌, List, Some, None, Option, sym, refl, ap, ◌∙◌, subst, subst₂, inl, inr, arith}
use Rattle.std.specs.Str.{bytes_eq}
use Rattle.std.proofs.lemmas.Slice.Eq.{bytes_eq-Decides}
use Rattle.types.specs.Types.{Name, Head, unit, binder, ModulePath, at, dot, named, numbered, Ty, leaf}
use Rattle.cores.specs.Meaning.{Outcome, Stable}
use Rattle.cores.specs.declared.interface.Operation.{Operation}
use Rattle.rules.specs.Signatures.{a_type, a_module, Signature}
use Rattle.rules.specs.Lookup.{Env, head, Normal}
use Rattle.rules.specs.Environments.{unknown, with_unit}
use Rattle.rules.specs.Syntax.{CompilationUnit}
use Rattle.rules.specs.Rules.{Derives}
use Rattle.rules.specs.Projects.{Units, no_units, more_units, Loads, start, next}
use Rattle.rules.proofs.Algebra.{type_id, signature_id}
use Rattle.rules.proofs.Finding.{same_bytes_self}
use Rattle.rules.proofs.Inner.{Proper}
use Rattle.rules.proofs.Along.{From}
use Rattle.rules.proofs.Exact.{Exact, exact_at}
use Rattle.rules.proofs.Derived.{derives_proper}
use Rattle.rules.proofs.Project.{unit_along, unit_proper, loads_freely, loads_unique, loads_principal, unit_kept, one_more_kept}
use Rattle.rules.proofs.Settling.{normal_exactly}
use Rattle.checker.specs.Numbered.{Sig, size_of, Placed}
use Rattle.checker.specs.Meanings.{Meaning, numbered_type, itself}
use Rattle.checker.specs.Scope.{Scope, nothing, with_unit_of, part_of, module_of, type_of_part, module_at, type_at}
use Rattle.checker.specs.Faults.{Answer, ok, fault}
use Rattle.checker.specs.Modules.{check_module}
use Rattle.checker.specs.Units.{Known, CheckAnswer, accepted, refused, after_unit, check_next, check_units}
use Rattle.checker.specs.Standing.{calls, Like, Called, HeadStands, ScopeStands, Reached}
use Rattle.checker.specs.Statements.{Unnamed, OnceUnits, NotSize, NoSize, Accepts, Decided, CheckDecides, AcceptanceLaw, TypeLeads}
use Rattle.checker.proofs.Carrying.{no_number, Carry, like_along}
use Rattle.checker.proofs.Looking.{look_type}
use Rattle.checker.proofs.Entering.{calls_apart, calls_called, like_once, Reaches, calls_reach, Blank, known_below, Settled, World, called_moved}
use Rattle.checker.proofs.Checking.{ModuleRight, module_right}

unit_exact : (x : Name) (s : Signature) (Γ : Env) → Γ (unit x) ≡ None → From Exact at Γ (with_unit x s Γ)
unit_exact x s Γ f h t e = subst (Exact (with_unit x s Γ) (at h)) (sym (signature_id t)) (exact_at (head (unit_kept x s Γ f h t e)))

normal_unit : {Γ : Env} (x : Name) (s : Signature) → Γ (unit x) ≡ None → {t n : Ty} → Normal Γ t n → Normal (with_unit x s Γ) t n
normal_unit {Γ} x s f {t} {n} m =
    subst₂ (Normal (with_unit x s Γ)) (type_id t) (type_id n) (normal_exactly m at (with_unit x s Γ) (unit_exact x s Γ f))

scope_kept : (x : Name) (s : Sig) (G : Scope) → G (unit x) ≡ None → (h : Head) (t : Sig) → G h ≡ Some t → with_unit_of x s G h ≡ Some t
scope_kept x s G f (unit y) t e = one_more_kept x s (λ z. G (unit z)) f y t e
scope_kept x s G f (binder n) t e = e

module_kept : (x : Name) (s : Sig) (G : Scope) → G (unit x) ≡ None → (p : ModulePath) (t : Sig) → module_at G p ≡ Some t → module_at (with_unit_of x s G) p ≡ Some t
module_kept x s G f (at h) t e = scope_kept x s G f h t e
module_kept x s G f (dot p y) t e = go (module_at G p) refl (module_kept x s G f p) e
  where
    go : (o : Option Sig) → module_at G p ≡ o → ((n : Sig) → module_at G p ≡ Some n → module_at (with_unit_of x s G) p ≡ Some n) → module_of (part_of a_module y o) ≡ Some t → module_at (with_unit_of x s G) (dot p y) ≡ Some t
    go None i ih j = cc
    go (Some n) i ih j = ap (λ o. module_of (part_of a_module y o)) (ih n i) ∙ j

type_kept : (x : Name) (s : Sig) (G : Scope) → G (unit x) ≡ None → (p : ModulePath) (y : Name) (t : Ty) → type_at G p y ≡ Some t → type_at (with_unit_of x s G) p y ≡ Some t
type_kept x s G f p y t e = go (module_at G p) refl e
  where
    go : (o : Option Sig) → module_at G p ≡ o → type_of_part (part_of a_type y o) ≡ Some t → type_at (with_unit_of x s G) p y ≡ Some t
    go None i j = cc
    go (Some n) i j = ap (λ o. type_of_part (part_of a_type y o)) (module_kept x s G f p n i) ∙ j

pub none_none : (G : Scope) (Γ : Env) (ρ : Meaning) → ScopeStands G Γ ρ → (h : Head) → G h ≡ None → Γ h ≡ None
none_none G Γ ρ k h e = go (G h) (Γ h) e (k h)
  where
    go : (o : Option Sig) (o' : Option Signature) → o ≡ None → HeadStands o o' h Γ ρ → o' ≡ None
    go o None e k = refl
    go None (Some s) e k = absurd k
    go (Some n) (Some s) e k = cc

-- one more unit
pub enter_unit :
    {G : Scope} {Γ : Env} {ρ : Meaning} {q : ℕ} → World G Γ ρ q → (x : Name) → G (unit x) ≡ None → (n : Sig) (s : Signature) → Like n s Γ ρ → Placed q n → Proper Γ s →
    World (with_unit_of x n G) (with_unit x s Γ) (calls (at (unit x)) n ρ) (q + size_of n)
enter_unit {G} {Γ} {ρ} {q} w x e n s l p d =
    record { stands = heads; reached = reaches; blank = blanks; settled = settles; proper = unit_proper x s Γ none w.proper d }
  where
    none : Γ (unit x) ≡ None
    none = none_none G Γ ρ w.stands (unit x) e

    same : (i : ℕ) → i < q → calls (at (unit x)) n ρ i ≡ ρ i
    same i h = calls_apart n (at (unit x)) q ρ i p (λ a b. let z : ⊥ = omega arith in z)

    carry : Carry at Γ ρ (with_unit x s Γ) (calls (at (unit x)) n ρ)
    carry i m =
        subst₂ (Normal (with_unit x s Γ)) (sym (type_id (ρ i))) (sym (same i (known_below w.blank i m))) (normal_unit x s none m)

    like_here : (m : Sig) (t : Signature) → Like m t Γ ρ → Like m t (with_unit x s Γ) (calls (at (unit x)) n ρ)
    like_here m t k =
        subst (λ z. Like m z (with_unit x s Γ) (calls (at (unit x)) n ρ)) (signature_id t)
        (like_along m t at Γ ρ (with_unit x s Γ) (calls (at (unit x)) n ρ) (unit_along x s Γ none) carry k)

    called_here : (m : Sig) (r : ModulePath) → Called r m ρ → Called r m (calls (at (unit x)) n ρ)
    called_here m r k = called_moved (λ p. p) (λ p x. refl) ρ (calls (at (unit x)) n ρ) (λ i a y f. kept i a y f (w.settled i)) m r k
      where
        kept : (i : ℕ) (a : ModulePath) (y : Name) → ρ i ≡ leaf (named a y) → (ρ i ≡ numbered_type i) ⊎ Normal Γ (ρ i) (ρ i) → calls (at (unit x)) n ρ i ≡ leaf (named a y)
        kept i a y f (inl g) = cc
        kept i a y f (inr m') = same i (known_below w.blank i m') ∙ f

    old : (o : Option Sig) (o' : Option Signature) (h : Head) → HeadStands o o' h Γ ρ → HeadStands o o' h (with_unit x s Γ) (calls (at (unit x)) n ρ)
    old None None h k = tt
    old None (Some t) h k = absurd k
    old (Some m) None h k = absurd k
    old (Some m) (Some t) h k = (like_here m t k.0, called_here m (at h) k.1)

    heads : ScopeStands (with_unit_of x n G) (with_unit x s Γ) (calls (at (unit x)) n ρ)
    heads (unit y) = go (bytes_eq x y) refl
      where
        go : (b : Bool) → bytes_eq x y ≡ b → HeadStands (cond b (Some n) (G (unit y))) (cond b (Some s) (Γ (unit y))) (unit y) (with_unit x s Γ) (calls (at (unit x)) n ρ)
        go true i = (
          like_here n s l,
          subst (λ z. Called (at (unit z)) n (calls (at (unit x)) n ρ)) ((bytes_eq-Decides x y).0 i) (calls_called n (at (unit x)) q ρ p),
        )
        go false i = old (G (unit y)) (Γ (unit y)) (unit y) (w.stands (unit y))
    heads (binder k) = old (G (binder k)) (Γ (binder k)) (binder k) (w.stands (binder k))

    blanks : Blank (q + size_of n) (calls (at (unit x)) n ρ)
    blanks i h = calls_apart n (at (unit x)) q ρ i p (λ a b. let z : ⊥ = omega arith in z) ∙ w.blank i (omega arith)

    reach : (i : ℕ) → Reaches (with_unit_of x n G) (calls (at (unit x)) n) i
    reach i = calls_reach n (with_unit_of x n G) (at (unit x)) (ap (λ b. cond b (Some n) (G (unit x))) (same_bytes_self x)) (like_once n s Γ ρ l d) i

    reaches : Reached (with_unit_of x n G) (with_unit x s Γ) (calls (at (unit x)) n ρ)
    reaches i m = go (reach i)
      where
        normal : calls (at (unit x)) n ρ i ≡ ρ i → (ρ i ≡ numbered_type i) ⊎ Normal Γ (ρ i) (ρ i) → Normal Γ (ρ i) (ρ i)
        normal f (inl g) = absurd (no_number m i (f ∙ g))
        normal f (inr k) = k

        go : Reaches (with_unit_of x n G) (calls (at (unit x)) n) i → (r : ModulePath) × (y : Name) × (calls (at (unit x)) n ρ i ≡ leaf (named r y)) × (type_at (with_unit_of x n G) r y ≡ Some (leaf (numbered i)))
        go (inl v) = (v.0, v.1, v.2 ρ, v.3)
        go (inr v) =
            let z = w.reached i (normal (v ρ) (w.settled i)) in
            (z.0, z.1, v ρ ∙ z.2, type_kept x n G e z.0 z.1 (numbered_type i) z.3)

    settles : Settled (with_unit x s Γ) (calls (at (unit x)) n ρ)
    settles i = go (reach i)
      where
        rest : calls (at (unit x)) n ρ i ≡ ρ i → (ρ i ≡ numbered_type i) ⊎ Normal Γ (ρ i) (ρ i) → (calls (at (unit x)) n ρ i ≡ numbered_type i) ⊎ Normal (with_unit x s Γ) (calls (at (unit x)) n ρ i) (calls (at (unit x)) n ρ i)
        rest f (inl g) = inl (f ∙ g)
        rest f (inr m) = inr (subst₂ (Normal (with_unit x s Γ)) (sym f) (sym f) (normal_unit x s none m))

        go : Reaches (with_unit_of x n G) (calls (at (unit x)) n) i → (calls (at (unit x)) n ρ i ≡ numbered_type i) ⊎ Normal (with_unit x s Γ) (calls (at (unit x)) n ρ i) (calls (at (unit x)) n ρ i)
        go (inl v) =
            let t : TypeLeads (Some (numbered_type i)) v.0 v.1 (with_unit x s Γ) (calls (at (unit x)) n ρ) =
            subst (λ o. TypeLeads o v.0 v.1 (with_unit x s Γ) (calls (at (unit x)) n ρ)) v.3
            (look_type (with_unit_of x n G) (with_unit x s Γ) (calls (at (unit x)) n ρ) heads v.0 v.1) in
            inr (subst (λ z. Normal (with_unit x s Γ) z (calls (at (unit x)) n ρ i)) (sym (v.2 ρ)) t.1)
        go (inr v) = rest (v ρ) (w.settled i)

-- nothing is known at the start
pub world_start : World nothing unknown itself 0
world_start =
    record {
      stands = λ h. tt;
      reached = λ n m. absurd (no_number m n refl);
      blank = λ n h. refl;
      settled = λ n. inl refl;
      proper = λ h s e. (cc);
    }

module _ {C : Type 0} (v : ℕ) (rule : Operation → List Ty → Outcome C) (law : Stable v rule) where
  -- units are answered rightly
  abbrev pub UnitsRight : CheckAnswer C → Units → Type 0
  UnitsRight (accepted k) us = (Γ : Env) × (ρ : Meaning) × Loads rule false us Γ × World k.scope Γ ρ k.next × ((x : Name) → Unnamed x us → k.scope (unit x) ≡ None)
  UnitsRight (refused x e) us = NotSize e → (Γ : Env) → Loads rule false us Γ → ⊥

  of_next : {us : Units} {u : CompilationUnit} {Γ : Env} → Loads rule false (more_units us u) Γ → (Δ : Env) × Loads rule false us Δ × ((s : Signature) × Derives rule false Δ u.body s)
  of_next (next {Γ = Δ} s l f d) = (Δ, l, (s, d))

  other_name : (x y : Name) (s : Sig) (G : Scope) → (x ≡ y → ⊥) → G (unit y) ≡ None → with_unit_of x s G (unit y) ≡ None
  other_name x y s G h e = go (bytes_eq x y) refl
    where
      go : (b : Bool) → bytes_eq x y ≡ b → cond b (Some s) (G (unit y)) ≡ None
      go true i = absurd (h ((bytes_eq-Decides x y).0 i))
      go false i = e

  next_right : (us : Units) (u : CompilationUnit) → Unnamed u.name us → (k : Known) → UnitsRight (accepted k) us →
      ((Γ : Env) (ρ : Meaning) → World k.scope Γ ρ k.next → ModuleRight v rule law (check_module rule k.scope k.next u.body) u.body k.next Γ ρ) →
      UnitsRight (after_unit u.name k (check_module rule k.scope k.next u.body)) (more_units us u)
  next_right us u o k h ih = go (check_module rule k.scope k.next u.body) (ih h.0 h.1 h.3)
    where
      go : (a : Answer C Sig) → ModuleRight v rule law a u.body k.next h.0 h.1 → UnitsRight (after_unit u.name k a) (more_units us u)
      go (ok n) m =
          let e = h.4 u.name o in (
            with_unit u.name m.0 h.0,
            calls (at (unit u.name)) n h.1,
            next m.0 h.2 (none_none k.scope h.0 h.1 h.3.stands (unit u.name) e) m.1,
            enter_unit h.3 u.name e n m.0 m.2 m.3 (derives_proper v rule law m.1 h.3.proper),
            λ x z. other_name u.name x n k.scope z.1 (h.4 x z.0),
          )
      go (fault e) m = λ i Γ l.
          let z = of_next l in
          m i z.2.0 (subst (λ Δ. Derives rule false Δ u.body z.2.0) (loads_unique z.1 h.2) z.2.1)

  pub units_right : (us : Units) → OnceUnits us → UnitsRight (check_units rule us) us
  units_right no_units o = (unknown, itself, start, world_start, λ x z. refl)
  units_right (more_units us u) o = go (check_units rule us) (units_right us o.0)
    where
      go : (a : CheckAnswer C) → UnitsRight a us → UnitsRight (check_next rule u a) (more_units us u)
      go (accepted k) h = next_right us u o.1 k h (λ Γ ρ w. module_right v rule law u.body k.scope Γ ρ k.next w o.2)
      go (refused x e) h = λ i Γ l. let z = of_next l in h i z.0 z.1

  pub check_decides : CheckDecides rule
  check_decides us o = go (check_units rule us) (units_right us o)
    where
      go : (a : CheckAnswer C) → UnitsRight a us → Decided rule us a
      go (accepted k) h = (h.0, h.1, h.2, h.3.stands)
      go (refused x e) h = λ i Γ l. let w = loads_principal v rule law l in h i w.0 w.1

  pub acceptance_law : AcceptanceLaw rule
  acceptance_law us o = go (check_units rule us) (check_decides us o)
    where
      go : (a : CheckAnswer C) → Decided rule us a → NoSize a → (Accepts a → (Γ : Env) × Loads rule true us Γ) × (((Γ : Env) × Loads rule true us Γ) → Accepts a)
      go (accepted k) h i = (λ z. (h.0, loads_freely h.2), λ z. tt)
      go (refused x e) h i = (λ z. absurd z, λ z. absurd (h i z.0 z.1))
