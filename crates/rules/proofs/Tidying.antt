-- What accepted units make known is tidy.
use Rattle.std.proofs.Common.{◌≡◌, ℕ, List, Some, None, Ok, Err, Option, Result, refl, ap, subst}
use Rattle.std.proofs.lemmas.Option.{same_Some}
use Rattle.types.specs.Types.{Name, unit, Ty}
use Rattle.cores.specs.Meaning.{Outcome, Stable}
use Rattle.cores.specs.declared.interface.Operation.{Operation}
use Rattle.rules.specs.Signatures.{Signature, structure, functor, Components, empty, more, Declaration, abstract, defined, value, nested, sort_of, find, on_some}
use Rattle.rules.specs.Lookup.{Env, extend}
use Rattle.rules.specs.Environments.{with_unit}
use Rattle.rules.specs.Projects.{Units, no_units, more_units}
use Rattle.rules.specs.Checker.{and_then, unless, normalize, normalize_all, normalize_one, check, check_units}
use Rattle.rules.specs.Failures.{Tidy, nothing_yet, a_unit}
use Rattle.rules.proofs.Settling.{Settled, SettledAll, SettledOne, SettledEnv, settled_extend, type_normal, then_some, then_is, unless_some, unless_is}
use Rattle.rules.proofs.Checking.{check_checks}
use Rattle.rules.specs.Sizes.{Laid}
use Rattle.rules.specs.Faults.{Fault, twice, next, must_not, Known, one_more, run_unit, in_unit, run_units}
use Rattle.rules.proofs.Numbering.{laid_none, laid_unit}
use Rattle.rules.proofs.Failing.{tidy_settled}

-- a settled signature is its own normal form
mutual
  pub settled_normal : (s : Signature) (Γ : Env) → SettledEnv Γ → Settled Γ s → normalize Γ s ≡ Some s
  settled_normal (structure c) Γ e w = ap (on_some structure) (settled_all_normal c Γ e w)
  settled_normal (functor s r) Γ e w =
      then_is (normalize Γ s) (λ a. on_some (functor a) (normalize (extend Γ a) r)) s (functor s r) (settled_normal s Γ e w.0)
      (ap (on_some (functor s)) (settled_normal r (extend Γ s) (settled_extend Γ s e w.0) w.1))

  settled_all_normal : (c : Components) (Γ : Env) → SettledEnv Γ → SettledAll Γ c → normalize_all Γ c ≡ Some c
  settled_all_normal empty Γ e w = refl
  settled_all_normal (more c x d) Γ e w =
      then_is (normalize_all Γ c) (λ b. unless (find (sort_of d) x c) (on_some (more b x) (normalize_one (extend Γ (structure b)) d))) c (more c x d)
      (settled_all_normal c Γ e w.0)
      (unless_is (find (sort_of d) x c) (on_some (more c x) (normalize_one (extend Γ (structure c)) d)) (more c x d) w.1
      (ap (on_some (more c x)) (settled_one_normal d (extend Γ (structure c)) (settled_extend Γ (structure c) e w.0) w.2)))

  settled_one_normal : (d : Declaration) (Γ : Env) → SettledEnv Γ → SettledOne Γ d → normalize_one Γ d ≡ Some d
  settled_one_normal abstract Γ e w = refl
  settled_one_normal (defined t) Γ e w = ap (on_some defined) (type_normal e w)
  settled_one_normal (value t) Γ e w = ap (on_some value) (type_normal e w)
  settled_one_normal (nested s) Γ e w = ap (on_some nested) (settled_normal s Γ e w)

pub check_tidy : {C : Type 0} (n : ℕ) (rule : Operation → List Ty → Outcome C) → Stable n rule → (us : Units) (Γ : Env) → check_units rule us ≡ Some Γ → Tidy Γ
check_tidy n rule law no_units Γ q = subst Tidy (same_Some _ _ q) nothing_yet
check_tidy n rule law (more_units us u) Γ q =
    let x = u.name in
    let w = then_some (check_units rule us) (λ Γ. unless (Γ (unit u.name)) (and_then (check rule Γ u.body) (λ s. Some (with_unit u.name s Γ)))) Γ q in
    let Γ₀ = w.0 in
    let v = unless_some (Γ₀ (unit x)) (and_then (check rule Γ₀ u.body) (λ s. Some (with_unit x s Γ₀))) Γ w.2 in
    let y = then_some (check rule Γ₀ u.body) (λ s. Some (with_unit x s Γ₀)) Γ v.1 in
    let t = check_tidy n rule law us Γ₀ w.1 in
    let e = tidy_settled t in
    let j = check_checks n rule law u.body Γ₀ y.0 e y.1 in
    subst Tidy (same_Some _ _ y.2) (a_unit x y.0 t v.0 (settled_normal y.0 Γ₀ e j.settled))

next_ok : {A B E : Type 0} (r : Result A E) (f : A → Result B E) (b : B) → next r f ≡ Ok b → (a : A) × (r ≡ Ok a) × (f a ≡ Ok b)
next_ok (Ok a) f b q = (a, refl, q)
next_ok (Err e) f b q = cc

must_not_ok : {A B E : Type 0} (x : E) (o : Option A) (r : Result B E) (b : B) → must_not x o r ≡ Ok b → (o ≡ None) × (r ≡ Ok b)
must_not_ok x None r b q = (refl, q)
must_not_ok x (Some a) r b q = cc

in_unit_ok : {A C : Type 0} (x : Name) (r : Result A (Fault C)) (a : A) → in_unit x r ≡ Ok a → r ≡ Ok a
in_unit_ok x (Ok b) a q = cc
in_unit_ok x (Err f) a q = cc

ok_is : {A E : Type 0} {a b : A} → ◌≡◌ {A = Result A E} (Ok a) (Ok b) → a ≡ b
ok_is q = cc

pub run_laid : {C : Type 0} (rule : Operation → List Ty → Outcome C) (us : Units) (w : Known) → run_units rule us ≡ Ok w → Laid w.stand w.signatures w.length
run_laid rule no_units w q = subst (λ z. Laid z.stand z.signatures z.length) (ok_is q) (laid_none (λ h. 0) 0)
run_laid rule (more_units us u) w q =
    let a = next_ok (run_units rule us)
    (λ w. in_unit u.name (must_not (twice u.name) (w.signatures (unit u.name)) (next (run_unit rule w u) (λ s. Ok (one_more u.name s w))))) w q in
    let w₀ = a.0 in
    let b = must_not_ok (twice u.name) (w₀.signatures (unit u.name)) (next (run_unit rule w₀ u) (λ s. Ok (one_more u.name s w₀))) w
    (in_unit_ok u.name (must_not (twice u.name) (w₀.signatures (unit u.name)) (next (run_unit rule w₀ u) (λ s. Ok (one_more u.name s w₀)))) w a.2) in
    let c = next_ok (run_unit rule w₀ u) (λ s. Ok (one_more u.name s w₀)) w b.1 in
    subst (λ z. Laid z.stand z.signatures z.length) (ok_is c.2)
    (laid_unit w₀.stand w₀.signatures w₀.length u.name c.0 b.0 (run_laid rule us w₀ a.1))
