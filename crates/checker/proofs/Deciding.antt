-- Matching at the top, and applications.
use Rattle.std.proofs.Common.{◌≡◌, ℕ, ◌≤◌, None, sym, refl, ap, ◌∙◌, subst, subst₂, arith}
use Rattle.types.specs.Types.{ModulePath, at, replace}
use Rattle.rules.specs.Signatures.{Signature}
use Rattle.rules.specs.Substitution.{innermost, out, lift, reading, on_type}
use Rattle.rules.specs.Lookup.{Env, extend, At, Normal}
use Rattle.rules.specs.Matching.{Matches}
use Rattle.rules.specs.Strengthening.{strengthen}
use Rattle.rules.proofs.Algebra.{lift_id, type_id, signature_id, type_reading_out}
use Rattle.rules.proofs.Finding.{normal_unique, normal_normal}
use Rattle.rules.proofs.Inner.{Fits, Proper}
use Rattle.rules.proofs.Along.{normal_along}
use Rattle.rules.proofs.Transitive.{Knows, knows_laws, knows_gives}
use Rattle.rules.proofs.Knowing.{id_along, reading_along}
use Rattle.rules.proofs.Reflexive.{at_gives}
use Rattle.rules.proofs.Strengthened.{gives_strengthen}
use Rattle.rules.proofs.Wording.{matches_fits}
use Rattle.checker.specs.Numbered.{Sig, size_of, Placed}
use Rattle.checker.specs.Meanings.{Meaning, itself, meant}
use Rattle.checker.specs.Scope.{Scope}
use Rattle.checker.specs.Copying.{strengthened}
use Rattle.checker.specs.Comparing.{Verdict, matched, differs, match_sigs}
use Rattle.checker.specs.Failing.{Settles}
use Rattle.checker.specs.Standing.{entered, Like}
use Rattle.checker.proofs.Settled.{first_failure}
use Rattle.checker.proofs.Carrying.{normal_outside}
use Rattle.checker.proofs.Typing.{or_label, back}
use Rattle.checker.proofs.Entering.{World}
use Rattle.checker.proofs.Copied.{Means, means_itself}
use Rattle.checker.proofs.Strength.{none_own}
use Rattle.checker.proofs.Ground.{Apart, meant_out}
use Rattle.checker.proofs.Meeting.{Ground, Reading, Side, meets_fit}
use Rattle.checker.proofs.Differing.{fails_fit}

-- a world is a ground for matching
pub world_ground : {G : Scope} {Γ : Env} {ρ : Meaning} {q : ℕ} → World G Γ ρ q → Ground Γ ρ
world_ground {G} {Γ} {ρ} w =
    record { sound = w.proper; recovers = (back G, λ n m. let v = w.reached n m in ap (replace (back G)) v.2 ∙ ap or_label v.3) }

abbrev pub here : (Γ : Env) (ρ : Meaning) → Reading Γ ρ itself
here Γ ρ = record { known = Γ; names = ρ; way = at; along = id_along Γ; means = means_itself Γ ρ; tidy = λ n. tt }

pub side :
    {G : Scope} {Γ : Env} {ρ : Meaning} {q : ℕ} → World G Γ ρ q → (a : ℕ) → q ≤ a → (n : Sig) (s : Signature) → Like n s Γ ρ → Proper Γ s → Placed a n → Side Γ ρ n itself a (here Γ ρ) s
side w a h n s l p d = record { like = l; proper = p; placed = d; plain_names = λ i u v. w.blank i (omega arith); plain_means = λ i u v. refl }

-- what a verdict says of the signatures
abbrev pub VerdictRight : Verdict → Env → Meaning → Sig → Signature → Sig → Signature → Type 0
VerdictRight (matched φ) Γ ρ g s w t =
    Fits Γ s t × Means (lift at) (extend Γ t) (entered w ρ) (extend Γ s) (entered g ρ) φ
VerdictRight (differs x m) Γ ρ g s w t = Matches Γ s t → ⊥

pub match_right :
    {G : Scope} {Γ : Env} {ρ : Meaning} {q : ℕ} → World G Γ ρ q → (a b : ℕ) → q ≤ a → q ≤ b → (g : Sig) (s : Signature) → Like g s Γ ρ → Proper Γ s → Placed a g →
    (w : Sig) (t : Signature) → Like w t Γ ρ → Proper Γ t → Placed b w → Apart a (size_of g) b (size_of w) → VerdictRight (match_sigs g w) Γ ρ g s w t
match_right {G} {Γ} {ρ} {q} d a b i j g s l p e w t l' p' e' o = go (match_sigs g w) (first_failure g w)
  where
    go : (v : Verdict) → Settles itself g itself w None v → VerdictRight v Γ ρ g s w t
    go (matched φ) m =
        let f = meets_fit m Γ ρ a b (world_ground d) (here Γ ρ) s (side d a i g s l p e) (here Γ ρ) t (side d b j w t l' p' e') o in (
          subst₂ (Fits Γ) (signature_id s) (signature_id t) f.0,
          subst (λ z. Means (lift at) (extend Γ t) (entered w ρ) (extend Γ z) (entered g ρ) φ) (signature_id s) f.1,
        )
    go (differs x c) f = λ h.
        fails_fit f Γ ρ a b (world_ground d) (here Γ ρ) s (side d a i g s l p e) (here Γ ρ) t (side d b j w t l' p' e') o
        (subst₂ (Fits Γ) (sym (signature_id s)) (sym (signature_id t)) (matches_fits h d.proper p p'))

-- where the strengthened signature of a path matches a parameter, the parameter's numbers mean what the path has
pub argument_means :
    (Γ : Env) (ρ : Meaning) (p : ModulePath) (s t : Signature) (n w : Sig) (b : ℕ) (φ : Meaning) → Proper Γ s → At Γ p s →
    Means (lift at) (extend Γ t) (entered w ρ) (extend Γ (strengthen p s)) (entered (strengthened b n) ρ) φ →
    Means (reading p) (extend Γ t) (entered w ρ) Γ ρ φ
argument_means Γ ρ p s t n w b φ d a k i m =
    let v = k i m in
    let g = strengthen p s in
    let Γz = extend Γ g in
    let e : meant (entered (strengthened b n) ρ) (φ i) ≡ on_type out (meant ρ (φ i)) =
    ap (λ z. meant z (φ i)) (none_own n b innermost (λ j. on_type out (ρ j))) ∙ meant_out (φ i) v.0 ρ in
    let f : on_type (lift at) (entered w ρ i) ≡ entered w ρ i = ap (λ z. on_type z (entered w ρ i)) lift_id ∙ type_id (entered w ρ i) in
    let u : Normal Γz (entered w ρ i) (on_type out (meant ρ (φ i))) = subst₂ (Normal Γz) f e v.1 in
    let r = normal_along Knows knows_laws u (reading p) Γ (reading_along Γ p g (knows_gives (gives_strengthen (at_gives Γ p s d a)))) in
    let x = normal_outside (meant ρ (φ i)) Γ g (normal_normal u) in
    let y : Normal Γ (meant ρ (φ i)) r.0 = subst (λ z. Normal Γ z r.0) (type_reading_out p (meant ρ (φ i))) r.2 in
    (v.0, subst (Normal Γ (on_type (reading p) (entered w ρ i))) (normal_unique y x) r.1)
