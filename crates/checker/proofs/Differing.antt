-- Where numbered signatures do not meet, the signatures for which they stand do not match.
use Rattle.std.proofs.Common.{◌≡◌, ℕ, suc, ◌+◌, Some, None, Option, sym, refl, ◌∙◌, subst, arith}
use Rattle.types.specs.Types.{Name, ModulePath, dot, named, Ty, leaf}
use Rattle.rules.specs.Signatures.{a_type, a_value, Signature, structure, functor, Components, empty, more, Declaration, abstract, defined, value, nested}
use Rattle.rules.specs.Substitution.{Substitution, under, innermost, lift, reading, on_type, on_signature, on_components, on_declaration}
use Rattle.rules.specs.Lookup.{Env, extend, At, Has, Normal}
use Rattle.rules.proofs.Algebra.{signature_id, components_reading_lift}
use Rattle.rules.proofs.Finding.{at_unique, has_unique, normal_unique}
use Rattle.rules.proofs.Converse.{normal_has, at_has, gives_at}
use Rattle.rules.proofs.Inner.{Gives, g_structure, g_functor, GivesAll, Fits, f_structure, f_functor, Proper, ProperAll, ProperOne}
use Rattle.rules.proofs.Transitive.{GivesOne, gives_last}
use Rattle.checker.specs.Numbered.{Sig, sig, functor_sig, Parts, Part, abstract_part, defined_part, value_part, module_part, sort_of_part, size_of, size_of_parts, size_of_part, Placed, PlacedAll, PlacedOne}
use Rattle.checker.specs.Meanings.{Meaning, meant}
use Rattle.checker.specs.Failing.{Meets, Fails, no_functor_given, no_structure_given, in_components, in_parameters, in_results, FailsAll, earlier, here, FailsOne, is_missing, another_value, another_type, in_module}
use Rattle.checker.specs.Faults.{Mismatch}
use Rattle.checker.specs.Standing.{entered, Like, LikeAll, LikeOne}
use Rattle.checker.proofs.Looking.{part_value}
use Rattle.checker.proofs.Copied.{stands_means}
use Rattle.checker.proofs.Ground.{PlainIn, PlainInAll, PlainInOne, plain_in, plain_one_agree, Apart, inside_found, meant_tidy, after_meaning, meant_comp, tell_apart, entered_plain}
use Rattle.checker.proofs.Meeting.{Ground, Reading, There, Side, meets_all_apart, Fitted, ground_enter, reading_weaken, there_enter, there_structure, reading_more, reading_there, partner_type, apart_less, partner, there_inside, apart_inside, there_functor, meets_fit, meets_all_at, Each, Fitting, parameters_meet, results_meet}

fits_structure : {Γ : Env} {g c : Components} → Fits Γ (structure g) (structure c) → GivesAll (extend Γ (structure g)) innermost c
fits_structure (f_structure m) = m

fits_functor : {Γ : Env} {s r s' r' : Signature} → Fits Γ (functor s r) (functor s' r') → Fits Γ s' s × Fits (extend Γ s') r r'
fits_functor (f_functor a b) = (a, b)

gives_components : {Γ : Env} {p : ModulePath} {c : Components} → Gives Γ p (structure c) → GivesAll Γ p (on_components (reading p) c)
gives_components (g_structure g a m) = m

gives_functor : {Γ : Env} {p : ModulePath} {s r : Signature} → Gives Γ p (functor s r) → (f : Signature) × At Γ p f × Fits Γ f (functor s r)
gives_functor (g_functor f a m) = (f, a, m)

no_functor_lem : {Γ : Env} {c : Components} {s r : Signature} → Fits Γ (structure c) (functor s r) → ⊥
no_functor_lem m = elim m [ ]

no_structure : {Γ : Env} {c : Components} {s r : Signature} → Fits Γ (functor s r) (structure c) → ⊥
no_structure m = elim m [ ]

-- a match that fails
abbrev Unfit : (σ : Meaning) (g : Sig) (τ : Meaning) (w : Sig) → Type 0
Unfit σ g τ w = Each σ g τ w (λ Γ ρ r s k t. Fits Γ (on_signature r.way s) (on_signature k.way t) → ⊥)

-- two functors, where their parameters do not meet, or their results do not
parameters_unfit :
    {σ τ : Meaning} {s r s' r' : Sig} → Unfit τ s' σ s →
    (Γ : Env) (ρ : Meaning) (a b : ℕ) → Ground Γ ρ → (x : Reading Γ ρ σ) (S R : Signature) → Side Γ ρ (functor_sig s r) σ a x (functor S R) →
    (k : Reading Γ ρ τ) (S' R' : Signature) → Side Γ ρ (functor_sig s' r') τ b k (functor S' R') → Apart a (suc (size_of s + size_of r)) b (suc (size_of s' + size_of r')) →
    Fits Γ (on_signature x.way (functor S R)) (on_signature k.way (functor S' R')) → ⊥
parameters_unfit ih Γ ρ a b d x S R A k S' R' B o h =
    parameters_meet Γ ρ a b d x S R A k S' R' B o (λ Γ ρ p t q u. Fits Γ (on_signature p.way t) (on_signature q.way u) → ⊥) ih (fits_functor h).0

results_unfit :
    {σ τ υ : Meaning} {s r s' r' : Sig} (m : Meets τ s' σ s υ) → Fitted m → Unfit υ r τ r' →
    (Γ : Env) (ρ : Meaning) (a b : ℕ) → Ground Γ ρ → (x : Reading Γ ρ σ) (S R : Signature) → Side Γ ρ (functor_sig s r) σ a x (functor S R) →
    (k : Reading Γ ρ τ) (S' R' : Signature) → Side Γ ρ (functor_sig s' r') τ b k (functor S' R') → Apart a (suc (size_of s + size_of r)) b (suc (size_of s' + size_of r')) →
    Fits Γ (on_signature x.way (functor S R)) (on_signature k.way (functor S' R')) → ⊥
results_unfit {σ} {τ} {υ} {s} {r} {s'} {r'} m ih jh Γ ρ a b d x S R A k S' R' B o h =
    let first = parameters_meet Γ ρ a b d x S R A k S' R' B o (λ Γ ρ p t q u. Fitting Γ ρ s' τ p t s σ q u υ) ih in
    results_meet Γ ρ a b d x S R A k S' R' B o m first (λ Γ ρ p t q u. Fits Γ (on_signature p.way t) (on_signature q.way u) → ⊥) jh (fits_functor h).1

structure_clash : (Γ : Env) (p : ModulePath) (S R : Signature) → At Γ p (functor S R) → (c : Components) → Gives Γ p (structure c) → ⊥
structure_clash Γ p S R a c (g_structure g a' m) = let e = at_unique a a' in cc

value_same : (t u : Ty) → value t ≡ value u → t ≡ u
value_same t u e = cc

-- what is given is there
missing_one :
    (Γ : Env) (p : ModulePath) (x : Name) (e : Part) (D : Declaration) (Γ' : Env) (ω : Meaning) (θ : Substitution) → LikeOne e D Γ' ω → GivesOne Γ p x (on_declaration θ D) →
    ((d : Declaration) → Has Γ p (sort_of_part e) x d → ⊥) → ⊥
missing_one Γ p x (abstract_part n) abstract Γ' ω θ l h k = let w = normal_has h.1 p x refl in k w.0 w.1
missing_one Γ p x (abstract_part n) (defined u) Γ' ω θ l h k = l
missing_one Γ p x (abstract_part n) (value u) Γ' ω θ l h k = l
missing_one Γ p x (abstract_part n) (nested s) Γ' ω θ l h k = l
missing_one Γ p x (defined_part t) abstract Γ' ω θ l h k = l
missing_one Γ p x (defined_part t) (defined u) Γ' ω θ l h k = let w = normal_has h.1 p x refl in k w.0 w.1
missing_one Γ p x (defined_part t) (value u) Γ' ω θ l h k = l
missing_one Γ p x (defined_part t) (nested s) Γ' ω θ l h k = l
missing_one Γ p x (value_part t) abstract Γ' ω θ l h k = l
missing_one Γ p x (value_part t) (defined u) Γ' ω θ l h k = l
missing_one Γ p x (value_part t) (value u) Γ' ω θ l h k = k (value h.0) h.2
missing_one Γ p x (value_part t) (nested s) Γ' ω θ l h k = l
missing_one Γ p x (module_part n) abstract Γ' ω θ l h k = l
missing_one Γ p x (module_part n) (defined u) Γ' ω θ l h k = l
missing_one Γ p x (module_part n) (value u) Γ' ω θ l h k = l
missing_one Γ p x (module_part n) (nested s) Γ' ω θ l h k = let w = gives_at h in k (nested w.0) (at_has w.1)

mutual
  pub fails_fit : {σ τ : Meaning} {g w : Sig} {x y : Option Name} {m : Mismatch} → Fails σ g τ w x y m → Unfit σ g τ w
  fails_fit no_functor_given Γ ρ a b d r (structure G) A k (structure C) B o h = absurd B.like
  fails_fit no_functor_given Γ ρ a b d r (structure G) A k (functor S R) B o h = no_functor_lem h
  fails_fit no_functor_given Γ ρ a b d r (functor S R) A k t B o h = absurd A.like
  fails_fit no_structure_given Γ ρ a b d r (structure G) A k t B o h = absurd A.like
  fails_fit no_structure_given Γ ρ a b d r (functor S R) A k (structure C) B o h = no_structure h
  fails_fit no_structure_given Γ ρ a b d r (functor S R) A k (functor S' R') B o h = absurd B.like
  fails_fit (in_components {σ = σ} {τ = τ} {g = g} {c = c} f) Γ ρ a b d r (structure G) A k (structure C) B o h =
      let s = on_signature r.way (structure G) in
      let ρz = entered (sig g) ρ in
      fails_all_at f (extend Γ s) ρz innermost a b (ground_enter Γ ρ d (sig g) σ a r (structure G) A) (there_enter Γ ρ g σ a r G A)
      (reading_weaken Γ ρ τ k (sig g) a A.placed A.plain_names s) C B.like B.proper B.placed
      (plain_in (sig c) b ρz (entered_plain (sig g) a ρ A.placed b (size_of_parts c) o B.plain_names)) (plain_in (sig c) b τ B.plain_means) o
      (fits_structure h)
  fails_fit (in_components f) Γ ρ a b d r (structure G) A k (functor S R) B o h = absurd B.like
  fails_fit (in_components f) Γ ρ a b d r (functor S R) A k t B o h = absurd A.like
  fails_fit (in_parameters f) Γ ρ a b d r (structure G) A k t B o h = absurd A.like
  fails_fit (in_parameters f) Γ ρ a b d r (functor S R) A k (structure C) B o h = absurd B.like
  fails_fit (in_parameters {σ = σ} {τ = τ} {s = s₁} {r = r₁} {s' = s₂} {r' = r₂} f) Γ ρ a b d r (functor S R) A k (functor S' R') B o h =
      parameters_unfit {σ = σ} {τ = τ} {s = s₁} {r = r₁} {s' = s₂} {r' = r₂} (fails_fit f) Γ ρ a b d r S R A k S' R' B o h
  fails_fit (in_results υ m f) Γ ρ a b d r (structure G) A k t B o h = absurd A.like
  fails_fit (in_results υ m f) Γ ρ a b d r (functor S R) A k (structure C) B o h = absurd B.like
  fails_fit (in_results {r = r₁} {r' = r₂} υ m f) Γ ρ a b d r (functor S R) A k (functor S' R') B o h =
      results_unfit {r = r₁} {r' = r₂} m (meets_fit m) (fails_fit f) Γ ρ a b d r S R A k S' R' B o h

  pub fails_at :
      {σ τ : Meaning} {g w : Sig} {y z : Option Name} {m : Mismatch} → Fails σ g τ w y z m → (Γ : Env) (ρ : Meaning) (p : ModulePath) (a b : ℕ) → Ground Γ ρ → There Γ ρ g σ a p →
      (k : Reading Γ ρ τ) (t : Signature) → Like w t k.known k.names → Proper k.known t → Placed b w → PlainIn b w ρ → PlainIn b w τ → Apart a (size_of g) b (size_of w) →
      Gives Γ p (on_signature k.way t) → ⊥
  fails_at no_functor_given Γ ρ p a b d T k (structure C) l pr pl pn pm o h = l
  fails_at (no_functor_given {σ = σ} {g = g}) Γ ρ p a b d T k (functor S R) l pr pl pn pm o h =
      let w = there_structure Γ ρ g σ a p T in
      let v = gives_functor h in
      let e = at_unique v.1 w.1 in
      no_functor_lem (subst (λ z. Fits Γ z (on_signature k.way (functor S R))) e v.2)
  fails_at (no_structure_given {σ = σ} {s = s} {r = r}) Γ ρ p a b d T k (structure C) l pr pl pn pm o h =
      let w = there_functor Γ ρ d s r σ a p T in
      let v = gives_at h in
      structure_clash Γ p w.0 w.1 w.2 (on_components (lift k.way) C) h
  fails_at no_structure_given Γ ρ p a b d T k (functor S R) l pr pl pn pm o h = l
  fails_at (in_components {g = g} {c = c} f) Γ ρ p a b d T k (structure C) l pr pl pn pm o h =
      fails_all_at f Γ ρ p a b d T k C l pr pl pn pm o (subst (GivesAll Γ p) (components_reading_lift p k.way C) (gives_components h))
  fails_at (in_components f) Γ ρ p a b d T k (functor S R) l pr pl pn pm o h = l
  fails_at (in_parameters f) Γ ρ p a b d T k (structure C) l pr pl pn pm o h = l
  fails_at (in_parameters {σ = σ} {τ = τ} {s = s₁} {r = r₁} {s' = s₂} {r' = r₂} f) Γ ρ p a b d T k (functor S' R') l pr pl pn pm o h =
      let w = there_functor Γ ρ d s₁ r₁ σ a p T in
      let v = gives_functor h in
      let e = at_unique v.1 w.2 in
      let B : Side Γ ρ (functor_sig s₂ r₂) τ b k (functor S' R') = record { like = l; proper = pr; placed = pl; plain_names = pn; plain_means = pm } in
      parameters_unfit {σ = σ} {τ = τ} {s = s₁} {r = r₁} {s' = s₂} {r' = r₂} (fails_fit f) Γ ρ a b d (reading_there Γ ρ (functor_sig s₁ r₁) σ a p T) w.0 w.1 w.3 k S' R' B o
      (subst (λ z. Fits Γ z (on_signature k.way (functor S' R'))) (e ∙ sym (signature_id (functor w.0 w.1))) v.2)
  fails_at (in_results υ m f) Γ ρ p a b d T k (structure C) l pr pl pn pm o h = l
  fails_at (in_results {σ = σ} {τ = τ} {s = s₁} {r = r₁} {s' = s₂} {r' = r₂} υ m f) Γ ρ p a b d T k (functor S' R') l pr pl pn pm o h =
      let w = there_functor Γ ρ d s₁ r₁ σ a p T in
      let v = gives_functor h in
      let e = at_unique v.1 w.2 in
      let B : Side Γ ρ (functor_sig s₂ r₂) τ b k (functor S' R') = record { like = l; proper = pr; placed = pl; plain_names = pn; plain_means = pm } in
      results_unfit {r = r₁} {r' = r₂} m (meets_fit m) (fails_fit f) Γ ρ a b d (reading_there Γ ρ (functor_sig s₁ r₁) σ a p T) w.0 w.1 w.3 k S' R' B o
      (subst (λ z. Fits Γ z (on_signature k.way (functor S' R'))) (e ∙ sym (signature_id (functor w.0 w.1))) v.2)

  fails_all_at :
      {σ τ : Meaning} {g c : Parts} {y : Option Name} {m : Mismatch} → FailsAll σ g τ c y m → (Γ : Env) (ρ : Meaning) (p : ModulePath) (a b : ℕ) → Ground Γ ρ → There Γ ρ (sig g) σ a p →
      (k : Reading Γ ρ τ) (C : Components) → LikeAll c C k.known k.names → ProperAll k.known C → PlacedAll b c → PlainInAll b c ρ → PlainInAll b c τ → Apart a (size_of_parts g) b (size_of_parts c) →
      GivesAll Γ p (on_components (under p k.way) C) → ⊥
  fails_all_at (earlier f) Γ ρ p a b d T k empty l pr pl pn pm o h = l
  fails_all_at (earlier {g = g} {c = c} {e = e} f) Γ ρ p a b d T k (more C y D) l pr pl pn pm o h =
      fails_all_at f Γ ρ p a b d T k C l.0 pr.0 pl.0 pn.0 pm.0
      (apart_less a (size_of_parts g) b (size_of_parts c + suc (size_of_part e)) a (size_of_parts g) b (size_of_parts c) o (omega arith) (omega arith) (omega arith) (omega arith))
      (gives_last Γ p (on_components (under p k.way) C) y (on_declaration (under p k.way) D) h).0
  fails_all_at (here υ m f) Γ ρ p a b d T k empty l pr pl pn pm o h = l
  fails_all_at (here {σ = σ} {τ = τ} {g = g} {c = c} {x = x} {e = e} υ m f) Γ ρ p a b d T k (more C y D) l pr pl pn pm o h =
      let i = b + size_of_parts c in
      let before = meets_all_at m Γ ρ p a b d T k C l.0 pr.0 pl.0 pn.0 pm.0
      (apart_less a (size_of_parts g) b (size_of_parts c + suc (size_of_part e)) a (size_of_parts g) b (size_of_parts c) o (omega arith) (omega arith) (omega arith) (omega arith)) in
      let k' = reading_more Γ ρ g σ a p T τ k c C υ before.0 before.1 in
      fails_one_at f Γ ρ p a i d T k' D l.2 pr.2 pl.1 pn.1
      (plain_one_agree e i τ υ (λ n u v. meets_all_apart m b n pl.0 (λ w z. let q : ⊥ = omega arith in q)) pm.1)
      (apart_less a (size_of_parts g) b (size_of_parts c + suc (size_of_part e)) a (size_of_parts g) i (suc (size_of_part e)) o (omega arith) (omega arith) (omega arith) (omega arith))
      (subst (λ z. GivesOne Γ p z (on_declaration (under p k.way) D)) (sym l.1)
      (gives_last Γ p (on_components (under p k.way) C) y (on_declaration (under p k.way) D) h).1)

  fails_one_at :
      {σ τ : Meaning} {g : Parts} {x : Name} {e : Part} {y : Option Name} {m : Mismatch} → FailsOne σ g τ x e y m → (Γ : Env) (ρ : Meaning) (p : ModulePath) (a b : ℕ) → Ground Γ ρ → There Γ ρ (sig g) σ a p →
      (k : Reading Γ ρ τ) (D : Declaration) → LikeOne e D k.known k.names → ProperOne k.known D → PlacedOne b e → PlainInOne b e ρ → PlainInOne b e τ → Apart a (size_of_parts g) b (suc (size_of_part e)) →
      GivesOne Γ p x (on_declaration k.way D) → ⊥
  fails_one_at (is_missing {σ = σ} {g = g} {x = x} {e = e} f) Γ ρ p a b d T k D l pr pl pn pm o h =
      missing_one Γ p x e D k.known k.names k.way l h (partner Γ ρ g σ a p T (sort_of_part e) x None f)
  fails_one_at (another_value t f q) Γ ρ p a b d T k abstract l pr pl pn pm o h = l
  fails_one_at (another_value t f q) Γ ρ p a b d T k (defined U) l pr pl pn pm o h = l
  fails_one_at (another_value {σ = σ} {τ = τ} {g = g} {x = x} {u = u} t f q) Γ ρ p a b d T k (value U) l pr pl pn pm o h =
      let w = part_value (Some (value_part t)) p x Γ (after_meaning ρ σ) (partner Γ ρ g σ a p T a_value x (Some (value_part t)) f) in
      let v = stands_means u U k.way k.known k.names Γ ρ τ k.along k.means l in
      let given : Normal Γ w.0 (meant ρ (meant σ t)) = subst (Normal Γ w.0) (meant_comp ρ σ t) w.2.1 in
      let e : h.0 ≡ w.0 = value_same h.0 w.0 (has_unique h.2 w.1) in
      let i : h.1 ≡ meant ρ (meant σ t) = normal_unique (subst (λ z. Normal Γ z h.1) e h.3) given in
      let j : h.1 ≡ meant ρ (meant τ u) = normal_unique h.4 v.1 in
      q (tell_apart Γ ρ d.recovers (meant σ t) (meant τ u) w.0 (on_type k.way U) (meant_tidy t w.2.0 σ T.tidy) v.0 given v.1 (sym i ∙ j))
  fails_one_at (another_value t f q) Γ ρ p a b d T k (nested s) l pr pl pn pm o h = l
  fails_one_at (another_type s t f g q) Γ ρ p a b d T k abstract l pr pl pn pm o h = l
  fails_one_at (another_type {σ = σ} {τ = τ} {g = g} {x = x} {u = u} s t f e q) Γ ρ p a b d T k (defined U) l pr pl pn pm o h =
      let w = partner_type Γ ρ σ p x s t (partner Γ ρ g σ a p T a_type x (Some s) f) T.tidy e in
      let v = stands_means u U k.way k.known k.names Γ ρ τ k.along k.means l in
      let i : h.0 ≡ meant ρ (meant σ t) = normal_unique h.1 w.1 in
      let j : h.0 ≡ meant ρ (meant τ u) = normal_unique h.2 v.1 in
      q (tell_apart Γ ρ d.recovers (meant σ t) (meant τ u) (leaf (named p x)) (on_type k.way U) w.0 v.0 w.1 v.1 (sym i ∙ j))
  fails_one_at (another_type s t f g q) Γ ρ p a b d T k (value U) l pr pl pn pm o h = l
  fails_one_at (another_type s t f g q) Γ ρ p a b d T k (nested r) l pr pl pn pm o h = l
  fails_one_at (in_module s f j) Γ ρ p a b d T k abstract l pr pl pn pm o h = l
  fails_one_at (in_module s f j) Γ ρ p a b d T k (defined U) l pr pl pn pm o h = l
  fails_one_at (in_module s f j) Γ ρ p a b d T k (value U) l pr pl pn pm o h = l
  fails_one_at (in_module {σ = σ} {τ = τ} {g = g} {x = x} {w = w} s f j) Γ ρ p a b d T k (nested W) l pr pl pn pm o h =
      let i = inside_found g a ρ σ T.placed T.plain_names T.plain_means x s f in
      fails_at j Γ ρ (dot p x) i.place (suc b) d (there_inside Γ ρ g σ a p T x s f i) k W l pr pl pn pm (apart_inside a (size_of_parts g) b 0 s ρ σ w i o) h
