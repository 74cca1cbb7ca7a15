-- Fit, and what refusals mean.
use Rattle.std.proofs.Common.{◌≡◌, ℕ, false, ◌⊎◌, List, map, Some, None, Option, refl, ap, subst, subst₂, inl, inr, arith}
use Rattle.types.specs.Types.{Name, unit, binder, ModulePath, at, dot, Ty}
use Rattle.cores.specs.Meaning.{Outcome, gives, refuses, Stable}
use Rattle.cores.specs.declared.interface.Operation.{Operation}
use Rattle.rules.specs.Signatures.{Signature, structure, on_some, first_of}
use Rattle.rules.specs.Substitution.{out, on_signature}
use Rattle.rules.specs.Lookup.{Env, extend, At, head, inside}
use Rattle.rules.specs.Soundness.{Leads, Sound, SoundAll, SoundOne}
use Rattle.rules.specs.Matching.{Matches}
use Rattle.rules.specs.Syntax.{TypeText, path_text, label_text0, label_text1, label_text2, type_of, SignatureText, sig_text, functor_text, SpecTexts, no_specs, more_specs, SpecText, abstract_spec, defined_spec, value_spec, module_spec, signature_of, components_of, declaration_of, CompilationUnit}
use Rattle.rules.specs.Rules.{Derives}
use Rattle.rules.specs.Projects.{Units, Loads, DerivedFor}
use Rattle.rules.proofs.Wording.{sound_proper, fits_matches}
use Rattle.rules.proofs.Derived.{derives_proper}
use Rattle.rules.proofs.Theorems.{derived_exactly, own_is_one}
use Rattle.checker.specs.Numbered.{Sig, Placed}
use Rattle.checker.specs.Meanings.{Meaning, meant}
use Rattle.checker.specs.Scope.{Scope}
use Rattle.checker.specs.Comparing.{Verdict, matched, differs, match_sigs}
use Rattle.checker.specs.Faults.{Answer, ok, fault, and_then}
use Rattle.checker.specs.Texts.{check_sig}
use Rattle.checker.specs.Modules.{matches}
use Rattle.checker.specs.Units.{accepted, unknown_here, unknown_in, unknown_in_type, unknown_in_sig, unknown_in_specs, unknown_in_spec, all_known}
use Rattle.checker.specs.Standing.{Like}
use Rattle.checker.specs.Statements.{FitDecided, FitLaw, PathsLeadAlike, RuleSays, RefusalsMean}
use Rattle.checker.proofs.Typing.{rule_named, rule_refused}
use Rattle.checker.proofs.Looking.{look, look_type, look_value}
use Rattle.checker.proofs.Entering.{World, later}
use Rattle.checker.proofs.Signing.{SigRight, sig_right}
use Rattle.checker.proofs.Deciding.{VerdictRight, match_right}
use Rattle.checker.proofs.Checking.{ModuleRight, module_right}
use Rattle.checker.proofs.Loading.{UnitsRight, units_right, none_none}

-- units that are not known in the scope are not known in the environment, nor under more binders
abbrev Lacks : Scope → Env → Type 0
Lacks G Γ = (x : Name) → G (unit x) ≡ None → Γ (unit x) ≡ None

lacks_extend : (G : Scope) (Γ : Env) (s : Signature) → Lacks G Γ → Lacks G (extend Γ s)
lacks_extend G Γ s h x e = ap (on_some (on_signature out)) (h x e)

-- a path whose head names no known unit leads nowhere
unknown_at : (G : Scope) (Γ : Env) → Lacks G Γ → (place : ℕ) (p : ModulePath) (l : ℕ) → unknown_in G place p ≡ Some l → (s : Signature) → At Γ p s → ⊥
unknown_at G Γ h place (at (binder n)) l e s a = cc
unknown_at G Γ h place (at (unit x)) l e s (head f) = go (G (unit x)) refl e
  where
    go : (o : Option Sig) → G (unit x) ≡ o → unknown_here place o ≡ Some l → ⊥
    go None i j = let z = h x i in cc
    go (Some n) i j = cc
unknown_at G Γ h place (dot p x) l e s (inside c d a f r) = unknown_at G Γ h place p l e (structure c) a

-- the first of two places is in one or in the other
first_cases : (o o' : Option ℕ) (l : ℕ) → first_of o o' ≡ Some l → (o ≡ Some l) ⊎ (o' ≡ Some l)
first_cases (Some k) o' l e = inl e
first_cases None o' l e = inr e

unknown_type : (G : Scope) (Γ : Env) → Lacks G Γ → (t : TypeText) (l : ℕ) → unknown_in_type G t ≡ Some l → Leads Γ (type_of t) → ⊥
unknown_type G Γ h (path_text place p x) l e d = unknown_at G Γ h place p l e (structure d.1.components) d.1.leads
unknown_type G Γ h (label_text0 place k) l e d = cc
unknown_type G Γ h (label_text1 place k t) l e d = unknown_type G Γ h t l e d
unknown_type G Γ h (label_text2 place k t u) l e d = go (unknown_type G Γ h t l) (unknown_type G Γ h u l) (first_cases (unknown_in_type G t) (unknown_in_type G u) l e)
  where
    go :
        (unknown_in_type G t ≡ Some l → Leads Γ (type_of t) → ⊥) → (unknown_in_type G u ≡ Some l → Leads Γ (type_of u) → ⊥) →
        (unknown_in_type G t ≡ Some l) ⊎ (unknown_in_type G u ≡ Some l) → ⊥
    go a b (inl i) = a i d.0
    go a b (inr i) = b i d.1

either_unknown : (o o' : Option ℕ) (l : ℕ) → first_of o o' ≡ Some l → (o ≡ Some l → ⊥) → (o' ≡ Some l → ⊥) → ⊥
either_unknown o o' l e a b = go (first_cases o o' l e)
  where
    go : (o ≡ Some l) ⊎ (o' ≡ Some l) → ⊥
    go (inl i) = a i
    go (inr i) = b i

mutual
  unknown_sig : (s : SignatureText) (G : Scope) (Γ : Env) → Lacks G Γ → (l : ℕ) → unknown_in_sig G s ≡ Some l → Sound Γ (signature_of s) → ⊥
  unknown_sig (sig_text place c) G Γ h l e d = unknown_specs c G Γ h l e d
  unknown_sig (functor_text place s r) G Γ h l e d =
      either_unknown (unknown_in_sig G s) (unknown_in_sig G r) l e (λ i. unknown_sig s G Γ h l i d.0)
      (λ i. unknown_sig r G (extend Γ (signature_of s)) (lacks_extend G Γ (signature_of s) h) l i d.1)

  unknown_specs : (c : SpecTexts) (G : Scope) (Γ : Env) → Lacks G Γ → (l : ℕ) → unknown_in_specs G c ≡ Some l → SoundAll Γ (components_of c) → ⊥
  unknown_specs no_specs G Γ h l e d = cc
  unknown_specs (more_specs c x s) G Γ h l e d =
      either_unknown (unknown_in_specs G c) (unknown_in_spec G s) l e (λ i. unknown_specs c G Γ h l i d.0)
      (λ i. unknown_spec s G (extend Γ (structure (components_of c))) (lacks_extend G Γ (structure (components_of c)) h) l i d.2)

  unknown_spec : (s : SpecText) (G : Scope) (Γ : Env) → Lacks G Γ → (l : ℕ) → unknown_in_spec G s ≡ Some l → SoundOne Γ (declaration_of s) → ⊥
  unknown_spec abstract_spec G Γ h l e d = cc
  unknown_spec (defined_spec t) G Γ h l e d = unknown_type G Γ h t l e d
  unknown_spec (value_spec t) G Γ h l e d = unknown_type G Γ h t l e d
  unknown_spec (module_spec s) G Γ h l e d = unknown_sig s G Γ h l e d

module _ {C : Type 0} (v : ℕ) (rule : Operation → List Ty → Outcome C) (law : Stable v rule) where
  -- a signature derived for the unit is sound and matched, with the own signature and what is known before the unit
  fits_own :
      (us : Units) (u : CompilationUnit) (s : Signature) (Γ : Env) (S : Signature) → Loads rule false us Γ → Derives rule false Γ u.body S → DerivedFor rule us u s → Sound Γ s × Matches Γ S s
  fits_own us u s Γ S l d h =
      let w = (derived_exactly v rule law us u s).0 h in
      let q = own_is_one v rule law us u w.known Γ w.least S w.own (record { before = l; derived = d }) in
      (subst (λ z. Sound z s) q.0 w.sound, subst₂ (λ z g. Matches z g s) q.0 q.1 w.matches)

  pub fit_law : FitLaw rule
  fit_law us u k g q s o os e f h =
      let w : UnitsRight v rule law (accepted k) us = subst (λ a. UnitsRight v rule law a us) e (units_right v rule law us o.0) in
      let m : ModuleRight v rule law (ok g) u.body k.next w.0 w.1 =
      subst (λ a. ModuleRight v rule law a u.body k.next w.0 w.1) f (module_right v rule law u.body k.scope w.0 w.1 k.next w.3 o.2) in
      known w.0 w.1 w.2 w.3 m.0 m.1 m.2 m.3 (unknown_in_sig k.scope s) refl
    where
      last :
          (Γ : Env) (ρ : Meaning) → Loads rule false us Γ → World k.scope Γ ρ k.next → (S : Signature) → Derives rule false Γ u.body S → (t : Sig) → Sound Γ (signature_of s) →
          (b : Verdict) → VerdictRight b Γ ρ g S t (signature_of s) → FitDecided rule us u s (and_then (matches 0 b) (λ σ. ok tt))
      last Γ ρ l w S d t z (matched σ) y =
          (derived_exactly v rule law us u (signature_of s)).1
          (record { known = Γ; least = S; own = record { before = l; derived = d }; sound = z; matches = fits_matches y.0 })
      last Γ ρ l w S d t z (differs x c) y = λ i r. y (fits_own us u (signature_of s) Γ S l d r).1

      text :
          (Γ : Env) (ρ : Meaning) → Loads rule false us Γ → World k.scope Γ ρ k.next → (S : Signature) → Derives rule false Γ u.body S → Like g S Γ ρ → Placed k.next g →
          (a : Answer C Sig) → SigRight {C = C} a (signature_of s) q Γ ρ → FitDecided rule us u s (and_then a (λ t. and_then (matches 0 (match_sigs g t)) (λ σ. ok tt)))
      text Γ ρ l w S d lk pl (ok t) y =
          last Γ ρ l w S d t y.2 (match_sigs g t)
          (match_right w k.next q (omega arith) (omega arith) g S lk (derives_proper v rule law d w.proper) pl
          t (signature_of s) y.0 (sound_proper (signature_of s) Γ w.proper y.2) y.1 (inl h))
      text Γ ρ l w S d lk pl (fault x) y = λ i r. y i (fits_own us u (signature_of s) Γ S l d r).0

      known :
          (Γ : Env) (ρ : Meaning) → Loads rule false us Γ → World k.scope Γ ρ k.next → (S : Signature) → Derives rule false Γ u.body S → Like g S Γ ρ → Placed k.next g →
          (p : Option ℕ) → unknown_in_sig k.scope s ≡ p →
          FitDecided rule us u s (and_then (all_known p) (λ _. and_then (check_sig k.scope q s) (λ t. and_then (matches 0 (match_sigs g t)) (λ σ. ok tt))))
      known Γ ρ l w S d lk pl None z =
          text Γ ρ l w S d lk pl (check_sig k.scope q s) (sig_right s C k.scope Γ ρ q (later q (omega arith) w) os)
      known Γ ρ l w S d lk pl (Some place) z = λ i r.
          unknown_sig s k.scope Γ (λ x y. none_none k.scope Γ ρ w.stands (unit x) y) place z (fits_own us u (signature_of s) Γ S l d r).0

  pub refusals_mean : RefusalsMean rule
  refusals_mean G Γ ρ k r o ts g = go (rule o ts) refl
    where
      go : (x : Outcome C) → rule o ts ≡ x → RuleSays Γ ρ x (rule o (map (meant ρ) ts))
      go (gives t) e = rule_named v rule law G Γ ρ k r o ts t g e
      go (refuses c) e = λ u f. rule_refused v rule law G Γ ρ k r o ts c u g e f

pub paths_lead_alike : PathsLeadAlike
paths_lead_alike G Γ ρ k p x = (look G Γ ρ k p, look_type G Γ ρ k p x, look_value G Γ ρ k p x)
