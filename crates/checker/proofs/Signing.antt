-- Written signatures: what is answered stands for what is written, and a fault that is not size means that it is not sound.
use Rattle.std.proofs.Common.{◌≡◌, ℕ, suc, ◌+◌, Bool, true, false, cond, None, refl, arith}
use Rattle.types.specs.Types.{Name, Ty}
use Rattle.rules.specs.Signatures.{Signature, structure, functor, Components, more, Declaration, defined, value, nested, sort_of, find}
use Rattle.rules.specs.Lookup.{Env, extend}
use Rattle.rules.specs.Soundness.{Sound, SoundAll, SoundOne}
use Rattle.rules.specs.Syntax.{TypeText, type_of, SignatureText, sig_text, functor_text, SpecTexts, no_specs, more_specs, SpecText, abstract_spec, defined_spec, value_spec, module_spec, signature_of, components_of, declaration_of}
use Rattle.rules.proofs.Wording.{typed_leads, sound_proper}
use Rattle.checker.specs.Numbered.{Sig, sig, functor_sig, Parts, more_parts, Part, defined_part, value_part, module_part, size_of, size_of_parts, small_sig, Placed, PlacedAll, PlacedOne}
use Rattle.checker.specs.Meanings.{Meaning}
use Rattle.checker.specs.Scope.{Scope, inner}
use Rattle.checker.specs.Faults.{too_large, Answer, ok, fault, and_then, ask_sig}
use Rattle.checker.specs.Texts.{check_type, check_sig, check_specs, check_spec}
use Rattle.checker.specs.Standing.{entered, Like, LikeAll, LikeOne}
use Rattle.checker.specs.Statements.{NotSize}
use Rattle.checker.specs.Written.{OnceSig, OnceSpecs, OnceSpec}
use Rattle.checker.proofs.Typing.{TypeRight, type_right}
use Rattle.checker.proofs.Entering.{World, later, enter}

-- a written signature, its specs, and a spec are answered rightly
abbrev pub SigRight : {C : Type 0} → Answer C Sig → Signature → ℕ → Env → Meaning → Type 0
SigRight (ok n) s q Γ ρ = Like n s Γ ρ × Placed q n × Sound Γ s
SigRight (fault e) s q Γ ρ = NotSize e → Sound Γ s → ⊥

abbrev SpecsRight : {C : Type 0} → Answer C Parts → Components → ℕ → Env → Meaning → Type 0
SpecsRight (ok c) g q Γ ρ = LikeAll c g Γ ρ × PlacedAll q c × SoundAll Γ g
SpecsRight (fault e) g q Γ ρ = NotSize e → SoundAll Γ g → ⊥

abbrev SpecRight : {C : Type 0} → Answer C Part → Declaration → ℕ → Env → Meaning → Type 0
SpecRight (ok e) d q Γ ρ = LikeOne e d Γ ρ × PlacedOne q e × SoundOne Γ d
SpecRight (fault e) d q Γ ρ = NotSize e → SoundOne Γ d → ⊥

ask_sig_right : (C : Type 0) (place : ℕ) (n : Sig) (s : Signature) (q : ℕ) (Γ : Env) (ρ : Meaning) → Like n s Γ ρ × Placed q n × Sound Γ s → SigRight {C = C} (ask_sig place n) s q Γ ρ
ask_sig_right C place n s q Γ ρ h = go (small_sig n)
  where
    go : (b : Bool) → SigRight {C = C} (cond b (ok n) (fault (too_large place))) s q Γ ρ
    go true = h
    go false = λ i. absurd (i refl)

sig_text_right :
    (C : Type 0) (place : ℕ) (c : SpecTexts) (G : Scope) (Γ : Env) (ρ : Meaning) (q : ℕ) (a : Answer C Parts) → SpecsRight {C = C} a (components_of c) q Γ ρ →
    SigRight {C = C} (and_then a (λ b. ask_sig place (sig b))) (structure (components_of c)) q Γ ρ
sig_text_right C place c G Γ ρ q (ok b) h = ask_sig_right C place (sig b) (structure (components_of c)) q Γ ρ h
sig_text_right C place c G Γ ρ q (fault e) h = h

functor_text_right :
    (C : Type 0) (place : ℕ) (s r : SignatureText) (G : Scope) (Γ : Env) (ρ : Meaning) (q : ℕ) → World G Γ ρ q →
    (a : Answer C Sig) → SigRight {C = C} a (signature_of s) (suc q) Γ ρ →
    ((n : Sig) → World (inner G n) (extend Γ (signature_of s)) (entered n ρ) (suc (q + size_of n)) →
    SigRight {C = C} (check_sig (inner G n) (suc (q + size_of n)) r) (signature_of r) (suc (q + size_of n)) (extend Γ (signature_of s)) (entered n ρ)) →
    SigRight {C = C} (and_then a (λ p. and_then (check_sig (inner G p) (suc (q + size_of p)) r) (λ b. ask_sig place (functor_sig p b)))) (functor (signature_of s) (signature_of r)) q Γ ρ
functor_text_right C place s r G Γ ρ q w (fault e) h ih = λ i j. h i j.0
functor_text_right C place s r G Γ ρ q w (ok n) h ih =
    go (check_sig (inner G n) (suc (q + size_of n)) r)
    (ih n (later (suc (q + size_of n)) (omega arith)
    (enter (later (suc q) (omega arith) w) n (signature_of s) h.0 h.1 (sound_proper (signature_of s) Γ w.proper h.2))))
  where
    go :
        (a : Answer C Sig) → SigRight {C = C} a (signature_of r) (suc (q + size_of n)) (extend Γ (signature_of s)) (entered n ρ) →
        SigRight {C = C} (and_then a (λ b. ask_sig place (functor_sig n b))) (functor (signature_of s) (signature_of r)) q Γ ρ
    go (ok m) k = ask_sig_right C place (functor_sig n m) (functor (signature_of s) (signature_of r)) q Γ ρ ((h.0, k.0), (h.1, k.1), (h.2, k.2))
    go (fault e) k = λ i j. k i j.1

more_specs_right :
    (C : Type 0) (c : SpecTexts) (x : Name) (d : SpecText) (G : Scope) (Γ : Env) (ρ : Meaning) (q : ℕ) → World G Γ ρ q →
    find (sort_of (declaration_of d)) x (components_of c) ≡ None → (a : Answer C Parts) → SpecsRight {C = C} a (components_of c) q Γ ρ →
    ((b : Parts) → World (inner G (sig b)) (extend Γ (structure (components_of c))) (entered (sig b) ρ) (q + size_of_parts b) →
    SpecRight {C = C} (check_spec (inner G (sig b)) (q + size_of_parts b) d) (declaration_of d) (q + size_of_parts b) (extend Γ (structure (components_of c))) (entered (sig b) ρ)) →
    SpecsRight {C = C} (and_then a (λ b. and_then (check_spec (inner G (sig b)) (q + size_of_parts b) d) (λ e. ok (more_parts b x e)))) (more (components_of c) x (declaration_of d)) q Γ ρ
more_specs_right C c x d G Γ ρ q w f (fault e) h ih = λ i j. h i j.0
more_specs_right C c x d G Γ ρ q w f (ok b) h ih =
    go (check_spec (inner G (sig b)) (q + size_of_parts b) d)
    (ih b (enter w (sig b) (structure (components_of c)) h.0 h.1 (sound_proper (structure (components_of c)) Γ w.proper h.2)))
  where
    go :
        (a : Answer C Part) → SpecRight {C = C} a (declaration_of d) (q + size_of_parts b) (extend Γ (structure (components_of c))) (entered (sig b) ρ) →
        SpecsRight {C = C} (and_then a (λ e. ok (more_parts b x e))) (more (components_of c) x (declaration_of d)) q Γ ρ
    go (ok e) k = ((h.0, refl, k.0), (h.1, k.1), (h.2, f, k.2))
    go (fault e) k = λ i j. k i j.2

defined_right : (C : Type 0) (t : TypeText) (q : ℕ) (Γ : Env) (ρ : Meaning) (a : Answer C Ty) → TypeRight {C = C} a (type_of t) Γ ρ → SpecRight {C = C} (and_then a (λ n. ok (defined_part n))) (defined (type_of t)) q Γ ρ
defined_right C t q Γ ρ (ok n) h = (h, tt, typed_leads h.1)
defined_right C t q Γ ρ (fault e) h = h

value_right : (C : Type 0) (t : TypeText) (q : ℕ) (Γ : Env) (ρ : Meaning) (a : Answer C Ty) → TypeRight {C = C} a (type_of t) Γ ρ → SpecRight {C = C} (and_then a (λ n. ok (value_part n))) (value (type_of t)) q Γ ρ
value_right C t q Γ ρ (ok n) h = (h, tt, typed_leads h.1)
value_right C t q Γ ρ (fault e) h = h

module_right : (C : Type 0) (s : SignatureText) (q : ℕ) (Γ : Env) (ρ : Meaning) (a : Answer C Sig) → SigRight {C = C} a (signature_of s) (suc q) Γ ρ → SpecRight {C = C} (and_then a (λ n. ok (module_part n))) (nested (signature_of s)) q Γ ρ
module_right C s q Γ ρ (ok n) h = h
module_right C s q Γ ρ (fault e) h = h

mutual
  pub sig_right : (t : SignatureText) (C : Type 0) (G : Scope) (Γ : Env) (ρ : Meaning) (q : ℕ) → World G Γ ρ q → OnceSig t → SigRight {C = C} (check_sig G q t) (signature_of t) q Γ ρ
  sig_right (sig_text place c) C G Γ ρ q w o = sig_text_right C place c G Γ ρ q (check_specs G q c) (specs_right c C G Γ ρ q w o)
  sig_right (functor_text place s r) C G Γ ρ q w o =
      functor_text_right C place s r G Γ ρ q w (check_sig G (suc q) s) (sig_right s C G Γ ρ (suc q) (later (suc q) (omega arith) w) o.0)
      (λ n v. sig_right r C (inner G n) (extend Γ (signature_of s)) (entered n ρ) (suc (q + size_of n)) v o.1)

  specs_right : (t : SpecTexts) (C : Type 0) (G : Scope) (Γ : Env) (ρ : Meaning) (q : ℕ) → World G Γ ρ q → OnceSpecs t → SpecsRight {C = C} (check_specs G q t) (components_of t) q Γ ρ
  specs_right no_specs C G Γ ρ q w o = (tt, tt, tt)
  specs_right (more_specs c x d) C G Γ ρ q w o =
      more_specs_right C c x d G Γ ρ q w o.1 (check_specs G q c) (specs_right c C G Γ ρ q w o.0)
      (λ b v. spec_right d C (inner G (sig b)) (extend Γ (structure (components_of c))) (entered (sig b) ρ) (q + size_of_parts b) v o.2)

  spec_right : (t : SpecText) (C : Type 0) (G : Scope) (Γ : Env) (ρ : Meaning) (q : ℕ) → World G Γ ρ q → OnceSpec t → SpecRight {C = C} (check_spec G q t) (declaration_of t) q Γ ρ
  spec_right abstract_spec C G Γ ρ q w o = (tt, refl, tt)
  spec_right (defined_spec t) C G Γ ρ q w o = defined_right C t q Γ ρ (check_type G t) (type_right C G Γ ρ w.stands t)
  spec_right (value_spec t) C G Γ ρ q w o = value_right C t q Γ ρ (check_type G t) (type_right C G Γ ρ w.stands t)
  spec_right (module_spec s) C G Γ ρ q w o =
      module_right C s q Γ ρ (check_sig G (suc q) s) (sig_right s C G Γ ρ (suc q) (later (suc q) (omega arith) w) o)
