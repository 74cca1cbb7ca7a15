-- Modules: what is answered stands for what the rules derive, and a fault that is not size means that they derive nothing.
use Rattle.std.proofs.Common.{◌≡◌, ℕ, suc, ◌+◌, Bool, true, false, cond, List, [], Some, None, Option, sym, refl, subst, subst₂, inl, inr, arith}
use Rattle.types.specs.Types.{Name, ModulePath, at, Ty}
use Rattle.cores.specs.Meaning.{Outcome, Stable}
use Rattle.cores.specs.declared.interface.Operation.{Operation}
use Rattle.rules.specs.Signatures.{Signature, structure, functor, Components, empty, more, defined, value, nested}
use Rattle.rules.specs.Substitution.{lift, reading, on_signature}
use Rattle.rules.specs.Lookup.{Env, extend, At}
use Rattle.rules.specs.Soundness.{Leads, Sound}
use Rattle.rules.specs.Matching.{Matches}
use Rattle.rules.specs.Strengthening.{strengthen}
use Rattle.rules.specs.Syntax.{TypeText, type_of, SignatureText, signature_of, Term, Module, module_path, struct, functor_of, applied, ascribed, Items, no_items, more_items, Item, type_item, let_item, module_item}
use Rattle.rules.specs.Rules.{item_sort, Undeclared, TermHas, Derives, by_path, by_items, by_functor, by_application, by_signature, by_matching, DerivesAll, no_item, type_too, let_too, module_too}
use Rattle.rules.proofs.Finding.{at_unique}
use Rattle.rules.proofs.Transitive.{knows_gives}
use Rattle.rules.proofs.Knowing.{reading_along}
use Rattle.rules.proofs.Properness.{proper_at}
use Rattle.rules.proofs.Strengthened.{proper_strengthen, strengthened_gives}
use Rattle.rules.proofs.Wording.{typed_leads, sound_proper, fits_matches}
use Rattle.rules.proofs.Derived.{derives_proper, derives_unique, derives_all_unique}
use Rattle.checker.specs.Numbered.{Sig, sig, functor_sig, Parts, more_parts, defined_part, value_part, module_part, size_of, size_of_parts, small_sig, Placed, PlacedAll}
use Rattle.checker.specs.Meanings.{Meaning, itself, meant}
use Rattle.checker.specs.Copying.{copied, strengthened}
use Rattle.checker.specs.Scope.{Scope, inner, module_at}
use Rattle.checker.specs.Comparing.{Verdict, matched, differs, match_sigs}
use Rattle.checker.specs.Faults.{Fault, too_large, Answer, ok, fault, and_then, leads_to, ask_sig}
use Rattle.checker.specs.Texts.{check_type, check_sig}
use Rattle.checker.specs.Terms.{check_term}
use Rattle.checker.specs.Modules.{matches, check_path, apply_sig, check_module, check_items, check_item}
use Rattle.checker.specs.Standing.{entered, Like, LikeAll, ScopeStands, Reached}
use Rattle.checker.specs.Statements.{NotSize, ModuleLeads}
use Rattle.checker.specs.Written.{OnceModule, OnceItems, OnceItem}
use Rattle.checker.proofs.Typing.{TypeRight, type_right, TermRight, term_right}
use Rattle.checker.proofs.Looking.{look}
use Rattle.checker.proofs.Entering.{World, later, enter}
use Rattle.checker.proofs.Signing.{SigRight, sig_right}
use Rattle.checker.proofs.Copied.{Means, copy_placed, like_copy, like_again}
use Rattle.checker.proofs.Strength.{strengthened_right, strengthened_placed}
use Rattle.checker.proofs.Deciding.{VerdictRight, match_right, argument_means}

functor_same : (s r s' r' : Signature) → functor s r ≡ functor s' r' → s ≡ s'
functor_same s r s' r' e = cc

-- a path is answered rightly
abbrev pub PathRight : {C : Type 0} → Answer C Sig → ModulePath → ℕ → Env → Meaning → Type 0
PathRight (ok n) p q Γ ρ = (s : Signature) × At Γ p s × (m : Sig) × (n ≡ strengthened q m) × Like n (strengthen p s) Γ ρ
PathRight (fault e) p q Γ ρ = NotSize e → (s : Signature) → At Γ p s → ⊥

pub path_right : (C : Type 0) (G : Scope) (Γ : Env) (ρ : Meaning) (q place : ℕ) (p : ModulePath) → World G Γ ρ q → PathRight {C = C} (check_path G q place p) p q Γ ρ
path_right C G Γ ρ q place p w = go (module_at G p) (look G Γ ρ w.stands p)
  where
    small : (n m : Sig) (s : Signature) → n ≡ strengthened q m → At Γ p s → Like n (strengthen p s) Γ ρ → (b : Bool) → PathRight {C = C} (cond b (ok n) (fault (too_large place))) p q Γ ρ
    small n m s e a l true = (s, a, m, e, l)
    small n m s e a l false = λ i. absurd (i refl)

    go : (o : Option Sig) → ModuleLeads o p Γ ρ → PathRight {C = C} (and_then (leads_to place o) (λ s. ask_sig place (strengthened q s))) p q Γ ρ
    go None k = λ i. k
    go (Some n) k =
        small (strengthened q n) n k.0 refl k.1
        (strengthened_right Γ ρ q w.blank w.settled p n k.0 (proper_at w.proper k.1) k.1 k.2 k.3) (small_sig (strengthened q n))

module _ {C : Type 0} (v : ℕ) (rule : Operation → List Ty → Outcome C) (law : Stable v rule) where
  abbrev pub ModuleRight : Answer C Sig → Module → ℕ → Env → Meaning → Type 0
  ModuleRight (ok n) m q Γ ρ = (s : Signature) × Derives rule false Γ m s × Like n s Γ ρ × Placed q n
  ModuleRight (fault e) m q Γ ρ = NotSize e → (s : Signature) → Derives rule false Γ m s → ⊥

  abbrev pub ItemsRight : Answer C Parts → Items → ℕ → Env → Meaning → Type 0
  ItemsRight (ok c) is q Γ ρ = (g : Components) × DerivesAll rule false Γ is g × LikeAll c g Γ ρ × PlacedAll q c
  ItemsRight (fault e) is q Γ ρ = NotSize e → (g : Components) → DerivesAll rule false Γ is g → ⊥

  ask_sig_right : (place : ℕ) (n : Sig) (m : Module) (q : ℕ) (Γ : Env) (ρ : Meaning) → ModuleRight (ok n) m q Γ ρ → ModuleRight (ask_sig place n) m q Γ ρ
  ask_sig_right place n m q Γ ρ h = go (small_sig n)
    where
      go : (b : Bool) → ModuleRight (cond b (ok n) (fault (too_large place))) m q Γ ρ
      go true = h
      go false = λ i. absurd (i refl)

  -- a module path
  of_path : {Γ : Env} {place : ℕ} {p : ModulePath} {s : Signature} → Derives rule false Γ (module_path place p) s → (t : Signature) × At Γ p t
  of_path (by_path t a) = (t, a)
  of_path (by_matching g f d w m) = cc

  module_path_right : (place : ℕ) (p : ModulePath) (q : ℕ) (Γ : Env) (ρ : Meaning) (a : Answer C Sig) → PathRight {C = C} a p q Γ ρ → ModuleRight a (module_path place p) q Γ ρ
  module_path_right place p q Γ ρ (ok n) h =
      (strengthen p h.0, by_path h.0 h.1, h.4, subst (Placed q) (sym h.3) (strengthened_placed h.2 q))
  module_path_right place p q Γ ρ (fault e) h = λ i s d. let w = of_path d in h i w.0 w.1

  -- a structure
  of_items : {Γ : Env} {place : ℕ} {is : Items} {s : Signature} → Derives rule false Γ (struct place is) s → (c : Components) × DerivesAll rule false Γ is c
  of_items (by_items {c = c} d) = (c, d)
  of_items (by_matching g f d w m) = cc

  struct_right : (place : ℕ) (is : Items) (q : ℕ) (Γ : Env) (ρ : Meaning) (a : Answer C Parts) → ItemsRight a is q Γ ρ → ModuleRight (and_then a (λ c. ask_sig place (sig c))) (struct place is) q Γ ρ
  struct_right place is q Γ ρ (ok c) h = ask_sig_right place (sig c) (struct place is) q Γ ρ (structure h.0, by_items h.1, h.2, h.3)
  struct_right place is q Γ ρ (fault e) h = λ i s d. let w = of_items d in h i w.0 w.1

  -- a functor
  of_functor : {Γ : Env} {place : ℕ} {s : SignatureText} {m : Module} {t : Signature} → Derives rule false Γ (functor_of place s m) t → Sound Γ (signature_of s) × ((r : Signature) × Derives rule false (extend Γ (signature_of s)) m r)
  of_functor (by_functor {r = r} w d) = (w, (r, d))
  of_functor (by_matching g f d w m) = cc

  functor_right :
      (place : ℕ) (s : SignatureText) (m : Module) (G : Scope) (Γ : Env) (ρ : Meaning) (q : ℕ) → World G Γ ρ q → (a : Answer C Sig) → SigRight {C = C} a (signature_of s) (suc q) Γ ρ →
      ((n : Sig) → World (inner G n) (extend Γ (signature_of s)) (entered n ρ) (suc (q + size_of n)) →
      ModuleRight (check_module rule (inner G n) (suc (q + size_of n)) m) m (suc (q + size_of n)) (extend Γ (signature_of s)) (entered n ρ)) →
      ModuleRight (and_then a (λ p. and_then (check_module rule (inner G p) (suc (q + size_of p)) m) (λ r. ask_sig place (functor_sig p r)))) (functor_of place s m) q Γ ρ
  functor_right place s m G Γ ρ q w (fault e) h ih = λ i t d. h i (of_functor d).0
  functor_right place s m G Γ ρ q w (ok n) h ih =
      go (check_module rule (inner G n) (suc (q + size_of n)) m)
      (ih n (later (suc (q + size_of n)) (omega arith)
      (enter (later (suc q) (omega arith) w) n (signature_of s) h.0 h.1 (sound_proper (signature_of s) Γ w.proper h.2))))
    where
      go :
          (a : Answer C Sig) → ModuleRight a m (suc (q + size_of n)) (extend Γ (signature_of s)) (entered n ρ) →
          ModuleRight (and_then a (λ r. ask_sig place (functor_sig n r))) (functor_of place s m) q Γ ρ
      go (ok r) k =
          ask_sig_right place (functor_sig n r) (functor_of place s m) q Γ ρ
          (functor (signature_of s) k.0, by_functor h.2 k.1, (h.0, k.2), (h.1, k.3))
      go (fault e) k = λ i t d. let z = (of_functor d).1 in k i z.0 z.1

  -- an application
  of_application :
      {Γ : Env} {place argument : ℕ} {m : Module} {p : ModulePath} {t : Signature} → Derives rule false Γ (applied place m argument p) t →
      (s : Signature) × (r : Signature) × (a : Signature) × Derives rule false Γ m (functor s r) × At Γ p a × Matches Γ (strengthen p a) s
  of_application (by_application s r a d x k) = (s, r, a, d, x, k)
  of_application (by_matching g f d w m) = cc

  result_right :
      (place argument : ℕ) (m : Module) (p : ModulePath) (G : Scope) (Γ : Env) (ρ : Meaning) (q : ℕ) → World G Γ ρ q → (s r : Sig) (S R : Signature) →
      Derives rule false Γ m (functor S R) → Like (functor_sig s r) (functor S R) Γ ρ → Placed q (functor_sig s r) → (n k : Sig) (A : Signature) → At Γ p A →
      n ≡ strengthened (q + suc (size_of s + size_of r)) k → Like n (strengthen p A) Γ ρ →
      (b : Verdict) → VerdictRight b Γ ρ n (strengthen p A) s S →
      ModuleRight (and_then (matches argument b) (λ σ. ask_sig place (copied q σ r))) (applied place m argument p) q Γ ρ
  result_right place argument m p G Γ ρ q w s r S R d l pl n k A at' e la (differs x c) h = λ i t z.
      let y = of_application z in
      let f = derives_unique rule y.3 d in
      let g = at_unique y.4 at' in
      let j : y.0 ≡ S = functor_same y.0 y.1 S R f in
      h (subst₂ (λ a b. Matches Γ (strengthen p a) b) g j y.5)
  result_right place argument m p G Γ ρ q w s r S R d l pl n k A at' e la (matched σ) h =
      let pr = derives_proper v rule law d w.proper in
      let pa = proper_at w.proper at' in
      let b = q + suc (size_of s + size_of r) in
      let means = argument_means Γ ρ p A S k s b σ pa at' (subst (λ z. Means (lift at) (extend Γ S) (entered s ρ) (extend Γ (strengthen p A)) (entered z ρ) σ) e h.1) in
      let along = reading_along Γ p S (knows_gives (strengthened_gives Γ p A S pa at' h.0)) in
      ask_sig_right place (copied q σ r) (applied place m argument p) q Γ ρ (
        on_signature (reading p) R,
        by_application S R A d at' (fits_matches h.0),
        like_copy r R (reading p) (extend Γ S) (entered s ρ) Γ ρ σ q along means w.blank l.1,
        copy_placed r q σ,
      )

  apply_right :
      (place argument : ℕ) (m : Module) (p : ModulePath) (G : Scope) (Γ : Env) (ρ : Meaning) (q : ℕ) → World G Γ ρ q → (f : Sig) (F : Signature) →
      Derives rule false Γ m F → Like f F Γ ρ → Placed q f → (n k : Sig) (A : Signature) → At Γ p A → n ≡ strengthened (q + size_of f) k → Like n (strengthen p A) Γ ρ →
      ModuleRight (apply_sig q place argument f n) (applied place m argument p) q Γ ρ
  apply_right place argument m p G Γ ρ q w (sig c) (structure g) d l pl n k A a e la = λ i t z.
      let y = of_application z in
      let f = derives_unique rule y.3 d in
      cc
  apply_right place argument m p G Γ ρ q w (sig c) (functor S R) d l pl n k A a e la = absurd l
  apply_right place argument m p G Γ ρ q w (functor_sig s r) (structure g) d l pl n k A a e la = absurd l
  apply_right place argument m p G Γ ρ q w (functor_sig s r) (functor S R) d l pl n k A a e la =
      let pr = derives_proper v rule law d w.proper in
      let pa = proper_at w.proper a in
      let b = q + suc (size_of s + size_of r) in
      result_right place argument m p G Γ ρ q w s r S R d l pl n k A a e la (match_sigs n s)
      (match_right w b (suc q) (omega arith) (omega arith) n (strengthen p A) la (proper_strengthen Γ p A pa a) (subst (Placed b) (sym e) (strengthened_placed k b))
      s S l.0 pr.0 pl.0 (inr (omega arith)))

  applied_right :
      (place argument : ℕ) (m : Module) (p : ModulePath) (G : Scope) (Γ : Env) (ρ : Meaning) (q : ℕ) → World G Γ ρ q → (a : Answer C Sig) → ModuleRight a m q Γ ρ →
      ModuleRight (and_then a (λ f. and_then (check_path G (q + size_of f) argument p) (λ n. apply_sig q place argument f n))) (applied place m argument p) q Γ ρ
  applied_right place argument m p G Γ ρ q w (fault e) h = λ i t d. let y = of_application d in h i (functor y.0 y.1) y.3
  applied_right place argument m p G Γ ρ q w (ok f) h =
      go (check_path G (q + size_of f) argument p) (path_right C G Γ ρ (q + size_of f) argument p (later (q + size_of f) (omega arith) w))
    where
      go : (b : Answer C Sig) → PathRight {C = C} b p (q + size_of f) Γ ρ → ModuleRight (and_then b (λ n. apply_sig q place argument f n)) (applied place m argument p) q Γ ρ
      go (ok n) k = apply_right place argument m p G Γ ρ q w f h.0 h.1 h.2 h.3 n k.2 k.0 k.1 k.3 k.4
      go (fault e) k = λ i t d. let y = of_application d in k i y.2 y.4

  -- a module with a signature
  of_signature :
      {Γ : Env} {place inner : ℕ} {m : Module} {s : SignatureText} {t : Signature} → Derives rule false Γ (ascribed place inner m s) t →
      (g : Signature) × Derives rule false Γ m g × Sound Γ (signature_of s) × Matches Γ g (signature_of s)
  of_signature (by_signature g d w k) = (g, d, w, k)
  of_signature (by_matching g f d w m) = cc

  ascribed_right :
      (place inner_place : ℕ) (m : Module) (s : SignatureText) (G : Scope) (Γ : Env) (ρ : Meaning) (q : ℕ) → World G Γ ρ q → (a : Answer C Sig) → ModuleRight a m q Γ ρ →
      ((n : Sig) → SigRight {C = C} (check_sig G (q + size_of n) s) (signature_of s) (q + size_of n) Γ ρ) →
      ModuleRight (and_then a (λ g. and_then (check_sig G (q + size_of g) s) (λ t. and_then (matches inner_place (match_sigs g t)) (λ σ. ok (copied q itself t))))) (ascribed place inner_place m s) q Γ ρ
  ascribed_right place inner_place m s G Γ ρ q w (fault e) h ih = λ i t d. let y = of_signature d in h i y.0 y.1
  ascribed_right place inner_place m s G Γ ρ q w (ok n) h ih = go (check_sig G (q + size_of n) s) (ih n)
    where
      last :
          (t : Sig) → Like t (signature_of s) Γ ρ × Placed (q + size_of n) t × Sound Γ (signature_of s) → (b : Verdict) → VerdictRight b Γ ρ n h.0 t (signature_of s) →
          ModuleRight (and_then (matches inner_place b) (λ σ. ok (copied q itself t))) (ascribed place inner_place m s) q Γ ρ
      last t k (matched φ) y =
          (signature_of s, by_signature h.0 h.1 k.2 (fits_matches y.0), like_again t (signature_of s) Γ ρ q w.blank k.0, copy_placed t q itself)
      last t k (differs x c) y = λ i z d.
          let u = of_signature d in
          y (subst (λ g. Matches Γ g (signature_of s)) (derives_unique rule u.1 h.1) u.3)

      go :
          (a : Answer C Sig) → SigRight {C = C} a (signature_of s) (q + size_of n) Γ ρ →
          ModuleRight (and_then a (λ t. and_then (matches inner_place (match_sigs n t)) (λ σ. ok (copied q itself t)))) (ascribed place inner_place m s) q Γ ρ
      go (ok t) k =
          last t k (match_sigs n t)
          (match_right w q (q + size_of n) (omega arith) (omega arith) n h.0 h.2 (derives_proper v rule law h.1 w.proper) h.3
          t (signature_of s) k.0 (sound_proper (signature_of s) Γ w.proper k.2) k.1 (inl (omega arith)))
      go (fault e) k = λ i t d. k i (of_signature d).2

  of_type : {Γ : Env} {is : Items} {x : Name} {t : TypeText} {c : Components} → DerivesAll rule false Γ (more_items is x (type_item t)) c → (b : Components) × DerivesAll rule false Γ is b × Leads (extend Γ (structure b)) (type_of t)
  of_type (type_too {c = b} d u l) = (b, d, l)

  of_let : {Γ : Env} {is : Items} {x : Name} {t : Term} {c : Components} → DerivesAll rule false Γ (more_items is x (let_item t)) c → (b : Components) × DerivesAll rule false Γ is b × ((n : Ty) × TermHas rule (extend Γ (structure b)) [] t n)
  of_let (let_too {c = b} {n = n} d u h) = (b, d, (n, h))

  of_module : {Γ : Env} {is : Items} {x : Name} {m : Module} {c : Components} → DerivesAll rule false Γ (more_items is x (module_item m)) c → (b : Components) × DerivesAll rule false Γ is b × ((s : Signature) × Derives rule false (extend Γ (structure b)) m s)
  of_module (module_too {c = b} {s = s} d u k) = (b, d, (s, k))

  -- an item behind items that are right
  type_item_lem :
      (is : Items) (x : Name) (t : TypeText) (g : Components) (c : Parts) (q : ℕ) (Γ : Env) (ρ : Meaning) → Undeclared (item_sort (type_item t)) x is →
      DerivesAll rule false Γ is g → LikeAll c g Γ ρ → PlacedAll q c → (a : Answer C Ty) → TypeRight {C = C} a (type_of t) (extend Γ (structure g)) (entered (sig c) ρ) →
      ItemsRight (and_then (and_then a (λ n. ok (defined_part n))) (λ d. ok (more_parts c x d))) (more_items is x (type_item t)) q Γ ρ
  type_item_lem is x t g c q Γ ρ u d l p (ok n) h = (more g x (defined (type_of t)), type_too d u (typed_leads h.1), (l, refl, h), (p, tt))
  type_item_lem is x t g c q Γ ρ u d l p (fault e) h = λ i z y.
      let w = of_type y in
      h i (subst (λ b. Leads (extend Γ (structure b)) (type_of t)) (derives_all_unique rule w.1 d) w.2)

  let_item_lem :
      (is : Items) (x : Name) (t : Term) (g : Components) (c : Parts) (q : ℕ) (G : Scope) (Γ : Env) (ρ : Meaning) → Undeclared (item_sort (let_item t)) x is →
      DerivesAll rule false Γ is g → LikeAll c g Γ ρ → PlacedAll q c → (k : ScopeStands G (extend Γ (structure g)) (entered (sig c) ρ)) (r : Reached G (extend Γ (structure g)) (entered (sig c) ρ)) →
      (a : Answer C Ty) → TermRight v rule law G (extend Γ (structure g)) (entered (sig c) ρ) k r a [] t →
      ItemsRight (and_then (and_then a (λ n. ok (value_part n))) (λ d. ok (more_parts c x d))) (more_items is x (let_item t)) q Γ ρ
  let_item_lem is x t g c q G Γ ρ u d l p k r (ok n) h =
      (more g x (value (meant (entered (sig c) ρ) n)), let_too d u h.0, (l, refl, (h.1.0, h.1.1)), (p, tt))
  let_item_lem is x t g c q G Γ ρ u d l p k r (fault e) h = λ i z y.
      let w = of_let y in
      h i w.2.0 (subst (λ b. TermHas rule (extend Γ (structure b)) [] t w.2.0) (derives_all_unique rule w.1 d) w.2.1)

  module_item_lem :
      (is : Items) (x : Name) (m : Module) (g : Components) (c : Parts) (q : ℕ) (Γ : Env) (ρ : Meaning) → Undeclared (item_sort (module_item m)) x is →
      DerivesAll rule false Γ is g → LikeAll c g Γ ρ → PlacedAll q c → (a : Answer C Sig) → ModuleRight a m (suc (q + size_of_parts c)) (extend Γ (structure g)) (entered (sig c) ρ) →
      ItemsRight (and_then (and_then a (λ n. ok (module_part n))) (λ d. ok (more_parts c x d))) (more_items is x (module_item m)) q Γ ρ
  module_item_lem is x m g c q Γ ρ u d l p (ok n) h = (more g x (nested h.0), module_too d u h.1, (l, refl, h.2), (p, h.3))
  module_item_lem is x m g c q Γ ρ u d l p (fault e) h = λ i z y.
      let w = of_module y in
      h i w.2.0 (subst (λ b. Derives rule false (extend Γ (structure b)) m w.2.0) (derives_all_unique rule w.1 d) w.2.1)

  -- items in turn
  before_right : (is : Items) (x : Name) (i : Item) (q : ℕ) (Γ : Env) (ρ : Meaning) (e : Fault C) → ItemsRight (fault e) is q Γ ρ → ItemsRight (fault e) (more_items is x i) q Γ ρ
  before_right is x (type_item t) q Γ ρ e h = λ i z y. let w = of_type y in h i w.0 w.1
  before_right is x (let_item t) q Γ ρ e h = λ i z y. let w = of_let y in h i w.0 w.1
  before_right is x (module_item m) q Γ ρ e h = λ i z y. let w = of_module y in h i w.0 w.1

  more_right :
      (is : Items) (x : Name) (i : Item) (G : Scope) (q : ℕ) (Γ : Env) (ρ : Meaning) → World G Γ ρ q → (a : Answer C Parts) → ItemsRight a is q Γ ρ →
      ((c : Parts) (g : Components) → DerivesAll rule false Γ is g → LikeAll c g Γ ρ → PlacedAll q c → World (inner G (sig c)) (extend Γ (structure g)) (entered (sig c) ρ) (q + size_of_parts c) →
      ItemsRight (and_then (check_item rule (inner G (sig c)) (q + size_of_parts c) i) (λ d. ok (more_parts c x d))) (more_items is x i) q Γ ρ) →
      ItemsRight (and_then a (λ c. and_then (check_item rule (inner G (sig c)) (q + size_of_parts c) i) (λ d. ok (more_parts c x d)))) (more_items is x i) q Γ ρ
  more_right is x i G q Γ ρ w (fault e) h ih = before_right is x i q Γ ρ e h
  more_right is x i G q Γ ρ w (ok c) h ih =
      ih c h.0 h.1 h.2 h.3
      (enter w (sig c) (structure h.0) h.2 h.3 (derives_proper v rule law (by_items {place = 0} h.1) w.proper))

  mutual
    pub module_right : (m : Module) (G : Scope) (Γ : Env) (ρ : Meaning) (q : ℕ) → World G Γ ρ q → OnceModule m → ModuleRight (check_module rule G q m) m q Γ ρ
    module_right (module_path place p) G Γ ρ q w o = module_path_right place p q Γ ρ (check_path G q place p) (path_right C G Γ ρ q place p w)
    module_right (struct place is) G Γ ρ q w o = struct_right place is q Γ ρ (check_items rule G q is) (items_right is G Γ ρ q w o)
    module_right (functor_of place s m) G Γ ρ q w o =
        functor_right place s m G Γ ρ q w (check_sig G (suc q) s) (sig_right s C G Γ ρ (suc q) (later (suc q) (omega arith) w) o.0)
        (λ n z. module_right m (inner G n) (extend Γ (signature_of s)) (entered n ρ) (suc (q + size_of n)) z o.1)
    module_right (applied place m argument p) G Γ ρ q w o = applied_right place argument m p G Γ ρ q w (check_module rule G q m) (module_right m G Γ ρ q w o)
    module_right (ascribed place inner_place m s) G Γ ρ q w o =
        ascribed_right place inner_place m s G Γ ρ q w (check_module rule G q m) (module_right m G Γ ρ q w o.0)
        (λ n. sig_right s C G Γ ρ (q + size_of n) (later (q + size_of n) (omega arith) w) o.1)

    pub items_right : (is : Items) (G : Scope) (Γ : Env) (ρ : Meaning) (q : ℕ) → World G Γ ρ q → OnceItems is → ItemsRight (check_items rule G q is) is q Γ ρ
    items_right no_items G Γ ρ q w o = (empty, no_item, tt, tt)
    items_right (more_items is x i) G Γ ρ q w o =
        more_right is x i G q Γ ρ w (check_items rule G q is) (items_right is G Γ ρ q w o.0)
        (λ c g d l p z. item_right i is x G Γ ρ q o.1 o.2 c g d l p z)

    item_right :
        (i : Item) (is : Items) (x : Name) (G : Scope) (Γ : Env) (ρ : Meaning) (q : ℕ) → Undeclared (item_sort i) x is → OnceItem i → (c : Parts) (g : Components) →
        DerivesAll rule false Γ is g → LikeAll c g Γ ρ → PlacedAll q c → World (inner G (sig c)) (extend Γ (structure g)) (entered (sig c) ρ) (q + size_of_parts c) →
        ItemsRight (and_then (check_item rule (inner G (sig c)) (q + size_of_parts c) i) (λ d. ok (more_parts c x d))) (more_items is x i) q Γ ρ
    item_right (type_item t) is x G Γ ρ q u o c g d l p z =
        type_item_lem is x t g c q Γ ρ u d l p (check_type (inner G (sig c)) t) (type_right C (inner G (sig c)) (extend Γ (structure g)) (entered (sig c) ρ) z.stands t)
    item_right (let_item t) is x G Γ ρ q u o c g d l p z =
        let_item_lem is x t g c q (inner G (sig c)) Γ ρ u d l p z.stands z.reached (check_term rule (inner G (sig c)) [] t)
        (term_right v rule law (inner G (sig c)) (extend Γ (structure g)) (entered (sig c) ρ) z.stands z.reached t [] [] tt)
    item_right (module_item m) is x G Γ ρ q u o c g d l p z =
        module_item_lem is x m g c q Γ ρ u d l p (check_module rule (inner G (sig c)) (suc (q + size_of_parts c)) m)
        (module_right m (inner G (sig c)) (extend Γ (structure g)) (entered (sig c) ρ) (suc (q + size_of_parts c)) (later (suc (q + size_of_parts c)) (omega arith) z) o)
