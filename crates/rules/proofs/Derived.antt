-- What is derived is proper; without the free rule it is one.
use Rattle.std.proofs.Common.{◌≡◌, ℕ, Bool, true, false, cond, ◌&&◌, List, [], Some, None, sym, refl, ap, subst, ap₂}
use Rattle.std.specs.Str.{bytes_eq}
use Rattle.std.proofs.lemmas.Slice.Eq.{bytes_eq-Decides}
use Rattle.types.specs.Types.{Name, ModulePath, Ty}
use Rattle.cores.specs.Meaning.{Outcome, Stable}
use Rattle.cores.specs.declared.interface.Operation.{Operation}
use Rattle.rules.specs.Signatures.{Sort, a_type, a_value, a_module, Signature, structure, functor, Components, more, Declaration, defined, value, nested, sort_of, same_sort, first_of, find}
use Rattle.rules.specs.Substitution.{reading, on_signature}
use Rattle.rules.specs.Lookup.{Env, extend, At}
use Rattle.rules.specs.Matching.{Matches}
use Rattle.rules.specs.Strengthening.{strengthen}
use Rattle.rules.specs.Syntax.{Module, Items, signature_of, type_of}
use Rattle.rules.specs.Rules.{Undeclared, TermHas, Derives, by_path, by_items, by_functor, by_application, by_signature, by_matching, DerivesAll, no_item, type_too, let_too, module_too}
use Rattle.rules.proofs.Finding.{same_sort_is, at_unique}
use Rattle.rules.proofs.Inner.{Gives, Proper, ProperAll, ProperEnv}
use Rattle.rules.proofs.Transitive.{knows_gives}
use Rattle.rules.proofs.Knowing.{id_along, reading_along}
use Rattle.rules.proofs.Properness.{proper_at, proper_along, proper_extend}
use Rattle.rules.proofs.Strengthened.{proper_strengthen, strengthened_gives}
use Rattle.rules.proofs.Wording.{leads_typed, sound_proper, matches_fits}
use Rattle.rules.proofs.Terms.{term_finer, term_unique}

-- a sort and name that is neither before nor last is not found
pub find_none :
    (c : Components) (s : Sort) (x y : Name) (d : Declaration) → find s x c ≡ None → (sort_of d ≡ s → y ≡ x → ⊥) → find s x (more c y d) ≡ None
find_none c s x y d f no' = go (same_sort s (sort_of d)) refl (bytes_eq x y) refl
  where
    go :
        (a : Bool) → same_sort s (sort_of d) ≡ a → (b : Bool) → bytes_eq x y ≡ b →
        first_of (find s x c) (cond (same_sort s (sort_of d) && bytes_eq x y) (Some d) None) ≡ None
    go true p true q = absurd (no' (sym (same_sort_is s (sort_of d) p)) (sym ((bytes_eq-Decides x y).0 q)))
    go true p false q = ap₂ (λ o z. first_of o (cond z (Some d) None)) f (ap₂ (λ a b. a && b) p q)
    go false p b q = ap₂ (λ o z. first_of o (cond z (Some d) None)) f (ap (λ a. a && bytes_eq x y) p)

-- what no item declares is not found among the components
pub undeclared_none :
    {C : Type 0} {rule : Operation → List Ty → Outcome C} {free : Bool} {Γ : Env} {is : Items} {c : Components} →
    DerivesAll rule free Γ is c → (s : Sort) (x : Name) → Undeclared s x is → find s x c ≡ None
undeclared_none no_item s x u = refl
undeclared_none (type_too {c = c} {x = y} {t = t} d n l) s x u = find_none c s x y (defined (type_of t)) (undeclared_none d s x u.0) u.1
undeclared_none (let_too {c = c} {x = y} {n = n} d i h) s x u = find_none c s x y (value n) (undeclared_none d s x u.0) u.1
undeclared_none (module_too {c = c} {x = y} {s = t} d n m) s x u = find_none c s x y (nested t) (undeclared_none d s x u.0) u.1

module _ {C : Type 0} (n : ℕ) (rule : Operation → List Ty → Outcome C) (law : Stable n rule) where
  -- the path of an application gives the parameter's signature
  pub argument_gives :
      (Γ : Env) (p : ModulePath) (a s : Signature) → ProperEnv Γ → At Γ p a → Proper Γ s → Matches Γ (strengthen p a) s → Gives Γ p s
  argument_gives Γ p a s e at' w m =
      strengthened_gives Γ p a s (proper_at e at') at' (matches_fits m e (proper_strengthen Γ p a (proper_at e at') at') w)

  mutual
    pub derives_proper : {free : Bool} {Γ : Env} {m : Module} {s : Signature} → Derives rule free Γ m s → ProperEnv Γ → Proper Γ s
    derives_proper (by_path {Γ = Γ} {p = p} s a) e = proper_strengthen Γ p s (proper_at e a) a
    derives_proper (by_items d) e = derives_all_proper d e
    derives_proper (by_functor {Γ = Γ} {s = s} w d) e =
        let v = sound_proper (signature_of s) Γ e w in
        (v, derives_proper d (proper_extend Γ (signature_of s) e v))
    derives_proper (by_application {Γ = Γ} {p = p} s r a d at' m) e =
        let w = derives_proper d e in
        proper_along r (extend Γ s) Γ (reading p) (reading_along Γ p s (knows_gives (argument_gives Γ p a s e at' w.0 m))) w.1
    derives_proper (by_signature {Γ = Γ} {s = s} g d w m) e = sound_proper (signature_of s) Γ e w
    derives_proper (by_matching {Γ = Γ} {s = s} g f d w m) e = sound_proper s Γ e w

    pub derives_all_proper : {free : Bool} {Γ : Env} {is : Items} {c : Components} → DerivesAll rule free Γ is c → ProperEnv Γ → ProperAll Γ c
    derives_all_proper no_item e = tt
    derives_all_proper (type_too {Γ = Γ} {c = c} {x = x} {t = t} d u l) e =
        let w = derives_all_proper d e in
        (w, undeclared_none d a_type x u, leads_typed (extend Γ (structure c)) (type_of t) (proper_extend Γ (structure c) e w) l)
    derives_all_proper (let_too {Γ = Γ} {c = c} {x = x} d u h) e =
        let w = derives_all_proper d e in
        let v = term_finer n rule law h (extend Γ (structure c)) (id_along (extend Γ (structure c))) in
        (w, undeclared_none d a_value x u, (v.0, v.2))
    derives_all_proper (module_too {Γ = Γ} {c = c} {x = x} d u m) e =
        let w = derives_all_proper d e in
        (w, undeclared_none d a_module x u, derives_proper m (proper_extend Γ (structure c) e w))

-- without the free rule a module has one signature
module _ {C : Type 0} (rule : Operation → List Ty → Outcome C) where
  mutual
    pub derives_unique : {Γ : Env} {m : Module} {s s' : Signature} → Derives rule false Γ m s → Derives rule false Γ m s' → s ≡ s'
    derives_unique (by_path {p = p} s a) (by_path s' a') = ap (strengthen p) (at_unique a a')
    derives_unique (by_path s a) (by_matching g f d w m) = cc
    derives_unique (by_items d) (by_items d') = ap structure (derives_all_unique d d')
    derives_unique (by_items d) (by_matching g f d' w m) = cc
    derives_unique (by_functor {s = s} w d) (by_functor w' d') = ap (functor (signature_of s)) (derives_unique d d')
    derives_unique (by_functor w d) (by_matching g f d' w' m) = cc
    derives_unique (by_application {p = p} s r a d x m) (by_application s' r' a' d' x' m') =
        let q = derives_unique d d' in
        let i : r ≡ r' = cc in
        ap (on_signature (reading p)) i
    derives_unique (by_application s r a d x m) (by_matching g f d' w' m') = cc
    derives_unique (by_signature g d w m) (by_signature g' d' w' m') = refl
    derives_unique (by_signature g d w m) (by_matching g' f d' w' m') = cc
    derives_unique (by_matching g f d w m) d' = cc

    pub derives_all_unique : {Γ : Env} {is : Items} {c c' : Components} → DerivesAll rule false Γ is c → DerivesAll rule false Γ is c' → c ≡ c'
    derives_all_unique no_item no_item = refl
    derives_all_unique (type_too {x = x} {t = t} d u l) (type_too d' u' l') = ap (λ c. more c x (defined (type_of t))) (derives_all_unique d d')
    derives_all_unique {Γ} (let_too {x = x} {t = t} {n = n} d u h) (let_too {c = c'} {n = n'} d' u' h') =
        let q = derives_all_unique d d' in
        let i = term_unique rule (subst (λ c. TermHas rule (extend Γ (structure c)) [] t n) q h) h' in
        ap₂ (λ c y. more c x (value y)) q i
    derives_all_unique {Γ} (module_too {x = x} {m = m} {s = s} d u k) (module_too {c = c'} {s = s'} d' u' k') =
        let q = derives_all_unique d d' in
        let i = derives_unique k (subst (λ c. Derives rule false (extend Γ (structure c)) m s') (sym q) k') in
        ap₂ (λ c y. more c x (nested y)) q i
