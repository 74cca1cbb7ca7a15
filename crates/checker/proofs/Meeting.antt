-- Where numbered signatures meet, the signatures for which they stand match.
use Rattle.std.proofs.Common.{◌≡◌, ℕ, suc, ◌+◌, ◌<◌, ◌≤◌, Bool, true, false, cond, eqb, ◌⊎◌, Some, Option, sym, refl, ap, ◌∙◌, subst, subst₂, inl, inr, arith}
use Rattle.std.proofs.lemmas.Bool.{eqb-true}
use Rattle.types.specs.Types.{Name, ModulePath, at, dot, named, Ty, leaf}
use Rattle.rules.specs.Signatures.{Sort, a_type, a_value, a_module, Signature, structure, functor, Components, empty, more, Declaration, abstract, defined, value, nested}
use Rattle.rules.specs.Substitution.{Substitution, under, innermost, out, lift, on_type, on_signature, on_components, on_declaration}
use Rattle.rules.specs.Lookup.{Env, extend, At, head, Normal}
use Rattle.rules.proofs.Algebra.{after, type_id, type_under_out, signature_id, signature_comp, components_reading_lift}
use Rattle.rules.proofs.Inner.{Gives, g_structure, g_functor, GivesAll, g_none, Fits, f_structure, f_functor, Proper, ProperAll, ProperOne, ProperEnv}
use Rattle.rules.proofs.Exact.{fits_fresh}
use Rattle.rules.proofs.Transitive.{GivesOne, gives_more, knows_gives}
use Rattle.rules.proofs.Knowing.{Along, id_along, lift_along, weaken_along, under_along}
use Rattle.rules.proofs.Properness.{proper_at, proper_along, proper_extend}
use Rattle.checker.specs.Numbered.{Sig, sig, functor_sig, Parts, more_parts, Part, abstract_part, value_part, module_part, sort_of_part, find_part, size_of, size_of_parts, size_of_part, Placed, PlacedAll, PlacedOne}
use Rattle.checker.specs.Meanings.{Meaning, bind, meant}
use Rattle.checker.specs.Scope.{type_of_part}
use Rattle.checker.specs.Failing.{Meets, structures_meet, functors_meet, MeetsAll, none_wanted, one_more, MeetsOne, any_type, same_type, same_value, sub_module}
use Rattle.checker.specs.Standing.{NoPaths, StandsFor, calls, calls_all, calls_one, entered, Like, LikeAll, LikeOne}
use Rattle.checker.proofs.Carrying.{normal_outside, like_along}
use Rattle.checker.proofs.Looking.{calls_on, PartStands, look_part, part_module, part_type, part_value}
use Rattle.checker.proofs.Entering.{calls_called, called_agree, like_once}
use Rattle.checker.proofs.Copied.{Means, stands_means}
use Rattle.checker.proofs.Ground.{Plain, PlainIn, PlainInAll, PlainInOne, plain_in, plain_one_agree, plain_calls, Apart, Inside, inside_found, Tidy, meant_tidy, after_meaning, meant_comp, Recovers, recovers_enter, entered_plain, means_weaken, means_lift, means_out}
use Rattle.checker.specs.Statements.{ModuleLeads, TypeLeads}

-- an environment and its naming
pub record Ground (Γ : Env) (ρ : Meaning) : Type 0 where
  pub sound : ProperEnv Γ
  pub recovers : Recovers Γ ρ

-- how a text's scope is read in the environment, and what its numbers mean there
pub record Reading (Γ : Env) (ρ : Meaning) (τ : Meaning) : Type 0 where
  pub known : Env
  pub names : Meaning
  pub way : Substitution
  pub along : Along way known Γ
  pub means : Means way known names Γ ρ τ
  pub tidy : Tidy τ

-- a signature that stands at a path
pub record There (Γ : Env) (ρ : Meaning) (g : Sig) (σ : Meaning) (a : ℕ) (p : ModulePath) : Type 0 where
  pub stands : ModuleLeads (Some g) p Γ (after_meaning ρ σ)
  pub placed : Placed a g
  pub plain_names : PlainIn a g ρ
  pub plain_means : PlainIn a g σ
  pub tidy : Tidy σ

-- a signature that is read, with all its numbers new
pub record Side (Γ : Env) (ρ : Meaning) (n : Sig) (σ : Meaning) (a : ℕ) (r : Reading Γ ρ σ) (s : Signature) : Type 0 where
  pub like : Like n s r.known r.names
  pub proper : Proper r.known s
  pub placed : Placed a n
  pub plain_names : Plain a (size_of n) ρ
  pub plain_means : Plain a (size_of n) σ

-- a number is an own one, and then its path has what it means for its normal form; or it means what it meant
abbrev pub Info : (ModulePath → Meaning → Meaning) → Env → Meaning → ModulePath → Meaning → Meaning → ℕ → Type 0
Info f Γ ρ p τ φ n =
    ((r : ModulePath) × (x : Name) × ((ω : Meaning) → f p ω n ≡ leaf (named r x)) × NoPaths (φ n) × Normal Γ (leaf (named r x)) (meant ρ (φ n)))
    ⊎ (((q : ModulePath) (ω : Meaning) → f q ω n ≡ ω n) × (φ n ≡ τ n))

pub info_tidy : (f : ModulePath → Meaning → Meaning) (Γ : Env) (ρ : Meaning) (p : ModulePath) (τ φ : Meaning) → ((n : ℕ) → Info f Γ ρ p τ φ n) → Tidy τ → Tidy φ
info_tidy f Γ ρ p τ φ i t n = go (i n)
  where
    go : Info f Γ ρ p τ φ n → NoPaths (φ n)
    go (inl w) = w.3
    go (inr w) = subst NoPaths (sym w.1) (t n)

pub info_means :
    (w : Sig) (s : Signature) (θ : Substitution) (Γ' : Env) (ω : Meaning) (Γ : Env) (ρ : Meaning) (p : ModulePath) (τ φ : Meaning) →
    Means θ Γ' ω Γ ρ τ → ((n : ℕ) → Info (λ q. calls q w) Γ ρ p τ φ n) → Means (under p θ) (extend Γ' s) (entered w ω) Γ ρ φ
info_means w s θ Γ' ω Γ ρ p τ φ k i n m = go (i n)
  where
    go : Info (λ q. calls q w) Γ ρ p τ φ n → NoPaths (φ n) × Normal Γ (on_type (under p θ) (entered w ω n)) (meant ρ (φ n))
    go (inl v) = (
      v.3,
      subst (λ z. Normal Γ z (meant ρ (φ n)))
          (sym (calls_on w (under p θ) innermost (λ j. on_type out (ω j)) n ∙ v.2 (λ j. on_type (under p θ) (on_type out (ω j))))) v.4,
    )
    go (inr v) =
        let e = v.0 innermost (λ j. on_type out (ω j)) in
        let u = k n (normal_outside (ω n) Γ' s (subst₂ (Normal (extend Γ' s)) e e m)) in (
          subst NoPaths (sym v.1) u.0,
          subst₂ (Normal Γ) (sym (ap (on_type (under p θ)) e ∙ type_under_out p θ (ω n))) (ap (meant ρ) (sym v.1)) u.1,
        )

pub both_info :
    (c : Parts) (x : Name) (e : Part) (Γ : Env) (ρ : Meaning) (p : ModulePath) (τ υ φ : Meaning) (n : ℕ) →
    Info (λ q. calls_all q c) Γ ρ p τ υ n → Info (λ q. calls_one q x e) Γ ρ p υ φ n → Info (λ q. calls_all q (more_parts c x e)) Γ ρ p τ φ n
both_info c x e Γ ρ p τ υ φ n o (inl w) = inl (w.0, w.1, λ ω. w.2 (calls_all p c ω), w.3, w.4)
both_info c x e Γ ρ p τ υ φ n (inl v) (inr w) =
    inl (
      v.0,
      v.1,
      λ ω. w.0 p (calls_all p c ω) ∙ v.2 ω,
      subst NoPaths (sym w.1) v.3,
      subst (λ z. Normal Γ (leaf (named v.0 v.1)) (meant ρ z)) (sym w.1) v.4,
    )
both_info c x e Γ ρ p τ υ φ n (inr v) (inr w) = inr (λ q ω. w.0 q (calls_all q c ω) ∙ v.0 q ω, w.1 ∙ v.1)

pub module_info :
    (x : Name) (w : Sig) (Γ : Env) (ρ : Meaning) (p : ModulePath) (τ φ : Meaning) (n : ℕ) → Info (λ q. calls q w) Γ ρ (dot p x) τ φ n → Info (λ q. calls_one q x (module_part w)) Γ ρ p τ φ n
module_info x w Γ ρ p τ φ n (inl v) = inl v
module_info x w Γ ρ p τ φ n (inr v) = inr (λ q ω. v.0 (dot q x) ω, v.1)

bound_info :
    (k : ℕ) (x : Name) (Γ : Env) (ρ : Meaning) (p : ModulePath) (υ : Meaning) (t : Ty) → NoPaths t → Normal Γ (leaf (named p x)) (meant ρ t) → (n : ℕ) (b : Bool) → eqb n k ≡ b →
    Info (λ q. calls_one q x (abstract_part k)) Γ ρ p υ (bind k t υ) n
bound_info k x Γ ρ p υ t i m n true e =
    let f : bind k t υ n ≡ t = ap (λ b. cond b t (υ n)) e in
    inl (p, x, λ ω. ap (λ b. cond b (leaf (named p x)) (ω n)) e, subst NoPaths (sym f) i, subst (λ z. Normal Γ (leaf (named p x)) (meant ρ z)) (sym f) m)
bound_info k x Γ ρ p υ t i m n false e = inr (λ q ω. ap (λ b. cond b (leaf (named q x)) (ω n)) e, ap (λ b. cond b t (υ n)) e)

-- only own numbers of the wanted signature get new meanings
mutual
  pub meets_apart : {σ τ φ : Meaning} {g w : Sig} → Meets σ g τ w φ → (b n : ℕ) → Placed b w → (b ≤ n → n < b + size_of w → ⊥) → φ n ≡ τ n
  meets_apart (structures_meet m) b n p h = meets_all_apart m b n p h
  meets_apart (functors_meet υ φ m k) b n p h = refl

  pub meets_all_apart : {σ τ φ : Meaning} {g c : Parts} → MeetsAll σ g τ c φ → (b n : ℕ) → PlacedAll b c → (b ≤ n → n < b + size_of_parts c → ⊥) → φ n ≡ τ n
  meets_all_apart none_wanted b n p h = refl
  meets_all_apart (one_more {c = c} {e = e} υ d m f o) b n p h =
      meets_one_apart o (b + size_of_parts c) n p.1 (λ i j. h (omega arith) (omega arith)) ∙ meets_all_apart m b n p.0 (λ i j. h i (omega arith))

  meets_one_apart : {σ τ φ : Meaning} {d e : Part} → MeetsOne σ d τ e φ → (b n : ℕ) → PlacedOne b e → (b ≤ n → n < b + suc (size_of_part e) → ⊥) → φ n ≡ τ n
  meets_one_apart (any_type {σ = σ} {τ = τ} {n = k} t q) b n p h = go (eqb n k) refl
    where
      go : (c : Bool) → eqb n k ≡ c → cond (eqb n k) (meant σ t) (τ n) ≡ τ n
      go true e = let z = eqb-true n k e in absurd (h (omega arith) (omega arith))
      go false e = ap (λ c. cond c (meant σ t) (τ n)) e
  meets_one_apart (same_type t q e) b n p h = refl
  meets_one_apart (same_value e) b n p h = refl
  meets_one_apart (sub_module m) b n p h = meets_apart m (suc b) n p (λ i j. h (omega arith) (omega arith))

-- what is said of two signatures that meet, each read in the environment
abbrev pub Fitting : (Γ : Env) (ρ : Meaning) (g : Sig) (σ : Meaning) (r : Reading Γ ρ σ) (s : Signature) (w : Sig) (τ : Meaning) (k : Reading Γ ρ τ) (t : Signature) (φ : Meaning) → Type 0
Fitting Γ ρ g σ r s w τ k t φ =
    Fits Γ (on_signature r.way s) (on_signature k.way t)
    × Means (lift k.way) (extend k.known t) (entered w k.names) (extend Γ (on_signature r.way s)) (entered g ρ) φ
    × Tidy φ

abbrev pub FittingAt : (Γ : Env) (ρ : Meaning) (p : ModulePath) (w : Sig) (τ : Meaning) (k : Reading Γ ρ τ) (t : Signature) (φ : Meaning) → Type 0
FittingAt Γ ρ p w τ k t φ = Gives Γ p (on_signature k.way t) × ((n : ℕ) → Info (λ q. calls q w) Γ ρ p τ φ n)

-- one more binder on the given side
pub ground_enter : (Γ : Env) (ρ : Meaning) → Ground Γ ρ → (n : Sig) (σ : Meaning) (a : ℕ) (r : Reading Γ ρ σ) (s : Signature) → Side Γ ρ n σ a r s → Ground (extend Γ (on_signature r.way s)) (entered n ρ)
ground_enter Γ ρ d n σ a r s h =
    record {
      sound = proper_extend Γ (on_signature r.way s) d.sound (proper_along s r.known Γ r.way r.along h.proper);
      recovers = recovers_enter Γ ρ d.recovers n (like_once n s r.known r.names h.like h.proper) (on_signature r.way s);
    }

abbrev pub reading_weaken : (Γ : Env) (ρ : Meaning) (τ : Meaning) → Reading Γ ρ τ → (n : Sig) (a : ℕ) → Placed a n → Plain a (size_of n) ρ → (s : Signature) → Reading (extend Γ s) (entered n ρ) τ
reading_weaken Γ ρ τ r n a w h s =
    record {
      known = r.known;
      names = r.names;
      way = after out r.way;
      along = weaken_along r.way r.known Γ s r.along;
      means = means_weaken r.way r.known r.names Γ ρ τ r.means n a w h s;
      tidy = r.tidy;
    }

-- a structure on the given side stands at the new binder
pub there_enter :
    (Γ : Env) (ρ : Meaning) (g : Parts) (σ : Meaning) (a : ℕ) (r : Reading Γ ρ σ) (c : Components) → Side Γ ρ (sig g) σ a r (structure c) →
    There (extend Γ (on_signature r.way (structure c))) (entered (sig g) ρ) (sig g) σ a innermost
there_enter Γ ρ g σ a r c h =
    let s = on_signature r.way (structure c) in
    let Γz = extend Γ s in
    let ρz = entered (sig g) ρ in
    let v = reading_weaken Γ ρ σ r (sig g) a h.placed h.plain_names s in
    record {
      stands = (
        on_signature out s,
        head refl,
        subst (λ z. Like (sig g) z Γz (after_meaning ρz σ)) (sym (signature_comp out r.way (structure c)))
            (like_along (sig g) (structure c) (after out r.way) r.known r.names Γz (after_meaning ρz σ) v.along (λ n m. (v.means n m).1) h.like),
        called_agree (sig g) innermost a ρz (after_meaning ρz σ) h.placed (λ n i j. ap (meant ρz) (sym (h.plain_means n i j)))
            (calls_called (sig g) innermost a (λ j. on_type out (ρ j)) h.placed),
      );
      placed = h.placed;
      plain_names = plain_calls (sig g) innermost a (λ j. on_type out (ρ j)) h.placed (λ n i j. ap (on_type out) (h.plain_names n i j));
      plain_means = plain_in (sig g) a σ h.plain_means;
      tidy = r.tidy;
    }

-- the structure at the path
pub there_structure : (Γ : Env) (ρ : Meaning) (g : Parts) (σ : Meaning) (a : ℕ) (p : ModulePath) → There Γ ρ (sig g) σ a p → (c : Components) × At Γ p (structure c)
there_structure Γ ρ g σ a p t = go t.stands.0 t.stands.1 t.stands.2
  where
    go : (s : Signature) → At Γ p s → Like (sig g) s Γ (after_meaning ρ σ) → (c : Components) × At Γ p (structure c)
    go (structure c) h l = (c, h)
    go (functor s r) h l = absurd l

-- what was wanted before is known at the path
abbrev pub reading_more :
    (Γ : Env) (ρ : Meaning) (g : Parts) (σ : Meaning) (a : ℕ) (p : ModulePath) → There Γ ρ (sig g) σ a p → (τ : Meaning) (r : Reading Γ ρ τ) (c : Parts) (C : Components) (υ : Meaning) →
    GivesAll Γ p (on_components (under p r.way) C) → ((n : ℕ) → Info (λ q. calls_all q c) Γ ρ p τ υ n) → Reading Γ ρ υ
reading_more Γ ρ g σ a p t τ r c C υ h i =
    let w = there_structure Γ ρ g σ a p t in
    record {
      known = extend r.known (structure C);
      names = entered (sig c) r.names;
      way = under p r.way;
      along = under_along r.way r.known Γ p (structure C) r.along
          (knows_gives (g_structure w.0 w.1 (subst (GivesAll Γ p) (sym (components_reading_lift p r.way C)) h)));
      means = info_means (sig c) (structure C) r.way r.known r.names Γ ρ p τ υ r.means i;
      tidy = info_tidy (λ q. calls_all q c) Γ ρ p τ υ i r.tidy;
    }

-- a functor at a path, read there
abbrev pub reading_there : (Γ : Env) (ρ : Meaning) (g : Sig) (σ : Meaning) (a : ℕ) (p : ModulePath) → There Γ ρ g σ a p → Reading Γ ρ σ
reading_there Γ ρ g σ a p t =
    record {
      known = Γ;
      names = after_meaning ρ σ;
      way = at;
      along = id_along Γ;
      means = λ n m. (t.tidy n, subst (λ z. Normal Γ z (meant ρ (σ n))) (sym (type_id (meant ρ (σ n)))) m);
      tidy = t.tidy;
    }

-- the type of a component's partner
pub partner_type :
    (Γ : Env) (ρ σ : Meaning) (p : ModulePath) (x : Name) (d : Part) (t : Ty) → PartStands (Some d) a_type p x Γ (after_meaning ρ σ) → Tidy σ → type_of_part (Some d) ≡ Some t →
    NoPaths (meant σ t) × Normal Γ (leaf (named p x)) (meant ρ (meant σ t))
partner_type Γ ρ σ p x d t k h q =
    let s : StandsFor t (leaf (named p x)) Γ (after_meaning ρ σ) =
    subst (λ o. TypeLeads o p x Γ (after_meaning ρ σ)) q (part_type (Some d) p x Γ (after_meaning ρ σ) k) in
    (meant_tidy t s.0 σ h, subst (Normal Γ (leaf (named p x))) (meant_comp ρ σ t) s.1)

-- what holds of any two sides that stand apart
abbrev pub Each :
    (σ : Meaning) (g : Sig) (τ : Meaning) (w : Sig) →
    ((Γ : Env) (ρ : Meaning) → Reading Γ ρ σ → Signature → Reading Γ ρ τ → Signature → Type 0) → Type 0
Each σ g τ w X =
    (Γ : Env) (ρ : Meaning) (a b : ℕ) → Ground Γ ρ → (r : Reading Γ ρ σ) (s : Signature) → Side Γ ρ g σ a r s → (k : Reading Γ ρ τ) (t : Signature) → Side Γ ρ w τ b k t →
    Apart a (size_of g) b (size_of w) → X Γ ρ r s k t

abbrev pub Fitted : {σ τ φ : Meaning} {g w : Sig} → Meets σ g τ w φ → Type 0
Fitted {σ} {τ} {φ} {g} {w} m = Each σ g τ w (λ Γ ρ r s k t. Fitting Γ ρ g σ r s w τ k t φ)

pub apart_turn : (a k b l : ℕ) → Apart a k b l → Apart b l a k
apart_turn a k b l (inl h) = inr h
apart_turn a k b l (inr h) = inl h

pub apart_less : (a k b l a' k' b' l' : ℕ) → Apart a k b l → a ≤ a' → a' + k' ≤ a + k → b ≤ b' → b' + l' ≤ b + l → Apart a' k' b' l'
apart_less a k b l a' k' b' l' (inl h) i j u v = inl (omega arith)
apart_less a k b l a' k' b' l' (inr h) i j u v = inr (omega arith)

-- the reading of the results, with the wanted parameter known
abbrev pub reading_result :
    (Γ : Env) (ρ : Meaning) (σ τ υ : Meaning) (r : Reading Γ ρ σ) (k : Reading Γ ρ τ) (sN s'N : Sig) (s s' : Signature) →
    Fitting Γ ρ s'N τ k s' sN σ r s υ → Reading (extend Γ (on_signature k.way s')) (entered s'N ρ) υ
reading_result Γ ρ σ τ υ r k sN s'N s s' f =
    record {
      known = extend r.known s;
      names = entered sN r.names;
      way = lift r.way;
      along =
          (let Γ* = extend Γ (on_signature k.way s') in
          under_along (after out r.way) r.known Γ* innermost s (weaken_along r.way r.known Γ (on_signature k.way s') r.along)
          (knows_gives (subst (Gives Γ* innermost) (signature_comp out r.way s) (fits_fresh f.0))));
      means = f.1;
      tidy = f.2;
    }

abbrev pub reading_lift :
    (Γ : Env) (ρ : Meaning) (τ : Meaning) (k : Reading Γ ρ τ) (n : Sig) (b : ℕ) → Placed b n → Plain b (size_of n) ρ → Plain b (size_of n) τ → (s : Signature) →
    Reading (extend Γ (on_signature k.way s)) (entered n ρ) τ
reading_lift Γ ρ τ k n b w h i s =
    record {
      known = extend k.known s;
      names = entered n k.names;
      way = lift k.way;
      along = lift_along k.way k.known Γ s k.along;
      means = means_lift k.way k.known k.names Γ ρ τ k.means n b w h i s;
      tidy = k.tidy;
    }

-- the parameter of a functor is a side behind the functor's number
pub side_parameter :
    {Γ : Env} {ρ σ : Meaning} {s r : Sig} (a : ℕ) (x : Reading Γ ρ σ) (S R : Signature) → Side Γ ρ (functor_sig s r) σ a x (functor S R) →
    Side Γ ρ s σ (suc a) x S
side_parameter a x S R A =
    record { like = A.like.0; proper = A.proper.0; placed = A.placed.0; plain_names = λ n i j. A.plain_names n (omega arith) (omega arith); plain_means = λ n i j. A.plain_means n (omega arith) (omega arith) }

-- two functors: their parameters meet the other way round, and then their results
module _ {σ τ : Meaning} {s r s' r' : Sig} (Γ : Env) (ρ : Meaning) (a b : ℕ) (d : Ground Γ ρ)
    (x : Reading Γ ρ σ) (S R : Signature) (A : Side Γ ρ (functor_sig s r) σ a x (functor S R))
    (k : Reading Γ ρ τ) (S' R' : Signature) (B : Side Γ ρ (functor_sig s' r') τ b k (functor S' R'))
    (o : Apart a (suc (size_of s + size_of r)) b (suc (size_of s' + size_of r'))) where
  pub parameters_meet :
      (X : (Γ : Env) (ρ : Meaning) → Reading Γ ρ τ → Signature → Reading Γ ρ σ → Signature → Type 0) → Each τ s' σ s X → X Γ ρ k S' x S
  parameters_meet X ih =
      ih Γ ρ (suc b) (suc a) d k S' (side_parameter b k S' R' B) x S (side_parameter a x S R A)
      (apart_turn (suc a) (size_of s) (suc b) (size_of s')
      (apart_less a (suc (size_of s + size_of r)) b (suc (size_of s' + size_of r')) (suc a) (size_of s) (suc b) (size_of s') o (omega arith) (omega arith) (omega arith) (omega arith)))

  -- the reading of the results wanted
  abbrev pub results_lift : Reading (extend Γ (on_signature k.way S')) (entered s' ρ) τ
  results_lift =
      let B₁ = side_parameter b k S' R' B in reading_lift Γ ρ τ k s' (suc b) B₁.placed B₁.plain_names B₁.plain_means S'

  pub results_meet :
      {υ : Meaning} (m : Meets τ s' σ s υ) (first : Fitting Γ ρ s' τ k S' s σ x S υ)
      (X : (Γ : Env) (ρ : Meaning) → Reading Γ ρ υ → Signature → Reading Γ ρ τ → Signature → Type 0) → Each υ r τ r' X →
      X (extend Γ (on_signature k.way S')) (entered s' ρ) (reading_result Γ ρ σ τ υ x k s s' S S' first) R results_lift R'
  results_meet {υ} m first X jh =
      let A₁ = side_parameter a x S R A in
      let B₁ = side_parameter b k S' R' B in
      let Γ* = extend Γ (on_signature k.way S') in
      let ρ* = entered s' ρ in
      let aᵣ = suc (a + size_of s) in
      let bᵣ = suc (b + size_of s') in
      let r* : Reading Γ* ρ* υ = reading_result Γ ρ σ τ υ x k s s' S S' first in
      let A₂ : Side Γ* ρ* r υ aᵣ r* R =
      record {
        like = A.like.1;
        proper = A.proper.1;
        placed = A.placed.1;
        plain_names = entered_plain s' (suc b) ρ B₁.placed aᵣ (size_of r)
            (apart_turn aᵣ (size_of r) (suc b) (size_of s')
            (apart_less a (suc (size_of s + size_of r)) b (suc (size_of s' + size_of r')) aᵣ (size_of r) (suc b) (size_of s') o (omega arith) (omega arith) (omega arith) (omega arith)))
            (λ n i j. A.plain_names n (omega arith) (omega arith));
        plain_means = λ n i j. meets_apart m (suc a) n A₁.placed (λ u v. let z : ⊥ = omega arith in z) ∙ A.plain_means n (omega arith) (omega arith);
      } in
      let B₂ : Side Γ* ρ* r' τ bᵣ results_lift R' =
      record {
        like = B.like.1;
        proper = B.proper.1;
        placed = B.placed.1;
        plain_names = entered_plain s' (suc b) ρ B₁.placed bᵣ (size_of r') (inl (omega arith)) (λ n i j. B.plain_names n (omega arith) (omega arith));
        plain_means = λ n i j. B.plain_means n (omega arith) (omega arith);
      } in
      jh Γ* ρ* aᵣ bᵣ (ground_enter Γ ρ d s' τ (suc b) k S' B₁) r* R A₂ results_lift R' B₂
      (apart_less a (suc (size_of s + size_of r)) b (suc (size_of s' + size_of r')) aᵣ (size_of r) bᵣ (size_of r') o (omega arith) (omega arith) (omega arith) (omega arith))

pub functors_fit :
    {σ τ υ φ : Meaning} {s r s' r' : Sig} (m : Meets τ s' σ s υ) (l : Meets υ r τ r' φ) → Fitted m → Fitted l →
    (Γ : Env) (ρ : Meaning) (a b : ℕ) → Ground Γ ρ → (x : Reading Γ ρ σ) (S R : Signature) → Side Γ ρ (functor_sig s r) σ a x (functor S R) →
    (k : Reading Γ ρ τ) (S' R' : Signature) → Side Γ ρ (functor_sig s' r') τ b k (functor S' R') → Apart a (suc (size_of s + size_of r)) b (suc (size_of s' + size_of r')) →
    Fits Γ (on_signature x.way (functor S R)) (on_signature k.way (functor S' R'))
functors_fit {σ} {τ} {υ} {φ} {s} {r} {s'} {r'} m l ih jh Γ ρ a b d x S R A k S' R' B o =
    let first = parameters_meet Γ ρ a b d x S R A k S' R' B o (λ Γ ρ p t q u. Fitting Γ ρ s' τ p t s σ q u υ) ih in
    let second = results_meet Γ ρ a b d x S R A k S' R' B o m first (λ Γ ρ p t q u. Fitting Γ ρ r υ p t r' τ q u φ) jh in
    f_functor {r = on_signature (lift x.way) R} first.0 second.0

-- a component of the given structure
pub partner :
    (Γ : Env) (ρ : Meaning) (g : Parts) (σ : Meaning) (a : ℕ) (p : ModulePath) → There Γ ρ (sig g) σ a p → (s : Sort) (x : Name) (o : Option Part) → find_part s x g ≡ o →
    PartStands o s p x Γ (after_meaning ρ σ)
partner Γ ρ g σ a p t s x o e =
    subst (λ z. PartStands z s p x Γ (after_meaning ρ σ)) e (look_part (Some (sig g)) p Γ (after_meaning ρ σ) t.stands s x)

pub there_inside :
    (Γ : Env) (ρ : Meaning) (g : Parts) (σ : Meaning) (a : ℕ) (p : ModulePath) → There Γ ρ (sig g) σ a p → (x : Name) (s : Sig) → find_part a_module x g ≡ Some (module_part s) →
    (i : Inside a (size_of_parts g) s ρ σ) → There Γ ρ s σ i.place (dot p x)
there_inside Γ ρ g σ a p t x s e i =
    record {
      stands = part_module (Some (module_part s)) p x Γ (after_meaning ρ σ) (partner Γ ρ g σ a p t a_module x (Some (module_part s)) e);
      placed = i.placed;
      plain_names = i.first;
      plain_means = i.second;
      tidy = t.tidy;
    }

pub apart_inside :
    (a k b l : ℕ) (s : Sig) (f g : Meaning) (w : Sig) (i : Inside a k s f g) → Apart a k b (suc (size_of w)) → Apart i.place (size_of s) (suc b) (size_of w)
apart_inside a k b l s f g w i o =
    let u = i.low in
    let v = i.high in
    apart_less a k b (suc (size_of w)) i.place (size_of s) (suc b) (size_of w) o u v (omega arith) (omega arith)

-- a functor that stands at a path, as a side
pub there_functor :
    (Γ : Env) (ρ : Meaning) → Ground Γ ρ → (s r : Sig) (σ : Meaning) (a : ℕ) (p : ModulePath) (t : There Γ ρ (functor_sig s r) σ a p) →
    (S : Signature) × (R : Signature) × At Γ p (functor S R) × Side Γ ρ (functor_sig s r) σ a (reading_there Γ ρ (functor_sig s r) σ a p t) (functor S R)
there_functor Γ ρ d s r σ a p t = go t.stands.0 t.stands.1 t.stands.2
  where
    go : (x : Signature) → At Γ p x → Like (functor_sig s r) x Γ (after_meaning ρ σ) →
        (S : Signature) × (R : Signature) × At Γ p (functor S R) × Side Γ ρ (functor_sig s r) σ a (reading_there Γ ρ (functor_sig s r) σ a p t) (functor S R)
    go (structure c) h l = absurd l
    go (functor S R) h l =
        (S, R, h, record { like = l; proper = proper_at d.sound h; placed = t.placed; plain_names = t.plain_names; plain_means = t.plain_means })

mutual
  pub meets_fit : {σ τ φ : Meaning} {g w : Sig} (m : Meets σ g τ w φ) → Fitted m
  meets_fit (structures_meet {σ = σ} {τ = τ} {υ = φ} {g = g} {c = c} m) Γ ρ a b d r (structure G) A k (structure C) B o =
      let s = on_signature r.way (structure G) in
      let Γz = extend Γ s in
      let ρz = entered (sig g) ρ in
      let k' = reading_weaken Γ ρ τ k (sig g) a A.placed A.plain_names s in
      let f = meets_all_at m Γz ρz innermost a b (ground_enter Γ ρ d (sig g) σ a r (structure G) A) (there_enter Γ ρ g σ a r G A) k' C B.like B.proper B.placed
      (plain_in (sig c) b ρz (entered_plain (sig g) a ρ A.placed b (size_of_parts c) o B.plain_names)) (plain_in (sig c) b τ B.plain_means) o in (
        f_structure f.0,
        info_means (sig c) (structure C) (after out k.way) k.known k.names Γz ρz innermost τ φ k'.means f.1,
        info_tidy (λ q. calls_all q c) Γz ρz innermost τ φ f.1 k.tidy,
      )
  meets_fit (structures_meet m) Γ ρ a b d r (structure G) A k (functor S R) B o = absurd B.like
  meets_fit (structures_meet m) Γ ρ a b d r (functor S R) A k (structure C) B o = absurd A.like
  meets_fit (structures_meet m) Γ ρ a b d r (functor S R) A k (functor S' R') B o = absurd A.like
  meets_fit (functors_meet υ φ m l) Γ ρ a b d r (structure G) A k (structure C) B o = absurd A.like
  meets_fit (functors_meet υ φ m l) Γ ρ a b d r (structure G) A k (functor S R) B o = absurd A.like
  meets_fit (functors_meet υ φ m l) Γ ρ a b d r (functor S R) A k (structure C) B o = absurd B.like
  meets_fit (functors_meet {τ = τ} υ φ m l) Γ ρ a b d r (functor S R) A k (functor S' R') B o = (
    functors_fit m l (meets_fit m) (meets_fit l) Γ ρ a b d r S R A k S' R' B o,
    means_out k.way k.known k.names Γ ρ τ k.means (functor S' R') (on_signature r.way (functor S R)),
    k.tidy,
  )

  pub meets_at :
      {σ τ φ : Meaning} {g w : Sig} → Meets σ g τ w φ → (Γ : Env) (ρ : Meaning) (p : ModulePath) (a b : ℕ) → Ground Γ ρ → There Γ ρ g σ a p → (k : Reading Γ ρ τ) (t : Signature) →
      Like w t k.known k.names → Proper k.known t → Placed b w → PlainIn b w ρ → PlainIn b w τ → Apart a (size_of g) b (size_of w) → FittingAt Γ ρ p w τ k t φ
  meets_at (structures_meet {σ = σ} {g = g} m) Γ ρ p a b d T k (structure C) l pr pl pn pm o =
      let f = meets_all_at m Γ ρ p a b d T k C l pr pl pn pm o in
      let w = there_structure Γ ρ g σ a p T in
      (g_structure w.0 w.1 (subst (GivesAll Γ p) (sym (components_reading_lift p k.way C)) f.0), f.1)
  meets_at (structures_meet m) Γ ρ p a b d T k (functor S R) l pr pl pn pm o = absurd l
  meets_at (functors_meet υ φ m l') Γ ρ p a b d T k (structure C) l pr pl pn pm o = absurd l
  meets_at (functors_meet {σ = σ} {τ = τ} {s = s} {r = r} υ φ m l') Γ ρ p a b d T k (functor S' R') l pr pl pn pm o =
      let w = there_functor Γ ρ d s r σ a p T in
      let B : Side Γ ρ _ τ b k (functor S' R') = record { like = l; proper = pr; placed = pl; plain_names = pn; plain_means = pm } in (
        g_functor (functor w.0 w.1) w.2
            (subst (λ z. Fits Γ z (on_signature k.way (functor S' R'))) (signature_id (functor w.0 w.1))
            (functors_fit m l' (meets_fit m) (meets_fit l') Γ ρ a b d (reading_there Γ ρ (functor_sig s r) σ a p T) w.0 w.1 w.3 k S' R' B o)),
        λ n. inr (λ q ω. refl, refl),
      )

  pub meets_all_at :
      {σ τ φ : Meaning} {g c : Parts} → MeetsAll σ g τ c φ → (Γ : Env) (ρ : Meaning) (p : ModulePath) (a b : ℕ) → Ground Γ ρ → There Γ ρ (sig g) σ a p → (k : Reading Γ ρ τ) (C : Components) →
      LikeAll c C k.known k.names → ProperAll k.known C → PlacedAll b c → PlainInAll b c ρ → PlainInAll b c τ → Apart a (size_of_parts g) b (size_of_parts c) →
      GivesAll Γ p (on_components (under p k.way) C) × ((n : ℕ) → Info (λ q. calls_all q c) Γ ρ p τ φ n)
  meets_all_at none_wanted Γ ρ p a b d T k empty l pr pl pn pm o = (g_none, λ n. inr (λ q ω. refl, refl))
  meets_all_at none_wanted Γ ρ p a b d T k (more C y D) l pr pl pn pm o = absurd l
  meets_all_at (one_more υ e m f j) Γ ρ p a b d T k empty l pr pl pn pm o = absurd l
  meets_all_at (one_more {σ = σ} {τ = τ} {φ = φ} {g = g} {c = c} {x = x} {e = e} υ h m f j) Γ ρ p a b d T k (more C y D) l pr pl pn pm o =
      let i = b + size_of_parts c in
      let before = meets_all_at m Γ ρ p a b d T k C l.0 pr.0 pl.0 pn.0 pm.0
      (apart_less a (size_of_parts g) b (size_of_parts c + suc (size_of_part e)) a (size_of_parts g) b (size_of_parts c) o (omega arith) (omega arith) (omega arith) (omega arith)) in
      let k' = reading_more Γ ρ g σ a p T τ k c C υ before.0 before.1 in
      let last = meets_one_at j Γ ρ p x g a i d T f k' D l.2 pr.2 pl.1 pn.1
      (plain_one_agree e i τ υ (λ n u v. meets_all_apart m b n pl.0 (λ w z. let q : ⊥ = omega arith in q)) pm.1)
      (apart_less a (size_of_parts g) b (size_of_parts c + suc (size_of_part e)) a (size_of_parts g) i (suc (size_of_part e)) o (omega arith) (omega arith) (omega arith) (omega arith)) in (
        gives_more Γ p (on_components (under p k.way) C) y (on_declaration (under p k.way) D) before.0
            (subst (λ z. GivesOne Γ p z (on_declaration (under p k.way) D)) l.1 last.0),
        λ n. both_info c x e Γ ρ p τ υ φ n (before.1 n) (last.1 n),
      )

  pub meets_one_at :
      {σ τ φ : Meaning} {h e : Part} → MeetsOne σ h τ e φ → (Γ : Env) (ρ : Meaning) (p : ModulePath) (x : Name) (g : Parts) (a b : ℕ) → Ground Γ ρ → There Γ ρ (sig g) σ a p →
      find_part (sort_of_part e) x g ≡ Some h → (k : Reading Γ ρ τ) (D : Declaration) → LikeOne e D k.known k.names → ProperOne k.known D → PlacedOne b e → PlainInOne b e ρ → PlainInOne b e τ →
      Apart a (size_of_parts g) b (suc (size_of_part e)) → GivesOne Γ p x (on_declaration k.way D) × ((n : ℕ) → Info (λ q. calls_one q x e) Γ ρ p τ φ n)
  meets_one_at (any_type {σ = σ} {τ = τ} {d = h} {n = j} t q) Γ ρ p x g a b d T f k abstract l pr pl pn pm o =
      let w = partner_type Γ ρ σ p x h t (partner Γ ρ g σ a p T a_type x (Some h) f) T.tidy q in
      ((meant ρ (meant σ t), w.1), λ n. bound_info j x Γ ρ p τ (meant σ t) w.0 w.1 n (eqb n j) refl)
  meets_one_at (any_type t q) Γ ρ p x g a b d T f k (defined u) l pr pl pn pm o = absurd l
  meets_one_at (any_type t q) Γ ρ p x g a b d T f k (value u) l pr pl pn pm o = absurd l
  meets_one_at (any_type t q) Γ ρ p x g a b d T f k (nested s) l pr pl pn pm o = absurd l
  meets_one_at (same_type t q e) Γ ρ p x g a b d T f k abstract l pr pl pn pm o = absurd l
  meets_one_at (same_type {σ = σ} {τ = τ} {d = h} {u = u} t q e) Γ ρ p x g a b d T f k (defined U) l pr pl pn pm o =
      let w = partner_type Γ ρ σ p x h t (partner Γ ρ g σ a p T a_type x (Some h) f) T.tidy q in
      let v = stands_means u U k.way k.known k.names Γ ρ τ k.along k.means l in
      ((meant ρ (meant σ t), w.1, subst (λ z. Normal Γ (on_type k.way U) (meant ρ z)) (sym e) v.1), λ n. inr (λ q ω. refl, refl))
  meets_one_at (same_type t q e) Γ ρ p x g a b d T f k (value U) l pr pl pn pm o = absurd l
  meets_one_at (same_type t q e) Γ ρ p x g a b d T f k (nested s) l pr pl pn pm o = absurd l
  meets_one_at (same_value e) Γ ρ p x g a b d T f k abstract l pr pl pn pm o = absurd l
  meets_one_at (same_value e) Γ ρ p x g a b d T f k (defined U) l pr pl pn pm o = absurd l
  meets_one_at (same_value {σ = σ} {τ = τ} {t = t} {u = u} e) Γ ρ p x g a b d T f k (value U) l pr pl pn pm o =
      let w = part_value (Some (value_part t)) p x Γ (after_meaning ρ σ) (partner Γ ρ g σ a p T a_value x (Some (value_part t)) f) in
      let v = stands_means u U k.way k.known k.names Γ ρ τ k.along k.means l in (
        (w.0, meant ρ (meant σ t), w.1, subst (Normal Γ w.0) (meant_comp ρ σ t) w.2.1, subst (λ z. Normal Γ (on_type k.way U) (meant ρ z)) (sym e) v.1),
        λ n. inr (λ q ω. refl, refl),
      )
  meets_one_at (same_value e) Γ ρ p x g a b d T f k (nested s) l pr pl pn pm o = absurd l
  meets_one_at (sub_module m) Γ ρ p x g a b d T f k abstract l pr pl pn pm o = absurd l
  meets_one_at (sub_module m) Γ ρ p x g a b d T f k (defined U) l pr pl pn pm o = absurd l
  meets_one_at (sub_module m) Γ ρ p x g a b d T f k (value U) l pr pl pn pm o = absurd l
  meets_one_at (sub_module {σ = σ} {τ = τ} {υ = φ} {s = s} {w = w} m) Γ ρ p x g a b d T f k (nested W) l pr pl pn pm o =
      let i = inside_found g a ρ σ T.placed T.plain_names T.plain_means x s f in
      let v = meets_at m Γ ρ (dot p x) i.place (suc b) d (there_inside Γ ρ g σ a p T x s f i) k W l pr pl pn pm (apart_inside a (size_of_parts g) b 0 s ρ σ w i o) in
      (v.0, λ n. module_info x w Γ ρ p τ φ n (v.1 n))
