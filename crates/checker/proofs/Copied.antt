-- A copy stands for what its original stands for along a substitution.
use Rattle.std.proofs.Common.{◌≡◌, ℕ, suc, ◌+◌, ◌<◌, ◌≤◌, Bool, true, false, cond, eqb, ◌⊎◌, sym, refl, ap, ◌∙◌, subst, ap₂, subst₂, inl, inr, arith}
use Rattle.std.proofs.lemmas.Bool.{eq-eqb}
use Rattle.types.specs.Types.{Name, ModulePath, at, dot, named, numbered, Ty, leaf, label0, label1, label2}
use Rattle.rules.specs.Signatures.{Signature, structure, functor, Components, empty, more, Declaration, abstract, defined, value, nested}
use Rattle.rules.specs.Substitution.{Substitution, innermost, out, lift, on_type, on_signature, on_components, on_declaration}
use Rattle.rules.specs.Lookup.{Env, extend, Normal, opaque, bare, part, parts}
use Rattle.rules.proofs.Algebra.{type_id, signature_id, type_lift_out}
use Rattle.rules.proofs.Finding.{normal_unique, normal_normal}
use Rattle.rules.proofs.Along.{normal_along}
use Rattle.rules.proofs.Transitive.{Knows, knows_laws}
use Rattle.rules.proofs.Knowing.{Along, lift_along, id_along}
use Rattle.rules.proofs.Fresh.{Fresh, fresh_head, fresh_dot}
use Rattle.checker.specs.Numbered.{Sig, sig, functor_sig, Parts, no_parts, more_parts, Part, abstract_part, defined_part, value_part, module_part, size_of, size_of_parts, size_of_part, Placed, PlacedAll, PlacedOne}
use Rattle.checker.specs.Meanings.{Meaning, numbered_type, itself, bind, meant}
use Rattle.checker.specs.Copying.{copy_sig, copy_parts, copy_part, copied}
use Rattle.checker.specs.Standing.{NoPaths, StandsFor, calls, calls_all, calls_one, entered, Like, LikeAll, LikeOne}
use Rattle.checker.proofs.Carrying.{normal_abstract, normal_outside, normal_weaken, part_of_lem, parts_of, fresh_lift, fresh_abstract}
use Rattle.checker.proofs.Entering.{Blank, known_below, entered_below, calls_apart, calls_one_apart}

-- a copy's numbers are its places
mutual
  pub copy_placed : (s : Sig) (q : ℕ) (σ : Meaning) → Placed q (copy_sig q σ s).0
  copy_placed (sig c) q σ = copy_all_placed c q σ
  copy_placed (functor_sig s r) q σ =
      (copy_placed s (suc q) σ, copy_placed r (suc (q + size_of (copy_sig (suc q) σ s).0)) (copy_sig (suc q) σ s).1)

  copy_all_placed : (c : Parts) (q : ℕ) (σ : Meaning) → PlacedAll q (copy_parts q σ c).0
  copy_all_placed no_parts q σ = tt
  copy_all_placed (more_parts c x d) q σ =
      (copy_all_placed c q σ, copy_one_placed d (q + size_of_parts (copy_parts q σ c).0) (copy_parts q σ c).1)

  copy_one_placed : (d : Part) (q : ℕ) (σ : Meaning) → PlacedOne q (copy_part q σ d).0
  copy_one_placed (abstract_part n) q σ = refl
  copy_one_placed (defined_part t) q σ = tt
  copy_one_placed (value_part t) q σ = tt
  copy_one_placed (module_part s) q σ = copy_placed s (suc q) σ

-- a number is an own one, and then it means the own number of the copy that is called alike; or it means what it meant
abbrev Copies : (Meaning → Meaning) → (Meaning → Meaning) → Meaning → Meaning → ℕ → ℕ → ℕ → Type 0
Copies f g σ τ q k n =
    ((r : ModulePath) × (x : Name) × (j : ℕ) × Fresh r × ((ρ : Meaning) → f ρ n ≡ leaf (named r x)) × (τ n ≡ numbered_type j) × ((ρ : Meaning) → g ρ j ≡ leaf (named r x)) × (q ≤ j) × (j < q + k))
    ⊎ (((ρ : Meaning) → f ρ n ≡ ρ n) × (τ n ≡ σ n))

both_copies :
    (c : Parts) (x : Name) (d : Part) (p : ModulePath) (q : ℕ) (σ : Meaning) (n : ℕ) →
    let c' = (copy_parts q σ c).0 in
    let τ = (copy_parts q σ c).1 in
    let k = q + size_of_parts c' in
    Copies (calls_all p c) (calls_all p c') σ τ q (size_of_parts c') n →
    Copies (calls_one p x d) (calls_one p x (copy_part k τ d).0) τ (copy_part k τ d).1 k (suc (size_of_part (copy_part k τ d).0)) n →
    Copies (calls_all p (more_parts c x d)) (calls_all p (more_parts c' x (copy_part k τ d).0)) σ (copy_part k τ d).1 q (size_of_parts c' + suc (size_of_part (copy_part k τ d).0)) n
both_copies c x d p q σ n o (inl w) =
    let c' = (copy_parts q σ c).0 in
    inl (w.0, w.1, w.2, w.3, λ ρ. w.4 (calls_all p c ρ), w.5, λ ρ. w.6 (calls_all p c' ρ), (let h = w.7 in omega arith), (let h = w.8 in omega arith))
both_copies c x d p q σ n (inl v) (inr w) =
    let c' = (copy_parts q σ c).0 in
    let τ = (copy_parts q σ c).1 in
    let k = q + size_of_parts c' in
    inl (
      v.0,
      v.1,
      v.2,
      v.3,
      λ ρ. w.0 (calls_all p c ρ) ∙ v.4 ρ,
      w.1 ∙ v.5,
      λ ρ. calls_one_apart (copy_part k τ d).0 x p k (calls_all p c' ρ) v.2 (copy_one_placed d k τ) (λ a b. let h = v.8 in let z : ⊥ = omega arith in z) ∙ v.6 ρ,
      v.7,
      (let h = v.8 in omega arith),
    )
both_copies c x d p q σ n (inr v) (inr w) = inr (λ ρ. w.0 (calls_all p c ρ) ∙ v.0 ρ, w.1 ∙ v.1)

bound_copies :
    (k : ℕ) (x : Name) (p : ModulePath) → Fresh p → (q : ℕ) (σ : Meaning) (n : ℕ) (b : Bool) → eqb n k ≡ b →
    Copies (calls_one p x (abstract_part k)) (calls_one p x (abstract_part q)) σ (bind k (numbered_type q) σ) q 1 n
bound_copies k x p f q σ n true e =
    inl (
      p,
      x,
      q,
      f,
      λ ρ. ap (λ b. cond b (leaf (named p x)) (ρ n)) e,
      ap (λ b. cond b (numbered_type q) (σ n)) e,
      λ ρ. ap (λ b. cond b (leaf (named p x)) (ρ q)) (eq-eqb q q refl),
      omega arith,
      omega arith,
    )
bound_copies k x p f q σ n false e =
    inr (λ ρ. ap (λ b. cond b (leaf (named p x)) (ρ n)) e, ap (λ b. cond b (numbered_type q) (σ n)) e)

wider_copies : (f g : Meaning → Meaning) (σ τ : Meaning) (q k n : ℕ) → Copies f g σ τ (suc q) k n → Copies f g σ τ q (suc k) n
wider_copies f g σ τ q k n (inl w) =
    inl (w.0, w.1, w.2, w.3, w.4, w.5, w.6, (let h = w.7 in omega arith), (let h = w.8 in omega arith))
wider_copies f g σ τ q k n (inr w) = inr w

mutual
  copy_cases : (s : Sig) (p : ModulePath) → Fresh p → (q : ℕ) (σ : Meaning) (n : ℕ) → Copies (calls p s) (calls p (copy_sig q σ s).0) σ (copy_sig q σ s).1 q (size_of (copy_sig q σ s).0) n
  copy_cases (sig c) p f q σ n = copy_all_cases c p f q σ n
  copy_cases (functor_sig s r) p f q σ n = inr (λ ρ. refl, refl)

  copy_all_cases : (c : Parts) (p : ModulePath) → Fresh p → (q : ℕ) (σ : Meaning) (n : ℕ) → Copies (calls_all p c) (calls_all p (copy_parts q σ c).0) σ (copy_parts q σ c).1 q (size_of_parts (copy_parts q σ c).0) n
  copy_all_cases no_parts p f q σ n = inr (λ ρ. refl, refl)
  copy_all_cases (more_parts c x d) p f q σ n =
      both_copies c x d p q σ n (copy_all_cases c p f q σ n)
      (copy_one_cases d x p f (q + size_of_parts (copy_parts q σ c).0) (copy_parts q σ c).1 n)

  copy_one_cases : (d : Part) (x : Name) (p : ModulePath) → Fresh p → (q : ℕ) (σ : Meaning) (n : ℕ) → Copies (calls_one p x d) (calls_one p x (copy_part q σ d).0) σ (copy_part q σ d).1 q (suc (size_of_part (copy_part q σ d).0)) n
  copy_one_cases (abstract_part k) x p f q σ n = bound_copies k x p f q σ n (eqb n k) refl
  copy_one_cases (defined_part t) x p f q σ n = inr (λ ρ. refl, refl)
  copy_one_cases (value_part t) x p f q σ n = inr (λ ρ. refl, refl)
  copy_one_cases (module_part s) x p f q σ n =
      wider_copies (calls (dot p x) s) (calls (dot p x) (copy_sig (suc q) σ s).0) σ (copy_sig (suc q) σ s).1 q (size_of (copy_sig (suc q) σ s).0) n
      (copy_cases s (dot p x) (fresh_dot f) (suc q) σ n)

-- each number whose name is a normal form has, along a substitution, the meaning's name for its normal form
abbrev pub Means : Substitution → Env → Meaning → Env → Meaning → Meaning → Type 0
Means θ Γ' ρ Γ υ σ = (n : ℕ) → Normal Γ' (ρ n) (ρ n) → NoPaths (σ n) × Normal Γ (on_type θ (ρ n)) (meant υ (σ n))

pub means_itself : (Γ : Env) (ρ : Meaning) → Means at Γ ρ Γ ρ itself
means_itself Γ ρ n m = (tt, subst (λ z. Normal Γ z (ρ n)) (sym (type_id (ρ n))) m)

pub meant_means :
    (t : Ty) → NoPaths t → (θ : Substitution) (Γ' : Env) (ρ : Meaning) (Γ : Env) (υ σ : Meaning) → Means θ Γ' ρ Γ υ σ →
    Normal Γ' (meant ρ t) (meant ρ t) → NoPaths (meant σ t) × Normal Γ (on_type θ (meant ρ t)) (meant υ (meant σ t))
meant_means (leaf (named p x)) i θ Γ' ρ Γ υ σ k m = absurd i
meant_means (leaf (numbered n)) i θ Γ' ρ Γ υ σ k m = k n m
meant_means (label0 l) i θ Γ' ρ Γ υ σ k m = (tt, bare)
meant_means (label1 l t) i θ Γ' ρ Γ υ σ k m =
    let w = meant_means t i θ Γ' ρ Γ υ σ k (part_of_lem m l (meant ρ t) refl refl) in (w.0, part w.1)
meant_means (label2 l t u) i θ Γ' ρ Γ υ σ k m =
    let v = parts_of m l (meant ρ t) (meant ρ u) refl refl in
    let a = meant_means t i.0 θ Γ' ρ Γ υ σ k v.0 in
    let b = meant_means u i.1 θ Γ' ρ Γ υ σ k v.1 in
    ((a.0, b.0), parts a.1 b.1)

pub stands_means :
    (t u : Ty) (θ : Substitution) (Γ' : Env) (ρ : Meaning) (Γ : Env) (υ σ : Meaning) → Along θ Γ' Γ → Means θ Γ' ρ Γ υ σ →
    StandsFor t u Γ' ρ → StandsFor (meant σ t) (on_type θ u) Γ υ
stands_means t u θ Γ' ρ Γ υ σ a k s =
    let w = normal_along Knows knows_laws s.1 θ Γ a in
    let v = meant_means t s.0 θ Γ' ρ Γ υ σ k (normal_normal s.1) in
    (v.0, subst (Normal Γ (on_type θ u)) (normal_unique w.2 v.1) w.1)

-- under one more binder, whose numbers are new, a type of known numbers is called as before
pub meant_entered :
    (t : Ty) → NoPaths t → (Γ : Env) (υ : Meaning) (n : Sig) → ((i : ℕ) → Normal Γ (υ i) (υ i) → entered n υ i ≡ on_type out (υ i)) → Normal Γ (meant υ t) (meant υ t) →
    meant (entered n υ) t ≡ on_type out (meant υ t)
meant_entered (leaf (named p x)) i Γ υ n h m = absurd i
meant_entered (leaf (numbered j)) i Γ υ n h m = h j m
meant_entered (label0 l) i Γ υ n h m = refl
meant_entered (label1 l t) i Γ υ n h m = ap (label1 l) (meant_entered t i Γ υ n h (part_of_lem m l (meant υ t) refl refl))
meant_entered (label2 l t u) i Γ υ n h m =
    let v = parts_of m l (meant υ t) (meant υ u) refl refl in
    ap₂ (label2 l) (meant_entered t i.0 Γ υ n h v.0) (meant_entered u i.1 Γ υ n h v.1)

copy_enter :
    (s : Sig) (S : Signature) (θ : Substitution) (Γ' : Env) (ρ : Meaning) (Γ : Env) (υ σ : Meaning) (q : ℕ) → Means θ Γ' ρ Γ υ σ → Blank q υ →
    Means (lift θ) (extend Γ' S) (entered s ρ) (extend Γ (on_signature θ S)) (entered (copy_sig q σ s).0 υ) (copy_sig q σ s).1
copy_enter s S θ Γ' ρ Γ υ σ q k b n m = go (copy_cases s innermost fresh_head q σ n)
  where
    go : Copies (calls innermost s) (calls innermost (copy_sig q σ s).0) σ (copy_sig q σ s).1 q (size_of (copy_sig q σ s).0) n →
        NoPaths ((copy_sig q σ s).1 n) × Normal (extend Γ (on_signature θ S)) (on_type (lift θ) (entered s ρ n)) (meant (entered (copy_sig q σ s).0 υ) ((copy_sig q σ s).1 n))
    go (inl w) =
        let r = w.0 in
        let x = w.1 in
        let e = w.4 (λ j. on_type out (ρ j)) in
        let f = w.6 (λ j. on_type out (υ j)) in
        let h = fresh_abstract w.3 θ Γ' Γ S x (normal_abstract m r x e) in (
          subst NoPaths (sym w.5) tt,
          subst₂ (Normal (extend Γ (on_signature θ S)))
              (sym (ap (on_type (lift θ)) e ∙ ap (λ z. leaf (named z x)) (fresh_lift w.3 θ)))
              (sym (ap (meant (entered (copy_sig q σ s).0 υ)) w.5 ∙ f)) (opaque h),
        )
    go (inr w) =
        let e = w.0 (λ j. on_type out (ρ j)) in
        let o = normal_outside (ρ n) Γ' S (subst₂ (Normal (extend Γ' S)) e e m) in
        let v = k n o in (
          subst NoPaths (sym w.1) v.0,
          subst₂ (Normal (extend Γ (on_signature θ S)))
              (sym (ap (on_type (lift θ)) e ∙ type_lift_out θ (ρ n)))
              (sym (ap (meant (entered (copy_sig q σ s).0 υ)) w.1
              ∙ meant_entered (σ n) v.0 Γ υ (copy_sig q σ s).0
              (λ i h. entered_below (copy_sig q σ s).0 q υ i (copy_placed s q σ) (known_below b i h)) (normal_normal v.1)))
              (normal_weaken (on_signature θ S) v.1),
        )

pub entered_blank : (n : Sig) (q : ℕ) (υ : Meaning) → Placed q n → Blank q υ → Blank (q + size_of n) (entered n υ)
entered_blank n q υ p b i h =
    calls_apart n innermost q (λ j. on_type out (υ j)) i p (λ a c. let z : ⊥ = omega arith in z) ∙ ap (on_type out) (b i (omega arith))

mutual
  pub like_copy :
      (s : Sig) (S : Signature) (θ : Substitution) (Γ' : Env) (ρ : Meaning) (Γ : Env) (υ σ : Meaning) (q : ℕ) → Along θ Γ' Γ → Means θ Γ' ρ Γ υ σ → Blank q υ →
      Like s S Γ' ρ → Like (copy_sig q σ s).0 (on_signature θ S) Γ υ
  like_copy (sig c) (structure g) θ Γ' ρ Γ υ σ q a k b l = like_all_copy c g θ Γ' ρ Γ υ σ q a k b l
  like_copy (sig c) (functor S R) θ Γ' ρ Γ υ σ q a k b l = absurd l
  like_copy (functor_sig s r) (structure g) θ Γ' ρ Γ υ σ q a k b l = absurd l
  like_copy (functor_sig s r) (functor S R) θ Γ' ρ Γ υ σ q a k b l =
      let s' = (copy_sig (suc q) σ s).0 in
      let b' : Blank (suc q) υ = λ i h. b i (omega arith) in (
        like_copy s S θ Γ' ρ Γ υ σ (suc q) a k b' l.0,
        like_copy r R (lift θ) (extend Γ' S) (entered s ρ) (extend Γ (on_signature θ S)) (entered s' υ) (copy_sig (suc q) σ s).1 (suc (q + size_of s'))
            (lift_along θ Γ' Γ S a) (copy_enter s S θ Γ' ρ Γ υ σ (suc q) k b')
            (λ i h. entered_blank s' (suc q) υ (copy_placed s (suc q) σ) b' i (omega arith)) l.1,
      )

  like_all_copy :
      (c : Parts) (g : Components) (θ : Substitution) (Γ' : Env) (ρ : Meaning) (Γ : Env) (υ σ : Meaning) (q : ℕ) → Along θ Γ' Γ → Means θ Γ' ρ Γ υ σ → Blank q υ →
      LikeAll c g Γ' ρ → LikeAll (copy_parts q σ c).0 (on_components (lift θ) g) Γ υ
  like_all_copy no_parts empty θ Γ' ρ Γ υ σ q a k b l = tt
  like_all_copy no_parts (more g y d) θ Γ' ρ Γ υ σ q a k b l = absurd l
  like_all_copy (more_parts c x e) empty θ Γ' ρ Γ υ σ q a k b l = absurd l
  like_all_copy (more_parts c x e) (more g y d) θ Γ' ρ Γ υ σ q a k b l =
      let c' = (copy_parts q σ c).0 in (
        like_all_copy c g θ Γ' ρ Γ υ σ q a k b l.0,
        l.1,
        like_one_copy e d (lift θ) (extend Γ' (structure g)) (entered (sig c) ρ) (extend Γ (on_signature θ (structure g))) (entered (sig c') υ) (copy_parts q σ c).1 (q + size_of_parts c')
            (lift_along θ Γ' Γ (structure g) a) (copy_enter (sig c) (structure g) θ Γ' ρ Γ υ σ q k b) (entered_blank (sig c') q υ (copy_all_placed c q σ) b) l.2,
      )

  like_one_copy :
      (e : Part) (d : Declaration) (θ : Substitution) (Γ' : Env) (ρ : Meaning) (Γ : Env) (υ σ : Meaning) (q : ℕ) → Along θ Γ' Γ → Means θ Γ' ρ Γ υ σ → Blank q υ →
      LikeOne e d Γ' ρ → LikeOne (copy_part q σ e).0 (on_declaration θ d) Γ υ
  like_one_copy (abstract_part n) abstract θ Γ' ρ Γ υ σ q a k b l = tt
  like_one_copy (abstract_part n) (defined u) θ Γ' ρ Γ υ σ q a k b l = absurd l
  like_one_copy (abstract_part n) (value u) θ Γ' ρ Γ υ σ q a k b l = absurd l
  like_one_copy (abstract_part n) (nested s) θ Γ' ρ Γ υ σ q a k b l = absurd l
  like_one_copy (defined_part t) abstract θ Γ' ρ Γ υ σ q a k b l = absurd l
  like_one_copy (defined_part t) (defined u) θ Γ' ρ Γ υ σ q a k b l = stands_means t u θ Γ' ρ Γ υ σ a k l
  like_one_copy (defined_part t) (value u) θ Γ' ρ Γ υ σ q a k b l = absurd l
  like_one_copy (defined_part t) (nested s) θ Γ' ρ Γ υ σ q a k b l = absurd l
  like_one_copy (value_part t) abstract θ Γ' ρ Γ υ σ q a k b l = absurd l
  like_one_copy (value_part t) (defined u) θ Γ' ρ Γ υ σ q a k b l = absurd l
  like_one_copy (value_part t) (value u) θ Γ' ρ Γ υ σ q a k b l = stands_means t u θ Γ' ρ Γ υ σ a k l
  like_one_copy (value_part t) (nested s) θ Γ' ρ Γ υ σ q a k b l = absurd l
  like_one_copy (module_part n) abstract θ Γ' ρ Γ υ σ q a k b l = absurd l
  like_one_copy (module_part n) (defined u) θ Γ' ρ Γ υ σ q a k b l = absurd l
  like_one_copy (module_part n) (value u) θ Γ' ρ Γ υ σ q a k b l = absurd l
  like_one_copy (module_part n) (nested s) θ Γ' ρ Γ υ σ q a k b l =
      like_copy n s θ Γ' ρ Γ υ σ (suc q) a k (λ i h. b i (omega arith)) l

-- a copy in which numbers mean themselves stands for the same
pub like_again : (s : Sig) (S : Signature) (Γ : Env) (ρ : Meaning) (q : ℕ) → Blank q ρ → Like s S Γ ρ → Like (copied q itself s) S Γ ρ
like_again s S Γ ρ q b l =
    subst (λ z. Like (copied q itself s) z Γ ρ) (signature_id S)
    (like_copy s S at Γ ρ Γ ρ itself q (id_along Γ) (means_itself Γ ρ) b l)
