-- What matching needs of an environment and of meanings, and how both go under one more binder.
use Rattle.std.proofs.Common.{◌≡◌, ℕ, suc, ◌+◌, ◌<◌, ◌≤◌, ◌⊎◌, Some, None, sym, refl, ap, ◌∙◌, subst, ap₂, subst₂, inl, inr, arith}
use Rattle.types.specs.Types.{Name, unit, binder, ModulePath, at, dot, Leaf, named, numbered, Ty, leaf, label0, label1, label2, replace}
use Rattle.rules.specs.Signatures.{a_type, a_module, Signature}
use Rattle.rules.specs.Substitution.{Substitution, innermost, on_path, out, lift, reading, on_type, on_signature}
use Rattle.rules.specs.Lookup.{Env, extend, Normal, opaque, unfolds, bare, part, parts}
use Rattle.rules.proofs.Algebra.{after, type_comp, type_lift_out}
use Rattle.rules.proofs.Finding.{normal_normal}
use Rattle.rules.proofs.Fresh.{Fresh, fresh_head, fresh_dot, split}
use Rattle.rules.proofs.Strengthened.{path_reading_out}
use native.Mathlib.Decide.{dec_le}
use Rattle.checker.specs.Numbered.{Sig, sig, functor_sig, Parts, no_parts, more_parts, Part, abstract_part, defined_part, value_part, module_part, sort_of_part, find_part, size_of, size_of_parts, size_of_part, Placed, PlacedAll, PlacedOne}
use Rattle.checker.specs.Meanings.{Meaning, numbered_type, itself, meant}
use Rattle.checker.specs.Scope.{nothing, inner, part_of, module_of, type_of_part, module_at, type_at}
use Rattle.checker.specs.Failing.{Once}
use Rattle.checker.specs.Standing.{NoPaths, calls, calls_all, calls_one, entered}
use Rattle.checker.proofs.Carrying.{normal_abstract, normal_outside, normal_weaken, no_number, part_of_lem, parts_of, OwnOr, calls_cases, fresh_lift, fresh_abstract}
use Rattle.checker.proofs.Typing.{or_label}
use Rattle.checker.proofs.Looking.{part_cases}
use Rattle.checker.proofs.Entering.{calls_apart, calls_all_apart, calls_one_apart, Reaches, calls_reach, module_out}
use Rattle.checker.proofs.Copied.{Means, meant_entered}

-- on the places from a on, so many, each number stands for itself
abbrev pub Plain : ℕ → ℕ → Meaning → Type 0
Plain a k f = (n : ℕ) → a ≤ n → n < a + k → f n ≡ numbered_type n

-- on the places of the functors in a signature
abbrev mutual
  pub PlainIn : ℕ → Sig → Meaning → Type 0
  PlainIn a (sig c) f = PlainInAll a c f
  PlainIn a (functor_sig s r) f = Plain a (suc (size_of s + size_of r)) f

  pub PlainInAll : ℕ → Parts → Meaning → Type 0
  PlainInAll a no_parts f = Unit {0}
  PlainInAll a (more_parts c x d) f = PlainInAll a c f × PlainInOne (a + size_of_parts c) d f

  pub PlainInOne : ℕ → Part → Meaning → Type 0
  PlainInOne a (abstract_part n) f = Unit {0}
  PlainInOne a (defined_part t) f = Unit {0}
  PlainInOne a (value_part t) f = Unit {0}
  PlainInOne a (module_part s) f = PlainIn (suc a) s f

mutual
  pub plain_in : (s : Sig) (a : ℕ) (f : Meaning) → Plain a (size_of s) f → PlainIn a s f
  plain_in (sig c) a f h = plain_all_in c a f h
  plain_in (functor_sig s r) a f h = h

  pub plain_all_in : (c : Parts) (a : ℕ) (f : Meaning) → Plain a (size_of_parts c) f → PlainInAll a c f
  plain_all_in no_parts a f h = tt
  plain_all_in (more_parts c x d) a f h =
      (plain_all_in c a f (λ n i j. h n i (omega arith)), plain_one_in d (a + size_of_parts c) f (λ n i j. h n (omega arith) (omega arith)))

  plain_one_in : (d : Part) (a : ℕ) (f : Meaning) → Plain a (suc (size_of_part d)) f → PlainInOne a d f
  plain_one_in (abstract_part n) a f h = tt
  plain_one_in (defined_part t) a f h = tt
  plain_one_in (value_part t) a f h = tt
  plain_one_in (module_part s) a f h = plain_in s (suc a) f (λ n i j. h n (omega arith) (omega arith))

-- only what happens on its places matters
mutual
  pub plain_agree : (s : Sig) (a : ℕ) (f g : Meaning) → ((n : ℕ) → a ≤ n → n < a + size_of s → g n ≡ f n) → PlainIn a s f → PlainIn a s g
  plain_agree (sig c) a f g e h = plain_all_agree c a f g e h
  plain_agree (functor_sig s r) a f g e h = λ n i j. e n i j ∙ h n i j

  pub plain_all_agree : (c : Parts) (a : ℕ) (f g : Meaning) → ((n : ℕ) → a ≤ n → n < a + size_of_parts c → g n ≡ f n) → PlainInAll a c f → PlainInAll a c g
  plain_all_agree no_parts a f g e h = tt
  plain_all_agree (more_parts c x d) a f g e h =
      (plain_all_agree c a f g (λ n i j. e n i (omega arith)) h.0, plain_one_agree d (a + size_of_parts c) f g (λ n i j. e n (omega arith) (omega arith)) h.1)

  pub plain_one_agree : (d : Part) (a : ℕ) (f g : Meaning) → ((n : ℕ) → a ≤ n → n < a + suc (size_of_part d) → g n ≡ f n) → PlainInOne a d f → PlainInOne a d g
  plain_one_agree (abstract_part n) a f g e h = tt
  plain_one_agree (defined_part t) a f g e h = tt
  plain_one_agree (value_part t) a f g e h = tt
  plain_one_agree (module_part s) a f g e h = plain_agree s (suc a) f g (λ n i j. e n (omega arith) (omega arith)) h

-- calling own numbers leaves the functors alone
mutual
  pub plain_calls : (s : Sig) (p : ModulePath) (a : ℕ) (f : Meaning) → Placed a s → Plain a (size_of s) f → PlainIn a s (calls p s f)
  plain_calls (sig c) p a f w h = plain_all_calls c p a f w h
  plain_calls (functor_sig s r) p a f w h = h

  plain_all_calls : (c : Parts) (p : ModulePath) (a : ℕ) (f : Meaning) → PlacedAll a c → Plain a (size_of_parts c) f → PlainInAll a c (calls_all p c f)
  plain_all_calls no_parts p a f w h = tt
  plain_all_calls (more_parts c x d) p a f w h = (
    plain_all_agree c a (calls_all p c f) (calls_one p x d (calls_all p c f))
        (λ n i j. calls_one_apart d x p (a + size_of_parts c) (calls_all p c f) n w.1 (λ k l. let z : ⊥ = omega arith in z))
        (plain_all_calls c p a f w.0 (λ n i j. h n i (omega arith))),
    plain_one_calls d x p (a + size_of_parts c) (calls_all p c f) w.1
        (λ n i j. calls_all_apart c p a f n w.0 (λ k l. let z : ⊥ = omega arith in z) ∙ h n (omega arith) (omega arith)),
  )

  plain_one_calls : (d : Part) (x : Name) (p : ModulePath) (a : ℕ) (f : Meaning) → PlacedOne a d → Plain a (suc (size_of_part d)) f → PlainInOne a d (calls_one p x d f)
  plain_one_calls (abstract_part n) x p a f w h = tt
  plain_one_calls (defined_part t) x p a f w h = tt
  plain_one_calls (value_part t) x p a f w h = tt
  plain_one_calls (module_part s) x p a f w h = plain_calls s (dot p x) (suc a) f w (λ n i j. h n (omega arith) (omega arith))

-- two runs of places have none in common
abbrev pub Apart : ℕ → ℕ → ℕ → ℕ → Type 0
Apart a k b l = (a + k ≤ b) ⊎ (b + l ≤ a)

-- a module component found in a signature has its places there
pub record Inside (a k : ℕ) (s : Sig) (f g : Meaning) : Type 0 where
  pub place : ℕ
  pub low : a ≤ place
  pub high : place + size_of s ≤ a + k
  pub placed : Placed place s
  pub first : PlainIn place s f
  pub second : PlainIn place s g

pub inside_found :
    (c : Parts) (a : ℕ) (f g : Meaning) → PlacedAll a c → PlainInAll a c f → PlainInAll a c g → (x : Name) (s : Sig) →
    find_part a_module x c ≡ Some (module_part s) → Inside a (size_of_parts c) s f g
inside_found no_parts a f g w h i x s e = cc
inside_found (more_parts c y d) a f g w h i x s e = go (inside_found c a f g w.0 h.0 i.0 x s) (part_cases c y d a_module x (module_part s) e)
  where
    last : (d : Part) → PlacedOne (a + size_of_parts c) d → PlainInOne (a + size_of_parts c) d f → PlainInOne (a + size_of_parts c) d g → d ≡ module_part s → Inside a (size_of_parts c + suc (size_of_part d)) s f g
    last (abstract_part n) w h i e = cc
    last (defined_part t) w h i e = cc
    last (value_part t) w h i e = cc
    last (module_part t) w h i e =
        let q : t ≡ s = cc in
        let z = ap size_of q in
        record {
          place = suc (a + size_of_parts c);
          low = omega arith;
          high = omega arith;
          placed = subst (Placed (suc (a + size_of_parts c))) q w;
          first = subst (λ y. PlainIn (suc (a + size_of_parts c)) y f) q h;
          second = subst (λ y. PlainIn (suc (a + size_of_parts c)) y g) q i;
        }

    go :
        (find_part a_module x c ≡ Some (module_part s) → Inside a (size_of_parts c) s f g) →
        (find_part a_module x c ≡ Some (module_part s)) ⊎ ((find_part a_module x c ≡ None) × (d ≡ module_part s) × (sort_of_part d ≡ a_module) × (y ≡ x)) →
        Inside a (size_of_parts c + suc (size_of_part d)) s f g
    go ih (inl q) =
        let v = ih q in
        record { place = v.place; low = v.low; high = (let z = v.high in omega arith); placed = v.placed; first = v.first; second = v.second }
    go ih (inr q) = last d w.1 h.1 i.1 q.1

-- no meaning has a path in it
abbrev pub Tidy : Meaning → Type 0
Tidy σ = (n : ℕ) → NoPaths (σ n)

pub meant_tidy : (t : Ty) → NoPaths t → (σ : Meaning) → Tidy σ → NoPaths (meant σ t)
meant_tidy (leaf (named p x)) i σ h = absurd i
meant_tidy (leaf (numbered n)) i σ h = h n
meant_tidy (label0 l) i σ h = tt
meant_tidy (label1 l t) i σ h = meant_tidy t i σ h
meant_tidy (label2 l t u) i σ h = (meant_tidy t i.0 σ h, meant_tidy u i.1 σ h)

-- the name of what a number means
abbrev pub after_meaning : Meaning → Meaning → Meaning
after_meaning ρ σ n = meant ρ (σ n)

pub meant_comp : (ρ σ : Meaning) (t : Ty) → meant (after_meaning ρ σ) t ≡ meant ρ (meant σ t)
meant_comp ρ σ (leaf (named p x)) = refl
meant_comp ρ σ (leaf (numbered n)) = refl
meant_comp ρ σ (label0 l) = refl
meant_comp ρ σ (label1 l t) = ap (label1 l) (meant_comp ρ σ t)
meant_comp ρ σ (label2 l t u) = ap₂ (label2 l) (meant_comp ρ σ t) (meant_comp ρ σ u)

-- names tell numbers apart
abbrev pub Recovers : Env → Meaning → Type 0
Recovers Γ ρ = (b : Leaf → Ty) × ((n : ℕ) → Normal Γ (ρ n) (ρ n) → replace b (ρ n) ≡ numbered_type n)

pub recover : (Γ : Env) (ρ : Meaning) (r : Recovers Γ ρ) (t : Ty) → NoPaths t → Normal Γ (meant ρ t) (meant ρ t) → replace r.0 (meant ρ t) ≡ t
recover Γ ρ r (leaf (named p x)) i m = absurd i
recover Γ ρ r (leaf (numbered n)) i m = r.1 n m
recover Γ ρ r (label0 l) i m = refl
recover Γ ρ r (label1 l t) i m = ap (label1 l) (recover Γ ρ r t i (part_of_lem m l (meant ρ t) refl refl))
recover Γ ρ r (label2 l t u) i m =
    let v = parts_of m l (meant ρ t) (meant ρ u) refl refl in
    ap₂ (label2 l) (recover Γ ρ r t i.0 v.0) (recover Γ ρ r u i.1 v.1)

pub tell_apart : (Γ : Env) (ρ : Meaning) → Recovers Γ ρ → (t u v v' : Ty) → NoPaths t → NoPaths u → Normal Γ v (meant ρ t) → Normal Γ v' (meant ρ u) → meant ρ t ≡ meant ρ u → t ≡ u
tell_apart Γ ρ r t u v v' i j m k e =
    sym (recover Γ ρ r t i (normal_normal m)) ∙ (ap (replace r.0) e ∙ recover Γ ρ r u j (normal_normal k))

-- own numbers of a new binder are told apart by where their paths lead
abbrev back_of : (Leaf → Ty) → Sig → (p : ModulePath) → Name → ((q : ModulePath) × (on_path out q ≡ p)) ⊎ Fresh p → Ty
back_of b n p x (inl w) = b (named w.0 x)
back_of b n p x (inr f) = or_label (type_at (inner nothing n) p x)

abbrev back_under : (Leaf → Ty) → Sig → Leaf → Ty
back_under b n (named p x) = back_of b n p x (split p)
back_under b n (numbered k) = leaf (numbered k)

abbrev NoNumbers : Ty → Type 0
NoNumbers (leaf (named p x)) = Unit {0}
NoNumbers (leaf (numbered n)) = ⊥
NoNumbers (label0 l) = Unit {0}
NoNumbers (label1 l t) = NoNumbers t
NoNumbers (label2 l t u) = NoNumbers t × NoNumbers u

normal_numbers : {Γ : Env} {t n : Ty} → Normal Γ t n → NoNumbers t
normal_numbers (opaque h) = tt
normal_numbers (unfolds t h m) = tt
normal_numbers bare = tt
normal_numbers (part m) = normal_numbers m
normal_numbers (parts m k) = (normal_numbers m, normal_numbers k)

not_fresh : (p : ModulePath) → Fresh (on_path out p) → ⊥
not_fresh (at (unit u)) f = elim f [ ]
not_fresh (at (binder n)) f = elim f [ ]
not_fresh (dot p x) (fresh_dot f) = not_fresh p f

back_leaf : (b : Leaf → Ty) (n : Sig) (p : ModulePath) (x : Name) (o : ((q : ModulePath) × (on_path out q ≡ on_path out p)) ⊎ Fresh (on_path out p)) → back_of b n (on_path out p) x o ≡ b (named p x)
back_leaf b n p x (inl w) =
    ap (λ z. b (named z x)) (sym (path_reading_out innermost w.0) ∙ (ap (on_path (reading innermost)) w.1 ∙ path_reading_out innermost p))
back_leaf b n p x (inr f) = absurd (not_fresh p f)

back_out : (b : Leaf → Ty) (n : Sig) (t : Ty) → NoNumbers t → replace (back_under b n) (on_type out t) ≡ replace b t
back_out b n (leaf (named p x)) i = back_leaf b n p x (split (on_path out p))
back_out b n (leaf (numbered k)) i = absurd i
back_out b n (label0 l) i = refl
back_out b n (label1 l t) i = ap (label1 l) (back_out b n t i)
back_out b n (label2 l t u) i = ap₂ (label2 l) (back_out b n t i.0) (back_out b n u i.1)

nothing_at : (p : ModulePath) → module_at nothing p ≡ None
nothing_at (at h) = refl
nothing_at (dot p x) = ap (λ o. module_of (part_of a_module x o)) (nothing_at p)

nothing_out : (n : Sig) (p : ModulePath) (x : Name) → type_at (inner nothing n) (on_path out p) x ≡ None
nothing_out n p x = ap (λ o. type_of_part (part_of a_type x o)) (module_out nothing n p ∙ nothing_at p)

back_own :
    (b : Leaf → Ty) (n : Sig) (p : ModulePath) (x : Name) (t : Ty) → type_at (inner nothing n) p x ≡ Some t →
    (o : ((q : ModulePath) × (on_path out q ≡ p)) ⊎ Fresh p) → back_of b n p x o ≡ t
back_own b n p x t e (inl w) =
    let f : type_at (inner nothing n) p x ≡ None = subst (λ z. type_at (inner nothing n) z x ≡ None) w.1 (nothing_out n w.0 x) in
    cc
back_own b n p x t e (inr f) = ap or_label e

pub recovers_enter : (Γ : Env) (ρ : Meaning) → Recovers Γ ρ → (n : Sig) → Once n → (s : Signature) → Recovers (extend Γ s) (entered n ρ)
recovers_enter Γ ρ r n o s = (back_under r.0 n, tells)
  where
    tells : (i : ℕ) → Normal (extend Γ s) (entered n ρ i) (entered n ρ i) → replace (back_under r.0 n) (entered n ρ i) ≡ numbered_type i
    tells i m = go (calls_reach n (inner nothing n) innermost refl o i)
      where
        go : Reaches (inner nothing n) (calls innermost n) i → replace (back_under r.0 n) (entered n ρ i) ≡ numbered_type i
        go (inl w) =
            ap (replace (back_under r.0 n)) (w.2 (λ j. on_type out (ρ j))) ∙ back_own r.0 n w.0 w.1 (numbered_type i) w.3 (split w.0)
        go (inr w) =
            let e = w (λ j. on_type out (ρ j)) in
            let m' = normal_outside (ρ i) Γ s (subst₂ (Normal (extend Γ s)) e e m) in
            ap (replace (back_under r.0 n)) e ∙ (back_out r.0 n (ρ i) (normal_numbers m') ∙ r.1 i m')

-- what is known is not on the places of what is plain
pub known_apart : {Γ : Env} {ρ : Meaning} (a k : ℕ) → Plain a k ρ → (i : ℕ) → Normal Γ (ρ i) (ρ i) → a ≤ i → i < a + k → ⊥
known_apart a k h i m l u = no_number m i (h i l u)

pub entered_known : (Γ : Env) (ρ : Meaning) (n : Sig) (a : ℕ) → Placed a n → Plain a (size_of n) ρ → (i : ℕ) → Normal Γ (ρ i) (ρ i) → entered n ρ i ≡ on_type out (ρ i)
entered_known Γ ρ n a w h i m = calls_apart n innermost a (λ j. on_type out (ρ j)) i w (known_apart a (size_of n) h i m)

pub entered_plain : (n : Sig) (a : ℕ) (ρ : Meaning) → Placed a n → (b l : ℕ) → Apart a (size_of n) b l → Plain b l ρ → Plain b l (entered n ρ)
entered_plain n a ρ w b l (inl d) h i x y = calls_apart n innermost a (λ j. on_type out (ρ j)) i w (λ u v. let z : ⊥ = omega arith in z) ∙ ap (on_type out) (h i x y)
entered_plain n a ρ w b l (inr d) h i x y = calls_apart n innermost a (λ j. on_type out (ρ j)) i w (λ u v. let z : ⊥ = omega arith in z) ∙ ap (on_type out) (h i x y)

-- an own number is on the places of its signature
pub own_in : (n : Sig) (p : ModulePath) (a : ℕ) → Placed a n → (i : ℕ) (r : ModulePath) (x : Name) → ((ω : Meaning) → calls p n ω i ≡ leaf (named r x)) → (a ≤ i) × (i < a + size_of n)
own_in n p a w i r x e = go (dec_le a i) (dec_le (a + size_of n) i)
  where
    out_of : (a ≤ i → i < a + size_of n → ⊥) → (a ≤ i) × (i < a + size_of n)
    out_of h = let f = calls_apart n p a itself i w h in let g = e itself in cc

    go : Dec (a ≤ i) → Dec (a + size_of n ≤ i) → (a ≤ i) × (i < a + size_of n)
    go (no k) d = out_of (λ u v. k u)
    go (yes k) (yes l) = out_of (λ u v. let z : ⊥ = omega arith in z)
    go (yes k) (no l) = (k, omega arith)

-- meanings go under one more binder on one side, and on both
pub means_weaken :
    (θ : Substitution) (Γ' : Env) (ω : Meaning) (Γ : Env) (ρ σ : Meaning) → Means θ Γ' ω Γ ρ σ → (n : Sig) (a : ℕ) → Placed a n → Plain a (size_of n) ρ → (s : Signature) →
    Means (after out θ) Γ' ω (extend Γ s) (entered n ρ) σ
means_weaken θ Γ' ω Γ ρ σ k n a w h s i m =
    let v = k i m in (
      v.0,
      subst₂ (Normal (extend Γ s)) (type_comp out θ (ω i)) (sym (meant_entered (σ i) v.0 Γ ρ n (entered_known Γ ρ n a w h) (normal_normal v.1))) (normal_weaken s v.1),
    )

pub means_lift :
    (θ : Substitution) (Γ' : Env) (ω : Meaning) (Γ : Env) (ρ σ : Meaning) → Means θ Γ' ω Γ ρ σ → (n : Sig) (a : ℕ) → Placed a n → Plain a (size_of n) ρ → Plain a (size_of n) σ → (s : Signature) →
    Means (lift θ) (extend Γ' s) (entered n ω) (extend Γ (on_signature θ s)) (entered n ρ) σ
means_lift θ Γ' ω Γ ρ σ k n a w h g s i m = go (calls_cases n innermost fresh_head i)
  where
    go : OwnOr (calls innermost n) i → NoPaths (σ i) × Normal (extend Γ (on_signature θ s)) (on_type (lift θ) (entered n ω i)) (meant (entered n ρ) (σ i))
    go (inl v) =
        let r = v.0 in
        let x = v.1 in
        let e = v.3 (λ j. on_type out (ω j)) in
        let f = v.3 (λ j. on_type out (ρ j)) in
        let p = own_in n innermost a w i r x v.3 in
        let q = g i p.0 p.1 in
        let t = fresh_abstract v.2 θ Γ' Γ s x (normal_abstract m r x e) in (
          subst NoPaths (sym q) tt,
          subst₂ (Normal (extend Γ (on_signature θ s)))
              (sym (ap (on_type (lift θ)) e ∙ ap (λ z. leaf (named z x)) (fresh_lift v.2 θ))) (sym (ap (meant (entered n ρ)) q ∙ f)) (opaque t),
        )
    go (inr v) =
        let e = v (λ j. on_type out (ω j)) in
        let o = normal_outside (ω i) Γ' s (subst₂ (Normal (extend Γ' s)) e e m) in
        let u = k i o in (
          u.0,
          subst₂ (Normal (extend Γ (on_signature θ s))) (sym (ap (on_type (lift θ)) e ∙ type_lift_out θ (ω i)))
              (sym (meant_entered (σ i) u.0 Γ ρ n (entered_known Γ ρ n a w h) (normal_normal u.1))) (normal_weaken (on_signature θ s) u.1),
        )

-- where no numbers are new
pub meant_out : (t : Ty) → NoPaths t → (ρ : Meaning) → meant (λ j. on_type out (ρ j)) t ≡ on_type out (meant ρ t)
meant_out (leaf (named p x)) i ρ = absurd i
meant_out (leaf (numbered n)) i ρ = refl
meant_out (label0 l) i ρ = refl
meant_out (label1 l t) i ρ = ap (label1 l) (meant_out t i ρ)
meant_out (label2 l t u) i ρ = ap₂ (label2 l) (meant_out t i.0 ρ) (meant_out u i.1 ρ)

pub means_out :
    (θ : Substitution) (Γ' : Env) (ω : Meaning) (Γ : Env) (ρ σ : Meaning) → Means θ Γ' ω Γ ρ σ → (s g : Signature) →
    Means (lift θ) (extend Γ' s) (λ j. on_type out (ω j)) (extend Γ g) (λ j. on_type out (ρ j)) σ
means_out θ Γ' ω Γ ρ σ k s g i m =
    let u = k i (normal_outside (ω i) Γ' s m) in
    (u.0, subst₂ (Normal (extend Γ g)) (sym (type_lift_out θ (ω i))) (sym (meant_out (σ i) u.0 ρ)) (normal_weaken g u.1))
