-- One more binder: a scope that stands for an environment stands for it with a new signature too, if its numbers are new.
use Rattle.std.proofs.Common.{◌≡◌, ℕ, zero, suc, ◌+◌, ◌<◌, ◌≤◌, Bool, true, false, cond, eqb, ◌⊎◌, Some, None, Option, sym, refl, ap, ◌∙◌, subst, ap₂, subst₂, inl, inr, arith}
use Rattle.std.proofs.lemmas.Bool.{eqb-true, eq-eqb}
use native.Mathlib.Decide.{dec_le}
use Rattle.types.specs.Types.{Name, Head, unit, binder, ModulePath, at, dot, named, numbered, Ty, leaf}
use Rattle.rules.specs.Signatures.{Sort, a_type, a_module, Signature, structure, functor, Components, empty, more, Declaration, abstract, defined, value, nested, find, on_some}
use Rattle.rules.specs.Substitution.{outward, innermost, on_path, out, on_type, on_signature}
use Rattle.rules.specs.Lookup.{Env, extend, Normal}
use Rattle.rules.proofs.Inner.{Proper, ProperAll, ProperOne, ProperEnv}
use Rattle.rules.proofs.Knowing.{out_along}
use Rattle.rules.proofs.Properness.{proper_extend}
use Rattle.checker.specs.Numbered.{Sig, sig, functor_sig, Parts, no_parts, more_parts, Part, abstract_part, defined_part, value_part, module_part, sort_of_part, find_part, size_of, size_of_parts, size_of_part, Placed, PlacedAll, PlacedOne}
use Rattle.checker.specs.Meanings.{Meaning, numbered_type}
use Rattle.checker.specs.Scope.{Scope, inner, part_of, module_of, type_of_part, module_at, type_at}
use Rattle.checker.specs.Failing.{Once, OnceAll, OnceIn}
use Rattle.checker.specs.Standing.{calls, calls_all, calls_one, entered, Like, LikeAll, LikeOne, Called, CalledAll, CalledOne, HeadStands, ScopeStands, Reached}
use Rattle.checker.proofs.Itself.{found_last, found_before}
use Rattle.checker.proofs.Carrying.{no_number, normal_outside, normal_weaken, Carry, like_along}
use Rattle.checker.proofs.Looking.{like_found, like_sort, Both, look_type}
use Rattle.checker.specs.Statements.{TypeLeads}

-- numbers outside the places of a signature are called as before
apart_one : (j : ℕ) (t : Ty) (ρ : Meaning) (n : ℕ) → (n ≡ j → ⊥) → (b : Bool) → eqb n j ≡ b → cond (eqb n j) t (ρ n) ≡ ρ n
apart_one j t ρ n h true e = absurd (h (eqb-true n j e))
apart_one j t ρ n h false e = ap (λ b. cond b t (ρ n)) e

mutual
  pub calls_apart : (s : Sig) (p : ModulePath) (q : ℕ) (ρ : Meaning) (n : ℕ) → Placed q s → (q ≤ n → n < q + size_of s → ⊥) → calls p s ρ n ≡ ρ n
  calls_apart (sig c) p q ρ n w h = calls_all_apart c p q ρ n w h
  calls_apart (functor_sig s r) p q ρ n w h = refl

  pub calls_all_apart : (c : Parts) (p : ModulePath) (q : ℕ) (ρ : Meaning) (n : ℕ) → PlacedAll q c → (q ≤ n → n < q + size_of_parts c → ⊥) → calls_all p c ρ n ≡ ρ n
  calls_all_apart no_parts p q ρ n w h = refl
  calls_all_apart (more_parts c x d) p q ρ n w h =
      calls_one_apart d x p (q + size_of_parts c) (calls_all p c ρ) n w.1 (λ i j. h (omega arith) (omega arith))
      ∙ calls_all_apart c p q ρ n w.0 (λ i j. h (omega arith) (omega arith))

  pub calls_one_apart : (d : Part) (x : Name) (p : ModulePath) (q : ℕ) (ρ : Meaning) (n : ℕ) → PlacedOne q d → (q ≤ n → n < q + suc (size_of_part d) → ⊥) → calls_one p x d ρ n ≡ ρ n
  calls_one_apart (abstract_part j) x p q ρ n w h = apart_one j (leaf (named p x)) ρ n (λ e. h (omega arith) (omega arith)) (eqb n j) refl
  calls_one_apart (defined_part t) x p q ρ n w h = refl
  calls_one_apart (value_part t) x p q ρ n w h = refl
  calls_one_apart (module_part s) x p q ρ n w h = calls_apart s (dot p x) (suc q) ρ n w (λ i j. h (omega arith) (omega arith))

-- calling depends on the own numbers alone
mutual
  pub called_agree : (s : Sig) (p : ModulePath) (q : ℕ) (ρ υ : Meaning) → Placed q s → ((n : ℕ) → q ≤ n → n < q + size_of s → ρ n ≡ υ n) → Called p s ρ → Called p s υ
  called_agree (sig c) p q ρ υ w h k = called_all_agree c p q ρ υ w h k
  called_agree (functor_sig s r) p q ρ υ w h k = tt

  pub called_all_agree : (c : Parts) (p : ModulePath) (q : ℕ) (ρ υ : Meaning) → PlacedAll q c → ((n : ℕ) → q ≤ n → n < q + size_of_parts c → ρ n ≡ υ n) → CalledAll p c ρ → CalledAll p c υ
  called_all_agree no_parts p q ρ υ w h k = tt
  called_all_agree (more_parts c x d) p q ρ υ w h k = (
    called_all_agree c p q ρ υ w.0 (λ n i j. h n i (omega arith)) k.0,
    called_one_agree d x p (q + size_of_parts c) ρ υ w.1 (λ n i j. h n (omega arith) (omega arith)) k.1,
  )

  called_one_agree : (d : Part) (x : Name) (p : ModulePath) (q : ℕ) (ρ υ : Meaning) → PlacedOne q d → ((n : ℕ) → q ≤ n → n < q + suc (size_of_part d) → ρ n ≡ υ n) → CalledOne p x d ρ → CalledOne p x d υ
  called_one_agree (abstract_part j) x p q ρ υ w h k = sym (h j (omega arith) (omega arith)) ∙ k
  called_one_agree (defined_part t) x p q ρ υ w h k = tt
  called_one_agree (value_part t) x p q ρ υ w h k = tt
  called_one_agree (module_part s) x p q ρ υ w h k = called_agree s (dot p x) (suc q) ρ υ w (λ n i j. h n (omega arith) (omega arith)) k

-- what is called by its paths is called so
mutual
  pub calls_called : (s : Sig) (p : ModulePath) (q : ℕ) (ρ : Meaning) → Placed q s → Called p s (calls p s ρ)
  calls_called (sig c) p q ρ w = calls_all_called c p q ρ w
  calls_called (functor_sig s r) p q ρ w = tt

  calls_all_called : (c : Parts) (p : ModulePath) (q : ℕ) (ρ : Meaning) → PlacedAll q c → CalledAll p c (calls_all p c ρ)
  calls_all_called no_parts p q ρ w = tt
  calls_all_called (more_parts c x d) p q ρ w = (
    called_all_agree c p q (calls_all p c ρ) (calls_one p x d (calls_all p c ρ)) w.0
        (λ n i j. sym (calls_one_apart d x p (q + size_of_parts c) (calls_all p c ρ) n w.1 (λ a b. let z : ⊥ = omega arith in z)))
        (calls_all_called c p q ρ w.0),
    calls_one_called d x p (q + size_of_parts c) (calls_all p c ρ) w.1,
  )

  calls_one_called : (d : Part) (x : Name) (p : ModulePath) (q : ℕ) (ρ : Meaning) → PlacedOne q d → CalledOne p x d (calls_one p x d ρ)
  calls_one_called (abstract_part j) x p q ρ w = ap (λ b. cond b (leaf (named p x)) (ρ j)) (eq-eqb j j refl)
  calls_one_called (defined_part t) x p q ρ w = tt
  calls_one_called (value_part t) x p q ρ w = tt
  calls_one_called (module_part s) x p q ρ w = calls_called s (dot p x) (suc q) ρ w

-- calling goes on where paths, and the names that are paths, move alike
module _ (f : ModulePath → ModulePath) (below : (p : ModulePath) (x : Name) → f (dot p x) ≡ dot (f p) x) (ρ υ : Meaning)
    (moves : (n : ℕ) (r : ModulePath) (y : Name) → ρ n ≡ leaf (named r y) → υ n ≡ leaf (named (f r) y)) where
  mutual
    pub called_moved : (s : Sig) (p : ModulePath) → Called p s ρ → Called (f p) s υ
    called_moved (sig c) p k = called_all_moved c p k
    called_moved (functor_sig s r) p k = tt

    called_all_moved : (c : Parts) (p : ModulePath) → CalledAll p c ρ → CalledAll (f p) c υ
    called_all_moved no_parts p k = tt
    called_all_moved (more_parts c x d) p k = (called_all_moved c p k.0, called_one_moved d x p k.1)

    pub called_one_moved : (d : Part) (x : Name) (p : ModulePath) → CalledOne p x d ρ → CalledOne (f p) x d υ
    called_one_moved (abstract_part j) x p k = moves j p x k
    called_one_moved (defined_part t) x p k = tt
    called_one_moved (value_part t) x p k = tt
    called_one_moved (module_part s) x p k = subst (λ q. Called q s υ) (below p x) (called_moved s (dot p x) k)

none_both : (c : Parts) (g : Components) (Γ : Env) (ρ : Meaning) (s : Sort) (x : Name) → LikeAll c g Γ ρ → find s x g ≡ None → find_part s x c ≡ None
none_both c g Γ ρ s x l e = go (find_part s x c) (find s x g) e (like_found c g Γ ρ l s x)
  where
    go : (o : Option Part) (o' : Option Declaration) → o' ≡ None → Both c g Γ ρ o o' → o ≡ None
    go None o' e b = refl
    go (Some d) None e b = absurd b
    go (Some d) (Some d') e b = cc

-- what stands for a proper signature declares each sort and name once
mutual
  pub like_once : (n : Sig) (s : Signature) (Γ : Env) (ρ : Meaning) → Like n s Γ ρ → Proper Γ s → Once n
  like_once (sig c) (structure g) Γ ρ l w = like_all_once c g Γ ρ l w
  like_once (sig c) (functor s r) Γ ρ l w = absurd l
  like_once (functor_sig n m) (structure g) Γ ρ l w = absurd l
  like_once (functor_sig n m) (functor s r) Γ ρ l w = (like_once n s Γ ρ l.0 w.0, like_once m r (extend Γ s) (entered n ρ) l.1 w.1)

  like_all_once : (c : Parts) (g : Components) (Γ : Env) (ρ : Meaning) → LikeAll c g Γ ρ → ProperAll Γ g → OnceAll c
  like_all_once no_parts empty Γ ρ l w = tt
  like_all_once no_parts (more g y d) Γ ρ l w = absurd l
  like_all_once (more_parts c x e) empty Γ ρ l w = absurd l
  like_all_once (more_parts c x e) (more g y d) Γ ρ l w = (
    like_all_once c g Γ ρ l.0 w.0,
    none_both c g Γ ρ (sort_of_part e) x l.0
        (ap₂ (λ a b. find a b g) (like_sort e d (extend Γ (structure g)) (entered (sig c) ρ) l.2) l.1 ∙ w.1),
    like_one_once e d (extend Γ (structure g)) (entered (sig c) ρ) l.2 w.2,
  )

  like_one_once : (e : Part) (d : Declaration) (Γ : Env) (ρ : Meaning) → LikeOne e d Γ ρ → ProperOne Γ d → OnceIn e
  like_one_once (abstract_part n) d Γ ρ l w = tt
  like_one_once (defined_part t) d Γ ρ l w = tt
  like_one_once (value_part t) d Γ ρ l w = tt
  like_one_once (module_part n) abstract Γ ρ l w = absurd l
  like_one_once (module_part n) (defined u) Γ ρ l w = absurd l
  like_one_once (module_part n) (value u) Γ ρ l w = absurd l
  like_one_once (module_part n) (nested s) Γ ρ l w = like_once n s Γ ρ l w

-- an own number is called by a path that leads to it
abbrev pub Reaches : Scope → (Meaning → Meaning) → ℕ → Type 0
Reaches G f n =
    ((q : ModulePath) × (x : Name) × ((ρ : Meaning) → f ρ n ≡ leaf (named q x)) × (type_at G q x ≡ Some (numbered_type n))) ⊎ ((ρ : Meaning) → f ρ n ≡ ρ n)

both_reach :
    (G : Scope) (c : Parts) (x : Name) (d : Part) (p : ModulePath) (n : ℕ) → Reaches G (calls_all p c) n → Reaches G (calls_one p x d) n →
    Reaches G (calls_all p (more_parts c x d)) n
both_reach G c x d p n o (inl w) = inl (w.0, w.1, λ ρ. w.2 (calls_all p c ρ), w.3)
both_reach G c x d p n (inl v) (inr w) = inl (v.0, v.1, λ ρ. w (calls_all p c ρ) ∙ v.2 ρ, v.3)
both_reach G c x d p n (inr v) (inr w) = inr (λ ρ. w (calls_all p c ρ) ∙ v ρ)

bound_reach :
    (G : Scope) (k : ℕ) (x : Name) (p : ModulePath) (n : ℕ) (b : Bool) → eqb n k ≡ b → part_of a_type x (module_at G p) ≡ Some (abstract_part k) →
    Reaches G (calls_one p x (abstract_part k)) n
bound_reach G k x p n true e f =
    inl (p, x, λ ρ. ap (λ b. cond b (leaf (named p x)) (ρ n)) e, ap type_of_part f ∙ ap (λ z. Some (numbered_type z)) (sym (eqb-true n k e)))
bound_reach G k x p n false e f = inr (λ ρ. ap (λ b. cond b (leaf (named p x)) (ρ n)) e)

mutual
  pub calls_reach : (s : Sig) (G : Scope) (p : ModulePath) → module_at G p ≡ Some s → Once s → (n : ℕ) → Reaches G (calls p s) n
  calls_reach (sig c) G p f o n = calls_all_reach c G p o (λ s x d e. ap (part_of s x) f ∙ e) n
  calls_reach (functor_sig s r) G p f o n = inr (λ ρ. refl)

  calls_all_reach :
      (c : Parts) (G : Scope) (p : ModulePath) → OnceAll c → ((s : Sort) (x : Name) (d : Part) → find_part s x c ≡ Some d → part_of s x (module_at G p) ≡ Some d) →
      (n : ℕ) → Reaches G (calls_all p c) n
  calls_all_reach no_parts G p o h n = inr (λ ρ. refl)
  calls_all_reach (more_parts c x d) G p o h n =
      both_reach G c x d p n (calls_all_reach c G p o.0 (λ s y e f. h s y e (found_before c x d s y e f)) n)
      (calls_one_reach d x G p o.2 (h (sort_of_part d) x d (found_last c x d o.1)) n)

  calls_one_reach : (d : Part) (x : Name) (G : Scope) (p : ModulePath) → OnceIn d → part_of (sort_of_part d) x (module_at G p) ≡ Some d → (n : ℕ) → Reaches G (calls_one p x d) n
  calls_one_reach (abstract_part k) x G p o f n = bound_reach G k x p n (eqb n k) refl f
  calls_one_reach (defined_part t) x G p o f n = inr (λ ρ. refl)
  calls_one_reach (value_part t) x G p o f n = inr (λ ρ. refl)
  calls_one_reach (module_part s) x G p o f n = calls_reach s G (dot p x) (ap module_of f) o n

-- a path from outside leads where it led
pub module_out : (G : Scope) (s : Sig) (p : ModulePath) → module_at (inner G s) (on_path out p) ≡ module_at G p
module_out G s (at (unit u)) = refl
module_out G s (at (binder n)) = refl
module_out G s (dot p x) = ap (λ o. module_of (part_of a_module x o)) (module_out G s p)

-- numbers from q on are not called anything
abbrev pub Blank : ℕ → Meaning → Type 0
Blank q ρ = (n : ℕ) → q ≤ n → ρ n ≡ numbered_type n

-- each number is not called anything, or is called by a normal form
abbrev pub Settled : Env → Meaning → Type 0
Settled Γ ρ = (n : ℕ) → (ρ n ≡ numbered_type n) ⊎ Normal Γ (ρ n) (ρ n)

-- a scope stands for a proper environment, and numbers from q on are new
pub record World (G : Scope) (Γ : Env) (ρ : Meaning) (q : ℕ) : Type 0 where
  pub stands : ScopeStands G Γ ρ
  pub reached : Reached G Γ ρ
  pub blank : Blank q ρ
  pub settled : Settled Γ ρ
  pub proper : ProperEnv Γ

pub later : {G : Scope} {Γ : Env} {ρ : Meaning} {q : ℕ} (r : ℕ) → q ≤ r → World G Γ ρ q → World G Γ ρ r
later r h w = record { stands = w.stands; reached = w.reached; blank = λ n i. w.blank n (omega arith); settled = w.settled; proper = w.proper }

below : {q : ℕ} {ρ : Meaning} → Blank q ρ → (n : ℕ) → (ρ n ≡ numbered_type n → ⊥) → n < q
below {q} {ρ} b n h = go (dec_le q n)
  where
    go : Dec (q ≤ n) → n < q
    go (yes i) = absurd (h (b n i))
    go (no i) = omega arith

pub known_below : {Γ : Env} {q : ℕ} {ρ : Meaning} → Blank q ρ → (n : ℕ) → Normal Γ (ρ n) (ρ n) → n < q
known_below b n m = below b n (λ e. no_number m n e)

pub entered_below : (s : Sig) (q : ℕ) (ρ : Meaning) (n : ℕ) → Placed q s → n < q → entered s ρ n ≡ on_type out (ρ n)
entered_below s q ρ n w h = calls_apart s innermost q (λ j. on_type out (ρ j)) n w (λ i j. let z : ⊥ = omega arith in z)

pub carry_out : (Γ : Env) (ρ : Meaning) (q : ℕ) → Blank q ρ → (n : Sig) (s : Signature) → Placed q n → Carry out Γ ρ (extend Γ s) (entered n ρ)
carry_out Γ ρ q b n s w i m =
    subst (Normal (extend Γ s) (on_type out (ρ i))) (sym (entered_below n q ρ i w (known_below b i m))) (normal_weaken s m)

called_outward : (Γ : Env) (ρ : Meaning) (q : ℕ) → Blank q ρ → (n : Sig) → Placed q n → (s : Sig) (p : ModulePath) → Called p s ρ → Called (on_path out p) s (entered n ρ)
called_outward Γ ρ q b n w s p k =
    called_moved (on_path out) (λ p x. refl) ρ (entered n ρ)
    (λ i r y e. entered_below n q ρ i w (below b i (λ f. cc)) ∙ ap (on_type out) e) s p k

head_out :
    (Γ : Env) (ρ : Meaning) (q : ℕ) → Blank q ρ → (n : Sig) (s : Signature) → Placed q n → (o : Option Sig) (o' : Option Signature) (h : Head) →
    HeadStands o o' h Γ ρ → HeadStands o (on_some (on_signature out) o') (outward h) (extend Γ s) (entered n ρ)
head_out Γ ρ q b n s w None None h k = tt
head_out Γ ρ q b n s w None (Some t) h k = absurd k
head_out Γ ρ q b n s w (Some m) None h k = absurd k
head_out Γ ρ q b n s w (Some m) (Some t) h k = (
  like_along m t out Γ ρ (extend Γ s) (entered n ρ) (out_along Γ s) (carry_out Γ ρ q b n s w) k.0,
  called_outward Γ ρ q b n w m (at h) k.1,
)

-- one more binder
pub enter :
    {G : Scope} {Γ : Env} {ρ : Meaning} {q : ℕ} → World G Γ ρ q → (n : Sig) (s : Signature) → Like n s Γ ρ → Placed q n → Proper Γ s →
    World (inner G n) (extend Γ s) (entered n ρ) (q + size_of n)
enter {G} {Γ} {ρ} {q} w n s l p d =
    record { stands = heads; reached = reaches; blank = blanks; settled = settles; proper = proper_extend Γ s w.proper d }
  where
    heads : ScopeStands (inner G n) (extend Γ s) (entered n ρ)
    heads (unit u) = head_out Γ ρ q w.blank n s p (G (unit u)) (Γ (unit u)) (unit u) (w.stands (unit u))
    heads (binder zero) = (
      like_along n s out Γ ρ (extend Γ s) (entered n ρ) (out_along Γ s) (carry_out Γ ρ q w.blank n s p) l,
      calls_called n innermost q (λ j. on_type out (ρ j)) p,
    )
    heads (binder (suc k)) = head_out Γ ρ q w.blank n s p (G (binder k)) (Γ (binder k)) (binder k) (w.stands (binder k))

    blanks : Blank (q + size_of n) (entered n ρ)
    blanks i h =
        calls_apart n innermost q (λ j. on_type out (ρ j)) i p (λ a b. let z : ⊥ = omega arith in z) ∙ ap (on_type out) (w.blank i (omega arith))

    reaches : Reached (inner G n) (extend Γ s) (entered n ρ)
    reaches i m = go (calls_reach n (inner G n) innermost refl (like_once n s Γ ρ l d) i)
      where
        go : Reaches (inner G n) (calls innermost n) i → (r : ModulePath) × (x : Name) × (entered n ρ i ≡ leaf (named r x)) × (type_at (inner G n) r x ≡ Some (leaf (numbered i)))
        go (inl v) = (v.0, v.1, v.2 (λ j. on_type out (ρ j)), v.3)
        go (inr v) =
            let e = v (λ j. on_type out (ρ j)) in
            let o = normal_outside (ρ i) Γ s (subst₂ (Normal (extend Γ s)) e e m) in
            let z = w.reached i o in (
              on_path out z.0,
              z.1,
              e ∙ ap (on_type out) z.2,
              ap (λ k. type_of_part (part_of a_type z.1 k)) (module_out G n z.0) ∙ z.3,
            )

    settles : Settled (extend Γ s) (entered n ρ)
    settles i = go (calls_reach n (inner G n) innermost refl (like_once n s Γ ρ l d) i)
      where
        rest : (entered n ρ i ≡ on_type out (ρ i)) → (ρ i ≡ numbered_type i) ⊎ Normal Γ (ρ i) (ρ i) → (entered n ρ i ≡ numbered_type i) ⊎ Normal (extend Γ s) (entered n ρ i) (entered n ρ i)
        rest e (inl f) = inl (e ∙ ap (on_type out) f)
        rest e (inr m) = inr (subst₂ (Normal (extend Γ s)) (sym e) (sym e) (normal_weaken s m))

        go : Reaches (inner G n) (calls innermost n) i → (entered n ρ i ≡ numbered_type i) ⊎ Normal (extend Γ s) (entered n ρ i) (entered n ρ i)
        go (inl v) =
            let e = v.2 (λ j. on_type out (ρ j)) in
            let t : TypeLeads (Some (numbered_type i)) v.0 v.1 (extend Γ s) (entered n ρ) =
            subst (λ o. TypeLeads o v.0 v.1 (extend Γ s) (entered n ρ)) v.3 (look_type (inner G n) (extend Γ s) (entered n ρ) heads v.0 v.1) in
            inr (subst (λ z. Normal (extend Γ s) z (entered n ρ i)) (sym e) t.1)
        go (inr v) = rest (v (λ j. on_type out (ρ j))) (w.settled i)
