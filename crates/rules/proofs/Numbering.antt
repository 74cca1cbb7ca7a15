-- Row positions tell abstract types apart, so a rule that takes types by numbers takes them by paths.
use Rattle.std.proofs.Common.{◌≡◌, ℕ, zero, ◌+◌, ◌≤◌, Bool, true, false, cond, ◌⊎◌, List, [], ◌∷◌, ◌++◌, map, Some, None, sym, refl, ap, ◌∙◌, ap₂, inl, inr, arith}
use Rattle.types.specs.Types.{Name, Head, unit, binder, ModulePath, Leaf, named, numbered, Ty, leaf, label0, label1, label2, replace, same_leaf}
use Rattle.types.proofs.Same.{same_equal, same_self}
use Rattle.cores.specs.Meaning.{Outcome, gives, Stable}
use Rattle.cores.specs.declared.interface.Operation.{Operation}
use Rattle.rules.specs.Signatures.{a_type, Signature, abstract}
use Rattle.rules.specs.Substitution.{under, outward, out, on_signature}
use Rattle.rules.specs.Lookup.{Env, extend, Has, Normal, opaque, unfolds, bare, part, parts}
use Rattle.rules.specs.Environments.{unknown, with_unit}
use Rattle.rules.specs.Faults.{standing}
use Rattle.std.specs.Str.{bytes_eq}
use Rattle.std.proofs.lemmas.Slice.Eq.{bytes_eq-Decides}
use Rattle.rules.specs.Sizes.{signature_size, by_number, in_numbers, Laid, AllNormal, none_normal, more_normal}
use Rattle.rules.proofs.Algebra.{under_outward}
use Rattle.rules.proofs.Finding.{same_bytes_self}
use Rattle.rules.proofs.Project.{unit_cases}
use Rattle.rules.proofs.Along.{extend_cases}
use Rattle.rules.proofs.Leaves.{leaf_law, Every, every_more}
use Rattle.rules.proofs.Positions.{signature_size_on, position, position_one}

-- the leaves of a normal form are abstract types
abbrev Abstract : Env → Leaf → Type 0
Abstract Γ l = (p : ModulePath) × (x : Name) × (l ≡ named p x) × Has Γ p a_type x abstract

normal_every : {Γ : Env} {t n : Ty} → Normal Γ t n → Every (Abstract Γ) n
normal_every (opaque {p = p} {x = x} h) = (p, x, refl, h)
normal_every (unfolds t h m) = normal_every m
normal_every bare = tt
normal_every (part m) = normal_every m
normal_every (parts m k) = (normal_every m, normal_every k)

module _ (from : Head → ℕ) (Γ : Env) (k : ℕ) (laid : Laid from Γ k) where
  -- the number of a leaf, and its one leaf
  number : Leaf → Leaf
  number (named p x) = numbered (position from Γ p x)
  number (numbered n) = numbered n

  number_is : (l : Leaf) → by_number from Γ l ≡ leaf (number l)
  unfolding number
  number_is (named p x) = refl
  number_is (numbered n) = refl

  numbered_is : {m n : ℕ} → numbered m ≡ numbered n → m ≡ n
  numbered_is e = cc

  number_one : (l m : Leaf) → Abstract Γ l → Abstract Γ m → number l ≡ number m → l ≡ m
  unfolding number
  number_one l m a b i =
      let j : numbered (position from Γ a.0 a.1) ≡ numbered (position from Γ b.0 b.1) = sym (ap number a.2) ∙ (i ∙ ap number b.2) in
      let w = position_one from Γ k laid a.0 a.1 abstract b.0 b.1 abstract a.3 b.3 (numbered_is j) in
      a.2 ∙ (ap₂ named w.0 w.1 ∙ sym b.2)

  -- back from numbers to the leaves of a table
  abbrev back : List Leaf → Leaf → Ty
  back [] l = leaf l
  back (m ∷ ms) l = cond (same_leaf l (number m)) (leaf m) (back ms l)

  abbrev Among : List Leaf → Leaf → Type 0
  Among [] l = ⊥
  Among (m ∷ ms) l = (m ≡ l) ⊎ Among ms l

  abbrev AllAbstract : List Leaf → Type 0
  AllAbstract [] = Unit {0}
  AllAbstract (m ∷ ms) = Abstract Γ m × AllAbstract ms

  back_is : (ms : List Leaf) (l : Leaf) → AllAbstract ms → Abstract Γ l → Among ms l → back ms (number l) ≡ leaf l
  back_is [] l u a i = absurd i
  back_is (m ∷ ms) l u a i = go (same_leaf (number l) (number m)) refl i (back_is ms l u.1 a)
    where
      go :
          (b : Bool) → same_leaf (number l) (number m) ≡ b → (m ≡ l) ⊎ Among ms l → (Among ms l → back ms (number l) ≡ leaf l) →
          cond b (leaf m) (back ms (number l)) ≡ leaf l
      go true q i ih =
          let e = same_equal (leaf (number l)) (leaf (number m)) q in
          let o : number l ≡ number m = cc in
          ap leaf (sym (number_one l m a u.0 o))
      go false q (inr i) ih = ih i
      go false q (inl r) ih =
          let z : same_leaf (number l) (number m) ≡ true = ap (λ o. same_leaf (number l) (number o)) r ∙ same_self (leaf (number l)) in cc

  -- the leaves of a type
  abbrev leaves : Ty → List Leaf
  leaves (leaf l) = l ∷ []
  leaves (label0 l) = []
  leaves (label1 l t) = leaves t
  leaves (label2 l t u) = leaves t ++ leaves u

  among_left : (ms ls : List Leaf) (l : Leaf) → Among ms l → Among (ms ++ ls) l
  among_left [] ls l i = absurd i
  among_left (m ∷ ms) ls l (inl r) = inl r
  among_left (m ∷ ms) ls l (inr i) = inr (among_left ms ls l i)

  among_right : (ms ls : List Leaf) (l : Leaf) → Among ls l → Among (ms ++ ls) l
  among_right [] ls l i = i
  among_right (m ∷ ms) ls l i = inr (among_right ms ls l i)

  abstract_both : (ms ls : List Leaf) → AllAbstract ms → AllAbstract ls → AllAbstract (ms ++ ls)
  abstract_both [] ls u v = v
  abstract_both (m ∷ ms) ls u v = (u.0, abstract_both ms ls u.1 v)

  leaves_abstract : (t : Ty) → Every (Abstract Γ) t → AllAbstract (leaves t)
  leaves_abstract (leaf l) a = (a, tt)
  leaves_abstract (label0 l) a = tt
  leaves_abstract (label1 l t) a = leaves_abstract t a
  leaves_abstract (label2 l t u) a = abstract_both (leaves t) (leaves u) (leaves_abstract t a.0) (leaves_abstract u a.1)

  abbrev Within : List Leaf → Ty → Type 0
  Within ms t = Every (Among ms) t

  own_leaves : (t : Ty) → Within (leaves t) t
  own_leaves (leaf l) = inl refl
  own_leaves (label0 l) = tt
  own_leaves (label1 l t) = own_leaves t
  own_leaves (label2 l t u) = (every_more (among_left (leaves t) (leaves u)) t (own_leaves t), every_more (among_right (leaves t) (leaves u)) u (own_leaves u))

  restored : (ms : List Leaf) (t : Ty) → AllAbstract ms → Every (Abstract Γ) t → Within ms t → replace (back ms) (in_numbers from Γ t) ≡ t
  restored ms (leaf l) u a i = ap (replace (back ms)) (number_is l) ∙ back_is ms l u a i
  restored ms (label0 l) u a i = refl
  restored ms (label1 l t) u a i = ap (label1 l) (restored ms t u a i)
  restored ms (label2 l t v) u a i = ap₂ (label2 l) (restored ms t u a.0 i.0) (restored ms v u a.1 i.1)

  abbrev all_leaves : List Ty → List Leaf
  all_leaves [] = []
  all_leaves (t ∷ ts) = leaves t ++ all_leaves ts

  all_abstract : {ns : List Ty} → AllNormal Γ ns → AllAbstract (all_leaves ns)
  all_abstract none_normal = tt
  all_abstract (more_normal {n = n} {ns = ns} m w) = abstract_both (leaves n) (all_leaves ns) (leaves_abstract n (normal_every m)) (all_abstract w)

  restored_all : {ns : List Ty} → AllNormal Γ ns → (ms : List Leaf) → AllAbstract ms → ((t : Ty) → Within (all_leaves ns) t → Within ms t) → map (replace (back ms)) (map (in_numbers from Γ) ns) ≡ ns
  restored_all none_normal ms u i = refl
  restored_all (more_normal {n = n} {ns = ns} m w) ms u i =
      ap₂ (λ a b. a ∷ b) (restored ms n u (normal_every m) (i n (every_more (among_left (leaves n) (all_leaves ns)) n (own_leaves n))))
      (restored_all w ms u (λ t j. i t (every_more (among_right (leaves n) (all_leaves ns)) t j)))

  -- what a rule gives for numbers it gives for the normal forms
  pub numbers_give :
      {C : Type 0} (n : ℕ) (rule : Operation → List Ty → Outcome C) → Stable n rule → (o : Operation) (ns : List Ty) → AllNormal Γ ns → (t : Ty) →
      rule o (map (in_numbers from Γ) ns) ≡ gives t → (u : Ty) × (rule o ns ≡ gives u)
  numbers_give n rule law o ns w t q =
      let ms = all_leaves ns in
      let e = leaf_law n rule law (back ms) o (map (in_numbers from Γ) ns) t q in
      (replace (back ms) t, ap (rule o) (sym (restored_all w ms (all_abstract w) (λ t i. i))) ∙ e)

-- signatures go on standing apart
pub laid_later : (from : Head → ℕ) (Γ : Env) (k l : ℕ) → k ≤ l → Laid from Γ k → Laid from Γ l
laid_later from Γ k l i w = record { before = λ h s q. let j = w.before h s q in omega arith; apart = w.apart }

abbrev Separate : (Head → ℕ) → Head → Signature → Head → Signature → Type 0
Separate from h s i t = (h ≡ i) ⊎ ((from h + signature_size s ≤ from i) ⊎ (from i + signature_size t ≤ from h))

pub laid_extend : (from : Head → ℕ) (Γ : Env) (k b : ℕ) (s : Signature) → k ≤ b → Laid from Γ k → Laid (under b from) (extend Γ s) (b + signature_size s)
laid_extend from Γ k b s i w = record {
  before =
      extend_cases Γ s (λ h t. under b from h + signature_size t ≤ b + signature_size s)
      (let j = signature_size_on s out in omega arith)
      (λ h t q.
      let j = signature_size_on t out in
      let l = w.before h t q in
      let o = under_outward b from h in
      omega arith);
  apart = λ h o t u p q.
      extend_cases Γ s (λ h t. (o : Head) (u : Signature) → extend Γ s o ≡ Some u → Separate (under b from) h t o u)
      (extend_cases Γ s (λ o u. Separate (under b from) (binder zero) (on_signature out s) o u) (inl refl)
      (λ o u q.
      let j = signature_size_on u out in
      let l = w.before o u q in
      let x = under_outward b from o in
      inr (inr (omega arith))))
      (λ h t p.
      extend_cases Γ s (λ o u. Separate (under b from) (outward h) (on_signature out t) o u)
      (let j = signature_size_on t out in
      let l = w.before h t p in
      let x = under_outward b from h in
      inr (inl (omega arith)))
      (λ o u q. outwards h t o u (w.apart h o t u p q)))
      h t p o u q;
}
  where
    outwards : (h : Head) (t : Signature) (o : Head) (u : Signature) → Separate from h t o u → Separate (under b from) (outward h) (on_signature out t) (outward o) (on_signature out u)
    outwards h t o u (inl e) = inl (ap outward e)
    outwards h t o u (inr (inl l)) =
        let j = signature_size_on t out in
        let x = under_outward b from h in
        let y = under_outward b from o in
        inr (inl (omega arith))
    outwards h t o u (inr (inr l)) =
        let j = signature_size_on u out in
        let x = under_outward b from h in
        let y = under_outward b from o in
        inr (inr (omega arith))

pub laid_none : (from : Head → ℕ) (k : ℕ) → Laid from unknown k
laid_none from k = record { before = λ h s q. (cc); apart = λ h i s t p q. (cc) }

standing_here : (x : Name) (k : ℕ) (from : Head → ℕ) → standing x k from (unit x) ≡ k
standing_here x k from = ap (λ b. cond b k (from (unit x))) (same_bytes_self x)

standing_kept : (x : Name) (k : ℕ) (from : Head → ℕ) (Γ : Env) → Γ (unit x) ≡ None → (h : Head) (s : Signature) → Γ h ≡ Some s → standing x k from h ≡ from h
standing_kept x k from Γ f (unit y) s q = go (bytes_eq x y) refl
  where
    go : (b : Bool) → bytes_eq x y ≡ b → cond b k (from (unit y)) ≡ from (unit y)
    go true i =
        let e = (bytes_eq-Decides x y).0 i in
        let j : Γ (unit x) ≡ Some s = ap (λ z. Γ (unit z)) e ∙ q in
        cc
    go false i = refl
standing_kept x k from Γ f (binder n) s q = refl

pub laid_unit : (from : Head → ℕ) (Γ : Env) (k : ℕ) (x : Name) (s : Signature) → Γ (unit x) ≡ None → Laid from Γ k → Laid (standing x k from) (with_unit x s Γ) (k + signature_size s)
laid_unit from Γ k x s f w = record {
  before =
      unit_cases x s Γ (λ h t. standing x k from h + signature_size t ≤ k + signature_size s)
      (let j = standing_here x k from in omega arith)
      (λ h t q.
      let j = standing_kept x k from Γ f h t q in
      let l = w.before h t q in
      omega arith);
  apart = λ h o t u p q.
      unit_cases x s Γ (λ h t. (o : Head) (u : Signature) → with_unit x s Γ o ≡ Some u → Separate (standing x k from) h t o u)
      (unit_cases x s Γ (λ o u. Separate (standing x k from) (unit x) s o u) (inl refl)
      (λ o u q.
      let j = standing_here x k from in
      let i = standing_kept x k from Γ f o u q in
      let l = w.before o u q in
      inr (inr (omega arith))))
      (λ h t p.
      unit_cases x s Γ (λ o u. Separate (standing x k from) h t o u)
      (let j = standing_here x k from in
      let i = standing_kept x k from Γ f h t p in
      let l = w.before h t p in
      inr (inl (omega arith)))
      (λ o u q. kept h t o u p q (w.apart h o t u p q)))
      h t p o u q;
}
  where
    kept :
        (h : Head) (t : Signature) (o : Head) (u : Signature) → Γ h ≡ Some t → Γ o ≡ Some u → Separate from h t o u → Separate (standing x k from) h t o u
    kept h t o u p q (inl e) = inl e
    kept h t o u p q (inr (inl l)) =
        let i = standing_kept x k from Γ f h t p in
        let j = standing_kept x k from Γ f o u q in
        inr (inl (omega arith))
    kept h t o u p q (inr (inr l)) =
        let i = standing_kept x k from Γ f h t p in
        let j = standing_kept x k from Γ f o u q in
        inr (inr (omega arith))
