-- A verdict of matching says what it should, and the sizes are bound enough.
use Rattle.std.proofs.Common.{◌≡◌, ℕ, zero, suc, ◌+◌, ◌<◌, ◌≤◌, Bool, true, false, cond, ◌&&◌, Some, None, Option, sym, refl, ap, ◌∙◌, arith}
use Rattle.std.proofs.lemmas.Bool.{false≢true}
use Rattle.std.specs.Str.{bytes_eq}
use Rattle.types.specs.Types.{Name, Ty, same}
use Rattle.types.proofs.Same.{same_equal, same_self}
use Rattle.rules.specs.Signatures.{Sort, a_type, a_value, a_module, same_sort, first_of}
use Rattle.rules.proofs.Finding.{same_sort_is}
use Rattle.checker.specs.Numbered.{Sig, sig, functor_sig, Parts, no_parts, more_parts, Part, abstract_part, defined_part, value_part, module_part, sort_of_part, find_part, size_of, size_of_parts, size_of_part}
use Rattle.checker.specs.Meanings.{Meaning, numbered_type, itself, meant}
use Rattle.checker.specs.Faults.{other_value, other_type}
use Rattle.checker.specs.Comparing.{Verdict, matched, differs, onward, asked, Matcher, match_part, match_parts, match_with, match_to}
use Rattle.checker.specs.Failing.{Meets, structures_meet, functors_meet, MeetsAll, none_wanted, one_more, MeetsOne, any_type, same_type, same_value, sub_module, no_functor_given, no_structure_given, in_components, in_parameters, in_results, FailsAll, earlier, here, FailsOne, is_missing, another_value, another_type, in_module, Settles, FirstFailure}

-- what is found is of that sort, and smaller
pub found : (s : Sort) (x : Name) (g : Parts) (d : Part) → find_part s x g ≡ Some d → (sort_of_part d ≡ s) × (size_of_part d < size_of_parts g)
found s x no_parts d f = cc
found s x (more_parts g y e) d f = go (find_part s x g) refl (found s x g d) (same_sort s (sort_of_part e)) refl (bytes_eq x y) f
  where
    go :
        (o : Option Part) → find_part s x g ≡ o → (find_part s x g ≡ Some d → (sort_of_part d ≡ s) × (size_of_part d < size_of_parts g)) →
        (a : Bool) → same_sort s (sort_of_part e) ≡ a → (b : Bool) →
        first_of o (cond (a && b) (Some e) None) ≡ Some d → (sort_of_part d ≡ s) × (size_of_part d < size_of_parts g + suc (size_of_part e))
    go (Some d') p ih a q b h = let w = ih (p ∙ h) in (w.0, omega arith)
    go None p ih true q true h =
        let k : e ≡ d = cc in
        let z = ap size_of_part k in
        (sym (same_sort_is s (sort_of_part e) q ∙ ap sort_of_part k), omega arith)
    go None p ih true q false h = cc
    go None p ih false q b h = cc

-- what a verdict on components, and on one component, says
abbrev SettlesAll : Meaning → Parts → Meaning → Parts → Verdict → Type 0
SettlesAll σ g τ c (matched υ) = MeetsAll σ g τ c υ
SettlesAll σ g τ c (differs y m) = FailsAll σ g τ c y m

abbrev SettlesOne : Meaning → Parts → Meaning → Name → Part → Verdict → Type 0
SettlesOne σ g τ x e (matched υ) = (d : Part) × (find_part (sort_of_part e) x g ≡ Some d) × MeetsOne σ d τ e υ
SettlesOne σ g τ x e (differs y m) = FailsOne σ g τ x e y m

-- a matcher that is right about signatures up to a size
abbrev Right : ℕ → Matcher → Type 0
Right n m = (σ : Meaning) (g : Sig) (τ : Meaning) (w : Sig) (x : Option Name) → size_of g + size_of w < n → Settles σ g τ w x (m σ g τ w x)

-- a comparison of types
compared :
    (t u : Ty) (b : Bool) → same t u ≡ b → (A B : Type 0) → (t ≡ u → A) → ((t ≡ u → ⊥) → B) → (P : Bool → Type 0) → (A → P true) → (B → P false) → P b
compared t u true p A B f g P i j = i (f (same_equal t u p))
compared t u false p A B f g P i j = j (g (λ e. false≢true (sym p ∙ (ap (same t) (sym e) ∙ same_self t))))

part_settled :
    (n : ℕ) (m : Matcher) → Right n m → (σ : Meaning) (g : Parts) (τ : Meaning) (x : Name) (e : Part) (o : Option Part) →
    find_part (sort_of_part e) x g ≡ o → size_of_parts g + size_of_part e < n → SettlesOne σ g τ x e (match_part m σ o τ x e)
part_settled n m r σ g τ x e None p h = is_missing p
part_settled n m r σ g τ x (abstract_part k) (Some (abstract_part j)) p h = (abstract_part j, p, any_type (numbered_type j) refl)
part_settled n m r σ g τ x (defined_part t) (Some (abstract_part j)) p h =
    compared (σ j) (meant τ t) (same (σ j) (meant τ t)) refl
    (MeetsOne σ (abstract_part j) τ (defined_part t) τ) (FailsOne σ g τ x (defined_part t) (Some x) other_type)
    (λ q. same_type (numbered_type j) refl q) (λ q. another_type (abstract_part j) (numbered_type j) p refl q)
    (λ b. SettlesOne σ g τ x (defined_part t) (asked b x other_type τ)) (λ a. (abstract_part j, p, a)) (λ b. b)
part_settled n m r σ g τ x (value_part t) (Some (abstract_part j)) p h = let q = (found a_value x g (abstract_part j) p).0 in cc
part_settled n m r σ g τ x (module_part w) (Some (abstract_part j)) p h = let q = (found a_module x g (abstract_part j) p).0 in cc
part_settled n m r σ g τ x (abstract_part k) (Some (defined_part t)) p h = (defined_part t, p, any_type t refl)
part_settled n m r σ g τ x (defined_part u) (Some (defined_part t)) p h =
    compared (meant σ t) (meant τ u) (same (meant σ t) (meant τ u)) refl
    (MeetsOne σ (defined_part t) τ (defined_part u) τ) (FailsOne σ g τ x (defined_part u) (Some x) other_type)
    (λ q. same_type t refl q) (λ q. another_type (defined_part t) t p refl q)
    (λ b. SettlesOne σ g τ x (defined_part u) (asked b x other_type τ)) (λ a. (defined_part t, p, a)) (λ b. b)
part_settled n m r σ g τ x (value_part u) (Some (defined_part t)) p h = let q = (found a_value x g (defined_part t) p).0 in cc
part_settled n m r σ g τ x (module_part w) (Some (defined_part t)) p h = let q = (found a_module x g (defined_part t) p).0 in cc
part_settled n m r σ g τ x (abstract_part k) (Some (value_part t)) p h = let q = (found a_type x g (value_part t) p).0 in cc
part_settled n m r σ g τ x (defined_part u) (Some (value_part t)) p h = let q = (found a_type x g (value_part t) p).0 in cc
part_settled n m r σ g τ x (value_part u) (Some (value_part t)) p h =
    compared (meant σ t) (meant τ u) (same (meant σ t) (meant τ u)) refl
    (MeetsOne σ (value_part t) τ (value_part u) τ) (FailsOne σ g τ x (value_part u) (Some x) other_value)
    (λ q. same_value q) (λ q. another_value t p q)
    (λ b. SettlesOne σ g τ x (value_part u) (asked b x other_value τ)) (λ a. (value_part t, p, a)) (λ b. b)
part_settled n m r σ g τ x (module_part w) (Some (value_part t)) p h = let q = (found a_module x g (value_part t) p).0 in cc
part_settled n m r σ g τ x (abstract_part k) (Some (module_part s)) p h = let q = (found a_type x g (module_part s) p).0 in cc
part_settled n m r σ g τ x (defined_part u) (Some (module_part s)) p h = let q = (found a_type x g (module_part s) p).0 in cc
part_settled n m r σ g τ x (value_part u) (Some (module_part s)) p h = let q = (found a_value x g (module_part s) p).0 in cc
part_settled n m r σ g τ x (module_part w) (Some (module_part s)) p h =
    let z = (found a_module x g (module_part s) p).1 in
    go (m σ s τ w (Some x)) (r σ s τ w (Some x) (omega arith))
  where
    go : (v : Verdict) → Settles σ s τ w (Some x) v → SettlesOne σ g τ x (module_part w) v
    go (matched υ) a = (module_part s, p, sub_module a)
    go (differs y c) a = in_module s p a

parts_settled :
    (n : ℕ) (m : Matcher) → Right n m → (σ : Meaning) (g : Parts) (τ : Meaning) (c : Parts) → size_of_parts g + size_of_parts c ≤ n →
    SettlesAll σ g τ c (match_parts m σ g τ c)
parts_settled n m r σ g τ no_parts h = none_wanted
parts_settled n m r σ g τ (more_parts c x e) h = go (match_parts m σ g τ c) (parts_settled n m r σ g τ c (omega arith))
  where
    last : (υ : Meaning) → MeetsAll σ g τ c υ → (v : Verdict) → SettlesOne σ g υ x e v → SettlesAll σ g τ (more_parts c x e) v
    last υ a (matched φ) b = one_more υ b.0 a b.1 b.2
    last υ a (differs y k) b = here υ a b

    go : (v : Verdict) → SettlesAll σ g τ c v → SettlesAll σ g τ (more_parts c x e) (onward v (λ υ. match_part m σ (find_part (sort_of_part e) x g) υ x e))
    go (matched υ) a =
        last υ a (match_part m σ (find_part (sort_of_part e) x g) υ x e) (part_settled n m r σ g υ x e (find_part (sort_of_part e) x g) refl (omega arith))
    go (differs y k) a = earlier a

with_settled : (n : ℕ) (m : Matcher) → Right n m → Right (suc n) (match_with m)
with_settled n m r σ (sig g) τ (sig c) x h = go (match_parts m σ g τ c) (parts_settled n m r σ g τ c (omega arith))
  where
    go : (v : Verdict) → SettlesAll σ g τ c v → Settles σ (sig g) τ (sig c) x v
    go (matched υ) a = structures_meet a
    go (differs y k) a = in_components a
with_settled n m r σ (sig g) τ (functor_sig s b) x h = no_functor_given
with_settled n m r σ (functor_sig s b) τ (sig c) x h = no_structure_given
with_settled n m r σ (functor_sig s b) τ (functor_sig s' b') x h = go (m τ s' σ s x) (r τ s' σ s x (omega arith))
  where
    last : (υ : Meaning) → Meets τ s' σ s υ → (v : Verdict) → Settles υ b τ b' x v → Settles σ (functor_sig s b) τ (functor_sig s' b') x (onward v (λ φ. matched τ))
    last υ a (matched φ) k = functors_meet υ φ a k
    last υ a (differs y c) k = in_results υ a k

    go : (v : Verdict) → Settles τ s' σ s x v → Settles σ (functor_sig s b) τ (functor_sig s' b') x (onward v (λ υ. onward (m υ b τ b' x) (λ φ. matched τ)))
    go (matched υ) a = last υ a (m υ b τ b' x) (r υ b τ b' x (omega arith))
    go (differs y c) a = in_parameters a

pub settled : (n : ℕ) → Right n (match_to n)
settled zero σ g τ w x h = absurd (omega arith)
settled (suc n) σ g τ w x h = with_settled n (match_to n) (settled n) σ g τ w x h

pub first_failure : FirstFailure
first_failure g w = settled (suc (size_of g + size_of w)) itself g itself w None (omega arith)
