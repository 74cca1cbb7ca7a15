-- A signature matches itself.
use Rattle.std.proofs.Common.{◌≡◌, ℕ, zero, suc, ◌+◌, ◌<◌, ◌≤◌, Bool, true, false, cond, ◌&&◌, eqb, Some, None, Option, sym, refl, ap, ◌∙◌, ap₂, arith}
use Rattle.std.proofs.Math.Path.{fun_ext}
use Rattle.std.specs.Str.{bytes_eq}
use Rattle.std.proofs.lemmas.Bool.{eqb-true}
use Rattle.types.specs.Types.{Name, named, numbered, Ty, leaf, label0, label1, label2, same}
use Rattle.types.proofs.Same.{same_self}
use Rattle.rules.specs.Signatures.{Sort, same_sort, first_of}
use Rattle.rules.proofs.Finding.{same_sort_self, same_bytes_self}
use Rattle.checker.specs.Numbered.{Sig, sig, functor_sig, Parts, no_parts, more_parts, Part, abstract_part, defined_part, value_part, module_part, sort_of_part, find_part, size_of, size_of_parts, size_of_part}
use Rattle.checker.specs.Meanings.{numbered_type, itself, bind, meant}
use Rattle.checker.specs.Comparing.{matched, onward, asked, Matcher, match_part, match_parts, match_with, match_to}
use Rattle.checker.specs.Failing.{Once, OnceAll, OnceIn, MatchesItself}

pub meant_itself : (t : Ty) → meant itself t ≡ t
meant_itself (leaf (named p x)) = refl
meant_itself (leaf (numbered n)) = refl
meant_itself (label0 l) = refl
meant_itself (label1 l t) = ap (label1 l) (meant_itself t)
meant_itself (label2 l t u) = ap₂ (label2 l) (meant_itself t) (meant_itself u)

bind_itself : (n : ℕ) → bind n (numbered_type n) itself ≡ itself
bind_itself n = fun_ext (λ m. go m (eqb m n) refl)
  where
    go : (m : ℕ) (b : Bool) → eqb m n ≡ b → cond b (numbered_type n) (itself m) ≡ itself m
    go m true e = ap numbered_type (sym (eqb-true m n e))
    go m false e = refl

asked_self : (t : Ty) (x : Name) (c : _) → asked (same (meant itself t) (meant itself t)) x c itself ≡ matched itself
asked_self t x c = ap (λ b. asked b x c itself) (same_self (meant itself t))

-- the last component is found, if its sort and name is new
pub found_last : (c : Parts) (x : Name) (e : Part) → find_part (sort_of_part e) x c ≡ None → find_part (sort_of_part e) x (more_parts c x e) ≡ Some e
found_last c x e p = ap₂ (λ o b. first_of o (cond b (Some e) None)) p (ap₂ (λ a b. a && b) (same_sort_self (sort_of_part e)) (same_bytes_self x))

pub found_before : (c : Parts) (y : Name) (e : Part) (s : Sort) (x : Name) (d : Part) → find_part s x c ≡ Some d → find_part s x (more_parts c y e) ≡ Some d
found_before c y e s x d f = ap (λ o. first_of o (cond (same_sort s (sort_of_part e) && bytes_eq x y) (Some e) None)) f

-- a matcher by which each signature up to a size matches itself
abbrev Selfish : ℕ → Matcher → Type 0
Selfish n m = (s : Sig) (x : Option Name) → Once s → size_of s < n → m itself s itself s x ≡ matched itself

part_itself : (n : ℕ) (m : Matcher) → Selfish n m → (x : Name) (e : Part) → OnceIn e → size_of_part e < n → match_part m itself (Some e) itself x e ≡ matched itself
part_itself n m h x (abstract_part k) o l = ap matched (bind_itself k)
part_itself n m h x (defined_part t) o l = asked_self t x _
part_itself n m h x (value_part t) o l = asked_self t x _
part_itself n m h x (module_part s) o l = h s (Some x) o l

parts_itself :
    (n : ℕ) (m : Matcher) → Selfish n m → (g c : Parts) → OnceAll c → size_of_parts c ≤ n →
    ((s : Sort) (x : Name) (d : Part) → find_part s x c ≡ Some d → find_part s x g ≡ Some d) → match_parts m itself g itself c ≡ matched itself
parts_itself n m h g no_parts o l k = refl
parts_itself n m h g (more_parts c x e) o l k =
    let a = parts_itself n m h g c o.0 (omega arith) (λ s y d f. k s y d (found_before c x e s y d f)) in
    let f = k (sort_of_part e) x e (found_last c x e o.1) in
    ap (λ v. onward v (λ υ. match_part m itself (find_part (sort_of_part e) x g) υ x e)) a
    ∙ (ap (λ p. match_part m itself p itself x e) f ∙ part_itself n m h x e o.2 (omega arith))

with_itself : (n : ℕ) (m : Matcher) → Selfish n m → Selfish (suc n) (match_with m)
with_itself n m h (sig c) x o l = parts_itself n m h c c o (omega arith) (λ s y d f. f)
with_itself n m h (functor_sig s r) x o l =
    ap (λ v. onward v (λ υ. onward (m υ r itself r x) (λ φ. matched itself))) (h s x o.0 (omega arith))
    ∙ ap (λ v. onward v (λ φ. matched itself)) (h r x o.1 (omega arith))

to_itself : (n : ℕ) → Selfish n (match_to n)
to_itself zero s x o l = absurd (omega arith)
to_itself (suc n) s x o l = with_itself n (match_to n) (to_itself n) s x o l

pub matches_itself : MatchesItself
matches_itself s o = to_itself (suc (size_of s + size_of s)) s None o (omega arith)
