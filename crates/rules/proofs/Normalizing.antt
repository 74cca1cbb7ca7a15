-- Normalizing a signature gives a settled one that matches both ways, exactly where the signature is proper.
use Rattle.std.proofs.Common.{◌≡◌, suc, ◌+◌, true, cond, ◌&&◌, Some, None, Option, sym, refl, ap, ◌∙◌, subst, ap₂}
use Rattle.std.specs.Str.{bytes_eq}
use Rattle.types.specs.Types.{Name, at, named, Ty, leaf}
use Rattle.rules.specs.Signatures.{Sort, Signature, structure, functor, Components, empty, more, Declaration, abstract, defined, value, nested, sort_of, same_sort, first_of, find, on_some, extent, extent_all, extent_one}
use Rattle.rules.specs.Substitution.{innermost}
use Rattle.rules.specs.Lookup.{Env, extend, Normal, unfolds, opaque}
use Rattle.rules.specs.Checker.{unless, normal_type, normalize, normalize_all, normalize_one}
use Rattle.rules.proofs.Algebra.{declaration_id}
use Rattle.rules.proofs.Finding.{same_sort_self, same_bytes_self, normal_normal}
use Rattle.rules.proofs.Inner.{Fits, f_structure, f_functor, g_none, Proper, ProperAll, ProperOne}
use Rattle.rules.proofs.Along.{was_some}
use Rattle.rules.proofs.Exact.{fits_fresh}
use Rattle.rules.proofs.Transitive.{knows_gives, GivesOne}
use Rattle.rules.proofs.Knowing.{Along, narrow_along, at_fits, typed_finer, normal_finer, fits_finer}
use Rattle.rules.proofs.Properness.{proper_one_along, proper_finer}
use Rattle.rules.proofs.Reflexive.{has_at}
use Rattle.rules.proofs.Derived.{find_none}
use Rattle.rules.proofs.Principal.{longer_extend, last_has, same_finer, fits_more}
use Rattle.rules.proofs.Settling.{Settled, SettledAll, SettledOne, SettledEnv, settled_extend, normal_type_lem, type_normal, then_some, then_is, unless_some, unless_is}

-- a fresh module of a signature that matches is finer
pub fits_along_fresh : (Γ : Env) (a b : Signature) → Fits Γ a b → Along at (extend Γ b) (extend Γ a)
fits_along_fresh Γ a b m = narrow_along Γ a b (knows_gives (fits_fresh m))

-- what is not found at all
pub none_before : (c : Components) (s : Sort) (x y : Name) (d : Declaration) → find s x (more c y d) ≡ None → (find s x c ≡ None) × (sort_of d ≡ s → y ≡ x → ⊥)
none_before c s x y d = go (find s x c)
  where
    go :
        (o : Option Declaration) → first_of o (cond (same_sort s (sort_of d) && bytes_eq x y) (Some d) None) ≡ None →
        (o ≡ None) × (sort_of d ≡ s → y ≡ x → ⊥)
    go (Some b) e = cc
    go None e = (
      refl,
      λ p q.
          let i : same_sort s (sort_of d) ≡ true = ap (same_sort s) p ∙ same_sort_self s in
          let j : bytes_eq x y ≡ true = ap (bytes_eq x) q ∙ same_bytes_self x in
          let k : Some d ≡ None = sym (ap₂ (λ a b. cond (a && b) (Some d) None) i j) ∙ e in
          (cc),
    )

-- a signature and its normal form
pub record NormalOf (Γ : Env) (s n : Signature) : Type 0 where
  pub proper : Proper Γ s
  pub settled : Settled Γ n
  pub forth : Fits Γ s n
  pub back : Fits Γ n s
  pub extents : extent n ≡ extent s

pub record NormalOfAll (Γ : Env) (c n : Components) : Type 0 where
  pub proper : ProperAll Γ c
  pub settled : SettledAll Γ n
  pub forth : Fits Γ (structure c) (structure n)
  pub back : Fits Γ (structure n) (structure c)
  pub extents : extent_all n ≡ extent_all c
  pub absent : (s : Sort) (x : Name) → find s x c ≡ None → find s x n ≡ None

pub data NormalOfOne (Γ : Env) : Declaration → Declaration → Type 0 where
  n_abstract : NormalOfOne Γ abstract abstract
  n_defined : {t n : Ty} → Normal Γ t n → NormalOfOne Γ (defined t) (defined n)
  n_value : {t n : Ty} → Normal Γ t n → NormalOfOne Γ (value t) (value n)
  n_nested : {s n : Signature} → NormalOf Γ s n → NormalOfOne Γ (nested s) (nested n)

one_sort : {Γ : Env} {d e : Declaration} → NormalOfOne Γ d e → sort_of e ≡ sort_of d
one_sort n_abstract = refl
one_sort (n_defined m) = refl
one_sort (n_value m) = refl
one_sort (n_nested m) = refl

one_extent : {Γ : Env} {d e : Declaration} → NormalOfOne Γ d e → extent_one e ≡ extent_one d
one_extent n_abstract = refl
one_extent (n_defined m) = refl
one_extent (n_value m) = refl
one_extent (n_nested m) = m.extents

one_settled : {Γ : Env} {d e : Declaration} → NormalOfOne Γ d e → SettledOne Γ e
one_settled n_abstract = tt
one_settled (n_defined m) = normal_normal m
one_settled (n_value m) = normal_normal m
one_settled (n_nested m) = m.settled

-- where the structure of the normal forms is known, and so where the structure itself is
one_proper : (Γ Δ : Env) {d e : Declaration} → NormalOfOne Γ d e → Along at Γ Δ → ProperOne Δ d
one_proper Γ Δ n_abstract k = tt
one_proper Γ Δ (n_defined {n = n} m) k = typed_finer k (n, m)
one_proper Γ Δ (n_value {n = n} m) k = typed_finer k (n, m)
one_proper Γ Δ (n_nested {s = s} m) k = proper_finer Γ Δ s k m.proper

-- the declaration given for its normal form
one_forth :
    (Γ : Env) (c b : Components) (x : Name) {d e : Declaration} → Fits Γ (structure c) (structure b) → NormalOfOne (extend Γ (structure b)) d e →
    find (sort_of d) x c ≡ None → GivesOne (extend Γ (structure (more c x d))) innermost x e
one_forth Γ c b x f n_abstract a = (leaf (named innermost x), opaque (last_has Γ c x abstract a))
one_forth Γ c b x f (n_defined {t = t} {n = n} m) a =
    let w = normal_finer (fits_along_fresh Γ (structure c) (structure b) f) m in
    let v = same_finer (longer_extend Γ c x (defined t)) w.1 w.2 in
    (v.0, unfolds t (last_has Γ c x (defined t) a) v.1, v.2)
one_forth Γ c b x f (n_value {t = t} {n = n} m) a =
    let w = normal_finer (fits_along_fresh Γ (structure c) (structure b) f) m in
    let v = same_finer (longer_extend Γ c x (value t)) w.1 w.2 in
    (t, v.0, last_has Γ c x (value t) a, v.1, v.2)
one_forth Γ c b x f (n_nested {s = s} m) a =
    at_fits (has_at (last_has Γ c x (nested s) a))
    (fits_finer (longer_extend Γ c x (nested s)) (fits_finer (fits_along_fresh Γ (structure c) (structure b) f) m.forth))

one_back :
    (Γ : Env) (b : Components) (x : Name) {d e : Declaration} → NormalOfOne (extend Γ (structure b)) d e →
    find (sort_of e) x b ≡ None → GivesOne (extend Γ (structure (more b x e))) innermost x d
one_back Γ b x n_abstract a = (leaf (named innermost x), opaque (last_has Γ b x abstract a))
one_back Γ b x (n_defined {t = t} {n = n} m) a =
    let v = same_finer (longer_extend Γ b x (defined n)) (normal_normal m) m in
    (v.0, unfolds n (last_has Γ b x (defined n) a) v.1, v.2)
one_back Γ b x (n_value {t = t} {n = n} m) a =
    let v = same_finer (longer_extend Γ b x (value n)) (normal_normal m) m in
    (n, v.0, last_has Γ b x (value n) a, v.1, v.2)
one_back Γ b x (n_nested {n = n} m) a =
    at_fits (has_at (last_has Γ b x (nested n) a)) (fits_finer (longer_extend Γ b x (nested n)) m.back)

all_more :
    (Γ : Env) (c b : Components) (x : Name) (d e : Declaration) → NormalOfAll Γ c b → find (sort_of d) x c ≡ None →
    NormalOfOne (extend Γ (structure b)) d e → NormalOfAll Γ (more c x d) (more b x e)
all_more Γ c b x d e w a o =
    let a' : find (sort_of e) x b ≡ None = ap (λ s. find s x b) (one_sort o) ∙ w.absent (sort_of d) x a in
    record {
      proper = (w.proper, a, one_proper (extend Γ (structure b)) (extend Γ (structure c)) o (fits_along_fresh Γ (structure c) (structure b) w.forth));
      settled = (w.settled, a', one_settled o);
      forth = fits_more Γ c b x d e w.forth (one_forth Γ c b x w.forth o a);
      back = fits_more Γ b c x e d w.back (one_back Γ b x o a');
      extents = ap₂ (λ m n. m + n) w.extents (one_extent o);
      absent = λ s y f.
          let v = none_before c s y x d f in
          find_none b s y x e (w.absent s y v.0) (λ p q. v.1 (sym (one_sort o) ∙ p) q);
    }

functor_normal : (Γ : Env) (s r a b : Signature) → NormalOf Γ s a → NormalOf (extend Γ a) r b → NormalOf Γ (functor s r) (functor a b)
functor_normal Γ s r a b w v = record {
  proper = (w.proper, proper_finer (extend Γ a) (extend Γ s) r (fits_along_fresh Γ s a w.forth) v.proper);
  settled = (w.settled, v.settled);
  forth = f_functor w.back v.forth;
  back = f_functor w.forth (fits_finer (fits_along_fresh Γ s a w.forth) v.back);
  extents = ap₂ (λ m n. suc (m + n)) w.extents v.extents;
}

structure_normal : (Γ : Env) (c b : Components) → NormalOfAll Γ c b → NormalOf Γ (structure c) (structure b)
structure_normal Γ c b w = record { proper = w.proper; settled = w.settled; forth = w.forth; back = w.back; extents = ap suc w.extents }

mutual
  pub normalize_is : (s : Signature) (Γ : Env) (n : Signature) → SettledEnv Γ → normalize Γ s ≡ Some n → NormalOf Γ s n
  normalize_is (structure c) Γ n e q =
      let w = was_some structure (normalize_all Γ c) n q in
      subst (NormalOf Γ (structure c)) w.2 (structure_normal Γ c w.0 (normalize_all_is c Γ w.0 e w.1))
  normalize_is (functor s r) Γ n e q =
      let w = then_some (normalize Γ s) (λ a. on_some (functor a) (normalize (extend Γ a) r)) n q in
      let a = w.0 in
      let v = was_some (functor a) (normalize (extend Γ a) r) n w.2 in
      let i = normalize_is s Γ a e w.1 in
      subst (NormalOf Γ (functor s r)) v.2
      (functor_normal Γ s r a v.0 i (normalize_is r (extend Γ a) v.0 (settled_extend Γ a e i.settled) v.1))

  pub normalize_all_is : (c : Components) (Γ : Env) (n : Components) → SettledEnv Γ → normalize_all Γ c ≡ Some n → NormalOfAll Γ c n
  normalize_all_is empty Γ n e q =
      let i : empty ≡ n = cc in
      subst (NormalOfAll Γ empty) i
      (record { proper = tt; settled = tt; forth = f_structure g_none; back = f_structure g_none; extents = refl; absent = λ s x f. refl })
  normalize_all_is (more c x d) Γ n e q =
      let w = then_some (normalize_all Γ c) (λ b. unless (find (sort_of d) x c) (on_some (more b x) (normalize_one (extend Γ (structure b)) d))) n q in
      let b = w.0 in
      let v = unless_some (find (sort_of d) x c) (on_some (more b x) (normalize_one (extend Γ (structure b)) d)) n w.2 in
      let y = was_some (more b x) (normalize_one (extend Γ (structure b)) d) n v.1 in
      let i = normalize_all_is c Γ b e w.1 in
      subst (NormalOfAll Γ (more c x d)) y.2
      (all_more Γ c b x d y.0 i v.0
      (normalize_one_is d (extend Γ (structure b)) y.0 (settled_extend Γ (structure b) e i.settled) y.1))

  pub normalize_one_is : (d : Declaration) (Γ : Env) (n : Declaration) → SettledEnv Γ → normalize_one Γ d ≡ Some n → NormalOfOne Γ d n
  normalize_one_is abstract Γ n e q = let i : abstract ≡ n = cc in subst (NormalOfOne Γ abstract) i n_abstract
  normalize_one_is (defined t) Γ n e q =
      let w = was_some defined (normal_type Γ t) n q in subst (NormalOfOne Γ (defined t)) w.2 (n_defined (normal_type_lem Γ t w.0 e w.1))
  normalize_one_is (value t) Γ n e q =
      let w = was_some value (normal_type Γ t) n q in subst (NormalOfOne Γ (value t)) w.2 (n_value (normal_type_lem Γ t w.0 e w.1))
  normalize_one_is (nested s) Γ n e q =
      let w = was_some nested (normalize Γ s) n q in subst (NormalOfOne Γ (nested s)) w.2 (n_nested (normalize_is s Γ w.0 e w.1))

mutual
  pub normalize_proper : (s : Signature) (Γ : Env) → SettledEnv Γ → Proper Γ s → (n : Signature) × (normalize Γ s ≡ Some n)
  normalize_proper (structure c) Γ e w = let v = normalize_all_proper c Γ e w in (structure v.0, ap (on_some structure) v.1)
  normalize_proper (functor s r) Γ e w =
      let v = normalize_proper s Γ e w.0 in
      let a = v.0 in
      let i = normalize_is s Γ a e v.1 in
      let y = normalize_proper r (extend Γ a) (settled_extend Γ a e i.settled)
      (proper_finer (extend Γ s) (extend Γ a) r (fits_along_fresh Γ a s i.back) w.1) in (
        functor a y.0,
        then_is (normalize Γ s) (λ a. on_some (functor a) (normalize (extend Γ a) r)) a (functor a y.0) v.1 (ap (on_some (functor a)) y.1),
      )

  pub normalize_all_proper : (c : Components) (Γ : Env) → SettledEnv Γ → ProperAll Γ c → (n : Components) × (normalize_all Γ c ≡ Some n)
  normalize_all_proper empty Γ e w = (empty, refl)
  normalize_all_proper (more c x d) Γ e w =
      let v = normalize_all_proper c Γ e w.0 in
      let b = v.0 in
      let i = normalize_all_is c Γ b e v.1 in
      let Γ+ = extend Γ (structure b) in
      let p = subst (ProperOne Γ+) (declaration_id d)
      (proper_one_along d (extend Γ (structure c)) Γ+ at (fits_along_fresh Γ (structure b) (structure c) i.back) w.2) in
      let y = normalize_one_proper d Γ+ (settled_extend Γ (structure b) e i.settled) p in (
        more b x y.0,
        then_is (normalize_all Γ c) (λ b. unless (find (sort_of d) x c) (on_some (more b x) (normalize_one (extend Γ (structure b)) d))) b (more b x y.0) v.1
            (unless_is (find (sort_of d) x c) (on_some (more b x) (normalize_one Γ+ d)) (more b x y.0) w.1 (ap (on_some (more b x)) y.1)),
      )

  pub normalize_one_proper : (d : Declaration) (Γ : Env) → SettledEnv Γ → ProperOne Γ d → (n : Declaration) × (normalize_one Γ d ≡ Some n)
  normalize_one_proper abstract Γ e w = (abstract, refl)
  normalize_one_proper (defined t) Γ e w = (defined w.0, ap (on_some defined) (type_normal e w.1))
  normalize_one_proper (value t) Γ e w = (value w.0, ap (on_some value) (type_normal e w.1))
  normalize_one_proper (nested s) Γ e w = let v = normalize_proper s Γ e w in (nested v.0, ap (on_some nested) v.1)
