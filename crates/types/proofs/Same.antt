-- `same` decides whether types are equal.
use Rattle.std.proofs.Common.{◌≡◌, ℕ, Bool, true, false, ◌&&◌, eqb, List, Some, None, Option, refl, ap}
use mathlib.Core.Bool.{false≢true}
use Rattle.std.specs.Str.{bytes_eq}
use Rattle.std.proofs.lemmas.Slice.Eq.{bytes_eq-Decides}
use Rattle.std.proofs.lemmas.Bool.Decides.{Decides-eqb}
use Rattle.std.specs.Option.{option_map}
use Rattle.types.specs.Types.{Head, unit, binder, ModulePath, at, dot, Leaf, named, numbered, Ty, leaf, label0, label1, label2, same_head, same_path, same_leaf, same}

-- what a changed answer came from
pub mapped_some : {A B : Type 0} (f : A → B) (o : Option A) (y : B) → option_map f o ≡ Some y → (x : A) × (o ≡ Some x) × (f x ≡ y)
mapped_some f None y e = absurd (cc)
mapped_some f (Some x) y e = (x, refl, (cc))

pub both : (x y : Bool) → (x && y) ≡ true → (x ≡ true) × (y ≡ true)
both true y e = (refl, e)
both false y e = absurd (false≢true e)

pub both_true : (x y : Bool) → x ≡ true → y ≡ true → (x && y) ≡ true
both_true x y p q = cc

pub eqb_equal : (m n : ℕ) → eqb m n ≡ true → m ≡ n
eqb_equal m n = (Decides-eqb m n).0

pub eqb_self : (m : ℕ) → eqb m m ≡ true
eqb_self m = (Decides-eqb m m).1 refl

pub bytes_equal : (x y : List ℕ) → bytes_eq x y ≡ true → x ≡ y
bytes_equal x y = (bytes_eq-Decides x y).0

pub bytes_self : (x : List ℕ) → bytes_eq x x ≡ true
bytes_self x = (bytes_eq-Decides x x).1 refl

head_equal : (h k : Head) → same_head h k ≡ true → h ≡ k
head_equal (unit x) (unit y) e = ap unit (bytes_equal x y e)
head_equal (unit x) (binder j) e = absurd (false≢true e)
head_equal (binder i) (unit y) e = absurd (false≢true e)
head_equal (binder i) (binder j) e = ap binder (eqb_equal i j e)

head_self : (h : Head) → same_head h h ≡ true
head_self (unit x) = bytes_self x
head_self (binder i) = eqb_self i

path_equal : (p q : ModulePath) → same_path p q ≡ true → p ≡ q
path_equal (at h) (at k) e = ap at (head_equal h k e)
path_equal (at h) (dot q y) e = absurd (false≢true e)
path_equal (dot p x) (at k) e = absurd (false≢true e)
path_equal (dot p x) (dot q y) e =
    let f = both (same_path p q) (bytes_eq x y) e in
    let g = path_equal p q f.0 in
    let h = bytes_equal x y f.1 in
    cc

path_self : (p : ModulePath) → same_path p p ≡ true
path_self (at h) = head_self h
path_self (dot p x) = both_true _ _ (path_self p) (bytes_self x)

leaf_equal : (x y : Leaf) → same_leaf x y ≡ true → x ≡ y
leaf_equal (named p x) (named q y) e =
    let f = both (same_path p q) (bytes_eq x y) e in
    let g = path_equal p q f.0 in
    let h = bytes_equal x y f.1 in
    cc
leaf_equal (named p x) (numbered n) e = absurd (false≢true e)
leaf_equal (numbered m) (named q y) e = absurd (false≢true e)
leaf_equal (numbered m) (numbered n) e = ap numbered (eqb_equal m n e)

leaf_self : (x : Leaf) → same_leaf x x ≡ true
leaf_self (named p x) = both_true _ _ (path_self p) (bytes_self x)
leaf_self (numbered n) = eqb_self n

pub same_equal : (t u : Ty) → same t u ≡ true → t ≡ u
same_equal (leaf x) (leaf y) e = ap leaf (leaf_equal x y e)
same_equal (leaf x) (label0 m) e = absurd (false≢true e)
same_equal (leaf x) (label1 m u) e = absurd (false≢true e)
same_equal (leaf x) (label2 m u w) e = absurd (false≢true e)
same_equal (label0 l) (leaf y) e = absurd (false≢true e)
same_equal (label0 l) (label0 m) e = ap label0 (eqb_equal l m e)
same_equal (label0 l) (label1 m u) e = absurd (false≢true e)
same_equal (label0 l) (label2 m u w) e = absurd (false≢true e)
same_equal (label1 l t) (leaf y) e = absurd (false≢true e)
same_equal (label1 l t) (label0 m) e = absurd (false≢true e)
same_equal (label1 l t) (label1 m u) e =
    let f = both (eqb l m) (same t u) e in
    let g = eqb_equal l m f.0 in
    let h = same_equal t u f.1 in
    cc
same_equal (label1 l t) (label2 m u w) e = absurd (false≢true e)
same_equal (label2 l t v) (leaf y) e = absurd (false≢true e)
same_equal (label2 l t v) (label0 m) e = absurd (false≢true e)
same_equal (label2 l t v) (label1 m u) e = absurd (false≢true e)
same_equal (label2 l t v) (label2 m u w) e =
    let f = both (eqb l m) (same t u && same v w) e in
    let d = both (same t u) (same v w) f.1 in
    let g = eqb_equal l m f.0 in
    let h = same_equal t u d.0 in
    let i = same_equal v w d.1 in
    cc

pub same_self : (t : Ty) → same t t ≡ true
same_self (leaf x) = leaf_self x
same_self (label0 l) = eqb_self l
same_self (label1 l t) = both_true _ _ (eqb_self l) (same_self t)
same_self (label2 l t u) = both_true _ _ (eqb_self l) (both_true _ _ (same_self t) (same_self u))
