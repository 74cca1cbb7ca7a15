-- Types: labels with 0, 1 or 2 parts over leaves. A leaf is a path to a type, or a number that stands for such a path.
use Rattle.std.specs.Prelude.{ℕ, suc, ◌+◌, Bool, false, cond, ◌&&◌, List, ◌==◌, nat_lt}
use Rattle.std.specs.Str.{bytes_eq}

-- a name, by its bytes
abbrev pub Name : Type 0
Name = List ℕ

-- what a path begins at: a unit, or a binder counted outward from the innermost one
pub data Head : Type 0 where
  unit : Name → Head
  binder : ℕ → Head

-- a path to a module: a head, then the names of modules in modules
pub data ModulePath : Type 0 where
  at : Head → ModulePath
  dot : ModulePath → Name → ModulePath

-- a path to a type, or an abstract type that is known by a number
pub data Leaf : Type 0 where
  named : ModulePath → Name → Leaf
  numbered : ℕ → Leaf

-- a leaf, or a label with its parts; labels are known by their numbers
pub data Ty : Type 0 where
  leaf : Leaf → Ty
  label0 : ℕ → Ty
  label1 : ℕ → Ty → Ty
  label2 : ℕ → Ty → Ty → Ty

-- the number of labels and leaves
abbrev pub size : Ty → ℕ
size (leaf x) = 1
size (label0 l) = 1
size (label1 l t) = suc (size t)
size (label2 l t u) = suc (size t + size u)

-- each leaf replaced by a type
abbrev pub replace : (Leaf → Ty) → Ty → Ty
replace θ (leaf x) = θ x
replace θ (label0 l) = label0 l
replace θ (label1 l t) = label1 l (replace θ t)
replace θ (label2 l t u) = label2 l (replace θ t) (replace θ u)

-- each part that is opaque to a core with n words replaced by a type: a leaf, or a part whose label is no word of the core
abbrev pub replace_opaque : ℕ → (Ty → Ty) → Ty → Ty
replace_opaque n θ (leaf x) = θ (leaf x)
replace_opaque n θ (label0 l) = cond (nat_lt l n) (label0 l) (θ (label0 l))
replace_opaque n θ (label1 l t) = cond (nat_lt l n) (label1 l (replace_opaque n θ t)) (θ (label1 l t))
replace_opaque n θ (label2 l t u) =
    cond (nat_lt l n) (label2 l (replace_opaque n θ t) (replace_opaque n θ u)) (θ (label2 l t u))

-- whether two heads, paths, leaves or types are the same
abbrev pub same_head : Head → Head → Bool
same_head (unit x) (unit y) = bytes_eq x y
same_head (unit x) (binder j) = false
same_head (binder i) (unit y) = false
same_head (binder i) (binder j) = i == j

abbrev pub same_path : ModulePath → ModulePath → Bool
same_path (at h) (at k) = same_head h k
same_path (at h) (dot q y) = false
same_path (dot p x) (at k) = false
same_path (dot p x) (dot q y) = same_path p q && bytes_eq x y

abbrev pub same_leaf : Leaf → Leaf → Bool
same_leaf (named p x) (named q y) = same_path p q && bytes_eq x y
same_leaf (named p x) (numbered n) = false
same_leaf (numbered m) (named q y) = false
same_leaf (numbered m) (numbered n) = m == n

abbrev pub same : Ty → Ty → Bool
same (leaf x) (leaf y) = same_leaf x y
same (leaf x) (label0 m) = false
same (leaf x) (label1 m u) = false
same (leaf x) (label2 m u w) = false
same (label0 l) (leaf y) = false
same (label0 l) (label0 m) = l == m
same (label0 l) (label1 m u) = false
same (label0 l) (label2 m u w) = false
same (label1 l t) (leaf y) = false
same (label1 l t) (label0 m) = false
same (label1 l t) (label1 m u) = l == m && same t u
same (label1 l t) (label2 m u w) = false
same (label2 l t v) (leaf y) = false
same (label2 l t v) (label0 m) = false
same (label2 l t v) (label1 m u) = false
same (label2 l t v) (label2 m u w) = l == m && (same t u && same v w)
