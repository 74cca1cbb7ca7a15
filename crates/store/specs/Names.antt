-- Names as numbers.
use Rattle.std.specs.Prelude.{◌≡◌, ℕ, suc, ◌-◌, ◌<◌, Bool, true, cond, not, ◌&&◌, ◌⊎◌, List, [], ◌∷◌, ◌++◌, length, replicate, Some, None, Option, ◌==◌, nat_le, nat_lt}
use Rattle.std.specs.Int.Digits.{AllBelowBase}
use Rattle.store.specs.Numbers.{gather}

-- no byte is zero
abbrev pub no_zero : List ℕ → Bool
no_zero [] = true
no_zero (b ∷ bs) = not (b == 0) && no_zero bs

-- bytes that can be a name: 1 to 16 of them, none of them zero
abbrev pub is_name : List ℕ → Bool
is_name bs = nat_lt 0 (length bs) && (nat_le (length bs) 16 && no_zero bs)

-- the number whose 16 digits to the base 256 are the bytes of the name, filled up at the right with zeros
abbrev pub number_of : List ℕ → ℕ
number_of bs = gather (bs ++ replicate (16 - length bs) 0)

-- the number of a name; other bytes have none
abbrev pub name_number : List ℕ → Option ℕ
name_number bs = cond (is_name bs) (Some (number_of bs)) None

-- a name is less than another byte by byte, and less than any longer one that it begins
abbrev pub NameLess : List ℕ → List ℕ → Type 0
NameLess [] [] = ⊥
NameLess [] (y ∷ ys) = Unit {0}
NameLess (x ∷ xs) [] = ⊥
NameLess (x ∷ xs) (y ∷ ys) = (x < y) ⊎ ((x ≡ y) × NameLess xs ys)

-- another name has the same number only when it is the same name, and the order of the numbers is the order of the names
abbrev pub Ordered : List ℕ → Option ℕ → Type 0
Ordered a r =
    (b : List ℕ) (m n : ℕ) → AllBelowBase 256 b → r ≡ Some m → name_number b ≡ Some n →
    (m ≡ n → a ≡ b) × (m < n → NameLess a b) × (NameLess a b → m < n)

-- how many digits stand before the first zero
abbrev pub front : List ℕ → ℕ
front [] = 0
front (b ∷ bs) = cond (b == 0) 0 (suc (front bs))

-- the 16 digits of the number of a name are its bytes, and zeros behind them
abbrev pub Spells : ℕ → List ℕ → Type 0
Spells n ds = (bs : List ℕ) → AllBelowBase 256 bs → name_number bs ≡ Some n → ds ≡ bs ++ replicate (16 - length bs) 0

-- the number of a name tells how many bytes the name has
abbrev pub Sizes : ℕ → ℕ → Type 0
Sizes n r = (bs : List ℕ) → AllBelowBase 256 bs → name_number bs ≡ Some n → r ≡ length bs
