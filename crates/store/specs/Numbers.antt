-- Numbers as bytes, the highest byte first, and bytes laid over others.
use Rattle.std.specs.Prelude.{ℕ, zero, suc, ◌+◌, ◌/◌, ◌%◌, ◌^◌, List, [], ◌∷◌, ◌++◌, length, take, drop}
use Rattle.std.specs.Int.Digits.{number_from_digits}

-- the lowest k digits of a number to the base 256, the highest first
unfoldable pub spread : ℕ → ℕ → List ℕ
spread zero n = []
spread (suc k) n = ((n / 256 ^ k) % 256) ∷ spread k n

-- the number whose digits to the base 256 these are, the highest first
abbrev pub gather : List ℕ → ℕ
gather bs = number_from_digits 256 bs

-- what is left when bytes are written over others from a place on
abbrev pub laid : ℕ → List ℕ → List ℕ → List ℕ
laid at bs s = take at s ++ (bs ++ drop (at + length bs) s)
