-- The number that decimal digits write.
use Rattle.std.specs.Prelude.{ℕ, ◌+◌, ◌-◌, ◌*◌, List, fold}

-- the digits from the left, each worth ten times the next; 48 is the byte of the digit 0
abbrev pub decimal : List ℕ → ℕ
decimal bs = fold (λ n b. n * 10 + (b - 48)) 0 bs
