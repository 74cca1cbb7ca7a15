-- What each unit reaches, as rows of marks: bit j of row i says that the unit at i reaches the one at j.
use Rattle.std.specs.Prelude.{◌≡◌, ℕ, ◌<◌, Bool, ◌&&◌, ◌||◌, List, slice_index}
use Rattle.order.specs.Units.{Units}
use Rattle.order.specs.Reaching.{reach}
use Rattle.order.specs.Seen.{bit}

-- bit j of row i, once each row that has bit k takes up the bits of row k
abbrev pub joined : List ℕ → ℕ → ℕ → ℕ → Bool
joined rows k i j = bit (slice_index rows i) j || (bit (slice_index rows i) k && bit (slice_index rows k) j)

-- the rows say what each unit reaches by way of places below k
abbrev pub Rows : Units → ℕ → List ℕ → Type 0
Rows u k rows = (i j : ℕ) → i < u.count → j < u.count → bit (slice_index rows i) j ≡ reach u k i j
