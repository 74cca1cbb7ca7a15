-- The least of the marked places, by a test of which of two places comes before the other.
use Rattle.std.specs.Prelude.{ℕ, zero, suc, Bool, true, false, cond, Some, None, Option}

-- the least once the place i is looked at too: i only where it is marked and comes before the least so far
abbrev pub kept : (ℕ → ℕ → Bool) → Bool → ℕ → Option ℕ → Option ℕ
kept before false i least = least
kept before true i None = Some i
kept before true i (Some j) = Some (cond (before i j) i j)

-- the least marked place below n, if any is marked
abbrev pub best : (ℕ → Bool) → (ℕ → ℕ → Bool) → ℕ → Option ℕ
best mark before zero = None
best mark before (suc i) = kept before (mark i) i (best mark before i)
