-- Units that are missing, and units that reach themselves by naming.
use Rattle.std.specs.Prelude.{◌≡◌, ℕ, zero, suc, Bool, true, ◌&&◌, ◌||◌, Option}
use Rattle.order.specs.Units.{Units, names}
use Rattle.order.specs.Compare.{by_name}
use Rattle.order.specs.Least.{best}

-- the unit at i reaches the one at j by naming it, or by naming one that reaches it
pub data Reaches (u : Units) : ℕ → ℕ → Type 0 where
  direct : {i j : ℕ} → names u i j ≡ true → Reaches u i j
  onward : {i j k : ℕ} → names u i j ≡ true → Reaches u j k → Reaches u i k

-- the same as computed: i reaches j by way of places below k alone
abbrev pub reach : Units → ℕ → ℕ → ℕ → Bool
reach u zero i j = names u i j
reach u (suc k) i j = reach u k i j || (reach u k i k && reach u k k j)

-- the unit at i reaches itself
abbrev pub cyclic : Units → ℕ → Bool
cyclic u i = reach u u.count i i

-- the least-named unit that names a unit that is not stored
abbrev pub missing : Units → Option ℕ
missing u = best u.lacks (by_name u) u.count

-- the least-named unit that reaches itself
abbrev pub cycle : Units → Option ℕ
cycle u = best (cyclic u) (by_name u) u.count
