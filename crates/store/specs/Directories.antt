-- A directory stands for the list of its entries; its fields, and the answers of its calls.
use Rattle.std.specs.Prelude.{◌≡◌, ℕ, ◌-◌, ◌<◌, ◌≤◌, true, false, List, length, take, drop, replicate, Option, MatchOption}
use Rattle.store.specs.declared.entry.Entry.{Entry}
use Rattle.store.specs.declared.directory.Directory.{Directory}
use Rattle.store.specs.declared.directory.Directory.TheInside.{Inside}
use Rattle.store.specs.Entries.{blank, lawful, seat, fits, entered, vacated}

-- what the fields of every directory keep: 16 places, of which the first hold lawful entries, and the others are blank
pub record IsDirectory (d : Inside) : Type 0 where
  pub long : length d.entries ≡ 16
  pub few : d.count ≤ 16
  pub ok : lawful (take d.count d.entries) ≡ true
  pub rest : drop d.count d.entries ≡ replicate (16 - d.count) blank

-- the directory with one entry more, or with it in place of the one of its name, and its place; refused where it does not fit
abbrev pub With : Entry → List Entry → Option (Directory × ℕ) → Type 0
With e es r = MatchOption r (fits e es ≡ false) (λ p. (fits e es ≡ true) × (p.0 ≡ entered (seat e.name es) e es) × (p.1 ≡ seat e.name es))

-- the directory without the entry of a name, and the place that it had; refused where no entry has the name
abbrev pub Without : ℕ → List Entry → Option (Directory × ℕ) → Type 0
Without n es r = MatchOption r (length es ≤ seat n es) (λ p. (seat n es < length es) × (p.0 ≡ vacated (seat n es) blank es) × (p.1 ≡ seat n es))
