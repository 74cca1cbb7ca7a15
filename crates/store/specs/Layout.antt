-- How a directory and texts lie in the bytes of a store.
use Rattle.std.specs.Prelude.{ℕ, ◌+◌, ◌*◌, cond, ◌&&◌, List, [], ◌++◌, map, length, take, drop, ◌==◌}
use Rattle.std.specs.List.{range_with_len, flat_map}
use Rattle.store.specs.declared.entry.Entry.{Entry}
use Rattle.store.specs.Numbers.{spread, gather, laid}
use Rattle.store.specs.Entries.{lawful}

-- a record has 22 bytes: the name's number in 16, its bytes in 1, its place in 2, the text's bytes in 2, the rank in 1
unfoldable pub record_bytes : Entry → List ℕ
record_bytes e = spread 16 e.name ++ (spread 1 e.size ++ (spread 2 e.place ++ (spread 2 e.span ++ spread 1 e.rank)))

-- a directory: one byte for the count, then the records
unfoldable pub encode : List Entry → List ℕ
encode es = spread 1 (length es) ++ flat_map record_bytes es

-- the record that stands at a place
unfoldable pub record_at : List ℕ → ℕ → Entry
record_at s at = record {
  name = gather (take 16 (drop at s));
  size = gather (take 1 (drop (at + 16) s));
  place = gather (take 2 (drop (at + 17) s));
  span = gather (take 2 (drop (at + 19) s));
  rank = gather (take 1 (drop (at + 21) s));
}

-- the first n records
abbrev pub records : List ℕ → ℕ → List Entry
records s n = map (λ k. record_at s (1 + 22 * k)) (range_with_len 0 n)

-- the records that bytes tell, lawful or not
abbrev pub decode : List ℕ → List Entry
decode s = records s (gather (take 1 s))

-- the records of a store; none where the store is unlawful or has not 65,536 bytes
abbrev pub stored : List ℕ → List Entry
stored s = cond (length s == 65536 && lawful (decode s)) (decode s) []

-- what a store holds once records are written: count and records from its start on, and every other byte as before
abbrev pub written : List Entry → List ℕ → List ℕ
written es s = cond (length s == 65536) (laid 0 (encode es) s) s
