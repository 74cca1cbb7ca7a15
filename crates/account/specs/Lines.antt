-- The line and the column of a place in a text, both counted from 0.
use Rattle.std.specs.Prelude.{ℕ, ◌+◌, ◌-◌, Bool, not, List, take, drop, count_by, ◌==◌}
use Rattle.std.specs.List.{prefix_len, suffix_len}

abbrev pub is_line_feed : ℕ → Bool
is_line_feed b = b == 10

abbrev pub stays_on_line : ℕ → Bool
stays_on_line b = not (is_line_feed b)

-- how many line feeds stand before a place
abbrev pub line_of : List ℕ → ℕ → ℕ
line_of text place = count_by is_line_feed (take place text)

-- how many bytes stand between the last line feed before a place and the place
abbrev pub column_of : List ℕ → ℕ → ℕ
column_of text place = suffix_len stays_on_line (take place text)

-- the line that a place stands in, without its line feed
abbrev pub line_around : List ℕ → ℕ → List ℕ
line_around text place =
    take (column_of text place + prefix_len stays_on_line (drop place text)) (drop (place - column_of text place) text)
