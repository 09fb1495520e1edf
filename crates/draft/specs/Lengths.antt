-- How long a book file is.
use Rattle.std.specs.Prelude.{ℕ, ◌+◌, ◌*◌, ◌/◌, map, length, sum_by, sum}
use Rattle.grammar.specs.Contents.{Table, Contents}

-- the bits of a table: its heading, and its rows
abbrev pub table_bits_of : Table → ℕ
table_bits_of t = 14 + 5 * length t.scope + 5 * length t.scope * length t.rows

-- the bits before the filling
abbrev pub file_bits : Contents → ℕ
file_bits c = 19 + 10 * length c.sizes + sum_by table_bits_of c.tables

-- the bytes of a file
abbrev pub file_length_of : Contents → ℕ
file_length_of c = (file_bits c + 7) / 8 + sum (map length c.names)
