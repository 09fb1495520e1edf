-- How much of a file is written.
use Rattle.std.specs.Prelude.{ℕ, ◌-◌, ◌*◌, vec_len}
use Rattle.made_files.specs.declared.builder.Builder.{Builder}

-- how many bits are written
abbrev pub bit_count : Builder → ℕ
bit_count b = 8 * vec_len b.bytes - b.free
