-- The file of the sample book.
use Rattle.std.specs.Prelude.{◌≡◌, ℕ, ◌*◌, ◌≤◌, List, [], ◌∷◌, ◌++◌, map, length, Ok, codes}
use Rattle.std.specs.List.{flat_map}
use Rattle.book.specs.Parse.{parse}
use Rattle.book_fields.specs.declared.field.Field.{Field}
use Rattle.draft.specs.Encoding.{spelt, encode}
use Rattle.draft.specs.Entries.{Entry, count_fields, option_fields, tables_fields, numbered, fields}
use Rattle.worked_theorem.specs.Books.{sample}

-- the fields before the filling
abbrev pub front : List Entry
front = count_fields 3 2 ++ (option_fields 0 sample.sizes (map length sample.names) ++ tables_fields 0 0 sample.tables)

abbrev pub filling : List Entry
filling = (Field.Filling, 0) ∷ []

-- the bytes of all names
abbrev pub letters : List ℕ
letters = flat_map (λ name. name) sample.names

-- the bytes of the file: fields and filling, and the three names
abbrev pub bytes : List ℕ
bytes =
    1 ∷ 24 ∷ 66 ∷ 32 ∷ 78 ∷ 18 ∷ 144 ∷ 4 ∷ 2 ∷ 0 ∷ 1 ∷ 0 ∷ 66 ∷ 32 ∷ 144 ∷ 136 ∷ 1 ∷ 128 ∷ 0 ∷ 8 ∷ 66
    ∷ (codes "gate" ++ (codes "divider" ++ codes "stand"))

pub record Filed : Type 0 where
  -- the file has the fields, the filling and the names, one behind another
  pub order : fields sample ≡ front ++ (filling ++ numbered Field.NameByte 0 letters)
  -- they take 167 bits, one bit and 16 bytes
  pub field_bits : length (spelt 0 front) ≡ 167
  pub filling_bits : length (spelt 167 filling) ≡ 1
  pub name_bytes : length letters ≡ 16
  pub name_bits : length (spelt 168 (numbered Field.NameByte 0 letters)) ≡ 8 * 16
  pub joined_bits : spelt 0 (fields sample) ≡ spelt 0 front ++ (spelt 167 filling ++ spelt 168 (numbered Field.NameByte 0 letters))
  -- which are 37 bytes, these
  pub length_is : length (encode sample) ≡ 37
  pub bytes_are : encode sample ≡ bytes
  -- and read, with room for its seven rows, as the sample book
  pub read : (room : ℕ) → 7 ≤ room → parse bytes room ≡ Ok sample
