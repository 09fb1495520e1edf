-- How a read book keeps its contents: the rows of all tables lie in one slice, table after table, and a row has four places.
use Rattle.std.specs.Prelude.{◌≡◌, ℕ, ◌+◌, ◌-◌, ◌<◌, ◌≤◌, List, [], ◌∷◌, ◌++◌, map, length, take, drop, replicate, sum, slice_index}
use Rattle.std.specs.List.{flat_map, AllByRecursion}
use Rattle.grammar.specs.Contents.{Table, Contents}
use Rattle.grammar.specs.declared.index.TableIndex.{TableIndex}
use Rattle.grammar.specs.declared.index.Index.{Index}

-- A table with n rows from place p ends before place p + n.
abbrev pub table_of : List (List ℕ) → TableIndex → Table
table_of rows t = record { scope = take t.arity t.scope; rows = map (take t.arity) (take t.count (drop t.start rows)) }

-- what holds of a table of a book of so many options, when the tables before it have so many rows
pub record Headed (options first : ℕ) (t : TableIndex) : Type 0 where
  pub some : 1 ≤ t.arity
  pub few : t.arity ≤ 4
  pub full : length t.scope ≡ 4
  pub known : (j : ℕ) → j < t.arity → slice_index t.scope j < options
  pub starts : t.start ≡ first
  pub ends : first + t.count ≤ 8192

-- a row of a scope of n options as it is kept: the places beyond the scope are 0
abbrev pub padded : ℕ → List ℕ → List ℕ
padded n row = row ++ replicate (4 - n) 0

abbrev pub Padded : ℕ → List ℕ → Type 0
Padded n row = row ≡ padded n (take n row)

-- the rows of a table as they are kept
abbrev pub laid : Table → List (List ℕ)
laid t = map (padded (length t.scope)) t.rows

-- The first n rows are those of the tables, one table after another, and each table lies among them.
pub record Laid (ts : List TableIndex) (rows : List (List ℕ)) (n : ℕ) : Type 0 where
  pub few : n ≤ 8192
  pub are : take n rows ≡ flat_map laid (map (table_of rows) ts)
  pub ends : AllByRecursion (λ t. t.start + t.count ≤ n) ts

-- the names, one after another
abbrev pub cut : List ℕ → List ℕ → List (List ℕ)
cut letters [] = []
cut letters (n ∷ ns) = take n letters ∷ cut (drop n letters) ns

-- what an index says of the rows and the name bytes that it was made with
abbrev pub contents_of : List (List ℕ) → List ℕ → Index → Contents
contents_of rows letters i = record {
  sizes = take i.options i.sizes;
  names = cut letters (take i.options i.lengths);
  tables = map (table_of rows) (take i.tables i.table);
}

-- What holds of an index and the rows that it was made with.
pub record Indexed (rows : List (List ℕ)) (i : Index) : Type 0 where
  pub few : i.options ≤ 24
  pub tabled : i.tables ≤ 48
  pub spelled : i.letters ≡ sum (take i.options i.lengths)
  pub short : i.letters ≤ 384
  pub laid : Laid (take i.tables i.table) rows i.rows
