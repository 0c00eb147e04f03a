-- The bytes of a table: its next LSN, how many pairs there are, and the pairs, each an object and a number.
use Rattle.std.specs.Prelude.{◌≡◌, ◌<◌, ◌^◌, ℕ, List, ◌++◌, length, All}
use Rattle.std.specs.List.{flat_map}
use Rattle.byteorder.specs.Endian.{little_bytes}
use Rattle.dirty_page_table.specs.declared.table.DirtyPageTable.{DirtyPageTable}

abbrev pub start_code : ℕ × ℕ → List ℕ
start_code s = little_bytes 4 s.0 ++ little_bytes 8 s.1

abbrev pub table_code : DirtyPageTable → List ℕ
table_code table = little_bytes 8 table.next ++ (little_bytes 4 (length table.starts) ++ flat_map start_code table.starts)

-- the numbers have so many bytes
abbrev pub FitsStart : ℕ × ℕ → Type 0
FitsStart s = (s.0 < 2 ^ 32) × (s.1 < 2 ^ 64)

-- a table is in the grammar where its numbers have so many bytes
pub record IsTable (table : DirtyPageTable) : Type 0 where
  pub next : table.next < 2 ^ 64
  pub few : length table.starts < 2 ^ 32
  pub starts : All FitsStart table.starts

-- the bytes begin with its code, and it is in the grammar
pub record StartsWithTable (bytes : List ℕ) (table : DirtyPageTable) : Type 0 where
  pub rest : List ℕ
  pub split : bytes ≡ table_code table ++ rest
  pub in_grammar : IsTable table

-- the bytes begin with the codes of these pairs, of which there are so many
pub record IsReadFrom (bytes : List ℕ) (number : ℕ) (starts : List (ℕ × ℕ)) : Type 0 where
  pub count : length starts ≡ number
  pub rest : List ℕ
  pub split : bytes ≡ flat_map start_code starts ++ rest
  pub fit : All FitsStart starts
