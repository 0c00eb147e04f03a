-- Entries that are kept in three tables: their LSNs, their heads, and the objects that they access.
use Rattle.std.specs.Prelude.{◌≡◌, ℕ, ◌+◌, ◌*◌, ◌/◌, ◌%◌, ◌<◌, ◌≤◌, List, [], ◌∷◌, length, slice_index_or, slice_range, nat_le}
use Rattle.install_order.specs.declared.entry.Entry.{Entry}
use Rattle.write_graph.specs.declared.head.Head.{Head}

-- what contracts see of heads, and for how many more there is memory
pub record Heads : Type 0 where
  pub items : List Head
  pub room : ℕ

-- the head with the start, of whose code the rest can be read
abbrev pub head_of : ℕ → ℕ → Head
head_of start code = record { start = start; reads = code % 5; writes = code / 5 % 5; identity = nat_le 25 code }

-- the heads with these starts
abbrev pub heads_of : List ℕ → List ℕ → List Head
heads_of [] codes = []
heads_of (start ∷ starts) [] = []
heads_of (start ∷ starts) (code ∷ codes) = head_of start code ∷ heads_of starts codes

-- what contracts see: the entries, and how many more there is memory for
pub record Entries : Type 0 where
  pub items : List Entry
  pub room : ℕ

-- the entry with the LSN n that the head tells of
abbrev pub entry_of : List ℕ → ℕ → Head → Entry
entry_of objects n h = record {
  lsn = n;
  reads = slice_range objects h.start (h.start + h.reads);
  writes = slice_range objects (h.start + h.reads) (h.start + h.reads + h.writes);
  identity = h.identity;
}

-- the entries with these LSNs
abbrev pub entries_of : List ℕ → List Head → List ℕ → List Entry
entries_of [] heads objects = []
entries_of (n ∷ ns) [] objects = []
entries_of (n ∷ ns) (h ∷ heads) objects = entry_of objects n h ∷ entries_of ns heads objects

-- the objects of the head are there, four at most that are read, and four that are written
pub record IsHead (objects : List ℕ) (h : Head) : Type 0 where
  pub there : h.start + h.reads + h.writes ≤ length objects
  pub few_reads : h.reads ≤ 4
  pub few_writes : h.writes ≤ 4

-- each LSN has its head, and there are not more than eight objects for each
pub record AreHeads (ns : List ℕ) (heads : List Head) (objects : List ℕ) : Type 0 where
  pub count : length heads ≡ length ns
  pub each : (i : ℕ) (d : Head) → i < length heads → IsHead objects (slice_index_or heads i d)
  pub few : length objects ≤ 8 * length ns
