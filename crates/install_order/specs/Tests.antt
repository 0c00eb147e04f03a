-- The tests of edges, exposed objects and closed sets, as the code computes them.
use Rattle.std.specs.Prelude.{ℕ, ◌==◌, nat_lt, nat_le, not, Bool, ◌&&◌, ◌||◌, List}
use Rattle.std.specs.List.{list_any, list_all}
use Rattle.oper_core.specs.State.{is_among}
use Rattle.install_order.specs.declared.entry.Entry.{Entry}
use Rattle.install_order.specs.Entries.{reads_at, writes_at}

-- an entry strictly between the two numbers writes x
abbrev pub is_written_between : List Entry → ℕ → ℕ → ℕ → Bool
is_written_between entries low high x = list_any (λ e. nat_lt low e.lsn && (nat_lt e.lsn high && is_among x e.writes)) entries

-- an entry at the LSN or after it writes x
abbrev pub is_written_from : List Entry → ℕ → ℕ → Bool
is_written_from entries low x = list_any (λ e. nat_le low e.lsn && is_among x e.writes) entries

-- an edge goes from a to b over x, which b writes
abbrev pub is_edge_at : List Entry → ℕ → ℕ → ℕ → Bool
is_edge_at entries a b x = (nat_lt a b && (reads_at entries a x || writes_at entries a x)) || (nat_lt b a && (reads_at entries a x && (not (is_written_between entries b a x) && is_written_from entries a x)))

-- an edge goes from a to b over one of the objects, which b writes
abbrev pub is_edge_over : List Entry → ℕ → ℕ → List ℕ → Bool
is_edge_over entries a b objects = list_any (λ x. is_edge_at entries a b x) objects

-- an edge goes from a to b
abbrev pub is_edge : List Entry → ℕ → ℕ → Bool
is_edge entries a b = list_any (λ e. (e.lsn == b) && is_edge_over entries a b e.writes) entries

-- an entry outside the installed ones, at n or before it, reads x
abbrev pub is_read_by : List Entry → List ℕ → ℕ → ℕ → Bool
is_read_by entries installed n x = list_any (λ o. nat_le o.lsn n && (not (is_among o.lsn installed) && is_among x o.reads)) entries

-- each entry is installed, doesn't write x, or has one outside the installed ones at or before it that reads x
abbrev pub is_exposed : ℕ → List ℕ → List Entry → Bool
is_exposed x installed entries = list_all (λ p. is_among p.lsn installed || (not (is_among x p.writes) || is_read_by entries installed p.lsn x)) entries

-- the entry accesses none of the objects
abbrev pub is_untouched : Entry → List ℕ → Bool
is_untouched o objects = list_all (λ x. not (is_among x o.reads || is_among x o.writes)) objects

-- no installed entry after o writes what o accesses
abbrev pub is_in_order : Entry → List ℕ → List Entry → Bool
is_in_order o installed entries = list_all (λ p. not (is_among p.lsn installed) || (nat_le p.lsn o.lsn || is_untouched o p.writes)) entries

-- each entry is installed, or no later installed one writes what it accesses
abbrev pub is_closed : List ℕ → List Entry → Bool
is_closed installed entries = list_all (λ o. is_among o.lsn installed || is_in_order o installed entries) entries
