-- What the entries of a list read and write.
use Rattle.std.specs.Prelude.{ℕ, ◌==◌, Bool, ◌&&◌, List}
use Rattle.std.specs.List.{list_any}
use Rattle.oper_core.specs.State.{is_among}
use Rattle.install_order.specs.declared.entry.Entry.{Entry}
use Rattle.install_order.specs.Order.{Access}

-- an entry with the LSN n reads x
abbrev pub reads_at : List Entry → ℕ → ℕ → Bool
reads_at entries n x = list_any (λ e. (e.lsn == n) && is_among x e.reads) entries

-- an entry with the LSN n writes x
abbrev pub writes_at : List Entry → ℕ → ℕ → Bool
writes_at entries n x = list_any (λ e. (e.lsn == n) && is_among x e.writes) entries

-- which of the entries reads and which writes which object
abbrev pub accesses : List Entry → Access
accesses entries = record { reads = reads_at entries; writes = writes_at entries }

-- the listed LSNs as a set
abbrev pub set_of : List ℕ → ℕ → Bool
set_of lsns n = is_among n lsns
