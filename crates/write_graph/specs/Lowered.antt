-- Entries of which some have a lower LSN.
use Rattle.std.specs.Prelude.{ℕ, min}
use Rattle.install_order.specs.declared.entry.Entry.{Entry}

-- the entry, whose LSN is n where it was greater
abbrev pub lowered : ℕ → Entry → Entry
lowered n e = record { lsn = min e.lsn n; reads = e.reads; writes = e.writes; identity = e.identity }
