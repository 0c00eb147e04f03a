-- The limits of the files.
use Rattle.std.specs.Prelude.{ℕ, ◌^◌}

-- a record's LSN is below this one; it is the greatest epoch and the greatest base
abbrev pub lsn_end : ℕ
lsn_end = 2 ^ 62

-- how many bytes of records stand in a block at most
abbrev pub block_limit : ℕ
block_limit = 2 ^ 30

-- how long a log may be, with what waits for a force
abbrev pub log_limit : ℕ
log_limit = 2 ^ 48
