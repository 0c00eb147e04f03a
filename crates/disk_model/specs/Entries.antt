-- What a machine in memory keeps of its calls, as a list of them.
use Rattle.std.specs.Prelude.{ℕ, ◌+◌, ◌≤◌, ◌≡◌, List, [], ◌∷◌, take, drop}
use Rattle.disk_model.specs.Call.{Call, Write, Sync, Say}
use Rattle.disk_model.specs.Calls.{changed, filled_over}
use Rattle.disk_model.specs.declared.machine.FileNo.{FileNo}
use Rattle.disk_model.specs.declared.entry.Entry.{Entry}
use Rattle.disk_model.specs.declared.entry.Entry.TheVariants.{Written, Synced, Said}

-- the calls, with their bytes from the pool, which has them one after the other
abbrev pub calls_in : List Entry → List ℕ → List Call
calls_in [] pool = []
calls_in (Written file at n ∷ entries) pool = Write file at (take n pool) ∷ calls_in entries (drop n pool)
calls_in (Synced file ∷ entries) pool = Sync file ∷ calls_in entries pool
calls_in (Said n ∷ entries) pool = Say (take n pool) ∷ calls_in entries (drop n pool)

-- how many bytes they have in the pool
abbrev pub taken : List Entry → ℕ
taken [] = 0
taken (Written file at n ∷ entries) = n + taken entries
taken (Synced file ∷ entries) = taken entries
taken (Said n ∷ entries) = n + taken entries

-- each write of this file ends within so many bytes
abbrev pub IsWithin : FileNo → ℕ → List Entry → Type 0
IsWithin file bound [] = Unit {0}
IsWithin file bound (Written other at n ∷ entries) = (other ≡ file → at + n ≤ bound) × IsWithin file bound entries
IsWithin file bound (Synced other ∷ entries) = IsWithin file bound entries
IsWithin file bound (Said n ∷ entries) = IsWithin file bound entries

-- this file after one entry, where a write puts this byte alone and a sync gives the synced bytes
abbrev pub replayed : ℕ → FileNo → List ℕ → Entry → List ℕ → List ℕ
replayed byte file synced (Written other at n) old = changed other (filled_over byte at n old) (λ _. old) file
replayed byte file synced (Synced other) old = changed other synced (λ _. old) file
replayed byte file synced (Said n) old = old

abbrev pub replay : ℕ → FileNo → List ℕ → List Entry → List ℕ → List ℕ
replay byte file synced [] old = old
replay byte file synced (entry ∷ entries) old = replay byte file synced entries (replayed byte file synced entry old)
