use Rattle.std.proofs.Common.{◌≡◌, List, ℕ, drop}
use Rattle.disk_model.specs.Entries.{IsWithin, replay}
use Rattle.disk_model.specs.declared.entry.Entry.{Entry}
use Rattle.disk_model.specs.declared.machine.FileNo.{FileNo}
use Rattle.disk_model.specs.declared.reserved.Reserved.{Reserved}
use Rattle.disk_model.proofs.mem_file.fill_unsynced.Given as goal

-- what is left to do makes of the bytes so far what all of it makes of the synced ones
pub record Filling (byte : ℕ) (file : FileNo) (first present synced : Reserved) (all rest : List Entry) : Type 0 where
  pub goes : replay byte file synced.bytes.items rest present.bytes.items ≡ replay byte file synced.bytes.items all synced.bytes.items
  pub within : IsWithin file first.bound rest
  pub bound : present.bound ≡ first.bound

abbrev pub invariant-loop-entry : goal.invariant-loop-entry
invariant-loop-entry l = Filling l.byte l.file l.initial.present l.present l.synced l.entries (drop l.entry-index l.entries)
