use Rattle.std.proofs.Common.{◌≡◌, ◌≤◌, ◌*◌, length, take}
use Rattle.key_entries.specs.Entries.{entries_code}
use Rattle.key_entries.proofs.writing.entries_len.Given as goal

abbrev pub invariant-loop-entry : goal.invariant-loop-entry
invariant-loop-entry g l = record {
  so_far : l.len ≡ length (entries_code g.T.EntryField.field (take l.entry-index l.entries));
  few : l.len ≤ 66 * l.entry-index;
}
