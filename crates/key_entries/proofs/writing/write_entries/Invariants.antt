use Rattle.std.proofs.Common.{◌≡◌, ◌++◌, take}
use Rattle.key_entries.specs.Entries.{entries_code}
use Rattle.key_entries.proofs.writing.write_entries.Given as goal

abbrev pub invariant-loop-entry : goal.invariant-loop-entry
invariant-loop-entry g l = l.out.items ≡ l.fn.out.items ++ entries_code g.T.EntryField.field (take l.entry-index l.entries)
