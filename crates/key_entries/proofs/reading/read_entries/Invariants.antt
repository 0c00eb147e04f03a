use Rattle.std.proofs.Common.{◌≡◌, ◌-◌, length}
use Rattle.key_entries.proofs.OneByOne.{IsReadTo}
use Rattle.key_entries.proofs.reading.read_entries.Given as goal

abbrev pub invariant-loop-read : goal.invariant-loop-read
invariant-loop-read g l = record {
  so_far : IsReadTo g.T.EntryField.field l.count l.bytes l.entries.items (l.count - l._read) l.rest;
  size : length l.entries.items ≡ l._read;
}
