use Rattle.disk_model.specs.Recorded.{first_of, reads_of, synced_of}
use Rattle.disk_model.proofs.Crashed.{placed}
use Rattle.disk_model.proofs.mem_disk.MemDisk.place.Goals as goal

pub invariant_of-self : goal.invariant_of-self
invariant_of-self c =
    let s = c.args.self.now in
    let files = c.place.new.self in
    record {
      matches = placed c.args.file c.args.bytes.now s.history.entries.items s.history.pool.bytes.items (first_of s.files) (first_of files) (reads_of s.files) (reads_of files) (synced_of s.files) (synced_of files) s.said.bytes.items
          c.requires.no_call c.place.ensures.first c.place.ensures.reads c.place.ensures.synced s.matches;
      said_bound = s.said_bound;
      said_within = s.said_within;
    }
