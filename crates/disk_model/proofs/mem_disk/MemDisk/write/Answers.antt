use Rattle.std.proofs.Common.{◌∙◌, refl, sym, length, arith}
use Rattle.disk_model.specs.Disk.{Same, In, Torn}
use Rattle.disk_model.specs.Recorded.{calls_of, first_of, reads_of, synced_of}
use Rattle.disk_model.specs.Store.{recorded}
use Rattle.disk_model.proofs.Kept.{write_matches, write_runs, same_matches, same_runs}
use Rattle.disk_model.proofs.mem_disk.MemDisk.write.Goals as goal

pub invariant_of-self : goal.invariant_of-self
invariant_of-self c =
    let s = c.args.self.now in
    let files = c.write.new.self in
    let later = calls_of c.add_write.new.self in
    record {
      matches = same_matches (first_of s.files) (first_of files) later (reads_of files) (reads_of files) (synced_of s.files) (synced_of files) s.said.bytes.items c.write.ensures.first refl c.write.ensures.synced
          (write_matches (first_of s.files) (calls_of s.history) (reads_of s.files) (synced_of s.files) s.said.bytes.items s.matches later c.args.file c.args.at c.args.bytes.now c.add_write.ensures.calls (reads_of files) c.write.ensures.reads);
      said_bound = s.said_bound ∙ sym c.add_write.ensures.takes.pool;
      said_within = omega (arith, s.said_within, c.add_write.ensures.takes.bytes);
    }

pub returns-clause-runs : goal.returns-clause-runs
returns-clause-runs c =
    let s = c.args.self.now in
    let files = c.write.new.self in
    let later = calls_of c.add_write.new.self in
    same_runs (recorded s) (In c.args.file (Torn c.args.at (length c.args.bytes.now))) Same (first_of s.files) (first_of files) later (reads_of files) (reads_of files) s.said.bytes.items c.write.ensures.first refl
    (write_runs (first_of s.files) (calls_of s.history) (reads_of s.files) (synced_of s.files) s.said.bytes.items s.matches later c.args.file c.args.at c.args.bytes.now c.add_write.ensures.calls (reads_of files) c.write.ensures.reads)
