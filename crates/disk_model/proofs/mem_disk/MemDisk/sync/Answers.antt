use Rattle.std.proofs.Common.{◌∙◌, refl, sym, arith, subst}
use Rattle.disk_model.specs.Disk.{Files, Same, IsSettledIn}
use Rattle.disk_model.specs.Recorded.{calls_of, first_of, reads_of, synced_of}
use Rattle.disk_model.specs.Store.{recorded}
use Rattle.disk_model.proofs.Kept.{told, sync_matches, sync_runs, sync_settles, same_matches, same_runs}
use Rattle.disk_model.proofs.mem_disk.MemDisk.sync.Goals as goal

pub invariant_of-self : goal.invariant_of-self
invariant_of-self c =
    let s = c.args.self.now in
    let files = c.sync.new.self in
    let later = calls_of c.add_sync.new.self in
    record {
      matches = same_matches (first_of s.files) (first_of files) later (reads_of s.files) (reads_of files) (synced_of files) (synced_of files) s.said.bytes.items c.sync.ensures.first c.sync.ensures.reads refl
          (sync_matches (first_of s.files) (calls_of s.history) (reads_of s.files) (synced_of s.files) s.said.bytes.items s.matches later c.args.file c.add_sync.ensures.calls (synced_of files) c.sync.ensures.synced);
      said_bound = s.said_bound ∙ sym c.add_sync.ensures.takes.pool;
      said_within = omega (arith, s.said_within, c.add_sync.ensures.takes.bytes);
    }

pub returns-clause-kept : goal.returns-clause-kept
returns-clause-kept c =
    let s = c.args.self.now in
    let files = c.sync.new.self in
    let later = calls_of c.add_sync.new.self in
    same_runs (recorded s) Same Same (first_of s.files) (first_of files) later (reads_of s.files) (reads_of files) s.said.bytes.items c.sync.ensures.first c.sync.ensures.reads
    (sync_runs (first_of s.files) (calls_of s.history) (reads_of s.files) (synced_of s.files) s.said.bytes.items s.matches later c.args.file c.add_sync.ensures.calls (synced_of files) c.sync.ensures.synced)

pub returns-clause-settled : goal.returns-clause-settled
returns-clause-settled c =
    let s = c.args.self.now in
    let files = c.sync.new.self in
    let later = calls_of c.add_sync.new.self in
    subst (λ (f : Files). IsSettledIn c.args.file (told f later (reads_of files) s.said.bytes.items)) (sym c.sync.ensures.first)
    (subst (λ (f : Files). IsSettledIn c.args.file (told (first_of s.files) later f s.said.bytes.items)) (sym c.sync.ensures.reads)
    (sync_settles (first_of s.files) (calls_of s.history) (reads_of s.files) (synced_of s.files) s.said.bytes.items s.matches later c.args.file c.add_sync.ensures.calls (synced_of files) c.sync.ensures.synced))
