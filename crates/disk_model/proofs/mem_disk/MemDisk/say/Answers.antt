use Rattle.std.proofs.Common.{◌∙◌, sym, ap, subst, length, length-append, List, ℕ, arith}
use Rattle.disk_model.specs.Disk.{Runs, Same, SaysFront}
use Rattle.disk_model.specs.Calls.{Matches}
use Rattle.disk_model.specs.Recorded.{calls_of, first_of, reads_of, synced_of}
use Rattle.disk_model.specs.Store.{recorded}
use Rattle.disk_model.proofs.Kept.{told, say_matches, say_runs}
use Rattle.disk_model.proofs.mem_disk.MemDisk.say.Goals as goal

pub invariant_of-self : goal.invariant_of-self
invariant_of-self c =
    let s = c.args.self.now in
    let later = calls_of c.add_say.new.self in
    record {
      matches = subst (λ (l : List ℕ). Matches (first_of s.files) later (reads_of s.files) (synced_of s.files) l) (sym c.append.ensures.bytes)
          (say_matches (first_of s.files) (calls_of s.history) (reads_of s.files) (synced_of s.files) s.said.bytes.items s.matches later c.args.bytes.now c.add_say.ensures.calls);
      said_bound = c.append.ensures.bound ∙ s.said_bound ∙ sym c.add_say.ensures.takes.pool;
      said_within = omega (arith, ap length c.append.ensures.bytes, length-append s.said.bytes.items c.args.bytes.now, s.said_within, c.add_say.ensures.takes.bytes);
    }

pub returns-clause-runs : goal.returns-clause-runs
returns-clause-runs c =
    let s = c.args.self.now in
    let later = calls_of c.add_say.new.self in
    subst (λ (l : List ℕ). Runs Same (SaysFront c.args.bytes.now) (recorded s) (told (first_of s.files) later (reads_of s.files) l)) (sym c.append.ensures.bytes)
    (say_runs (first_of s.files) (calls_of s.history) (reads_of s.files) (synced_of s.files) s.said.bytes.items s.matches later c.args.bytes.now c.add_say.ensures.calls)
