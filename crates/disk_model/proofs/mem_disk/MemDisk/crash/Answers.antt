use Rattle.std.proofs.Common.{◌≡◌, ◌∙◌, List, refl, sym, ap, subst, arith}
use Rattle.disk_model.specs.Entries.{IsWithin}
use Rattle.disk_model.specs.Recorded.{file_of, first_of, reads_of, synced_of, bound_of, left_by}
use Rattle.disk_model.specs.Store.{state_of, left_after}
use Rattle.disk_model.specs.declared.entry.Entry.{Entry}
use Rattle.disk_model.specs.declared.machine.FileNo.{FileNo}
use Rattle.disk_model.proofs.Crashed.{all_within, left_moment, left_is}
use Rattle.disk_model.proofs.mem_disk.MemDisk.crash.Goals as goal
use Rattle.disk_model.proofs.mem_disk.MemDisk.crash.Goals.{After-crash}

pub crash-requires : goal.crash-requires
crash-requires c file =
    let s = c.args.self in
    let present = (file_of s.files file).present in
    subst (λ (l : List Entry). IsWithin file (bound_of s.files file) l) (sym c.entries.ensures)
    (all_within (first_of s.files) s.history.entries.items s.history.pool.bytes.items s.history.whole (reads_of s.files) (synced_of s.files) s.said.bytes.items s.matches file (bound_of s.files file)
    (omega (arith, present.within, present.bytes.ok.0)))

left : (c : After-crash) (file : FileNo) → reads_of c.crash.new.self file ≡ left_after c.args.how (state_of c.args.self) file
left c file =
    let s = c.args.self in
    (c.crash.ensures file).present ∙ ap (λ (l : List Entry). left_by c.args.how file l (file_of s.files file)) c.entries.ensures
    ∙ left_is (first_of s.files) s.history.entries.items s.history.pool.bytes.items (reads_of s.files) (synced_of s.files) s.said.bytes.items s.history.whole s.matches c.args.how file (file_of s.files file) refl refl

pub returns-clause-image : goal.returns-clause-image
returns-clause-image c =
    let s = c.args.self in
    left_moment (first_of s.files) s.history.entries.items s.history.pool.bytes.items s.history.whole (reads_of s.files) (synced_of s.files) s.said.bytes.items s.matches c.args.how (reads_of c.crash.new.self) (left (goal.at.returns-clause-image c).After-crash)

pub returns-clause-left : goal.returns-clause-left
returns-clause-left c = left (goal.at.returns-clause-left c).After-crash
