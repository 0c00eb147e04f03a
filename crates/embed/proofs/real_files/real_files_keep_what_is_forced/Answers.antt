use Rattle.std.proofs.Common.{◌≡◌, ◌∙◌, ◌++◌, ℕ, List, [], length, ⊎_elim, sym, ap, subst}
use Rattle.std.proofs.lemmas.List.{append-nil, take_all}
use Rattle.disk_model.specs.Call.{Call}
use Rattle.disk_model.specs.Disk.{Exchange, Files, IsSettled}
use Rattle.disk_model.specs.declared.machine.FileNo.TheVariants.{Objects}
use Rattle.op_codec.specs.AllOps.{AllOps, all_meaning}
use Rattle.stable_objects.specs.Making.{KeepsGate}
use Rattle.store_engine.specs.Store.{Stands}
use Rattle.backup_copy.specs.Calls.{BeginsNone}
use Rattle.backup_copy.specs.Target.{AreShut}
use Rattle.write_queue.specs.Memory.{disk_of, taken_from, waiting_in}
use Rattle.write_queue.specs.declared.queue_mem.QueueMem.{QueueMem}
use Rattle.embed.specs.Real.{IsSinceTaken}
use Rattle.embed.proofs.real_files.real_files_keep_what_is_forced.Goals as goal

pub returns-clause-since : goal.returns-clause-since
returns-clause-since c old new none passes = record { emptied = none; untaken = ap (λ (x : Exchange). x.calls) passes.exchange }

-- the call began when the queue was last taken
began : (old new : QueueMem) → IsSinceTaken old new → length (taken_from new) ≡ length (taken_from old ++ waiting_in old)
began old new since = ap (λ (l : List Call). length l) (since.untaken ∙ sym (append-nil (taken_from old)) ∙ ap (λ (l : List Call). taken_from old ++ l) (sym since.emptied))

-- so what a front leaves is left since the call began
since_start : (old new : QueueMem) (files : Files) (said : List ℕ) → IsSinceTaken old new → (disk_of new).left_since (length (taken_from new)) files said
    → (disk_of new).left_since (disk_of old).clock files said
since_start old new files said since left = subst (λ (t : ℕ). (disk_of new).left_since t files said) (began old new since) left

pub returns-clause-each : goal.returns-clause-each
returns-clause-each c old new since files said front = since_start old new files said since ((c.fronts_are_what_is_left.ensures new files said).1 front)

pub returns-clause-calls : goal.returns-clause-calls
returns-clause-calls c p old new group forced start commands since leaves files said front =
    leaves.each files said (since_start old new files said since ((c.fronts_are_what_is_left.ensures new files said).1 front))

-- files that a crash could leave at the start of a call on settled ones are those that reads give
as_read : (P : Files → Type 0) (m : QueueMem) (files : Files) (said : List ℕ) → IsSettled (disk_of m) → (disk_of m).left_since (disk_of m).clock files said
    → P (disk_of m).reads → P files
as_read P m files said settled was here = let same : files ≡ (disk_of m).reads = λ i file. settled file tt files said was i in subst P (sym same) here

pub returns-clause-opening : goal.returns-clause-opening
returns-clause-opening c p old new commands since settled opens leaves files said front =
    ⊎_elim
    (λ was. as_read (λ (f : Files). Stands all_meaning p f commands) old files said settled was opens.stands)
    (λ between. subst (λ (l : List AllOps). Stands all_meaning p files l) (take_all between.kept commands between.enough) between.stands)
    (leaves.each files said (since_start old new files said since ((c.fronts_are_what_is_left.ensures new files said).1 front)))

pub returns-clause-starting : goal.returns-clause-starting
returns-clause-starting c old new since settled none leaves files said front =
    ⊎_elim (λ was. as_read BeginsNone old files said settled was none) (λ here. here.0)
    (leaves.each files said (since_start old new files said since ((c.fronts_are_what_is_left.ensures new files said).1 front)))

-- a closed gate that is kept is closed
kept_shut : (old new : Files) → AreShut old → KeepsGate (old Objects) (new Objects) → AreShut new
kept_shut old new shut keeps = let kept = keeps shut.some in record { some = kept.0; closed = λ one. shut.closed (sym kept.1 ∙ one) }

pub returns-clause-copying : goal.returns-clause-copying
returns-clause-copying c p source old new engine w since copies runs files said front =
    let from = runs.crash tt files said (since_start old new files said since ((c.fronts_are_what_is_left.ensures new files said).1 front)) in
    kept_shut from.0.0 files ((copies.target tt).shut tt from.0.0 (disk_of old).said from.0.1) from.0.2.changed

pub returns-clause-backup : goal.returns-clause-backup
returns-clause-backup c p old new commands since leaves files said front =
    (leaves.each files said (since_start old new files said since ((c.fronts_are_what_is_left.ensures new files said).1 front))).0

-- all calls are those that were taken
all_taken : (m : QueueMem) → waiting_in m ≡ [] → length (taken_from m) ≡ length (taken_from m ++ waiting_in m)
all_taken m none = ap (λ (l : List Call). length l) (sym (append-nil (taken_from m)) ∙ ap (λ (l : List Call). taken_from m ++ l) (sym none))

pub returns-clause-made : goal.returns-clause-made
returns-clause-made c p m commands none images files said front =
    images.1 tt files said (subst (λ (t : ℕ). (disk_of m).left_since t files said) (all_taken m none) ((c.fronts_are_what_is_left.ensures m files said).1 front))

pub returns-clause-saved : goal.returns-clause-saved
returns-clause-saved c p m history none images files said front =
    images.1 tt files said (subst (λ (t : ℕ). (disk_of m).left_since t files said) (all_taken m none) ((c.fronts_are_what_is_left.ensures m files said).1 front))
