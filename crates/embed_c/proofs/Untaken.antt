-- Nothing is taken from a machine within a call.
use Rattle.std.proofs.Common.{◌≡◌, inl, inr, ℕ, Bool, true, false, None, Result, Ok, Err, IfErr, IfOk, ap, refl}
use Rattle.disk_model.specs.Disk.{Exchange, Passes}
use Rattle.disk_model.specs.declared.machine.Failed.{Failed}
use Rattle.op_codec.specs.AllOps.{all_meaning}
use Rattle.store_engine.specs.Engine.{EngineView}
use Rattle.backup_copy.specs.Calls.{ForcesFirst, HasForced, IsUntouched, LooksFirst}
use Rattle.backup_copy.specs.Refusals.{IsRefusedSo}
use Rattle.backup_copy.specs.declared.backup_err.BackupErr.{BackupErr}
use Rattle.backup_copy.specs.declared.backup_err.BackupErr.TheVariants.{InGroup, InBackup, NoBackup, AlreadyStore, NotCopied, DiskFault, TargetFault, Damaged, LogFull, Memory}
use Rattle.write_queue.specs.Memory.{disk_of, first_files, taken_from}
use Rattle.write_queue.specs.declared.queue_mem.QueueMem.{QueueMem}
use Rattle.embed.specs.declared.store.Store.{Store}
use Rattle.embed_c.specs.Calls.{IsUntaken}

pub untaken : {old new : QueueMem} → Passes (disk_of old) (disk_of new) → IsUntaken old new
untaken passes = record { first = ap (λ (x : Exchange). x.files) passes.exchange; calls = ap (λ (x : Exchange). x.calls) passes.exchange }

pub untouched : {old new : QueueMem} → new ≡ old → IsUntaken old new
untouched same = record { first = ap first_files same; calls = ap taken_from same }

pub unchanged : {old new : Store QueueMem} → new ≡ old → IsUntaken old.machine new.machine
unchanged same = untouched (ap (λ (s : Store QueueMem). s.machine) same)

-- in a call that looks first whether the disk has failed
pub either_way : {old new : QueueMem} (broken : Bool) → (broken ≡ false → IsUntaken old new) → (broken ≡ true → IsUntaken old new) → IsUntaken old new
either_way false works fails = works refl
either_way true works fails = fails refl

module _ {old new : QueueMem} (before after : EngineView) where
  forced : {answer : Result ℕ Failed} → HasForced all_meaning (disk_of old) (disk_of new) before after answer → IsUntaken old new
  forced has = untaken has.call.time

  looked : (made : Result (Unit {0}) BackupErr) → LooksFirst all_meaning (disk_of old) (disk_of new) before after (IsUntouched old new before after) made → IsUntaken old new
  looked (Ok done) has = forced has.1
  looked (Err AlreadyStore) is = untouched is.machine
  looked (Err DiskFault) has = forced has.1
  looked (Err TargetFault) (inl is) = untouched is.machine
  looked (Err TargetFault) (inr has) = forced has.1
  looked (Err (InGroup size)) h = absurd h
  looked (Err (InBackup copied)) h = absurd h
  looked (Err NoBackup) h = absurd h
  looked (Err (NotCopied copied)) h = absurd h
  looked (Err (Damaged file place)) h = absurd h
  looked (Err (LogFull used need limit)) h = absurd h
  looked (Err Memory) h = absurd h

  finished : (made : Result ℕ BackupErr) → ForcesFirst all_meaning (disk_of old) (disk_of new) before after made → IsUntaken old new
  finished (Ok commands) has = forced has
  finished (Err DiskFault) has = forced has.1
  finished (Err AlreadyStore) has = forced has.1
  finished (Err TargetFault) has = forced has.1
  finished (Err (InGroup size)) has = forced has.1
  finished (Err (InBackup copied)) has = forced has.1
  finished (Err NoBackup) has = forced has.1
  finished (Err (NotCopied copied)) has = forced has.1
  finished (Err (Damaged file place)) has = forced has.1
  finished (Err (LogFull used need limit)) has = forced has.1
  finished (Err Memory) has = forced has.1

  module _ (target target' : QueueMem) where
    pub by_start : (judged : Result (Unit {0}) BackupErr) (made : Result (Unit {0}) BackupErr)
        → IfErr judged (λ why. IsRefusedSo why old new target target' before after made)
        → IfOk judged (λ done. LooksFirst all_meaning (disk_of old) (disk_of new) before after (IsUntouched old new before after) made) → IsUntaken old new
    by_start (Ok done) made refused looks = looked made looks
    by_start (Err why) made refused looks = untouched refused.machine

    pub by_finish : (judged : Result (Unit {0}) BackupErr) (made : Result ℕ BackupErr)
        → IfErr judged (λ why. IsRefusedSo why old new target target' before after made)
        → IfOk judged (λ done. ForcesFirst all_meaning (disk_of old) (disk_of new) before after made) → IsUntaken old new
    by_finish (Ok done) made refused forces = finished made forces
    by_finish (Err why) made refused forces = untouched refused.machine

pub by_give_up : (old new : Store QueueMem) (made : Result (Unit {0}) BackupErr) (judged : Result ℕ BackupErr) → IfErr judged (λ why. (made ≡ Err why) × (new ≡ old))
    → IfOk judged (λ copied. (made ≡ Ok tt) × (new ≡ record old { engine = record old.engine { copied = None } })) → IsUntaken old.machine new.machine
by_give_up old new made (Ok copied) refused given_up = untouched (ap (λ (s : Store QueueMem). s.machine) given_up.1)
by_give_up old new made (Err why) refused given_up = unchanged refused.1
