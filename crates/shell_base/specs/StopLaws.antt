-- The status at which a call stops early.
use Rattle.std.proofs.Common.{◌≡◌, ◌⊎◌, ⊎_elim, subst, sym, Result, Ok, Err, IfErr}
use Rattle.std.specs.Result.{IsErrAnd}
use Rattle.shell_base.specs.declared.stop.Stop.{Stop}
use Rattle.shell_base.specs.declared.stop.Stop.TheVariants.{DiskFault, Damaged, ReadFault, SayFault, BackupFault, Memory, TooLong}
use Rattle.shell_base.specs.Status.{IsOfRun, status_of, IsOfOpened}
use Rattle.shell_base.specs.declared.status.Status.{Status}
use Rattle.shell_base.specs.declared.status.Status.TheVariants.{Damaged, DiskFault, SayFault, Memory, BackupFault}
use Rattle.shell_base.specs.Stops.{IsUndamaged}

-- a run on an open store finds one
pub stop_status : (stop : Stop) → IsOfRun (status_of stop) × IsOfOpened (status_of stop)
stop_status DiskFault = (tt, tt)
stop_status (Damaged file place) = (tt, tt)
stop_status ReadFault = (tt, tt)
stop_status SayFault = (tt, tt)
stop_status BackupFault = (tt, tt)
stop_status Memory = (tt, tt)
stop_status TooLong = (tt, tt)

-- where files break their format the call ends with none of these
pub no_disk_fault : (status : Status) → (status ≡ Damaged) ⊎ ((status ≡ Memory) ⊎ (status ≡ SayFault)) → status ≡ DiskFault → ⊥
no_disk_fault status ends is = ⊎_elim (λ (a : status ≡ Damaged). cc (a, is)) (λ (rest : (status ≡ Memory) ⊎ (status ≡ SayFault)). ⊎_elim (λ (a : status ≡ Memory). cc (a, is)) (λ (a : status ≡ SayFault). cc (a, is)) rest) ends

pub no_backup_fault : (status : Status) → (status ≡ Damaged) ⊎ ((status ≡ Memory) ⊎ (status ≡ SayFault)) → status ≡ BackupFault → ⊥
no_backup_fault status ends is = ⊎_elim (λ (a : status ≡ Damaged). cc (a, is)) (λ (rest : (status ≡ Memory) ⊎ (status ≡ SayFault)). ⊎_elim (λ (a : status ≡ Memory). cc (a, is)) (λ (a : status ≡ SayFault). cc (a, is)) rest) ends

pub damaged_status : (status : Status) → (status ≡ Damaged) ⊎ ((status ≡ Memory) ⊎ (status ≡ SayFault)) → IsOfRun status × IsOfOpened status
damaged_status status ends = ⊎_elim
    (λ (a : status ≡ Damaged). (subst IsOfRun (sym a) tt, subst IsOfOpened (sym a) tt))
    (λ (rest : (status ≡ Memory) ⊎ (status ≡ SayFault)). ⊎_elim (λ (a : status ≡ Memory). (subst IsOfRun (sym a) tt, subst IsOfOpened (sym a) tt)) (λ (a : status ≡ SayFault). (subst IsOfRun (sym a) tt, subst IsOfOpened (sym a) tt)) rest)
    ends

pub passed_whole : {S T : Type 0} (result : Result T Stop) (answered : Result S Stop) (why : Stop) → IsErrAnd result (λ stop. stop ≡ why) → answered ≡ Err why → IfErr answered IsUndamaged → IfErr result IsUndamaged
passed_whole (Ok value) answered why is was whole = tt
passed_whole {S} (Err stop) answered why is was whole = subst IsUndamaged (sym is) (subst (λ (r : Result S Stop). IfErr r IsUndamaged) was whole)
