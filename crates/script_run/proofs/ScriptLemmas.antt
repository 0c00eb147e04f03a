-- The end of a script's run, and what was taken off its source.
use Rattle.std.proofs.Common.{◌≡◌, ◌≢◌, ◌+◌, ◌++◌, List, ℕ, [], ◌∷◌, length-append, append_assoc, refl, sym, ◌∙◌, ap, subst, arith, ◌<◌, ◌≤◌, ◌^◌, ◌==◌, if◌then◌else◌, true, false, length, Bool, Result, Ok, Err, IfErr}
use Rattle.std.specs.Result.{IsErrAnd, IsErrOf}
use Rattle.disk_model.specs.Disk.{Disk, Passes, Rises}
use Rattle.disk_model.specs.declared.machine.FileNo.{FileNo}
use Rattle.script_lines.specs.Grammar.{lines_of, before_first}
use Rattle.script_lines.specs.Reader.{Reader}
use Rattle.script_lines.specs.Reading.{ReadsOn, IsNext, IsLine, still_to_give}
use Rattle.script_lines.specs.declared.next.Next.{Next}
use Rattle.script_lines.specs.declared.next.Next.TheVariants.{Line, Long, End}
use Rattle.script_lines.specs.declared.read_error.ReadError.{ReadError}
use Rattle.script_lines.specs.declared.read_error.ReadError.TheVariants.{ReadFault as ReadFailed, TooLong as ReadTooMuch, Memory as NoMemoryToRead}
use Rattle.shell_base.specs.declared.stop.Stop.{Stop}
use Rattle.shell_base.specs.declared.stop.Stop.TheVariants.{DiskFault, Damaged, ReadFault, SayFault, BackupFault, Memory, TooLong}
use Rattle.shell_base.specs.Status.{IsCut, IsOfRun, status_after, status_of, stop_of_input, IsOfOpened}
use Rattle.shell_base.specs.Stops.{IsCaused, IsUndamaged}
use Rattle.shell_base.specs.Judging.{CountsFaults}
use Rattle.shell_base.specs.declared.status.Status.{Status}
use Rattle.shell_base.specs.declared.status.Status.TheVariants.{BackupFault as BackupFailed}
use Rattle.shell_base.specs.HoldLaws.{rises_within}
use Rattle.shell_base.specs.StopLaws.{stop_status}
use Rattle.script_run.specs.Run.{IsCausedBeside, StopsWith}
use Rattle.script_run.specs.Saving.{IsBesideRun}

-- two takings in a row are one
pub takes_on : {a b c : List ℕ} {x y z : ℕ} → ReadsOn a b x y → ReadsOn b c y z → ReadsOn a c x z
takes_on {a} {b} {c} first second = record {
  bytes = first.bytes ++ second.bytes;
  front = first.front ∙ ap (λ (l : List ℕ). first.bytes ++ l) second.front ∙ sym (append_assoc first.bytes second.bytes c);
  count = omega (arith, first.count, second.count, length-append first.bytes second.bytes);
}

-- a reader that has taken nothing has 2^40 bytes to give
pub few_begin : {n : ℕ} (reader : Reader) → reader.ahead ≡ [] → reader.taken ≡ 0 → n ≡ 0 → n + still_to_give reader ≤ 2 ^ 40
few_begin reader ahead taken none = omega (arith, ap (λ (l : List ℕ). length l) ahead, taken, none)

-- a line was found
pub next_line : (next : Next) (stored old new : List ℕ) → IsNext next stored old new → next ≢ End → (line : List ℕ) × IsLine next stored line × (lines_of old ≡ line ∷ lines_of new)
next_line Line stored old new is some = is
next_line Long stored old new is some = is
next_line End stored old new is some = absurd (some refl)

-- no line is left
pub ended : (next : Next) (stored old new : List ℕ) → IsNext next stored old new → next ≡ End → lines_of old ≡ []
ended Line stored old new is end = cc
ended Long stored old new is end = cc
ended End stored old new is end = is.0

-- the source gave too much
pub too_much : (result : Result Bool Stop) (error : ReadError) → IsErrAnd result (λ stop. stop ≡ stop_of_input error) → IsErrOf result TooLong → error ≡ ReadTooMuch
too_much (Ok refusing) error is long = cc
too_much (Err stop) ReadFailed is long = cc
too_much (Err stop) ReadTooMuch is long = refl
too_much (Err stop) NoMemoryToRead is long = cc

-- a line could not be answered, after others, on the store's machine and on the backup's
module _ {old mid backup copy : Disk} (new backed : Disk) (before now : ℕ) (time : Passes old mid) (backup_time : Passes backup copy) where
  stopped_line : (stop : Stop) → IsCausedBeside stop mid new copy backed → StopsWith stop old new before now backup backed
  stopped_line DiskFault cause = rises_within old.disk_faults mid.disk_faults new.disk_faults new.disk_faults time.disk_faults (omega arith) cause
  stopped_line (Damaged file place) cause = tt
  stopped_line ReadFault cause = absurd cause
  stopped_line SayFault cause = rises_within old.say_faults mid.say_faults new.say_faults new.say_faults time.say_faults (omega arith) cause
  stopped_line BackupFault cause = rises_within backup.disk_faults copy.disk_faults backed.disk_faults backed.disk_faults backup_time.disk_faults (omega arith) cause
  stopped_line Memory cause = tt
  stopped_line TooLong cause = absurd cause

  pub line_stops : (result answered : Result Bool Stop) (why : Stop) → IsErrAnd result (λ stop. stop ≡ why) → answered ≡ Err why
      → IfErr answered (λ stop. IsCausedBeside stop mid new copy backed) → IfErr result (λ stop. StopsWith stop old new before now backup backed)
  line_stops (Ok refusing) answered why is was cause = tt
  line_stops (Err stop) answered why is was cause =
      let here = subst (λ (r : Result Bool Stop). IfErr r (λ s. IsCausedBeside s mid new copy backed)) was cause in
      subst (λ (s : Stop). StopsWith s old new before now backup backed) (sym is) (stopped_line why here)

-- or the store could not be tended
module _ {old mid : Disk} (new : Disk) (before now : ℕ) (backup backed : Disk) (time : Passes old mid) where
  stopped_tending : (stop : Stop) → IsCaused stop mid new → StopsWith stop old new before now backup backed
  stopped_tending DiskFault cause = rises_within old.disk_faults mid.disk_faults new.disk_faults new.disk_faults time.disk_faults (omega arith) cause
  stopped_tending (Damaged file place) cause = tt
  stopped_tending ReadFault cause = absurd cause
  stopped_tending SayFault cause = rises_within old.say_faults mid.say_faults new.say_faults new.say_faults time.say_faults (omega arith) cause
  stopped_tending BackupFault cause = absurd cause
  stopped_tending Memory cause = tt
  stopped_tending TooLong cause = absurd cause

  pub tending_stops : (result : Result Bool Stop) (why : Stop) → IsErrAnd result (λ stop. stop ≡ why) → IsCaused why mid new → IfErr result (λ stop. StopsWith stop old new before now backup backed)
  tending_stops (Ok refusing) why is cause = tt
  tending_stops (Err stop) why is cause = subst (λ (s : Stop). StopsWith s old new before now backup backed) (sym is) (stopped_tending why cause)

pub tending_undamaged : (result : Result Bool Stop) (why : Stop) → IsErrAnd result (λ stop. stop ≡ why) → IsUndamaged why → IfErr result IsUndamaged
tending_undamaged (Ok refusing) why is none = tt
tending_undamaged (Err stop) why is none = subst IsUndamaged (sym is) none

pub tending_not_long : (mid new : Disk) (result : Result Bool Stop) (why : Stop) → IsErrAnd result (λ stop. stop ≡ why) → IsCaused why mid new → IsErrOf result TooLong → ⊥
tending_not_long mid new (Ok refusing) why is cause long = cc
tending_not_long mid new (Err stop) why is cause long =
    let same : why ≡ TooLong = cc (sym is, long) in
    subst (λ (s : Stop). IsCaused s mid new) same cause

-- a whole run was not cut short
pub whole_uncut : (refusing : Bool) → IsCut (status_after (Ok refusing)) → ⊥
whole_uncut true cut = cut
whole_uncut false cut = cut

-- or the last force failed
pub finish_stops : (result : Result Bool Stop) (why : Stop) (old mid new : Disk) (before now : ℕ) (backup backed : Disk) → IsErrAnd result (λ stop. stop ≡ why) → why ≡ DiskFault → Passes old mid → Rises mid.disk_faults new.disk_faults
    → IfErr result (λ stop. StopsWith stop old new before now backup backed)
finish_stops (Ok refusing) why old mid new before now backup backed is same time fault = tt
finish_stops (Err stop) why old mid new before now backup backed is same time fault =
    subst (λ (s : Stop). StopsWith s old new before now backup backed) (sym (is ∙ same)) (rises_within old.disk_faults mid.disk_faults new.disk_faults new.disk_faults time.disk_faults (omega arith) fault)

-- and the run was not cut short
pub finish_uncut : (result : Result Bool Stop) (why : Stop) → IsErrAnd result (λ stop. stop ≡ why) → why ≡ DiskFault → IsCut (status_after result) → ⊥
finish_uncut (Ok refusing) why is same cut = whole_uncut refusing cut
finish_uncut (Err stop) why is same cut = subst (λ (s : Stop). IsCut (status_of s)) (is ∙ same) cut

-- and not for too much input
pub line_not_long : (result answered : Result Bool Stop) (why : Stop) (mid new copy backed : Disk) → IsErrAnd result (λ stop. stop ≡ why) → answered ≡ Err why → IfErr answered (λ stop. IsCausedBeside stop mid new copy backed) → IsErrOf result TooLong → ⊥
line_not_long (Ok refusing) answered why mid new copy backed is was cause long = cc
line_not_long (Err stop) answered why mid new copy backed is was cause long =
    let here = subst (λ (r : Result Bool Stop). IfErr r (λ s. IsCausedBeside s mid new copy backed)) was cause in
    let same : why ≡ TooLong = cc (sym is, long) in
    subst (λ (s : Stop). IsCausedBeside s mid new copy backed) same here

-- nor for a damaged slot
pub line_undamaged : (result answered : Result Bool Stop) (why : Stop) → IsErrAnd result (λ stop. stop ≡ why) → answered ≡ Err why → IfErr answered IsUndamaged → IfErr result IsUndamaged
line_undamaged (Ok refusing) answered why is was none = tt
line_undamaged (Err stop) answered why is was none = subst IsUndamaged (sym is) (subst (λ (r : Result Bool Stop). IfErr r IsUndamaged) was none)

-- no slot is damaged where none is reported so
pub whole_end : {T : Type 0} {result : Result T Stop} → IfErr result IsUndamaged → {file : FileNo} {place : ℕ} → result ≡ Err (Damaged file place) → ⊥
whole_end {T} {result} whole is = subst (λ (r : Result T Stop). IfErr r IsUndamaged) is whole

some_line : (b : Bool) (line : List ℕ) (lines others : List (List ℕ)) → (others ≡ [] → ⊥) → (if b then line ∷ lines else others) ≡ [] → ⊥
some_line true line lines others some none = cc
some_line false line lines others some none = some none

some_first : (byte : ℕ) (lines : List (List ℕ)) → before_first byte lines ≡ [] → ⊥
some_first byte [] none = cc
some_first byte (line ∷ lines) none = cc

-- where no line is left, no byte is
no_bytes : (bytes : List ℕ) → lines_of bytes ≡ [] → bytes ≡ []
no_bytes [] none = refl
no_bytes (byte ∷ rest) none = absurd (some_line (byte == 10) [] (lines_of rest) (before_first byte (lines_of rest)) (some_first byte (lines_of rest)) none)

nothing_behind : (front back : List ℕ) → front ++ back ≡ [] → back ≡ []
nothing_behind [] back none = none
nothing_behind (byte ∷ front) back none = cc

-- at the end of the input all of it was taken
pub input_end : (next : Next) (stored old ahead start left : List ℕ) (taken : ℕ) → IsNext next stored old (ahead ++ left) → next ≡ End → ReadsOn start left 0 taken → taken < 2 ^ 40
    → (left ≡ []) × (length start < 2 ^ 40)
input_end Line stored old ahead start left taken is end takes few = cc
input_end Long stored old ahead start left taken is end takes few = cc
input_end End stored old ahead start left taken is end takes few =
    let none = nothing_behind ahead left (no_bytes (ahead ++ left) is.1) in
    (none, omega (arith, few, takes.count, ap (λ (l : List ℕ). length l) takes.front, length-append takes.bytes left, ap (λ (l : List ℕ). length l) none))

-- which faults a run that ends early reports
module _ (old new : Disk) (reads_before reads_now : ℕ) (backup backed : Disk) where
  stop_faults : (stop : Stop) → StopsWith stop old new reads_before reads_now backup backed → CountsFaults old new (status_of stop)
  stop_faults DiskFault cause = record { disk = λ is. cause; output = λ is. cc }
  stop_faults (Damaged file place) cause = record { disk = λ is. cc; output = λ is. cc }
  stop_faults ReadFault cause = record { disk = λ is. cc; output = λ is. cc }
  stop_faults SayFault cause = record { disk = λ is. cc; output = λ is. cause }
  stop_faults BackupFault cause = record { disk = λ is. cc; output = λ is. cc }
  stop_faults Memory cause = record { disk = λ is. cc; output = λ is. cc }
  stop_faults TooLong cause = record { disk = λ is. cc; output = λ is. cc }

  stop_beside : (stop : Stop) → StopsWith stop old new reads_before reads_now backup backed → status_of stop ≡ BackupFailed → Rises backup.disk_faults backed.disk_faults
  stop_beside DiskFault cause is = cc
  stop_beside (Damaged file place) cause is = cc
  stop_beside ReadFault cause is = cc
  stop_beside SayFault cause is = cc
  stop_beside BackupFault cause is = cause
  stop_beside Memory cause is = cc
  stop_beside TooLong cause is = cc

  pub run_faults : (outcome : Result Bool Stop) (status : Status) → status ≡ status_after outcome → IfErr outcome (λ stop. StopsWith stop old new reads_before reads_now backup backed) → CountsFaults old new status
  run_faults (Ok true) status is cause = record { disk = λ same. cc; output = λ same. cc }
  run_faults (Ok false) status is cause = record { disk = λ same. cc; output = λ same. cc }
  run_faults (Err stop) status is cause = subst (λ (s : Status). CountsFaults old new s) (sym is) (stop_faults stop cause)

  pub run_beside : (outcome : Result Bool Stop) (status : Status) → status ≡ status_after outcome → IfErr outcome (λ stop. StopsWith stop old new reads_before reads_now backup backed) → Passes backup backed → IsBesideRun backup backed status
  run_beside (Ok true) status is cause time = record { time = time; fault = λ same. cc }
  run_beside (Ok false) status is cause time = record { time = time; fault = λ same. cc }
  run_beside (Err stop) status is cause time = record { time = time; fault = λ same. stop_beside stop cause (sym is ∙ same) }

pub run_status : (outcome : Result Bool Stop) (status : Status) → status ≡ status_after outcome → IsOfRun status × IsOfOpened status
run_status (Ok true) status is = subst (λ (s : Status). IsOfRun s × IsOfOpened s) (sym is) (tt, tt)
run_status (Ok false) status is = subst (λ (s : Status). IsOfRun s × IsOfOpened s) (sym is) (tt, tt)
run_status (Err stop) status is = subst (λ (s : Status). IsOfRun s × IsOfOpened s) (sym is) (stop_status stop)
