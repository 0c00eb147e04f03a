-- Faults that were counted.
use Rattle.std.proofs.Common.{◌≡◌, ◌≤◌, inl, inr, ℕ, arith, subst, sym}
use Rattle.std.specs.Prelude.{⊤, Result, Ok, Err, IfErr, IsErrAnd}
use Rattle.disk_model.specs.Disk.{Disk, Passes, Rises}
use Rattle.disk_model.specs.declared.machine.FileNo.{FileNo}
use Rattle.formats.specs.Reading.{FailsBy}
use Rattle.formats.specs.declared.read_err.ReadErr.{ReadErr}
use Rattle.formats.specs.declared.read_err.ReadErr.TheVariants as reads
use Rattle.stable_objects.specs.Reading.{OpensNot}
use Rattle.stable_objects.specs.declared.open_err.OpenErr.{OpenErr}
use Rattle.stable_objects.specs.declared.open_err.OpenErr.TheVariants as opens
use Rattle.tool_output.specs.Faults.{CountsFaults, CountsStop, EndsBy, HandsOn, StopsBy}
use Rattle.tool_output.specs.Stops.{stop_from_open, stop_from_read}
use Rattle.tool_output.specs.declared.status.Status.{Status}
use Rattle.tool_output.specs.declared.status.Status.TheVariants as statuses
use Rattle.tool_output.specs.declared.stop.Stop.{Stop}
use Rattle.tool_output.specs.declared.stop.Stop.TheVariants as stops

-- a count that rose since a later moment rose since an earlier one, and stays risen
pub rises_since : (old mid new : ℕ) → old ≤ mid → Rises mid new → Rises old new
rises_since old mid new before rises below = let later = rises below in omega (arith, later, before)

pub rises_until : (old mid new : ℕ) → mid ≤ new → Rises old mid → Rises old new
rises_until old mid new after rises below = let earlier = rises (omega (arith, below, after)) in omega (arith, earlier, after)

fails_since : (old mid new : ℕ) (found : FileNo → ℕ → Type 0) (e : ReadErr) → old ≤ mid → FailsBy (Rises mid new) found e → FailsBy (Rises old new) found e
fails_since old mid new found reads.DiskFault before fails = rises_since old mid new before fails
fails_since old mid new found (reads.Damaged file place) before fails = fails
fails_since old mid new found reads.Memory before fails = tt

-- an error of a later call is handed on
pub fails_later : {T : Type 0} (old mid new : Disk) (found : FileNo → ℕ → Type 0) (result : Result T ReadErr) (e : ReadErr) → Passes old mid → IsErrAnd result (λ x. x ≡ e) → FailsBy (Rises mid.disk_faults new.disk_faults) found e
    → IfErr result (FailsBy (Rises old.disk_faults new.disk_faults) found)
fails_later old mid new found (Ok value) e time is fails = tt
fails_later old mid new found (Err x) e time is fails = subst (FailsBy (Rises old.disk_faults new.disk_faults) found) (sym is) (fails_since old.disk_faults mid.disk_faults new.disk_faults found e time.disk_faults fails)

-- whatever was found in a file
pub only_counted : (rises : Type 0) (found : FileNo → ℕ → Type 0) (e : ReadErr) → FailsBy rises found e → FailsBy rises (λ file place. ⊤) e
only_counted rises found reads.DiskFault fails = fails
only_counted rises found (reads.Damaged file place) fails = tt
only_counted rises found reads.Memory fails = tt

-- a call that reads, and that stops another one
pub read_stops : (old new : Disk) (found : FileNo → ℕ → Type 0) (e : ReadErr) → FailsBy (Rises old.disk_faults new.disk_faults) found e → StopsBy old new found (stop_from_read e)
read_stops old new found reads.DiskFault fails = fails
read_stops old new found (reads.Damaged file place) fails = fails
read_stops old new found reads.Memory fails = tt

pub read_counted : (old new : Disk) (found : FileNo → ℕ → Type 0) (e : ReadErr) → FailsBy (Rises old.disk_faults new.disk_faults) found e → CountsStop old new (stop_from_read e)
read_counted old new found reads.DiskFault fails = fails
read_counted old new found (reads.Damaged file place) fails = tt
read_counted old new found reads.Memory fails = tt

pub open_counted : (old new : Disk) (closed : Type 0) (found : FileNo → ℕ → Type 0) (e : OpenErr) → OpensNot closed (FailsBy (Rises old.disk_faults new.disk_faults) found) e → CountsStop old new (stop_from_open e)
open_counted old new closed found opens.NotAStore fails = tt
open_counted old new closed found opens.DiskFault fails = fails
open_counted old new closed found (opens.Damaged file place) fails = tt
open_counted old new closed found opens.Memory fails = tt

stops_more : (old new : Disk) (found also : FileNo → ℕ → Type 0) (stop : Stop) → ((file : FileNo) (place : ℕ) → found file place → also file place) → StopsBy old new found stop → StopsBy old new also stop
stops_more old new found also stops.NotAStore more is = absurd is
stops_more old new found also (stops.Damaged file place) more is = more file place is
stops_more old new found also stops.DiskFault more is = is
stops_more old new found also stops.SayFault more is = is
stops_more old new found also stops.Memory more is = tt

stops_since : (old mid new : Disk) (found also : FileNo → ℕ → Type 0) (stop : Stop) → Passes old mid → ((file : FileNo) (place : ℕ) → found file place → also file place) → StopsBy mid new found stop → StopsBy old new also stop
stops_since old mid new found also stops.NotAStore time more is = absurd is
stops_since old mid new found also (stops.Damaged file place) time more is = more file place is
stops_since old mid new found also stops.DiskFault time more is = rises_since old.disk_faults mid.disk_faults new.disk_faults time.disk_faults is
stops_since old mid new found also stops.SayFault time more is = rises_since old.say_faults mid.say_faults new.say_faults time.say_faults is
stops_since old mid new found also stops.Memory time more is = tt

-- a later call stopped
pub stops_later : {T : Type 0} (old mid new : Disk) (found also : FileNo → ℕ → Type 0) (result : Result T Stop) (stop : Stop) → Passes old mid → ((file : FileNo) (place : ℕ) → found file place → also file place) → IsErrAnd result (λ x. x ≡ stop)
    → StopsBy mid new found stop → IfErr result (StopsBy old new also)
stops_later old mid new found also (Ok value) stop time more is holds = tt
stops_later old mid new found also (Err x) stop time more is holds = subst (StopsBy old new also) (sym is) (stops_since old mid new found also stop time more holds)

-- the first one stopped
pub stops_first : {T : Type 0} (old new : Disk) (found also : FileNo → ℕ → Type 0) (result : Result T Stop) (stop : Stop) → ((file : FileNo) (place : ℕ) → found file place → also file place) → IsErrAnd result (λ x. x ≡ stop)
    → StopsBy old new found stop → IfErr result (StopsBy old new also)
stops_first old new found also (Ok value) stop more is holds = tt
stops_first old new found also (Err x) stop more is holds = subst (StopsBy old new also) (sym is) (stops_more old new found also stop more holds)

-- of what was said of a log, nothing more than counted faults is kept
pub stops_counted : (old new : Disk) (found : FileNo → ℕ → Type 0) (stop : Stop) → StopsBy old new found stop → CountsStop old new stop
stops_counted old new found stops.NotAStore is = tt
stops_counted old new found (stops.Damaged file place) is = tt
stops_counted old new found stops.DiskFault is = is
stops_counted old new found stops.SayFault is = is
stops_counted old new found stops.Memory is = tt

pub counted_until : (old mid new : Disk) (stop : Stop) → Passes mid new → CountsStop old mid stop → CountsStop old new stop
counted_until old mid new stops.NotAStore time is = tt
counted_until old mid new (stops.Damaged file place) time is = tt
counted_until old mid new stops.DiskFault time is = rises_until old.disk_faults mid.disk_faults new.disk_faults time.disk_faults is
counted_until old mid new stops.SayFault time is = rises_until old.say_faults mid.say_faults new.say_faults time.say_faults is
counted_until old mid new stops.Memory time is = tt

pub counted_since : (old mid new : Disk) (stop : Stop) → Passes old mid → CountsStop mid new stop → CountsStop old new stop
counted_since old mid new stops.NotAStore time is = tt
counted_since old mid new (stops.Damaged file place) time is = tt
counted_since old mid new stops.DiskFault time is = rises_since old.disk_faults mid.disk_faults new.disk_faults time.disk_faults is
counted_since old mid new stops.SayFault time is = rises_since old.say_faults mid.say_faults new.say_faults time.say_faults is
counted_since old mid new stops.Memory time is = tt

pub counted_later : {T : Type 0} (old mid new : Disk) (result : Result T Stop) → Passes old mid → IfErr result (CountsStop mid new) → IfErr result (CountsStop old new)
counted_later old mid new (Ok value) time is = tt
counted_later old mid new (Err stop) time is = counted_since old mid new stop time is

-- what was counted since a later moment
pub faults_later : (old mid new : Disk) (status : Status) → Passes old mid → CountsFaults mid new status → CountsFaults old new status
faults_later old mid new statuses.Done time is = tt
faults_later old mid new statuses.NotAStore time is = tt
faults_later old mid new statuses.Damaged time is = tt
faults_later old mid new statuses.DiskFault time is = rises_since old.disk_faults mid.disk_faults new.disk_faults time.disk_faults is
faults_later old mid new statuses.SayFault time is = rises_since old.say_faults mid.say_faults new.say_faults time.say_faults is
faults_later old mid new statuses.Memory time is = tt

-- after a last line
pub ends_counted : (old mid new : Disk) (status : Status) → Passes old mid → EndsBy mid new status → CountsFaults old new status
ends_counted old mid new statuses.Done time is = tt
ends_counted old mid new statuses.NotAStore time is = tt
ends_counted old mid new statuses.Damaged time is = tt
ends_counted old mid new statuses.DiskFault time is = absurd is
ends_counted old mid new statuses.SayFault time is = rises_since old.say_faults mid.say_faults new.say_faults time.say_faults is
ends_counted old mid new statuses.Memory time is = tt

pub hands_on : (old new : Disk) (stop : Stop) (status : Status) → EndsBy old new status → HandsOn old new stop status
hands_on old new stop statuses.Done is = tt
hands_on old new stop statuses.NotAStore is = tt
hands_on old new stop statuses.Damaged is = tt
hands_on old new stop statuses.DiskFault is = absurd is
hands_on old new stop statuses.SayFault is = inr is
hands_on old new stop statuses.Memory is = tt

-- after a call that stopped, of which the last line was said
pub stopped_counted : (old mid new : Disk) (stop : Stop) (status : Status) → Passes old mid → Passes mid new → CountsStop old mid stop → HandsOn mid new stop status → CountsFaults old new status
stopped_counted old mid new stop statuses.Done before after counts is = tt
stopped_counted old mid new stop statuses.NotAStore before after counts is = tt
stopped_counted old mid new stop statuses.Damaged before after counts is = tt
stopped_counted old mid new stop statuses.DiskFault before after counts is = rises_until old.disk_faults mid.disk_faults new.disk_faults after.disk_faults (subst (CountsStop old mid) is counts)
stopped_counted old mid new stop statuses.SayFault before after counts (inl is) = rises_until old.say_faults mid.say_faults new.say_faults after.say_faults (subst (CountsStop old mid) is counts)
stopped_counted old mid new stop statuses.SayFault before after counts (inr is) = rises_since old.say_faults mid.say_faults new.say_faults before.say_faults is
stopped_counted old mid new stop statuses.Memory before after counts is = tt
