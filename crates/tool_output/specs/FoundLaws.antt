-- What a tool finds of the files, by what it has read of them.
use Rattle.std.proofs.Common.{◌≡◌, ℕ, [], sym, ap, ◌∙◌, subst, arith}
use Rattle.std.specs.Prelude.{Result, Ok, Err, IfErr, IsErrAnd}
use Rattle.disk_model.specs.Disk.{Files}
use Rattle.disk_model.specs.declared.machine.FileNo.{FileNo}
use Rattle.disk_model.specs.declared.machine.FileNo.TheVariants.{Objects}
use Rattle.formats.specs.Bytes.{IsClosedAt}
use Rattle.formats.specs.FirstFault.{IsDamaged}
use Rattle.formats.specs.FirstFault.IsFirstFault.{at_logs, at_objects, at_record}
use Rattle.formats.specs.Image.{IsRecordFault}
use Rattle.formats.specs.Objects.{IsObjectsFile, bounds_of}
use Rattle.formats.specs.Reading.{FailsBy}
use Rattle.formats.specs.declared.params.Params.{Params}
use Rattle.formats.specs.declared.read_err.ReadErr.{ReadErr}
use Rattle.formats.specs.declared.read_err.ReadErr.TheVariants as reads
use Rattle.log_blocks.specs.LogView.{LogView, end_with, used_of}
use Rattle.log_records.specs.Loading.{IsLoadFault}
use Rattle.log_records.specs.Loading.IsLoadFault.{in_blocks, in_record}
use Rattle.op_codec.specs.AllOps.{all_meaning}
use Rattle.oper_core.specs.Meaning.{IsSmall}
use Rattle.oper_core.specs.declared.bounds.Bounds.{Bounds}
use Rattle.stable_objects.specs.Laws.{start_is_open}
use Rattle.stable_objects.specs.Reading.{IsDamagedAt, OpensNot}
use Rattle.stable_objects.specs.SlotsView.{AreOf, SlotsView}
use Rattle.stable_objects.specs.declared.open_err.OpenErr.{OpenErr}
use Rattle.stable_objects.specs.declared.open_err.OpenErr.TheVariants as opens
use Rattle.tool_output.specs.Found.{HasStore, IsLogStopped, IsStopped}
use Rattle.tool_output.specs.Stops.{stop_from_open, stop_from_read}

-- why no slots were loaded
pub unopened : (files : Files) (closed rises : Type 0) (fault : FileNo → ℕ → Type 0) (e : OpenErr) → (closed → IsClosedAt 0 (files Objects)) → ((file : FileNo) (place : ℕ) → fault file place → IsDamaged all_meaning files file place)
    → OpensNot closed (FailsBy rises fault) e → IsStopped files (stop_from_open e)
unopened files closed rises fault opens.NotAStore none damaged fails = none fails
unopened files closed rises fault opens.DiskFault none damaged fails = tt
unopened files closed rises fault (opens.Damaged file place) none damaged fails = damaged file place fails
unopened files closed rises fault opens.Memory none damaged fails = tt

pub objects_damaged : (files : Files) (file : FileNo) (place : ℕ) → file ≡ Objects → IsDamagedAt (files Objects) place → IsDamaged all_meaning files file place
objects_damaged files file place same is = subst (λ (f : FileNo). IsDamaged all_meaning files f place) (sym same) (record { gate = is.gate; fault = at_objects place is.fault })

-- the bounds of the slots that were loaded
pub has_store : (files : Files) (slots : SlotsView) (b : Bounds) → AreOf slots (files Objects) → b ≡ bounds_of slots.params → HasStore files b
has_store files slots b are same = (
  subst (λ (p : Params). IsObjectsFile p (files Objects)) (sym are.whole.params) are.whole,
  same ∙ ap bounds_of (sym are.whole.params),
)

pub is_small : (files : Files) (b : Bounds) → HasStore files b → IsSmall b
is_small files b is = record {
  objects = omega (arith, is.0.in_range.objects, ap (λ (c : Bounds). c.objects) is.1);
  cap = omega (arith, is.0.in_range.cap, ap (λ (c : Bounds). c.cap) is.1);
}

-- the faults of a load are those of the files
pub load_damaged : (files : Files) (b : Bounds) → HasStore files b → (file : FileNo) (place : ℕ) → IsLoadFault (all_meaning b) files file place → IsDamaged all_meaning files file place
load_damaged files b is _ _ (in_blocks file place fault) = record { gate = start_is_open (files Objects) is.0.begins; fault = at_logs file place is.0 fault }
load_damaged files b is _ _ (in_record active header place in_force has fault) = record {
  gate = start_is_open (files Objects) is.0.begins;
  fault = at_record active header place is.0 in_force has (subst (λ (c : Bounds). IsRecordFault (all_meaning c) (files active) place) is.1 fault);
}

pub log_stopped : (files : Files) (rises : Type 0) (fault : FileNo → ℕ → Type 0) (e : ReadErr) → ((file : FileNo) (place : ℕ) → fault file place → IsDamaged all_meaning files file place) → FailsBy rises fault e → IsLogStopped files (stop_from_read e)
log_stopped files rises fault reads.DiskFault damaged fails = tt
log_stopped files rises fault (reads.Damaged file place) damaged fails = damaged file place fails
log_stopped files rises fault reads.Memory damaged fails = tt

-- an error that is handed on
pub stopped_by : {T E : Type 0} (result : Result T E) (stop : E) (P : E → Type 0) → IsErrAnd result (λ e. e ≡ stop) → P stop → IfErr result P
stopped_by (Ok value) stop P is holds = tt
stopped_by (Err e) stop P is holds = subst P (sym is) holds

-- where nothing waits the log ends at its first closed gate
pub end_used : (log : LogView) (end : ℕ) → log.pending ≡ [] → log.end ≡ end → used_of log ≡ end
end_used log end none is = ap (end_with log.end) none ∙ is
