-- What a restart says of the files, whatever it answers.
use Rattle.std.proofs.Common.{◌≡◌, ◌⊎◌, inl, inr, ℕ, refl, Result, Ok, Err, arith}
use Rattle.std.specs.Prelude.{IfErr, IsErrOf, OnOk}
use Rattle.std.proofs.lemmas.Result.{IfErr-at_err}
use Rattle.disk_model.specs.Disk.{Files, Disk, Rises, Stays, Same, IsSettled}
use Rattle.disk_model.specs.Moments.{runs_wider, runs_twice, told_agrees}
use Rattle.disk_model.specs.declared.machine.FileNo.{FileNo}
use Rattle.disk_model.specs.declared.machine.FileNo.TheVariants.{Objects}
use Rattle.oper_core.specs.Meaning.{Meaning, HasBounds, IsSmall, IsLawful}
use Rattle.oper_core.specs.declared.bounds.Bounds.{Bounds}
use Rattle.formats.specs.Bytes.{IsOpenAt, IsClosedAt}
use Rattle.formats.specs.FirstFault.{IsDamaged}
use Rattle.formats.specs.Reading.{FailsBy}
use Rattle.stable_objects.specs.Reading.{IsNoDamage, OpensNot}
use Rattle.stable_objects.specs.declared.open_err.OpenErr.{OpenErr}
use Rattle.stable_objects.specs.declared.open_err.OpenErr.TheVariants.{DiskFault, NotAStore, Damaged, Memory}
use Rattle.running_store.specs.Steps.Finished.{IsQuiet}
use Rattle.running_store.specs.Kept.{IsAttached}
use Rattle.running_store.specs.Parts.{Parts}
use Rattle.running_store.specs.Taking.{ArePartsInUse}
use Rattle.restart.specs.Damage.{IsReadAsDamaged, IsReported}
use Rattle.restart.specs.DamageLaws.{passes_all, one_first_fault}
use Rattle.restart.specs.Loading.{LoadsNot}
use Rattle.restart.specs.Opening.{IsJudged, IsOpening, KeepsLayout}
use Rattle.restart.specs.WellFormed.{IsWellFormed, opens_gate}

-- calls that say nothing, one after the other
pub quiet_stays : (old new : Disk) → Stays old new → IsQuiet old new
quiet_stays old new kept = runs_wider old new Same (λ before after. Unit {0}) (λ a b same. tt) kept

pub quiet_then : (old mid new : Disk) → IsQuiet old mid → IsQuiet mid new → IsQuiet old new
quiet_then old mid new first second = runs_twice old mid new (λ before after. Unit {0}) (λ a b c one two. tt) first second

-- a count that rose in a later call rose in both
pub rises_behind : (old mid new : Disk) → IsQuiet old mid → Rises mid.disk_faults new.disk_faults → Rises old.disk_faults new.disk_faults
rises_behind old mid new first rises small = let rose = rises small in omega (arith, rose, first.time.disk_faults)

-- what holds of each cause holds of the one that is answered
pub cause_of : {T : Type 0} (closed rises : Type 0) (fault : FileNo → ℕ → Type 0) (e why : OpenErr) → OpensNot closed (FailsBy rises fault) e → IsErrOf {T = T} (Err e) why → OpensNot closed (FailsBy rises fault) why
cause_of closed rises fault e why fails is = IfErr-at_err (OpensNot closed (FailsBy rises fault)) is fails

-- a store that is not opened
pub not_opened : {O : Type 0} (meaning : Bounds → Meaning O) (old new : Disk) (e : OpenErr) → IsQuiet old new → (IsErrOf {T = Parts} (Err e) DiskFault → Rises old.disk_faults new.disk_faults) → IsOpening meaning old new (Err e)
not_opened meaning old new e quiet rose = record { time = quiet.time; quiet = λ told. quiet.said told; fault = rose; settled = tt; in_use = tt; attached = tt }

-- one that is
pub is_opened : {O : Type 0} (meaning : Bounds → Meaning O) (old new : Disk) (it : Parts) → IsQuiet old new → IsSettled new → ArePartsInUse it → IsAttached meaning new it → IsOpening meaning old new (Ok it)
is_opened meaning old new it quiet settled used attached =
    record { time = quiet.time; quiet = λ told. quiet.said told; fault = λ is. cc; settled = settled; in_use = used; attached = attached }

-- what is reported of files that are opened, which is nothing, and of those that are not
pub none_reported : {O : Type 0} (meaning : Bounds → Meaning O) (old new : Disk) (it : Parts) → IsReported meaning old new (Ok it)
none_reported meaning old new it = record { damaged = λ file place is files agrees. cc; no_store = λ is files agrees. cc }

pub is_reported : {O : Type 0} (meaning : Bounds → Meaning O) (old new : Disk) (closed rises : Type 0) (fault : FileNo → ℕ → Type 0) (e : OpenErr) → OpensNot closed (FailsBy rises fault) e
    → (closed → (files : Files) → new.agrees files → IsClosedAt 0 (files Objects)) → ((file : FileNo) (place : ℕ) → fault file place → IsReadAsDamaged meaning old new file place) → IsReported meaning old new (Err e)
is_reported meaning old new closed rises fault e fails gate damaged = record {
  damaged = λ file place is. damaged file place (cause_of closed rises fault e (Damaged file place) fails is);
  no_store = λ is. gate (cause_of closed rises fault e NotAStore fails is);
}

on_ok : {T E P : Type 0} (r : Result T E) → P → OnOk r P
on_ok (Ok value) holds = holds
on_ok (Err e) holds = tt

module _ {O : Type 0} (meaning : Bounds → Meaning O) (bounded : (b : Bounds) → HasBounds b (meaning b)) (lawful : (b : Bounds) → IsSmall b → IsLawful (meaning b)) (old new : Disk) where
  -- files that meet their format
  pub judged_whole : IsWellFormed meaning old.reads → (result : Result Parts OpenErr) → IfErr result IsNoDamage → OnOk result (KeepsLayout (old.reads Objects) (new.reads Objects)) → IsJudged meaning old new result
  judged_whole image result none layout = record {
    read = on_ok result image;
    layout = layout;
    whole = λ is. none;
    kept = inl image;
    no_store = λ is. absurd (IfErr-at_err IsNoDamage is none);
    damaged = λ file place is. absurd (IfErr-at_err IsNoDamage is none);
    exactly = λ file place damage. absurd (passes_all meaning bounded lawful old.reads file place image damage.fault);
    memory = λ is. opens_gate meaning image;
  }

  -- files that are not loaded
  module _ (told : old.tells_files) (kept : Stays old new) where
    exactly : (e : OpenErr) → LoadsNot meaning old new e → (file : FileNo) (place : ℕ) → IsDamaged meaning old.reads file place
        → IsErrOf {T = Parts} (Err e) (Damaged file place) ⊎ (IsErrOf {T = Parts} (Err e) Memory ⊎ IsErrOf {T = Parts} (Err e) DiskFault)
    exactly DiskFault fails file place damage = inr (inr refl)
    exactly NotAStore fails file place damage = absurd (fails old.reads (told_agrees kept told) damage.gate)
    exactly (Damaged at of) fails file place damage =
        let same = one_first_fault meaning bounded lawful old.reads at file of place (fails old.reads (told_agrees kept told)).fault damage.fault in inl (λ i. Err (Damaged (same.0 i) (same.1 i)))
    exactly Memory fails file place damage = inr (inl refl)

    pub judged_unread : (e : OpenErr) → (IsWellFormed meaning old.reads → IsNoDamage e) → LoadsNot meaning old new e → (e ≡ Memory → IsOpenAt 0 (old.reads Objects)) → IsJudged meaning old new (Err e)
    judged_unread e whole fails memory = record {
      read = tt;
      layout = tt;
      whole = whole;
      kept = inr kept;
      no_store = λ is. IfErr-at_err (LoadsNot meaning old new) is fails old.reads (told_agrees kept told);
      damaged = λ file place is. IfErr-at_err (LoadsNot meaning old new) is fails old.reads (told_agrees kept told);
      exactly = exactly e fails;
      memory = λ is. memory (IfErr-at_err (λ why. e ≡ why) is refl);
    }
