-- How the calls are answered that no group allows, and what holds of them by their answers.
use Rattle.std.proofs.Common.{◌≡◌, ◌∙◌, ap, refl, sym, subst, inl, inr, ℕ, Option, None, Some, Result, Ok, Err, IfErr, OnOk, false}
use Rattle.std.specs.Prelude.{⊤, IfSome, IsTrue}
use Rattle.std.specs.Option.{is_some}
use Rattle.std.specs.Result.{IsErrAnd}
use Rattle.std.proofs.lemmas.Result.{on_ok_weaker}
use Rattle.disk_model.specs.Disk.{Disk, Rises}
use Rattle.disk_model.specs.declared.machine.Failed.{Failed as Failure}
use Rattle.disk_model.specs.declared.machine.FileNo.{FileNo}
use Rattle.op_codec.specs.AllOps.{all_meaning}
use Rattle.log_records.specs.declared.rewrite_err.RewriteErr.{RewriteErr}
use Rattle.log_records.specs.declared.rewrite_err.RewriteErr.TheVariants as of_rewrite
use Rattle.running_store.specs.Calls.{IsFailed}
use Rattle.running_store.specs.Courses.Stop.{Through, Full, At_end, Worn}
use Rattle.running_store.specs.Calls.Rewrites.{ending_of_rewrite}
use Rattle.cache_manager.specs.Endings.{ending_of}
use Rattle.running_store.specs.Taking.{Ending}
use Rattle.running_store.specs.Taking.Ending.{Done, Stopped, Short, Failed}
use Rattle.cache_manager.specs.declared.install.Install.{Install}
use Rattle.cache_manager.specs.declared.install_err.InstallErr.{InstallErr}
use Rattle.cache_manager.specs.declared.install_err.InstallErr.TheVariants as of_install
use Rattle.checkpointing.specs.Left.{ending_of_checkpoint}
use Rattle.checkpointing.specs.declared.checkpoint_err.CheckpointErr.{CheckpointErr}
use Rattle.checkpointing.specs.declared.checkpoint_err.CheckpointErr.TheVariants as of_checkpoint
use Rattle.script_lines.specs.Grammar.{Request}
use Rattle.script_lines.specs.declared.line.Line.TheVariants.{Keep}
use Rattle.script_lines.specs.declared.line.Upkeep.TheVariants.{Install as install, Drain as drain, Checkpoint as checkpoint, Trim as trim}
use Rattle.script_lines.specs.declared.answer.Answer.{Answer}
use Rattle.script_lines.specs.declared.answer.Answer.TheVariants as answers
use Rattle.store_engine.specs.Calls.{IsTakingCheckpoint, IsDraining, IsForcing, IsInstalling, IsRefused, IsRefusedBeside, IsTrimming, work_of_checkpoint, work_of_force, work_of_install, work_of_trim}
use Rattle.store_engine.specs.Engine.{EngineView, group_size, logged_since}
use Rattle.store_engine.specs.declared.work_err.WorkErr.{WorkErr}
use Rattle.store_engine.specs.declared.work_err.WorkErr.TheVariants as work_errors
use Rattle.shell_base.specs.Store.{IsAttached}
use Rattle.shell_base.specs.Stops.{IsCaused, IsUndamaged}
use Rattle.shell_base.specs.declared.stop.Stop.{Stop}
use Rattle.shell_base.specs.declared.stop.Stop.TheVariants.{DiskFault, Damaged, ReadFault, SayFault, BackupFault, Memory, TooLong}
use Rattle.shell_base.specs.HoldLaws.{always}
use Rattle.script_run.specs.Found.{IsAnswerOf, IsBarredIn, IsDeniedIn, IsShort, IsUpkept, answer_of_work}
use Rattle.script_run.proofs.CourseLemmas.{logged_checkpoint, logged_trim}
use Rattle.script_run.proofs.DoneLemmas.{still_attached, still_whole}
use Rattle.script_run.proofs.OpenGroups.{in_open}

-- what the engine says within a group
abbrev pub RefusedWithin : {T M : Type 0} → M → M → EngineView → EngineView → Result T WorkErr → Type 0
RefusedWithin old new before after call = IfSome (group_size before) (λ size. IsRefused size old new before after call)

pub refused_in : {T M : Type 0} {old new : M} {before after : EngineView} (call : Result T WorkErr) → RefusedWithin old new before after call → IsTrue (is_some before.group) → (size : ℕ) × IsRefused size old new before after call
refused_in {old = old} {new = new} {before = before} {after = after} call refused inside = in_open (λ size. IsRefused size old new before after call) before refused inside

-- a call that is answered so is barred there
pub barred_by : {T M : Type 0} {old new : M} {before after : EngineView} (answer : Result T WorkErr → Result Answer Stop) → ((size : ℕ) → answer (Err (work_errors.InGroup size)) ≡ Ok answers.InGroup)
    → (call : Result T WorkErr) (result : Result Answer Stop) → RefusedWithin old new before after call → result ≡ answer call → IsTrue (is_some before.group) → IsBarredIn old new before after result
barred_by answer inside call result refused is some =
    let it = refused_in call refused some in
    record { machine = it.1.machine; engine = it.1.engine; answered = is ∙ ap answer it.1.answer ∙ inside it.0 }

-- a trim is denied beside a backup
pub denied_in : {T M : Type 0} {old new : M} {before after : EngineView} (call : Result T WorkErr) (result : Result Answer Stop) → IfSome before.copied (λ n. IsRefusedBeside n old new before after call) → result ≡ answer_of_work call
    → IsTrue (is_some before.copied) → IsDeniedIn old new before after result
denied_in {T} {M} {old} {new} {before} {after} call result refused is beside = by_count before.copied refused beside
  where
    by_count : (copies : Option ℕ) → IfSome copies (λ n. IsRefusedBeside n old new before after call) → IsTrue (is_some copies) → IsDeniedIn old new before after result
    by_count None it some = cc some
    by_count (Some n) it some = record { machine = it.machine; engine = it.engine; answered = is ∙ ap (λ r. answer_of_work r) it.answer }

-- what a force says outside groups
abbrev pub ForcesAlone : Disk → Disk → EngineView → EngineView → Result ℕ WorkErr → Type 0
ForcesAlone old new before after call = (answer : Result ℕ Failure) × (call ≡ work_of_force answer) × IsForcing all_meaning old new before after answer

-- how the end of a call is answered
install_ends : {T : Type 0} (answer : Result T InstallErr) → IsAnswerOf (ending_of answer) (answer_of_work (work_of_install answer))
install_ends (Ok value) = refl
install_ends (Err (of_install.LogFull used need limit)) = refl
install_ends (Err (of_install.LsnEnd number)) = refl
install_ends (Err of_install.DiskFault) = refl
install_ends (Err of_install.Memory) = (Memory, tt, refl)

install_whole : {T : Type 0} (answer : Result T InstallErr) (file : FileNo) (place : ℕ) → answer_of_work (work_of_install answer) ≡ Err (Damaged file place) → ⊥
install_whole (Ok value) file place is = cc is
install_whole (Err (of_install.LogFull used need limit)) file place is = cc is
install_whole (Err (of_install.LsnEnd number)) file place is = cc is
install_whole (Err of_install.DiskFault) file place is = cc is
install_whole (Err of_install.Memory) file place is = cc is

checkpoint_ends : {T : Type 0} (answer : Result T CheckpointErr) → IsAnswerOf (ending_of_checkpoint answer) (answer_of_work (work_of_checkpoint answer))
checkpoint_ends (Ok value) = refl
checkpoint_ends (Err (of_checkpoint.LogFull used need limit)) = refl
checkpoint_ends (Err of_checkpoint.DiskFault) = refl
checkpoint_ends (Err of_checkpoint.Memory) = (Memory, tt, refl)

checkpoint_whole : {T : Type 0} (answer : Result T CheckpointErr) (file : FileNo) (place : ℕ) → answer_of_work (work_of_checkpoint answer) ≡ Err (Damaged file place) → ⊥
checkpoint_whole (Ok value) file place is = cc is
checkpoint_whole (Err (of_checkpoint.LogFull used need limit)) file place is = cc is
checkpoint_whole (Err of_checkpoint.DiskFault) file place is = cc is
checkpoint_whole (Err of_checkpoint.Memory) file place is = cc is

trim_ends : {T : Type 0} (answer : Result T RewriteErr) → IsAnswerOf (ending_of_rewrite answer) (answer_of_work (work_of_trim answer))
trim_ends (Ok value) = refl
trim_ends (Err (of_rewrite.Exhausted epoch)) = refl
trim_ends (Err of_rewrite.DiskFault) = refl
trim_ends (Err (of_rewrite.Damaged file place)) = (Damaged file place, tt, refl)
trim_ends (Err (of_rewrite.LogFull used need limit)) = refl
trim_ends (Err of_rewrite.Memory) = (Memory, tt, refl)

trim_whole : {T : Type 0} (answer : Result T RewriteErr) (file : FileNo) (place : ℕ) → answer_of_work (work_of_trim answer) ≡ Err (Damaged file place) → answer ≡ Err (of_rewrite.Damaged file place)
trim_whole (Ok value) file place is = cc is
trim_whole (Err (of_rewrite.Exhausted epoch)) file place is = cc is
trim_whole (Err of_rewrite.DiskFault) file place is = cc is
trim_whole (Err (of_rewrite.Damaged other there)) file place is = cc is
trim_whole (Err (of_rewrite.LogFull used need limit)) file place is = cc is
trim_whole (Err of_rewrite.Memory) file place is = cc is

module _ {old new : Disk} {before after : EngineView} {result : Result Answer Stop} where
  pub installed_upkept : (call : Result Install WorkErr) → (answer : Result Install InstallErr) × (call ≡ work_of_install answer) × IsInstalling all_meaning old new before after answer → result ≡ answer_of_work call
      → IsUpkept old new before after (Keep install) result
  installed_upkept call alone is =
      let same = is ∙ ap (λ r. answer_of_work r) alone.1 in
      record {
        epoch = 0;
        logged = logged_since before after;
        ending = ending_of alone.0;
        call = alone.2.call;
        beside = tt;
        takes = alone.2.takes;
        commands = alone.2.commands;
        counted = inl refl;
        answered = subst (λ (r : Result Answer Stop). IsAnswerOf (ending_of alone.0) r) (sym same) (install_ends alone.0);
        undamaged = λ told attached file place damaged. install_whole alone.0 file place (sym same ∙ damaged);
      }

  pub drained_upkept : (call : Result ℕ WorkErr) → (answer : Result ℕ InstallErr) × (call ≡ work_of_install answer) × IsDraining all_meaning old new before after answer → result ≡ answer_of_work call
      → IsUpkept old new before after (Keep drain) result
  drained_upkept call alone is =
      let same = is ∙ ap (λ r. answer_of_work r) alone.1 in
      record {
        epoch = 0;
        logged = logged_since before after;
        ending = ending_of alone.0;
        call = alone.2.call;
        beside = tt;
        takes = alone.2.takes;
        commands = alone.2.commands;
        counted = inl refl;
        answered = subst (λ (r : Result Answer Stop). IsAnswerOf (ending_of alone.0) r) (sym same) (install_ends alone.0);
        undamaged = λ told attached file place damaged. install_whole alone.0 file place (sym same ∙ damaged);
      }

  pub checkpointed_upkept : {T : Type 0} (call : Result T WorkErr) → (answer : Result T CheckpointErr) × (call ≡ work_of_checkpoint answer) × IsTakingCheckpoint all_meaning old new before after answer → result ≡ answer_of_work call
      → IsUpkept old new before after (Keep checkpoint) result
  checkpointed_upkept call alone is =
      let same = is ∙ ap (λ r. answer_of_work r) alone.1 in
      record {
        epoch = 0;
        logged = 0;
        ending = ending_of_checkpoint alone.0;
        call = alone.2.call;
        beside = tt;
        takes = alone.2.takes;
        commands = alone.2.commands;
        counted = inr (refl, λ m w used. logged_checkpoint m w used);
        answered = subst (λ (r : Result Answer Stop). IsAnswerOf (ending_of_checkpoint alone.0) r) (sym same) (checkpoint_ends alone.0);
        undamaged = λ told attached file place damaged. checkpoint_whole alone.0 file place (sym same ∙ damaged);
      }

  pub trimmed_upkept : {T : Type 0} (call : Result T WorkErr) → before.copied ≡ None → (answer : Result T RewriteErr) × (call ≡ work_of_trim answer) × IsTrimming all_meaning old new before after answer → result ≡ answer_of_work call
      → IsUpkept old new before after (Keep trim) result
  trimmed_upkept call none alone is =
      let same = is ∙ ap (λ r. answer_of_work r) alone.1 in
      let epoch = before.parts.log.log.header.epoch in
      record {
        epoch = epoch;
        logged = 0;
        ending = ending_of_rewrite alone.0;
        call = alone.2.call;
        beside = none;
        takes = alone.2.takes;
        commands = alone.2.commands;
        counted = inr (refl, λ m w used. logged_trim m epoch w used);
        answered = subst (λ (r : Result Answer Stop). IsAnswerOf (ending_of_rewrite alone.0) r) (sym same) (trim_ends alone.0);
        undamaged = λ told attached file place damaged. alone.2.undamaged told attached file place (trim_whole alone.0 file place (sym same ∙ damaged));
      }

short_cause : (old now : Disk) (stop : Stop) → IsShort stop → IsCaused stop old now
short_cause old now DiskFault is = absurd is
short_cause old now (Damaged file place) is = tt
short_cause old now ReadFault is = absurd is
short_cause old now SayFault is = absurd is
short_cause old now BackupFault is = absurd is
short_cause old now Memory is = tt
short_cause old now TooLong is = absurd is

-- What holds of a call for a request that adds no command, outside groups.
module _ {old now : Disk} {before after : EngineView} {request : Request} {result : Result Answer Stop} (u : IsUpkept old now before after request result) where
  caused_by : (ending : Ending) (r : Result Answer Stop) → IsAnswerOf ending r → (IsFailed ending → Rises old.disk_faults now.disk_faults) → IfErr r (λ stop. IsCaused stop old now)
  caused_by Done r is fault = subst (λ (x : Result Answer Stop). IfErr x (λ stop. IsCaused stop old now)) (sym is) tt
  caused_by (Stopped Through) r is fault = absurd is
  caused_by (Stopped (Full used need limit)) r is fault = subst (λ (x : Result Answer Stop). IfErr x (λ stop. IsCaused stop old now)) (sym is) tt
  caused_by (Stopped (At_end number)) r is fault = subst (λ (x : Result Answer Stop). IfErr x (λ stop. IsCaused stop old now)) (sym is) tt
  caused_by (Stopped (Worn number)) r is fault = subst (λ (x : Result Answer Stop). IfErr x (λ stop. IsCaused stop old now)) (sym is) tt
  caused_by Short r is fault = subst (λ (x : Result Answer Stop). IfErr x (λ stop. IsCaused stop old now)) (sym is.2) (short_cause old now is.0 is.1)
  caused_by Failed r is fault = subst (λ (x : Result Answer Stop). IfErr x (λ stop. IsCaused stop old now)) (sym is) (fault tt)

  pub upkept_cause : IfErr result (λ stop. IsCaused stop old now)
  upkept_cause = caused_by u.ending result u.answered u.call.fault

  short_whole : (r : Result Answer Stop) → ((file : FileNo) (place : ℕ) → r ≡ Err (Damaged file place) → ⊥) → IfErr r IsUndamaged
  short_whole (Ok answer) none = tt
  short_whole (Err DiskFault) none = tt
  short_whole (Err (Damaged file place)) none = none file place refl
  short_whole (Err ReadFault) none = tt
  short_whole (Err SayFault) none = tt
  short_whole (Err BackupFault) none = tt
  short_whole (Err Memory) none = tt
  short_whole (Err TooLong) none = tt

  pub upkept_undamaged : old.tells_files → IsAttached old before → IfErr result IsUndamaged
  upkept_undamaged told attached = short_whole result (u.undamaged told attached)

  -- a call that was answered did not fail
  working : (ending : Ending) (r : Result Answer Stop) → IsAnswerOf ending r → OnOk r (IsFailed ending → ⊥)
  working Done r is = always r (λ failed. failed)
  working (Stopped stop) r is = always r (λ failed. failed)
  working Short r is = always r (λ failed. failed)
  working Failed r is = subst (λ (x : Result Answer Stop). OnOk x (⊤ → ⊥)) (sym is) tt

  pub upkept_attached : IsAttached old before → OnOk result (IsAttached now after)
  upkept_attached attached = on_ok_weaker result (λ well. still_attached u.call well attached) (working u.ending result u.answered)

  pub upkept_whole : OnOk result (after.broken ≡ false)
  upkept_whole = on_ok_weaker result (λ well. still_whole u.call well) (working u.ending result u.answered)

-- what ended it is handed on
pub passed_cause : {S T : Type 0} (result : Result T Stop) (answered : Result S Stop) (why : Stop) (old now : Disk) → IsErrAnd result (λ stop. stop ≡ why) → answered ≡ Err why → IfErr answered (λ stop. IsCaused stop old now) → IfErr result (λ stop. IsCaused stop old now)
passed_cause (Ok value) answered why old now is was cause = tt
passed_cause {S} (Err stop) answered why old now is was cause = subst (λ (s : Stop). IsCaused s old now) (sym is) (subst (λ (r : Result S Stop). IfErr r (λ s. IsCaused s old now)) was cause)
