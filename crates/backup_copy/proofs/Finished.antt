-- A backup is finished.
use Rattle.std.proofs.Common.{◌≡◌, ◌⊎◌, ◌∙◌, inl, inr, ⊎_elim, ◌≤◌, ℕ, Bool, true, false, List, refl, sym, ap, subst, arith}
use Rattle.std.specs.Prelude.{◌↔◌, nat_lt, IfErr, OnErr, IsErrOf, Result, Ok, Err, None, Some, Option}
use Rattle.std.proofs.lemmas.Bool.{cases_Bool, cond-true, ltb-false}
use Rattle.disk_model.specs.Disk.{Disk, IsDisk, LeavesOnly, Rises}
use Rattle.disk_model.specs.Moments.{started}
use Rattle.disk_model.specs.declared.machine.Failed.{Failed}
use Rattle.disk_model.specs.declared.machine.FileNo.{FileNo}
use Rattle.oper_core.specs.Meaning.{Meaning, IsSmall}
use Rattle.oper_core.specs.declared.bounds.Bounds.{Bounds}
use Rattle.formats.specs.Objects.{bounds_of}
use Rattle.formats.specs.declared.params.Params.{Params}
use Rattle.log_blocks.specs.LogView.{used_of}
use Rattle.explain_core.specs.RunLaws.{begins-all}
use Rattle.explain_core.specs.World.{World, run}
use Rattle.running_store.specs.Courses.{force_course, force_steps}
use Rattle.running_store.specs.Parts.{Parts}
use Rattle.running_store.specs.Running.{IsRunning}
use Rattle.store_engine.specs.Beside.{MayGoBeside}
use Rattle.store_engine.specs.Calls.{IsForcing}
use Rattle.store_engine.specs.Engine.{EngineView, IsEngineRead, ShowsIn, commands_since, group_size, params_of, so_far}
use Rattle.store_engine.specs.Grouping.{ungrouped_alone}
use Rattle.store_engine.specs.Store.{meaning_in}
use Rattle.backup_copy.specs.Calls.{FinishFailsBy, ForcedSo, HasLength, IsFault, IsShutOrWhole, backup_of_force, but_copied, kept_copied}
use Rattle.backup_copy.specs.Copies.{Copies}
use Rattle.backup_copy.specs.Refusals.{judge_finish, whole}
use Rattle.backup_copy.specs.declared.backup_err.BackupErr.{BackupErr}
use Rattle.backup_copy.specs.declared.backup_err.BackupErr.TheVariants.{InGroup, InBackup, NoBackup, AlreadyStore, NotCopied, DiskFault, TargetFault, Damaged, LogFull, Memory}
use Rattle.backup_copy.proofs.Going.{CopyGoesOn, gone_on}
use Rattle.backup_copy.proofs.Forced.{forced_failed, forced_then}
use Rattle.backup_copy.proofs.Shown.{small_shown}

-- a finish that is not refused has no open group, and all objects
record IsWhole (objects : ℕ) (size copied : Option ℕ) : Type 0 where
  alone : size ≡ None
  so_many : ℕ
  copied_is : copied ≡ Some so_many
  enough : objects ≤ so_many

is_whole : (objects : ℕ) (size copied : Option ℕ) → whole objects size copied ≡ Ok tt → IsWhole objects size copied
is_whole objects (Some size) copied is = cc
is_whole objects None None is = cc
is_whole objects None (Some copied) is = elim (cases_Bool (nat_lt copied objects)) [
  | inl less ↦ let same = sym (cond-true (nat_lt copied objects) (Err (NotCopied copied)) (Ok tt) less) ∙ is in cc same
  | inr enough ↦ record { alone = refl; so_many = copied; copied_is = refl; enough = ltb-false copied objects enough }
]

no_group : (next : ℕ) (group : Option ℕ) → commands_since next group ≡ None → group ≡ None
no_group next None is = refl
no_group next (Some begun) is = cc

-- what a force answered that succeeded
pub forced_ok : (answer : Result ℕ Failed) (n : ℕ) → backup_of_force answer ≡ Ok n → answer ≡ Ok n
forced_ok (Ok k) n is = ap (λ (r : Result ℕ BackupErr). Ok (value_or r)) is
  where
    value_or : Result ℕ BackupErr → ℕ
    value_or (Ok n) = n
    value_or (Err e) = 0
forced_ok (Err e) n is = cc

-- the engine was not broken by calls that did not fail
unbroken_still : (broken : Bool) (failed : Type 0) → (broken ≡ true) ↔ failed → (failed → ⊥) → broken ≡ false
unbroken_still broken failed so fine = elim (cases_Bool broken) [ inl is ↦ absurd (fine (so.0 is)) | inr not ↦ not ]

module _ {O : Type 0} (meaning : Bounds → Meaning O) (old mid new : Disk) (before between after : EngineView) where
  -- a read that did not fail leaves the engine as it was
  same_engine : {failed : Type 0} → between.broken ≡ false → IsEngineRead meaning mid new between after failed → (failed → ⊥) → after ≡ between
  same_engine {failed} unbroken read fine = read.engine ∙ (λ i. record between { broken = (unbroken_still after.broken failed read.broken fine ∙ sym unbroken) i })

  pub unbroken_forced : (n : ℕ) → IsForcing meaning old mid before between (Ok n) → between.broken ≡ false
  unbroken_forced n is = unbroken_still between.broken ⊥ is.call.broken (λ never. never)

  module _ (n : ℕ) (forced : IsForcing meaning old mid before between (Ok n)) (disk : IsDisk mid) (last : IsDisk new) (copied : Option ℕ) (noted : EngineView) (noted_is : noted ≡ record after { copied = copied }) where
    -- with as many objects copied as before, it is the engine after the force
    pub forced_still : {failed : Type 0} → IsEngineRead meaning mid new between after failed → (failed → ⊥) → IsForcing meaning old new before (but_copied before noted) (Ok n)
    forced_still {failed} read fine =
        let same = same_engine (unbroken_forced n forced) read fine in
        let is : but_copied before noted ≡ between =
        ap (λ (e : EngineView). record e { copied = before.copied }) noted_is ∙ ap (λ (e : EngineView). record e { copied = before.copied }) same ∙ (λ i. record between { copied = (sym forced.call.copied) i }) in
        subst (λ (e : EngineView). IsForcing meaning old new before e (Ok n)) (sym is)
        (forced_then meaning old mid new before between disk last read.kept n
        (λ p w shows. ⊎_elim (λ failed. absurd (fine failed)) (λ now. subst (λ (e : EngineView). ShowsIn meaning p new e w) same now) (read.shows p w shows)) forced)

    -- or a broken one
    forced_broken : {failed : Type 0} (e : Failed) → IsEngineRead meaning mid new between after failed → failed → Rises mid.disk_faults new.disk_faults → IsForcing meaning old new before (but_copied before noted) (Err e)
    forced_broken {failed} e read fails rises =
        let is : but_copied before noted ≡ record between { broken = true } =
        ap (λ (e : EngineView). record e { copied = before.copied }) noted_is ∙ ap (λ (e : EngineView). record e { copied = before.copied }) read.engine
        ∙ (λ i. record between { copied = (sym forced.call.copied) i; broken = read.broken.1 fails i }) in
        forced_failed meaning old mid new before between disk last read.kept n (but_copied before noted) e is rises forced

    -- what it leaves where it failed so
    pub forced_so : (e : BackupErr) {failed : Type 0} → IsEngineRead meaning mid new between after failed → (failed → e ≡ DiskFault) → (e ≡ DiskFault → failed) → (e ≡ DiskFault → Rises mid.disk_faults new.disk_faults) → ForcedSo meaning old new before noted e
    forced_so DiskFault read only back rises = (record {}, forced_broken (record {}) read (back refl) (rises refl))
    forced_so (InGroup size) read only back rises = (n, forced_still read (λ failed. let is = only failed in cc is))
    forced_so (InBackup so_many) read only back rises = (n, forced_still read (λ failed. let is = only failed in cc is))
    forced_so NoBackup read only back rises = (n, forced_still read (λ failed. let is = only failed in cc is))
    forced_so AlreadyStore read only back rises = (n, forced_still read (λ failed. let is = only failed in cc is))
    forced_so (NotCopied so_many) read only back rises = (n, forced_still read (λ failed. let is = only failed in cc is))
    forced_so TargetFault read only back rises = (n, forced_still read (λ failed. let is = only failed in cc is))
    forced_so (Damaged file place) read only back rises = (n, forced_still read (λ failed. let is = only failed in cc is))
    forced_so (LogFull used need limit) read only back rises = (n, forced_still read (λ failed. let is = only failed in cc is))
    forced_so Memory read only back rises = (n, forced_still read (λ failed. let is = only failed in cc is))

module _ {O : Type 0} (meaning : Bounds → Meaning O) (p : Params) (w : World O) where
  abbrev m : Meaning O
  m = meaning_in meaning p

  abbrev forced_world : World O
  forced_world = run m w (force_steps m w)

  -- the steps of a force may be taken beside the copy
  abbrev pub ForceGoesBeside : Type 0
  ForceGoesBeside = (b : Bounds) (copied : ℕ) (w : World O) (used : ℕ) → IsSmall b → IsRunning (meaning b) w → MayGoBeside (meaning b) copied w (force_course (meaning b) w used).steps

  -- the copying stands after the force as before it
  pub forced_copies : (old mid : Disk) (before between : EngineView) (t : Disk) (n : ℕ) → CopyGoesOn meaning → ForceGoesBeside → judge_finish before ≡ Ok tt → IsForcing meaning old mid before between (Ok n) → Copies meaning p old before w t
      → Copies meaning p mid between forced_world t
  forced_copies old mid before between t n goes beside judged forced is =
      let alone : w.group ≡ None = is.shows.group ∙ no_group before.parts.log.next before.group (is_whole (params_of before).objects (group_size before) before.copied judged).alone in
      let running : IsRunning m w = subst (λ (v : World O). IsRunning m v) (ungrouped_alone w alone) is.shows.shows.running in
      gone_on meaning p old mid t before between w (force_steps m w) (force_steps m w) goes is
      (beside (bounds_of p) (so_far before.copied) w 0 (small_shown meaning p old before w is.shows) running) (begins-all (force_steps m w)) (forced.takes.follows p w is.shows).1.shows forced.call.copied

  -- all objects are copied
  pub all_done : (old mid : Disk) (before between : EngineView) (t : Disk) (v : World O) → judge_finish before ≡ Ok tt → between.copied ≡ before.copied → ShowsIn meaning p old before w → (is : Copies meaning p mid between v t) → is.done ≡ p.objects
  all_done old mid before between t v judged same shows is =
      let it = is_whole (params_of before).objects (group_size before) before.copied judged in
      let here : is.done ≡ it.so_many = ap so_far (sym is.so_far ∙ same ∙ it.copied_is) in
      let objects = ap (λ (q : Params). q.objects) shows.shows.store.params in
      omega (arith, here, it.enough, is.within, objects)

-- one answer has one error
pub errors_same : {A : Type 0} (r : Result A BackupErr) (e k : BackupErr) → r ≡ Err e → r ≡ Err k → e ≡ k
errors_same {A} r e k was is = ap (λ (x : Result A BackupErr). error_or x) (sym was ∙ is)
  where
    error_or : Result A BackupErr → BackupErr
    error_or (Ok value) = e
    error_or (Err k) = k

-- before the target is touched its gate is closed in each image
pub shut_first : {O : Type 0} (meaning : Bounds → Meaning O) (p : Params) (commands : List O) (d : Disk) (engine : EngineView) (w : World O) (t : Disk) → IsDisk t → t.tells_moments → Copies meaning p d engine w t → LeavesOnly t t (IsShutOrWhole meaning p commands t)
shut_first meaning p commands d engine w t lawful told is =
    let part = is.target (lawful.telling told) in
    started t (IsShutOrWhole meaning p commands t) (λ files said left. (inl (part.shut told files said left), lawful.said_now told files said left))

-- the copying goes on after an error that is no fault, with as many objects copied
pub again_so : {O A B : Type 0} (meaning : Bounds → Meaning O) (p : Params) (d : Disk) (after noted : EngineView) (w : World O) (t : Disk) (step : Result A BackupErr) (e : BackupErr) (result : Result B BackupErr) → step ≡ Err e → result ≡ Err e
    → noted ≡ record after { copied = kept_copied after.copied e } → OnErr step (IsFault step ⊎ Copies meaning p d after w t) → OnErr result (IsFault result ⊎ Copies meaning p d noted w t)
again_so {O} {A} {B} meaning p d after noted w t step e result was is noted_is kept =
    subst (λ (r : Result B BackupErr). OnErr r (IsFault result ⊎ Copies meaning p d noted w t)) (sym is)
    (go e was is noted_is (subst (λ (r : Result A BackupErr). OnErr r (IsFault step ⊎ Copies meaning p d after w t)) was kept))
  where
    on : (k : BackupErr) → step ≡ Err k → (k ≡ DiskFault → ⊥) → (k ≡ TargetFault → ⊥) → noted ≡ after → IsFault step ⊎ Copies meaning p d after w t → IsFault result ⊎ Copies meaning p d noted w t
    on k was disk target same kept = ⊎_elim
        (λ fault. ⊎_elim (λ (one : IsErrOf step DiskFault). absurd (disk (ap (λ (r : Result A BackupErr). error_or r) (sym was ∙ one)))) (λ (two : IsErrOf step TargetFault). absurd (target (ap (λ (r : Result A BackupErr). error_or r) (sym was ∙ two)))) fault)
        (λ copies. inr (subst (λ (v : EngineView). Copies meaning p d v w t) (sym same) copies))
        kept
      where
        error_or : Result A BackupErr → BackupErr
        error_or (Ok value) = Memory
        error_or (Err k) = k

    go : (k : BackupErr) → step ≡ Err k → result ≡ Err k → noted ≡ record after { copied = kept_copied after.copied k } → IsFault step ⊎ Copies meaning p d after w t → IsFault result ⊎ Copies meaning p d noted w t
    go DiskFault was is same kept = inl (inl is)
    go TargetFault was is same kept = inl (inr is)
    go (InGroup size) was is same kept = on (InGroup size) was (λ e. cc) (λ e. cc) same kept
    go (InBackup copied) was is same kept = on (InBackup copied) was (λ e. cc) (λ e. cc) same kept
    go NoBackup was is same kept = on NoBackup was (λ e. cc) (λ e. cc) same kept
    go AlreadyStore was is same kept = on AlreadyStore was (λ e. cc) (λ e. cc) same kept
    go (NotCopied copied) was is same kept = on (NotCopied copied) was (λ e. cc) (λ e. cc) same kept
    go (Damaged file place) was is same kept = on (Damaged file place) was (λ e. cc) (λ e. cc) same kept
    go (LogFull used need limit) was is same kept = on (LogFull used need limit) was (λ e. cc) (λ e. cc) same kept
    go Memory was is same kept = on Memory was (λ e. cc) (λ e. cc) same kept

-- why it fails, said of the engine with that number noted
fails_noted : (first mid last : ℕ) (target_rises : Type 0) (Fault : Parts → FileNo → ℕ → Type 0) (after noted : EngineView) (e : BackupErr) → first ≤ mid → noted.parts ≡ after.parts
    → FinishFailsBy (Rises mid last) target_rises (Fault after.parts) after e → FinishFailsBy (Rises first last) target_rises (Fault noted.parts) noted e
fails_noted first mid last target_rises Fault after noted DiskFault le same rises = λ below. let risen = rises below in omega (arith, risen, le)
fails_noted first mid last target_rises Fault after noted TargetFault le same rises = rises
fails_noted first mid last target_rises Fault after noted (Damaged file place) le same fault = subst (λ (it : Parts). Fault it file place) (sym same) fault
fails_noted first mid last target_rises Fault after noted (LogFull used need limit) le same fails = (fails.0 ∙ ap (λ (it : Parts). used_of it.log.log) (sym same), fails.1, fails.2)
fails_noted first mid last target_rises Fault after noted Memory le same fails = tt
fails_noted first mid last target_rises Fault after noted (InGroup size) le same fails = absurd fails
fails_noted first mid last target_rises Fault after noted (InBackup copied) le same fails = absurd fails
fails_noted first mid last target_rises Fault after noted NoBackup le same fails = absurd fails
fails_noted first mid last target_rises Fault after noted AlreadyStore le same fails = absurd fails
fails_noted first mid last target_rises Fault after noted (NotCopied copied) le same fails = absurd fails

pub cause_noted : {A B : Type 0} (first mid last : ℕ) (target_rises : Type 0) (Fault : Parts → FileNo → ℕ → Type 0) (after noted : EngineView) (step : Result A BackupErr) (e : BackupErr) (result : Result B BackupErr) → step ≡ Err e → result ≡ Err e
    → first ≤ mid → noted.parts ≡ after.parts → IfErr step (FinishFailsBy (Rises mid last) target_rises (Fault after.parts) after) → IfErr result (FinishFailsBy (Rises first last) target_rises (Fault noted.parts) noted)
cause_noted {A} {B} first mid last target_rises Fault after noted step e result was is le same fails =
    subst (λ (r : Result B BackupErr). IfErr r (FinishFailsBy (Rises first last) target_rises (Fault noted.parts) noted)) (sym is)
    (fails_noted first mid last target_rises Fault after noted e le same (subst (λ (r : Result A BackupErr). IfErr r (FinishFailsBy (Rises mid last) target_rises (Fault after.parts) after)) was fails))

-- and where the disk failed it counted that
pub counted_so : {A : Type 0} (rises target_rises : Type 0) (fault : FileNo → ℕ → Type 0) (engine : EngineView) (step : Result A BackupErr) → step ≡ Err DiskFault → IfErr step (FinishFailsBy rises target_rises fault engine) → rises
counted_so {A} rises target_rises fault engine step is fails = subst (λ (r : Result A BackupErr). IfErr r (FinishFailsBy rises target_rises fault engine)) is fails

-- a finish whose last part fails says the length that this says
pub length_later : {A B : Type 0} (length : ℕ) (step : Result A BackupErr) (e : BackupErr) (result : Result B BackupErr) → step ≡ Err e → result ≡ Err e → HasLength length step → HasLength length result
length_later {A} {B} length step e result was is long = subst (λ (r : Result B BackupErr). HasLength length r) (sym is) (subst (λ (r : Result A BackupErr). HasLength length r) was long)
