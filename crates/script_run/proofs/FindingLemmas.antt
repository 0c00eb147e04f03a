-- The answers to lines are found, by what the engine's calls say.
use Rattle.std.proofs.Common.{◌≡◌, ◌∙◌, ap, refl, sym, subst, inl, inr, ⊎_elim, ℕ, List, [], Option, None, Some, Result, Ok, Err, IfErr, IfOk, OnOk, Bool, false, ◌<◌, ◌≤◌, arith}
use Rattle.std.specs.Prelude.{IsErr, IsTrue}
use Rattle.std.specs.Result.{IsErrAnd}
use Rattle.std.specs.Option.{is_some}
use Rattle.std.proofs.lemmas.Result.{on_ok_weaker}
use Rattle.disk_model.specs.Disk.{Disk, IsDisk, Stays}
use Rattle.disk_model.specs.Moments.{passes_none}
use Rattle.disk_model.specs.declared.machine.Failed.{Failed as Failure}
use Rattle.oper_core.specs.declared.bounds.Bounds.{Bounds}
use Rattle.oper_core.specs.declared.refusal.Refusal.TheVariants.{NoObject}
use Rattle.formats.specs.Objects.{bounds_of}
use Rattle.formats.specs.declared.params.Params.{Params}
use Rattle.op_codec.specs.AllOps.{all_meaning}
use Rattle.running_store.specs.Calls.{IsFailed}
use Rattle.running_store.specs.Laid.{values_in}
use Rattle.execution.specs.Answers.{ending_of_exec}
use Rattle.execution.specs.declared.exec_err.ExecErr.{ExecErr}
use Rattle.execution.specs.declared.exec_err.ExecErr.TheVariants.{Refused, LogFull, LsnEnd, Damaged, DiskFault as DiskFailed, Memory as OutOfMemory}
use Rattle.script_lines.specs.Grammar.{Request}
use Rattle.script_lines.specs.declared.line.Line.TheVariants.{Run as run, Ask, Force as force, Keep, Group, Skip as skip}
use Rattle.script_lines.specs.declared.line.Question.TheVariants.{Get as get}
use Rattle.script_lines.specs.declared.line.Upkeep.{Upkeep}
use Rattle.script_lines.specs.declared.line.Grouping.TheVariants.{Begin as begin_group, End as end_group, Abort as abort_group}
use Rattle.script_lines.specs.Replies.{Reply, backup_denied, bad, in_group, refused, reply_of, silence, value}
use Rattle.script_lines.specs.declared.answer.Answer.{Answer}
use Rattle.script_lines.specs.declared.answer.Answer.TheVariants as answers
use Rattle.script_lines.specs.declared.backup_denial.BackupDenial.TheVariants.{InBackup}
use Rattle.store_engine.specs.Calls.{IsBeginning, IsForcing, work_of_force}
use Rattle.store_engine.specs.Commands.{HasRun}
use Rattle.store_engine.specs.Engine.{EngineView}
use Rattle.store_engine.specs.declared.grouping.NoGroup.{NoGroup}
use Rattle.store_engine.specs.declared.work_err.WorkErr.{WorkErr}
use Rattle.shell_base.specs.Stops.{IsCaused, IsUndamaged}
use Rattle.shell_base.specs.First.{Stage, stage_of}
use Rattle.shell_base.specs.Store.{Command, Holds, IsAttached, Kept, state_of}
use Rattle.shell_base.specs.declared.stop.Stop.{Stop as Early}
use Rattle.shell_base.specs.HoldLaws.{holds_between, in_engine, stays_between}
use Rattle.shell_base.specs.StopLaws.{passed_whole}
use Rattle.script_run.specs.Finding.{FindsAnswer, FindsBeside, IsLineOf, found_out, outcome_reply, told}
use Rattle.script_run.specs.Found.{IsOfEngine, IsBarredIn, IsDeniedIn, IsDone, IsAsked, IsMade, IsUndone, IsUpkept, answer_of_error, answer_of_work, answer_of_work_error, reply_in}
use Rattle.script_run.specs.Groups.{Regroups, open_in}
use Rattle.script_run.specs.Replies.{IsBarred, Replies}
use Rattle.script_run.specs.Saving.{AsksBackup}
use Rattle.script_run.specs.Stages.{GoesBy, IsBesideBackup}
use Rattle.script_run.specs.declared.asking.Found.{Found}
use Rattle.script_run.specs.declared.outcome.Outcome.{Outcome}
use Rattle.script_run.specs.declared.outcome.Outcome.TheVariants.{Nothing, Told}
use Rattle.script_run.proofs.AskLemmas.{asked_done, asked_images, asked_works}
use Rattle.script_run.proofs.DoneLemmas.{AreCounted, IsExec, IsLiveMap, by_backup, by_group, denied_here, exec_done, exec_end, exec_full, exec_refused, exec_undamaged, exec_works, force_done, force_works, images_of, read_done, risen, still_attached, still_whole, unmoved, upkeep_done, upkeep_works}
use Rattle.script_run.proofs.GroupLemmas.{none_open}
use Rattle.script_run.proofs.GroupingLemmas.{ClosesGroup, begun_done, begun_works, closed, end_done, closing_refused}
use Rattle.script_run.proofs.LineLemmas.{caused_beside}
use Rattle.script_run.proofs.ListLemmas.{AreNoIdentities, IsOk, calls_attached, calls_cause, calls_unbroken, calls_undamaged, list_done, list_images, list_works}
use Rattle.script_run.proofs.MomentLemmas.{works_at_once, works_still}
use Rattle.script_run.proofs.OpenGroups.{some_open}
use Rattle.script_run.proofs.RunLemmas.{asks_values, works_none}
use Rattle.script_run.proofs.SavingLemmas.{BesideLaws, done_beside}
use Rattle.script_run.proofs.UpkeepLemmas.{ForcesAlone, RefusedWithin, barred_by, passed_cause, upkept_attached, upkept_cause, upkept_undamaged, upkept_whole}

-- a line that asks for this
pub finds_for : {A : Type 0} {reply : A → Reply} {old now : Disk} {before after : EngineView} {result : Result A Early} {request : Request} (known : Request) → request ≡ known
    → FindsAnswer reply (IsLineOf (Some known)) old now before after result → FindsAnswer reply (IsLineOf (Some request)) old now before after result
finds_for {reply = reply} {old} {now} {before} {after} {result} known is finds = subst (λ (r : Request). FindsAnswer reply (IsLineOf (Some r)) old now before after result) (sym is) finds

pub beside_for : {A T : Type 0} {reply : A → Reply} {disk : T → Disk} {old now : Disk} {before after : EngineView} {backup backed : T} {result : Result A Early} {asked : Option Request} (known : Option Request) → asked ≡ known
    → FindsBeside reply disk (IsLineOf known) old now before after backup backed result → FindsBeside reply disk (IsLineOf asked) old now before after backup backed result
beside_for {reply = reply} {disk} {old} {now} {before} {after} {backup} {backed} {result} known is finds = subst (λ (a : Option Request). FindsBeside reply disk (IsLineOf a) old now before after backup backed result) (sym is) finds

-- where it was answered
on_ok : {T P : Type 0} (result : Result T Early) → (IsOk result → P) → OnOk result P
on_ok (Ok found) so = so tt
on_ok (Err stop) so = tt

-- what is found where nothing is done
pub finds_at_once : {A : Type 0} {reply : A → Reply} {asks : List ℕ → Type 0} {d : Disk} {engine : EngineView} {found : A} → IsDisk d → engine.broken ≡ false
    → ((p : Params) (commands : List Command) (line : List ℕ) → asks line → (holds : Holds p d engine commands) → IsDone p d d engine engine holds.world commands line (reply found)) → FindsAnswer reply asks d d engine engine (Ok found)
finds_at_once {d = d} lawful fine done = record {
  time = passes_none d;
  quiet = λ told. refl;
  cause = tt;
  undamaged = λ told attached. tt;
  attached = λ attached. attached;
  unbroken = fine;
  images = λ p commands line asked holds. works_none (holds_between lawful holds);
  works = λ p commands line asked holds. works_at_once line lawful holds;
  done = done;
}

finds_undone : {M : Type 0} (disk : M → Disk) {asks : List ℕ → Type 0} {old now : M} {before after : EngineView} {result : Result Answer Early} {answer : Answer} → IsDisk (disk old) → before.broken ≡ false
    → ((p : Params) (commands : List Command) (line : List ℕ) → asks line → (holds : Holds p (disk old) before commands) → IsDone p (disk old) (disk old) before before holds.world commands line (reply_of answer))
    → IsUndone answer old now before after result → FindsAnswer reply_of asks (disk old) (disk now) before after result
finds_undone {M} disk {asks} {old} {now} {before} {after} {result} {answer} lawful fine done it =
    subst (λ (r : Result Answer Early). FindsAnswer reply_of asks (disk old) (disk now) before after r) (sym it.answered)
    (subst (λ (e : EngineView). FindsAnswer reply_of asks (disk old) (disk now) before e (Ok answer)) (sym it.engine)
    (subst (λ (x : M). FindsAnswer reply_of asks (disk old) (disk x) before before (Ok answer)) (sym it.machine) (finds_at_once lawful fine done)))

-- a call that no group allows
finds_barred : {M : Type 0} (disk : M → Disk) {old now : M} {before after : EngineView} {result : Result Answer Early} (request : Request) → IsBarred request → IsDisk (disk old) → before.broken ≡ false → IsTrue (is_some before.group)
    → IsBarredIn old now before after result → FindsAnswer reply_of (IsLineOf (Some request)) (disk old) (disk now) before after result
finds_barred disk request barred lawful fine inside it =
    finds_undone disk lawful fine (λ p commands line asks holds. unmoved in_group holds (request, barred, asks, some_open holds.shows inside, refl) refl refl tt) it

-- How a command is answered.
abbrev pub answer_of_exec : Result ℕ ExecErr → Result Answer Early
answer_of_exec (Ok n) = Ok answers.Done
answer_of_exec (Err error) = answer_of_error error

exec_working : (call : Result ℕ ExecErr) → OnOk (answer_of_exec call) (IsFailed (ending_of_exec call) → ⊥)
exec_working (Ok n) = λ failed. failed
exec_working (Err (Refused why)) = λ failed. failed
exec_working (Err (LogFull used need limit)) = λ failed. failed
exec_working (Err (LsnEnd number)) = λ failed. failed
exec_working (Err (Damaged file place)) = tt
exec_working (Err DiskFailed) = tt
exec_working (Err OutOfMemory) = tt

module _ (op : Command) {old now : Disk} {before after : EngineView} where
  exec_of : {p : Params} {commands : List Command} (call : Result ℕ ExecErr) → (holds : Holds p old before commands) → HasRun all_meaning old now before after op call → IsExec p old now before after holds.world commands op call
  exec_of {p} {commands} (Ok n) holds r = record {
    call = r.call;
    follows = r.takes.follows p holds.world holds.shows;
    answers = r.in_world p holds.world holds.shows;
    exactly = r.on_map p commands (in_engine holds);
    risen = inr (risen holds (r.ok p commands (in_engine holds)));
  }
  exec_of {p} {commands} (Err e) holds r = record {
    call = r.call;
    follows = r.takes.follows p holds.world holds.shows;
    answers = r.in_world p holds.world holds.shows;
    exactly = r.on_map p commands (in_engine holds);
    risen = ⊎_elim (λ fault. inl fault) (λ kept. inr (risen holds kept)) (r.err p commands (in_engine holds));
  }

  exec_answered : (p : Params) (commands : List Command) (line : List ℕ) → IsLineOf (Some (run op)) line → (holds : Holds p old before commands) (call : Result ℕ ExecErr) → IsExec p old now before after holds.world commands op call
      → IfOk (answer_of_exec call) (λ answer. IsDone p old now before after holds.world commands line (reply_of answer))
  exec_answered p commands line asks holds (Ok n) e = exec_done p old now before after commands line op holds asks n e
  exec_answered p commands line asks holds (Err (Refused why)) e = exec_refused p old now before after commands line op holds asks why e
  exec_answered p commands line asks holds (Err (LogFull used need limit)) e = exec_full p old now before after commands line op holds asks used need limit e
  exec_answered p commands line asks holds (Err (LsnEnd number)) e = exec_end p old now before after commands line op holds asks number e
  exec_answered p commands line asks holds (Err (Damaged file place)) e = tt
  exec_answered p commands line asks holds (Err DiskFailed) e = tt
  exec_answered p commands line asks holds (Err OutOfMemory) e = tt

  exec_caused : (call : Result ℕ ExecErr) → HasRun all_meaning old now before after op call → IfErr (answer_of_exec call) (λ stop. IsCaused stop old now)
  exec_caused (Ok n) r = tt
  exec_caused (Err (Refused why)) r = tt
  exec_caused (Err (LogFull used need limit)) r = tt
  exec_caused (Err (LsnEnd number)) r = tt
  exec_caused (Err (Damaged file place)) r = tt
  exec_caused (Err DiskFailed) r = r.call.fault tt
  exec_caused (Err OutOfMemory) r = tt

  exec_sound : (call : Result ℕ ExecErr) → IsDisk now → HasRun all_meaning old now before after op call → old.tells_files → IsAttached old before → IfErr (answer_of_exec call) IsUndamaged
  exec_sound (Ok n) disk r told attached = tt
  exec_sound (Err (Refused why)) disk r told attached = tt
  exec_sound (Err (LogFull used need limit)) disk r told attached = tt
  exec_sound (Err (LsnEnd number)) disk r told attached = tt
  exec_sound (Err (Damaged file place)) disk r told attached = exec_undamaged before after op file place disk r.call r.outcome refl told attached
  exec_sound (Err DiskFailed) disk r told attached = tt
  exec_sound (Err OutOfMemory) disk r told attached = tt

  pub exec_finds : (call : Result ℕ ExecErr) {result : Result Answer Early} → result ≡ answer_of_exec call → IsDisk now → ((b : Bounds) → IsLiveMap (all_meaning b)) → HasRun all_meaning old now before after op call
      → FindsAnswer reply_of (IsLineOf (Some (run op))) old now before after result
  exec_finds call is disk map r = subst (λ (x : Result Answer Early). FindsAnswer reply_of (IsLineOf (Some (run op))) old now before after x) (sym is) (record {
    time = r.call.time;
    quiet = r.call.quiet;
    cause = exec_caused call r;
    undamaged = exec_sound call disk r;
    attached = λ attached. on_ok_weaker (answer_of_exec call) (λ well. still_attached r.call well attached) (exec_working call);
    unbroken = on_ok_weaker (answer_of_exec call) (λ well. still_whole r.call well) (exec_working call);
    images = λ p commands line asks holds. works_none (λ told. images_of holds (r.images told p commands (in_engine holds)));
    works = λ p commands line asks holds. exec_works p old now before after commands line op holds asks (map (bounds_of p)) (λ told. r.takes.steps told p holds.world holds.shows);
    done = λ p commands line asks holds. exec_answered p commands line asks holds call (exec_of call holds r);
  })

-- How a force is answered.
abbrev pub answer_of_forced : Result ℕ WorkErr → Result Answer Early
answer_of_forced (Ok n) = Ok (answers.Forced n)
answer_of_forced (Err error) = answer_of_work_error error

module _ {old now : Disk} {before after : EngineView} (alone : before.group ≡ None) where
  forced_finds : (answer : Result ℕ Failure) → IsForcing all_meaning old now before after answer → FindsAnswer reply_of (IsLineOf (Some force)) old now before after (answer_of_forced (work_of_force answer))
  forced_finds (Ok n) f = record {
    time = f.call.time;
    quiet = f.call.quiet;
    cause = tt;
    undamaged = λ told attached. tt;
    attached = still_attached f.call (λ failed. failed);
    unbroken = still_whole f.call (λ failed. failed);
    images = λ p commands line asks holds. works_none (λ told. images_of holds (f.commands.images told p commands (in_engine holds)));
    works = λ p commands line asks holds. force_works holds asks alone (λ told. f.takes.steps told p holds.world holds.shows);
    done = λ p commands line asks holds. force_done n holds asks alone f;
  }
  forced_finds (Err e) f = record {
    time = f.call.time;
    quiet = f.call.quiet;
    cause = f.call.fault tt;
    undamaged = λ told attached. tt;
    attached = λ attached. tt;
    unbroken = tt;
    images = λ p commands line asks holds. works_none (λ told. images_of holds (f.commands.images told p commands (in_engine holds)));
    works = λ p commands line asks holds. force_works holds asks alone (λ told. f.takes.steps told p holds.world holds.shows);
    done = λ p commands line asks holds. tt;
  }

pub force_finds : {M : Type 0} (disk : M → Disk) {old now : M} {before after : EngineView} (call : Result ℕ WorkErr) {result : Result Answer Early} → result ≡ answer_of_forced call → IsDisk (disk old) → before.broken ≡ false
    → RefusedWithin old now before after call → (before.group ≡ None → ForcesAlone (disk old) (disk now) before after call) → FindsAnswer reply_of (IsLineOf (Some force)) (disk old) (disk now) before after result
force_finds disk {old} {now} {before} {after} call {result} is lawful fine within alone = by_group before.group
    (λ some. finds_barred disk force tt lawful fine some (barred_by answer_of_forced (λ size. refl) call result within is some))
    (λ none.
    let (answer, same, f) = alone none in
    subst (λ (r : Result Answer Early). FindsAnswer reply_of (IsLineOf (Some force)) (disk old) (disk now) before after r) (sym (is ∙ ap answer_of_forced same)) (forced_finds none answer f))

-- An install, a drain, a check and a trim.
module _ {old now : Disk} {before after : EngineView} (upkeep : Upkeep) {result : Result Answer Early} (counts : AreCounted) (alone : before.group ≡ None) (u : IsUpkept old now before after (Keep upkeep) result) where
  upkept_finds : FindsAnswer reply_of (IsLineOf (Some (Keep upkeep))) old now before after result
  upkept_finds = record {
    time = u.call.time;
    quiet = u.call.quiet;
    cause = upkept_cause u;
    undamaged = upkept_undamaged u;
    attached = upkept_attached u;
    unbroken = upkept_whole u;
    images = λ p commands line asks holds. works_none (λ told. images_of holds (u.commands.images told p commands (in_engine holds)));
    works = λ p commands line asks holds. upkeep_works p old now before after commands line upkeep result counts holds asks alone u;
    done = λ p commands line asks holds. upkeep_done p old now before after commands line upkeep result counts holds asks alone u;
  }

pub upkeep_finds : {M : Type 0} (disk : M → Disk) {old now : M} {before after : EngineView} (upkeep : Upkeep) {result : Result Answer Early} → AreCounted → IsDisk (disk old) → before.broken ≡ false
    → (IsTrue (is_some before.group) → IsBarredIn old now before after result) → (before.group ≡ None → (IsBesideBackup before.copied (Keep upkeep) → ⊥) → IsDeniedIn old now before after result)
    → (before.group ≡ None → IsBesideBackup before.copied (Keep upkeep) → IsUpkept (disk old) (disk now) before after (Keep upkeep) result) → FindsAnswer reply_of (IsLineOf (Some (Keep upkeep))) (disk old) (disk now) before after result
upkeep_finds disk {old} {now} {before} {after} upkeep {result} counts lawful fine inside denied alone = by_group before.group
    (λ some. finds_barred disk (Keep upkeep) tt lawful fine some (inside some))
    (λ none. by_backup before.copied (Keep upkeep)
    (λ beside.
    let here = denied_here before.copied upkeep beside in
    finds_undone disk lawful fine (λ p commands line asks holds. unmoved (backup_denied InBackup) holds (Keep upkeep, here.0, asks, none_open holds.shows none, refl) (here.1, refl) refl tt) (denied none beside))
    (λ beside. upkept_finds upkeep counts none (alone none beside)))

-- The beginning of a group, and its end.
abbrev pub BeginsAlone : Disk → Disk → EngineView → EngineView → Result (Unit {0}) WorkErr → Type 0
BeginsAlone old now before after call = (answer : Result (Unit {0}) Failure) × (call ≡ work_of_force answer) × IsBeginning all_meaning old now before after answer

module _ {old now : Disk} {before after : EngineView} (alone : before.group ≡ None) where
  begun_finds : (answer : Result (Unit {0}) Failure) → IsBeginning all_meaning old now before after answer → FindsAnswer reply_of (IsLineOf (Some (Group begin_group))) old now before after (answer_of_work (work_of_force answer))
  begun_finds (Ok done) b = record {
    time = b.call.time;
    quiet = b.call.quiet;
    cause = tt;
    undamaged = λ told attached. tt;
    attached = λ attached. still_attached {after = record after { group = before.group }} b.call (λ failed. failed) attached;
    unbroken = still_whole {after = record after { group = before.group }} b.call (λ failed. failed);
    images = λ p commands line asks holds. works_none (λ told. images_of holds (b.commands.images told p commands (in_engine holds)));
    works = λ p commands line asks holds. begun_works p old now before after commands line holds asks alone (λ told. b.takes.steps told p holds.world holds.shows);
    done = λ p commands line asks holds. begun_done p old now before after commands line holds asks alone done b;
  }
  begun_finds (Err e) b = record {
    time = b.call.time;
    quiet = b.call.quiet;
    cause = b.call.fault tt;
    undamaged = λ told attached. tt;
    attached = λ attached. tt;
    unbroken = tt;
    images = λ p commands line asks holds. works_none (λ told. images_of holds (b.commands.images told p commands (in_engine holds)));
    works = λ p commands line asks holds. begun_works p old now before after commands line holds asks alone (λ told. b.takes.steps told p holds.world holds.shows);
    done = λ p commands line asks holds. tt;
  }

pub begin_finds : {M : Type 0} (disk : M → Disk) {old now : M} {before after : EngineView} (call : Result (Unit {0}) WorkErr) {result : Result Answer Early} → result ≡ answer_of_work call → IsDisk (disk old) → before.broken ≡ false
    → RefusedWithin old now before after call → (before.group ≡ None → BeginsAlone (disk old) (disk now) before after call) → FindsAnswer reply_of (IsLineOf (Some (Group begin_group))) (disk old) (disk now) before after result
begin_finds disk {old} {now} {before} {after} call {result} is lawful fine within alone = by_group before.group
    (λ some. finds_barred disk (Group begin_group) tt lawful fine some (barred_by answer_of_work (λ size. refl) call result within is some))
    (λ none.
    let (answer, same, b) = alone none in
    subst (λ (r : Result Answer Early). FindsAnswer reply_of (IsLineOf (Some (Group begin_group))) (disk old) (disk now) before after r) (sym (is ∙ ap (λ c. answer_of_work c) same)) (begun_finds none answer b))

module _ {d : Disk} {engine after : EngineView} (lawful : IsDisk d) (fine : engine.broken ≡ false) where
  -- nothing is done with the machine
  pub end_finds : ClosesGroup d engine → IsTrue (is_some engine.group) → after ≡ closed engine → FindsAnswer reply_of (IsLineOf (Some (Group end_group))) d d engine after (Ok answers.Done)
  end_finds closes some is = subst (λ (e : EngineView). FindsAnswer reply_of (IsLineOf (Some (Group end_group))) d d engine e (Ok answers.Done)) (sym is) (record {
    time = passes_none d;
    quiet = λ told. refl;
    cause = tt;
    undamaged = λ told attached. tt;
    attached = λ attached. attached;
    unbroken = fine;
    images = λ p commands line asks holds. works_none (holds_between lawful holds);
    works = λ p commands line asks holds. works_at_once line lawful holds;
    done = λ p commands line asks holds. end_done holds asks closes some;
  })

  pub end_not_finds : engine.group ≡ None → after ≡ engine → FindsAnswer reply_of (IsLineOf (Some (Group end_group))) d d engine after (Ok answers.NoGroup)
  end_not_finds alone is = subst (λ (e : EngineView). FindsAnswer reply_of (IsLineOf (Some (Group end_group))) d d engine e (Ok answers.NoGroup)) (sym is)
      (finds_at_once lawful fine (λ p commands line asks holds. closing_refused (Group end_group) tt holds asks alone))

-- an abort where no group is open, a line that is skipped, and one that is bad
module _ {d : Disk} {engine : EngineView} (lawful : IsDisk d) (fine : engine.broken ≡ false) where
  pub abort_not_finds : engine.group ≡ None → FindsAnswer reply_of (IsLineOf (Some (Group abort_group))) d d engine engine (Ok answers.NoGroup)
  abort_not_finds alone = finds_at_once lawful fine (λ p commands line asks holds. closing_refused (Group abort_group) tt holds asks alone)

  pub skip_finds : FindsAnswer (outcome_reply engine) (IsLineOf (Some skip)) d d engine engine (Ok Nothing)
  skip_finds = finds_at_once lawful fine (λ p commands line asks holds. unmoved silence holds (asks, refl) refl refl tt)

  pub bad_finds : FindsAnswer (outcome_reply engine) (IsLineOf None) d d engine engine (Ok (Told answers.Bad))
  bad_finds = finds_at_once lawful fine (λ p commands line none holds. unmoved bad holds (none, refl) refl refl tt)

-- What makes several commands, and a question to a tree or a hash file.
module _ {old now : Disk} {before after : EngineView} {request : Request} where
  pub made_finds : {result : Result Answer Early} → AreNoIdentities → IsMade old now before after request result → FindsAnswer reply_of (IsLineOf (Some request)) old now before after result
  made_finds {result} none u = record {
    time = u.calls.call.time;
    quiet = u.calls.call.quiet;
    cause = calls_cause result u.calls u.ended;
    undamaged = calls_undamaged result u.calls u.ended;
    attached = λ attached. on_ok result (λ well. calls_attached result u.calls u.ended well attached);
    unbroken = on_ok result (calls_unbroken result u.calls u.ended);
    images = λ p commands line asks holds. list_images none holds asks u;
    works = λ p commands line asks holds. list_works none holds asks u;
    done = λ p commands line asks holds. list_done none holds asks u;
  }

  asked_finds : {result : Result Found Early} → IsAsked old now before after request result → FindsAnswer reply_in (IsLineOf (Some request)) old now before after result
  asked_finds {result} u = record {
    time = u.calls.call.time;
    quiet = u.calls.call.quiet;
    cause = calls_cause result u.calls u.ended;
    undamaged = calls_undamaged result u.calls u.ended;
    attached = λ attached. on_ok result (λ well. calls_attached result u.calls u.ended well attached);
    unbroken = on_ok result (calls_unbroken result u.calls u.ended);
    images = λ p commands line asks holds. asked_images holds asks u;
    works = λ p commands line asks holds. asked_works holds asks u;
    done = λ p commands line asks holds. asked_done holds asks u;
  }

-- What was found is handed on as what the line comes to.
module _ {asks : List ℕ → Type 0} {old now : Disk} {before after : EngineView} where
  pub finds_out : (found : Result Found Early) {result : Result Outcome Early} → result ≡ found_out found → FindsAnswer reply_in asks old now before after found → FindsAnswer (outcome_reply after) asks old now before after result
  finds_out found is f = subst (λ (r : Result Outcome Early). FindsAnswer (outcome_reply after) asks old now before after r) (sym is) (by_found found f)
    where
      by_found : (found : Result Found Early) → FindsAnswer reply_in asks old now before after found → FindsAnswer (outcome_reply after) asks old now before after (found_out found)
      by_found (Ok it) f = record { time = f.time; quiet = f.quiet; cause = tt; undamaged = λ told attached. tt; attached = f.attached; unbroken = f.unbroken; images = f.images; works = f.works; done = f.done }
      by_found (Err stop) f = record { time = f.time; quiet = f.quiet; cause = f.cause; undamaged = f.undamaged; attached = λ attached. tt; unbroken = tt; images = f.images; works = f.works; done = λ p commands line asked holds. tt }

  module _ {T : Type 0} {disk : T → Disk} {backup backed : T} where
    pub told_beside : (answer : Result Answer Early) {result : Result Outcome Early} → result ≡ told answer → FindsBeside reply_of disk asks old now before after backup backed answer
        → FindsBeside (outcome_reply after) disk asks old now before after backup backed result
    told_beside answer is f = subst (λ (r : Result Outcome Early). FindsBeside (outcome_reply after) disk asks old now before after backup backed r) (sym is) (by_answer answer f)
      where
        by_answer : (answer : Result Answer Early) → FindsBeside reply_of disk asks old now before after backup backed answer → FindsBeside (outcome_reply after) disk asks old now before after backup backed (told answer)
        by_answer (Ok it) f = record {
          time = f.time;
          backup_time = f.backup_time;
          quiet = f.quiet;
          cause = tt;
          undamaged = λ told attached. tt;
          attached = f.attached;
          unbroken = f.unbroken;
          idle = f.idle;
          images = f.images;
          works = f.works;
          done = λ start p commands line asked holds. let d = f.done start p commands line asked holds in record { whole = d.whole; stopped = tt };
        }
        by_answer (Err stop) f = record {
          time = f.time;
          backup_time = f.backup_time;
          quiet = f.quiet;
          cause = f.cause;
          undamaged = f.undamaged;
          attached = λ attached. tt;
          unbroken = tt;
          idle = f.idle;
          images = f.images;
          works = f.works;
          done = λ start p commands line asked holds. let d = f.done start p commands line asked holds in record { whole = tt; stopped = d.stopped };
        }

pub asked_finds_out : {old now : Disk} {before after : EngineView} {request : Request} (found : Result Found Early) {result : Result Outcome Early} → result ≡ found_out found → IsAsked old now before after request found
    → FindsAnswer (outcome_reply after) (IsLineOf (Some request)) old now before after result
asked_finds_out found is u = finds_out found is (asked_finds u)

-- where the backup's machine has no part in it
pub finds_beside : {A T : Type 0} {reply : A → Reply} (disk : T → Disk) {asks : List ℕ → Type 0} {old now : Disk} {before after : EngineView} (backup : T) {result : Result A Early} → BesideLaws old now (disk backup)
    → ((line : List ℕ) → asks line → AsksBackup line → ⊥) → FindsAnswer reply asks old now before after result → FindsBeside reply disk asks old now before after backup backup result
finds_beside {reply = reply} disk {old = old} {now} backup {result} laws other f = record {
  time = f.time;
  backup_time = passes_none (disk backup);
  quiet = f.quiet;
  cause = caused_beside old now (disk backup) (disk backup) result f.cause;
  undamaged = f.undamaged;
  attached = f.attached;
  unbroken = f.unbroken;
  idle = λ line asked none. refl;
  images = f.images;
  works = f.works;
  done = λ start p commands line asked holds. done_beside laws (other line asked) holds reply result (f.done p commands line asked holds);
}

-- The value of an object is asked, which was fetched.
module _ {old now : Disk} {before after : EngineView} (object : ℕ) (kept : Stays old now) where
  pub value_finds : {A : Type 0} {reply : A → Reply} (result : Result A Early) → IfErr result (λ stop. IsCaused stop old now) → (old.tells_files → IsAttached old before → IfErr result IsUndamaged)
      → (IsAttached old before → OnOk result (IsAttached now after)) → OnOk result (after.broken ≡ false)
      → ((p : Params) (commands : List Command) (line : List ℕ) → IsLineOf (Some (Ask (get object))) line → (holds : Holds p old before commands) → IfOk result (λ found. IsDone p old now before after holds.world commands line (reply found)))
      → FindsAnswer reply (IsLineOf (Some (Ask (get object)))) old now before after result
  value_finds result cause undamaged attached unbroken done = record {
    time = kept.time;
    quiet = kept.said;
    cause = cause;
    undamaged = undamaged;
    attached = attached;
    unbroken = unbroken;
    images = λ p commands line asks holds. works_none (stays_between kept holds);
    works = λ p commands line asks holds. works_still line kept holds;
    done = done;
  }

  pub value_stops : {A : Type 0} {reply : A → Reply} (result : Result A Early) (fetched : Result Bool Early) (why : Early) → IsErrAnd result (λ stop. stop ≡ why) → IsErr result → fetched ≡ Err why
      → IfErr fetched (λ stop. IsCaused stop old now) → (old.tells_files → IsAttached old before → IfErr fetched IsUndamaged) → FindsAnswer reply (IsLineOf (Some (Ask (get object)))) old now before after result
  value_stops (Ok found) fetched why is err was cause undamaged = absurd (cc err)
  value_stops {A} (Err stop) fetched why is err was cause undamaged =
      value_finds (Err stop) (passed_cause {T = A} (Err stop) fetched why old now is was cause) (λ told attached. passed_whole {T = A} (Err stop) fetched why is was (undamaged told attached)) (λ attached. tt) tt (λ p commands line asks holds. tt)

  module _ {p : Params} {commands : List Command} {line : List ℕ} (asks : IsLineOf (Some (Ask (get object))) line) (holds : Holds p old before commands) (k : Kept p before now after commands)
      (same : stage_of after k.holds.world ≡ stage_of before holds.world) where
    as_read : (reply : Reply) → Replies p (open_in holds.world) commands line reply [] → ((group : Option ℕ) → Regroups line reply commands group group) → ((s : Stage) → GoesBy p s line reply s) → IsOfEngine after line reply
        → IsDone p old now before after holds.world commands line reply
    as_read reply replies regroups goes is_of = read_done reply replies regroups goes is_of (kept.said holds.shows.shows.told) k.holds.world k.holds.shows k.holds.commands_are k.rising
        (⊎_elim (λ as_many. inl as_many) (λ all. inr (all.0, omega (arith, all.1, holds.says.accepted))) k.which) same

    pub value_done : (object < p.objects) × ((file : List ℕ) → values_in after.parts.volatile.objects file object ≡ state_of p commands object)
        → IsDone p old now before after holds.world commands line (value (values_in after.parts.volatile.objects [] object))
    value_done there = as_read (value (values_in after.parts.volatile.objects [] object)) (inl (object, asks, there.0, there.1 []), refl) (λ group. refl) (λ s. refl) tt

    pub no_object_done : p.objects ≤ object → IsDone p old now before after holds.world commands line (refused NoObject)
    no_object_done past = as_read (refused NoObject) (inr (inl (object, asks, past, refl), refl)) (λ group. refl) (λ s. asks_values p s line (Ask (get object)) tt asks) tt
