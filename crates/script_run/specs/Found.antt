-- How the answer to a line is found, before it is said.
use Rattle.std.specs.Prelude.{◌≡◌, ◌<◌, ◌≤◌, ◌⊎◌, ◌+◌, ◌^◌, ⊤, ℕ, List, [], length, Option, None, Some, Result, Ok, Err, IfOk}
use Rattle.std.specs.Option.{is_some}
use Rattle.disk_model.specs.Disk.{Disk}
use Rattle.disk_model.specs.declared.machine.FileNo.{FileNo}
use Rattle.oper_core.specs.Meaning.{Meaning}
use Rattle.formats.specs.Limits.{log_limit}
use Rattle.formats.specs.declared.params.Params.{Params}
use Rattle.explain_core.specs.History.{commands_of}
use Rattle.explain_core.specs.World.{World}
use Rattle.running_store.specs.Courses.{Stop as CourseStop}
use Rattle.cache_manager.specs.InstallCourses.{logged_in}
use Rattle.running_store.specs.Courses.Stop.{Through, Full, At_end, Worn}
use Rattle.running_store.specs.Taking.{Ending}
use Rattle.running_store.specs.Taking.Ending.{Done, Stopped, Short, Failed}
use Rattle.oper_core.specs.declared.refusal.Refusal.TheVariants as refusals
use Rattle.hash_file.specs.declared.refusal.HashRefusal.{HashRefusal}
use Rattle.hash_file.specs.declared.refusal.HashRefusal.TheVariants as hash_refusals
use Rattle.map_client.specs.declared.call_refusal.CallRefusal.{CallRefusal}
use Rattle.map_client.specs.declared.call_refusal.CallRefusal.TheVariants as map_refusals
use Rattle.page_map.specs.declared.refusal.MapRefusal.TheVariants as map_causes
use Rattle.range_calls.specs.declared.call_err.CallErr.{CallErr}
use Rattle.range_calls.specs.declared.call_err.CallErr.TheVariants as call_errors
use Rattle.script_lines.specs.declared.denial.Denial.TheVariants as denials
use Rattle.script_lines.specs.declared.backup_denial.BackupDenial.TheVariants.{InBackup}
use Rattle.tree_client.specs.Answers.{TreeErr}
use Rattle.logical_btree.specs.declared.refusal.TreeRefusal.TheVariants as tree_refusals
use Rattle.op_codec.specs.AllOps.{all_meaning}
use Rattle.script_lines.specs.Grammar.{Request, AsksFor}
use Rattle.script_lines.specs.declared.line.Line.TheVariants.{Keep}
use Rattle.script_lines.specs.declared.line.Upkeep.TheVariants.{Trim as trim}
use Rattle.store_engine.specs.Lists.{AddsFront, AreCalls, ending_of as ending_of_calls}
use Rattle.execution.specs.Stops.{StopsCommand}
use Rattle.execution.specs.declared.exec_err.ExecErr.{ExecErr}
use Rattle.execution.specs.declared.exec_err.ExecErr.TheVariants as exec_errors
use Rattle.script_lines.specs.Replies.{Reply, absent, counted, forced, full, end, pairs_reply, refused, stat, value, reply_of}
use Rattle.script_lines.specs.declared.answer.Answer.{Answer}
use Rattle.script_lines.specs.declared.answer.Answer.TheVariants as answers
use Rattle.store_engine.specs.Engine.{EngineView, KeepsCommands, TakesIn, forced_in, logged_since, so_far, used_in}
use Rattle.stable_objects.specs.declared.open_err.OpenErr.{OpenErr}
use Rattle.stable_objects.specs.declared.open_err.OpenErr.TheVariants as open_errors
use Rattle.store_engine.specs.declared.work_err.WorkErr.{WorkErr}
use Rattle.store_engine.specs.declared.work_err.WorkErr.TheVariants as work_errors
use Rattle.shell_base.specs.Store.{IsAttached, IsEngineCall, Command, Holds, ShowsIn, state_of}
use Rattle.shell_base.specs.First.{stage_of}
use Rattle.shell_base.specs.declared.stop.Stop.{Stop}
use Rattle.shell_base.specs.declared.stop.Stop.TheVariants.{DiskFault, Damaged, Memory}
use Rattle.script_run.specs.Groups.{Becomes, Regroups, open_in}
use Rattle.script_run.specs.Made.{Made, made_by, tree_answer}
use Rattle.script_run.specs.Replies.{Replies, IsNumbered, IsOver}
use Rattle.script_run.specs.Stages.{GoesBy, IsBesideBackup, upkeep_course}
use Rattle.script_run.specs.declared.asking.Found.{Found}
use Rattle.script_run.specs.declared.asking.Found.TheVariants as founds

-- a call left this engine that was stopped so, by the bytes that its log may have; within a group commands may wait still
abbrev pub IsStopped : EngineView → CourseStop → Type 0
IsStopped engine stop = (most : ℕ) × StopsCommand (is_some engine.group) most engine.parts.log stop

-- why no number is left: after a trim no epoch is, else no number for a record
abbrev pub EndsAtLast : EngineView → Request → ℕ → Type 0
EndsAtLast engine (Keep trim) number = IsStopped engine (Worn number)
EndsAtLast engine request number = IsStopped engine (At_end number)

-- nothing waits, no group is open, and the log has this length
pub record EndsForced (engine : EngineView) (used : ℕ) : Type 0 where
  pub none_waits : engine.parts.log.log.pending ≡ []
  pub alone : engine.group ≡ None
  pub used_is : used ≡ used_in engine

-- what an answer to a line says of the engine that it leaves: why it was stopped, or how long its log is where that of a backup is
-- too long, and how many commands are forced
abbrev pub IsOfEngine : EngineView → List ℕ → Reply → Type 0
IsOfEngine engine line (full used need limit) = IsStopped engine (Full used need limit) ⊎ EndsForced engine used
IsOfEngine engine line (end number) = (request : Request) × AsksFor line request × EndsAtLast engine request number
IsOfEngine engine line (forced n) = n ≡ forced_in engine
IsOfEngine engine line (stat counts) = counts.forced ≡ forced_in engine
IsOfEngine engine line reply = ⊤

-- What a line asks for is done, and nothing is said of it yet: engine and files show the world that the answer leads to.
pub record IsDone (p : Params) (old now : Disk) (before after : EngineView) (w : World Command) (commands : List Command) (line : List ℕ) (reply : Reply) : Type 0 where
  pub added : List Command
  pub replies : Replies p (open_in w) commands line reply added
  pub quiet : now.said ≡ old.said
  pub world : World Command
  pub shows : ShowsIn p now after world
  pub becomes : Becomes line reply (open_in w) commands added (commands_of world.history)
  pub regroups : Regroups line reply commands (open_in w) (open_in world)
  pub rising : forced_in before ≤ forced_in after
  pub which : (forced_in after ≡ forced_in before) ⊎ ((before.group ≡ None) × (length commands ≤ forced_in after))
  pub goes : GoesBy p (stage_of before w) line reply (stage_of after world)
  pub is_of : IsOfEngine after line reply

-- what ends a call that took only some first steps
abbrev pub IsShort : Stop → Type 0
IsShort Memory = ⊤
IsShort (Damaged file place) = ⊤
IsShort stop = ⊥

-- how the error of a call that no group allows, or a trim that no backup allows, is answered
abbrev pub answer_of_work_error : WorkErr → Result Answer Stop
answer_of_work_error (work_errors.InGroup commands) = Ok answers.InGroup
answer_of_work_error (work_errors.InBackup copied) = Ok (answers.BackupDenied InBackup)
answer_of_work_error (work_errors.LogFull used need limit) = Ok (answers.Full used need limit)
answer_of_work_error (work_errors.LsnEnd number) = Ok (answers.End number)
answer_of_work_error (work_errors.Exhausted epoch) = Ok (answers.End epoch)
answer_of_work_error work_errors.DiskFault = Err DiskFault
answer_of_work_error (work_errors.Damaged file place) = Err (Damaged file place)
answer_of_work_error work_errors.Memory = Err Memory

abbrev pub answer_of_work : {T : Type 0} → Result T WorkErr → Result Answer Stop
answer_of_work (Ok done) = Ok answers.Done
answer_of_work (Err error) = answer_of_work_error error

-- why a run ends where a store that stands for commands is not opened again
abbrev pub stop_of_opening : OpenErr → Stop
stop_of_opening open_errors.DiskFault = DiskFault
stop_of_opening cause = Memory

-- how the end of a call is answered
abbrev pub IsAnswerOf : Ending → Result Answer Stop → Type 0
IsAnswerOf Done result = result ≡ Ok answers.Done
IsAnswerOf (Stopped Through) result = ⊥
IsAnswerOf (Stopped (Full used need limit)) result = result ≡ Ok (answers.Full used need limit)
IsAnswerOf (Stopped (At_end number)) result = result ≡ Ok (answers.End number)
IsAnswerOf (Stopped (Worn number)) result = result ≡ Ok (answers.End number)
IsAnswerOf Short result = (stop : Stop) × IsShort stop × (result ≡ Err stop)
IsAnswerOf Failed result = result ≡ Err DiskFault

-- only some calls may be stopped for lack of a number, and by their own bounds
abbrev pub MayStop : Request → CourseStop → Type 0
MayStop request Through = ⊤
MayStop request (Full used need limit) = (limit ≡ 2 ^ 48) × (limit < used + need → IsOver request used need limit)
MayStop (Keep trim) (At_end number) = ⊥
MayStop request (At_end number) = IsNumbered request
MayStop (Keep trim) (Worn epoch) = ⊤
MayStop request (Worn epoch) = ⊥

-- A call for a request that adds no command took its course, so far as its answer says. So many
-- identity writes are logged: as many as numbers were taken, or none in a course without any.
pub record IsUpkept (old now : Disk) (before after : EngineView) (request : Request) (result : Result Answer Stop) : Type 0 where
  pub epoch : ℕ
  pub logged : ℕ
  pub ending : Ending
  pub call : IsEngineCall log_limit old now before after logged ending
  pub beside : IsBesideBackup before.copied request
  pub takes : TakesIn all_meaning old now before after (upkeep_course epoch (so_far before.copied) request) ending
  pub commands : KeepsCommands all_meaning old now before after ending
  pub counted : (logged ≡ logged_since before after)
      ⊎ ((logged ≡ 0) × ((m : Meaning Command) (w : World Command) (used : ℕ) → logged_in (upkeep_course epoch (so_far before.copied) request m w used).steps ≡ []))
  pub answered : IsAnswerOf ending result
  -- no file that was opened is damaged
  pub undamaged : old.tells_files → IsAttached old before → (file : FileNo) (place : ℕ) → result ≡ Err (Damaged file place) → ⊥

-- nothing was done, and that is answered
pub record IsUndone {M : Type 0} (answer : Answer) (old new : M) (before after : EngineView) (result : Result Answer Stop) : Type 0 where
  pub machine : new ≡ old
  pub engine : after ≡ before
  pub answered : result ≡ Ok answer

-- so it is within a group, and with a trim beside a backup
abbrev pub IsBarredIn : {M : Type 0} → M → M → EngineView → EngineView → Result Answer Stop → Type 0
IsBarredIn = IsUndone answers.InGroup

abbrev pub IsDeniedIn : {M : Type 0} → M → M → EngineView → EngineView → Result Answer Stop → Type 0
IsDeniedIn = IsUndone (answers.BackupDenied InBackup)

-- how the error of a command is answered
abbrev pub answer_of_error : ExecErr → Result Answer Stop
answer_of_error (exec_errors.Refused why) = Ok (answers.Refused why)
answer_of_error (exec_errors.LogFull used need limit) = Ok (answers.Full used need limit)
answer_of_error (exec_errors.LsnEnd number) = Ok (answers.End number)
answer_of_error (exec_errors.Damaged file place) = Err (Damaged file place)
answer_of_error exec_errors.DiskFault = Err DiskFault
answer_of_error exec_errors.Memory = Err Memory

-- how the error of a call on a tree is answered
abbrev pub answer_of_tree_error : TreeErr → Result Answer Stop
answer_of_tree_error (call_errors.Refused tree_refusals.NoObject) = Ok (answers.Refused refusals.NoObject)
answer_of_tree_error (call_errors.Refused (tree_refusals.BadTree object)) = Ok answers.BadTree
answer_of_tree_error (call_errors.Refused (tree_refusals.TreeFull need free)) = Ok answers.TreeFull
answer_of_tree_error (call_errors.Refused tree_refusals.NoKey) = Ok (answers.Refused refusals.NoKey)
answer_of_tree_error (call_errors.Exec error) = answer_of_error error
answer_of_tree_error call_errors.Memory = Err Memory

-- how a hash file's own refusal is answered
abbrev pub hash_answer : HashRefusal → Answer
hash_answer hash_refusals.NoObject = answers.Refused refusals.NoObject
hash_answer (hash_refusals.BadHash object) = answers.Denied denials.BadHash
hash_answer (hash_refusals.HashFull object) = answers.Denied denials.HashFull
hash_answer (hash_refusals.NoRoom free) = answers.Denied denials.NoRoom
hash_answer hash_refusals.NoKey = answers.Refused refusals.NoKey

-- and how a map's is
abbrev pub map_answer : CallRefusal → Answer
map_answer map_refusals.NoObject = answers.Refused refusals.NoObject
map_answer map_refusals.NoPages = answers.Refused refusals.NoPages
map_answer (map_refusals.Map (map_causes.BadMap object)) = answers.Denied denials.BadMap
map_answer (map_refusals.Map map_causes.TooLong) = answers.Denied denials.TooLong
map_answer (map_refusals.Map map_causes.MapFull) = answers.Denied denials.MapFull
map_answer (map_refusals.Map map_causes.NoKey) = answers.Refused refusals.NoKey

-- how the error of a call on a range of objects is answered, by how the range's own refusals are
abbrev pub answer_of_call_error : {R : Type 0} → (R → Answer) → CallErr R → Result Answer Stop
answer_of_call_error answer (call_errors.Refused why) = Ok (answer why)
answer_of_call_error answer (call_errors.Exec error) = answer_of_error error
answer_of_call_error answer call_errors.Memory = Err Memory

-- how a call ends that answers this error, or none: a fault, a damaged slot or running out of memory ends it early
abbrev pub IsEndedBy : {T : Type 0} → Option ExecErr → Result T Stop → Type 0
IsEndedBy (Some exec_errors.DiskFault) result = result ≡ Err DiskFault
IsEndedBy (Some (exec_errors.Damaged file place)) result = result ≡ Err (Damaged file place)
IsEndedBy (Some exec_errors.Memory) result = result ≡ Err Memory
IsEndedBy {T} error result = (value : T) × (result ≡ Ok value)

-- how several commands are answered, by the error of one of them, if there is one, and by what the plain map replies
abbrev pub IsAnswerTo : Reply → Option ExecErr → Result Answer Stop → Type 0
IsAnswerTo reply None result = (answer : Answer) × (result ≡ Ok answer) × (reply ≡ reply_of answer)
IsAnswerTo reply (Some (exec_errors.Refused why)) result = (result ≡ answer_of_error (exec_errors.Refused why)) × (reply ≡ refused why)
IsAnswerTo reply (Some error) result = result ≡ answer_of_error error

-- A call for a request that may add several commands: it has added the first of those that the plain map makes, all of them
-- where it is done, and the answer is that of the map, or says what stopped the call.
pub record IsMade (old now : Disk) (before after : EngineView) (request : Request) (result : Result Answer Stop) : Type 0 where
  pub error : Option ExecErr
  pub calls : AreCalls all_meaning old now before after error
  pub ended : IsEndedBy error result
  pub adds : (p : Params) (commands : List Command) → (holds : Holds p old before commands) → (it : Made) × (made_by p commands request ≡ Some it)
      × AddsFront all_meaning p old now before after holds.world commands it.ops (ending_of_calls error) × IsAnswerTo it.reply error result

-- what is replied where this was found in a tree, a hash file or a map
abbrev pub reply_in : Found → Reply
reply_in (founds.Value bytes) = value bytes
reply_in founds.Absent = value []
reply_in (founds.Pairs found) = pairs_reply found.items
reply_in (founds.Bytes bytes) = value bytes.items
reply_in founds.Missing = absent
reply_in (founds.Entries found) = pairs_reply found.items
reply_in (founds.Counted n) = counted n
reply_in (founds.Refused answer) = reply_of answer

-- what is found where a call on a tree is not done
abbrev pub refused_as : Result Answer Stop → Result Found Stop
refused_as (Ok answer) = Ok (founds.Refused answer)
refused_as (Err stop) = Err stop

-- A call for a request for pairs of a tree, a hash file or a map: it adds nothing, and finds what the plain map tells.
pub record IsAsked (old now : Disk) (before after : EngineView) (request : Request) (result : Result Found Stop) : Type 0 where
  pub error : Option ExecErr
  pub calls : AreCalls all_meaning old now before after error
  pub ended : IsEndedBy error result
  pub adds : (p : Params) (commands : List Command) → (holds : Holds p old before commands) → AddsFront all_meaning p old now before after holds.world commands [] (ending_of_calls error)
  pub tells : (p : Params) (commands : List Command) → Holds p old before commands → IfOk result (λ found. tree_answer p (state_of p commands) request ≡ Some (reply_in found))
