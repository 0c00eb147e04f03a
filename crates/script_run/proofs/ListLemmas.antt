-- What a line that asks for several commands is answered, where they are done, or one of them is stopped.
use Rattle.std.proofs.Common.{◌≡◌, ◌∙◌, ap, sym, subst, refl, ◌⊎◌, inl, inr, ⊎_elim, ◌≤◌, ◌<◌, ◌+◌, ◌^◌, ◌++◌, ℕ, zero, suc, Bool, List, [], ◌∷◌, length, length-append, take, arith, Option, Some, None, Result, Ok, Err, IfOk, IfErr, true, false}
use Rattle.std.specs.Prelude.{⊤, nat_lt, nat_le, map, if◌then◌else◌}
use Rattle.std.specs.Option.{is_some}
use Rattle.std.proofs.lemmas.Bool.{cond_both}
use Rattle.std.proofs.lemmas.Bool.Decides.{nat_tests}
use Rattle.std.proofs.lemmas.List.{length-take-le, take-append-drop, take_all}
use Rattle.disk_model.specs.Disk.{Disk, LeavesOnly, Rises}
use Rattle.disk_model.specs.Moments.{weaker}
use Rattle.oper_core.specs.Meaning.{Meaning, after}
use Rattle.oper_core.specs.declared.refusal.Refusal.{Refusal}
use Rattle.oper_core.specs.declared.refusal.Refusal.TheVariants as refusals
use Rattle.formats.specs.Objects.{bounds_of}
use Rattle.formats.specs.declared.params.Params.{Params}
use Rattle.btree_ops.specs.declared.node_op.NodeOp.{NodeOp}
use Rattle.logical_btree.specs.Walk.{Way, size, walk}
use Rattle.key_entries.specs.Pairs.{has}
use Rattle.btree_ops.specs.Operation.{node_meaning}
use Rattle.btree_ops.specs.declared.node_op.NodeOp.TheVariants.{Delete}
use Rattle.oper_core.specs.declared.bounds.Bounds.{Bounds}
use Rattle.call_plans.specs.Plan.{plan_next, goes_on, ends, refuses}
use Rattle.logical_btree.specs.Plan.{TreeNext, TreePlan, delete_on, delete_plan, insert_from, insert_next, insert_plan, is_there}
use Rattle.logical_btree.specs.declared.refusal.TreeRefusal.{TreeRefusal}
use Rattle.logical_btree.specs.declared.refusal.TreeRefusal.TheVariants.{NoObject, BadTree, TreeFull, NoKey}
use Rattle.op_codec.specs.AllOps.{all_meaning}
use Rattle.op_codec.specs.AllOps.{node}
use Rattle.explain_core.specs.History.{Member, commands_of}
use Rattle.explain_core.specs.History.Member.{Command as Logged, Identity}
use Rattle.explain_core.specs.RunLaws.{run-append}
use Rattle.explain_core.specs.World.{World, step, run, end_of}
use Rattle.running_store.specs.Calls.{IsFailed}
use Rattle.running_store.specs.Courses.Laws.{behind_both, through_is}
use Rattle.running_store.specs.Courses.{Course, Stop, behind, grown}
use Rattle.cache_manager.specs.InstallCourses.{logged_in}
use Rattle.running_store.specs.Courses.Stop.{Through, Full, At_end}
use Rattle.running_store.specs.Taking.{Ending}
use Rattle.running_store.specs.Taking.Ending.{Done, Stopped, Short, Failed}
use Rattle.store_engine.specs.Lists.{AddsFront, AreCalls, HasReached, IsBehind, IsStoppedAt, IsUndamaged as IsSound, commands_course, ending_of, larger}
use Rattle.running_store.specs.Calls.Commands.{command_length}
use Rattle.execution.specs.Courses.{append_course}
use Rattle.execution.specs.declared.exec_err.ExecErr.{ExecErr}
use Rattle.execution.specs.declared.exec_err.ExecErr.TheVariants as exec_errors
use Rattle.script_lines.specs.Grammar.{Request, AsksFor}
use Rattle.script_lines.specs.declared.line.Line.TheVariants.{Run, Make, Group}
use Rattle.script_lines.specs.declared.line.Making.TheVariants.{AppRun as arun, ProgramRun as prun, TreeInsert as tinsert, TreeDelete as tdelete, HashPut as hset, HashDelete as hdel, Map as change_map}
use Rattle.script_lines.specs.declared.line.MapChange.{MapChange}
use Rattle.script_lines.specs.declared.line.Grouping.TheVariants.{Begin as begin_group, End as end_group, Abort as abort_group}
use Rattle.script_lines.specs.Replies.{Reply, ok, ran, refused, bad_tree, tree_full, denied, full, end, reply_of}
use Rattle.script_lines.specs.declared.answer.Answer.{Answer}
use Rattle.store_engine.specs.Engine.{EngineView, forced_in, group_size, needed_in, params_of, used_in}
use Rattle.map_client.specs.Answers.{MapErr}
use Rattle.map_client.specs.declared.call_refusal.CallRefusal.{CallRefusal}
use Rattle.map_client.specs.declared.call_refusal.CallRefusal.TheVariants as map_refusals
use Rattle.page_map.specs.declared.refusal.MapRefusal.TheVariants as map_causes
use Rattle.range_calls.specs.declared.call_err.CallErr.TheVariants as call_errors
use Rattle.hash_file.specs.Plan.{HashPlan}
use Rattle.hash_file.specs.Plan as of_hash
use Rattle.hash_file.specs.declared.refusal.HashRefusal.{HashRefusal}
use Rattle.hash_file.specs.declared.refusal.HashRefusal.TheVariants as hash_refusals
use Rattle.tree_client.specs.Answers.{made_of}
use Rattle.app_steps.specs.Steps.{program_step, step_of, steps_accepted}
use Rattle.shell_base.specs.Store.{IsAttached, IsEngineCall, Between, Command, Holds, meaning_in, record_length, refusal_after, state_of}
use Rattle.shell_base.specs.Stops.{IsCaused, IsUndamaged}
use Rattle.shell_base.specs.First.{stage_of}
use Rattle.shell_base.specs.declared.stop.Stop.{Stop as Early}
use Rattle.shell_base.specs.declared.stop.Stop.TheVariants.{DiskFault, Damaged, Memory}
use Rattle.script_run.specs.Courses.{Works}
use Rattle.script_run.specs.Found.{IsAnswerTo, IsEndedBy, IsDone, IsMade, IsOfEngine}
use Rattle.script_run.specs.Groups.{Regroups, group_after, open_in, size_of}
use Rattle.script_run.specs.Made.{AsksMade, AsksBehind, Made, call_end, change_comes, change_made, change_reply, map_made, map_reply, hash_made, hash_reply, end_reply, made, made_by, one_unless, plan_made, plan_reply, run_made, run_reply}
use Rattle.script_run.specs.Replies.{Replies}
use Rattle.script_run.specs.Run.{Working}
use Rattle.script_run.specs.Stages.{Ends, GoesBy}
use Rattle.script_run.specs.StoryLaws.{grows_to}
use Rattle.script_run.proofs.HashLemmas.{planned_delete_all, planned_put_all, some_hash}
use Rattle.script_run.proofs.MapChangeLemmas.{some_map}
use Rattle.script_run.proofs.MomentLemmas.{works_by}
use Rattle.script_run.proofs.DoneLemmas.{asks_in, last_number, left_stopped, over_limit, still_attached, still_whole}
use Rattle.script_run.proofs.GroupsOfLists.{open_same}
use Rattle.script_run.proofs.MadeLemmas.{made_ends}
use Rattle.script_run.proofs.OpenGroups.{open_size}
use Rattle.script_run.proofs.RunLemmas.{none_more, run_nothing}

-- the answer to a line whose commands are all done
abbrev IsEnd : Reply → Type 0
IsEnd ok = ⊤
IsEnd (ran k) = ⊤
IsEnd (refused why) = ⊤
IsEnd bad_tree = ⊤
IsEnd tree_full = ⊤
IsEnd (denied why) = ⊤
IsEnd reply = ⊥

end_one : (op : Command) (refusal : Option Refusal) → IsEnd (one_unless op refusal).reply
end_one op None = tt
end_one op (Some why) = tt

end_run : (n k : ℕ) (refusal : Option Refusal) → IsEnd (run_reply n k refusal)
end_run zero k refusal = tt
end_run (suc n) k None = tt
end_run (suc n) k (Some refusals.Halted) = tt
end_run (suc n) k (Some refusals.NoInput) = tt
end_run (suc n) k (Some refusals.TooLarge) = tt
end_run (suc n) k (Some why) = tt

end_made : (p : Params) (commands : List Command) (step : Command) (n : ℕ) → IsEnd (run_made p commands step n).reply
end_made p commands step n = end_run n (steps_accepted p commands step n) (refusal_after p commands step)

end_end : (refusal : Option TreeRefusal) → IsEnd (end_reply refusal)
end_end None = tt
end_end (Some NoObject) = tt
end_end (Some (BadTree object)) = tt
end_end (Some (TreeFull need free)) = tt
end_end (Some NoKey) = tt

end_plan : {O : Type 0} (cap : ℕ) (ops : List O) (reply : Reply) → IsEnd reply → IsEnd (plan_reply cap ops reply)
end_plan cap [] reply is = is
end_plan cap (op ∷ ops) reply is = cond_both (nat_le 1024 cap) _ _ IsEnd (λ wide. is) (λ small. tt)

end_hash : (refusal : Option HashRefusal) → IsEnd (call_end hash_reply refusal)
end_hash None = tt
end_hash (Some hash_refusals.NoObject) = tt
end_hash (Some (hash_refusals.BadHash object)) = tt
end_hash (Some (hash_refusals.HashFull object)) = tt
end_hash (Some (hash_refusals.NoRoom free)) = tt
end_hash (Some hash_refusals.NoKey) = tt

end_hash_plan : (p : Params) (plan : HashPlan) → IsEnd (hash_made p plan).reply
end_hash_plan p plan = end_plan p.cap plan.commands (call_end hash_reply plan.refusal) (end_hash plan.refusal)

-- and so has a change of a map
end_map_refusal : (why : CallRefusal) → IsEnd (map_reply why)
end_map_refusal map_refusals.NoObject = tt
end_map_refusal map_refusals.NoPages = tt
end_map_refusal (map_refusals.Map (map_causes.BadMap object)) = tt
end_map_refusal (map_refusals.Map map_causes.TooLong) = tt
end_map_refusal (map_refusals.Map map_causes.MapFull) = tt
end_map_refusal (map_refusals.Map map_causes.NoKey) = tt

end_change : (refusal : Option MapErr) → IsEnd (change_reply refusal)
end_change None = tt
end_change (Some (call_errors.Refused why)) = end_map_refusal why
end_change (Some (call_errors.Exec (exec_errors.Refused why))) = tt
end_change (Some (call_errors.Exec (exec_errors.LogFull used need limit))) = tt
end_change (Some (call_errors.Exec (exec_errors.LsnEnd number))) = tt
end_change (Some (call_errors.Exec exec_errors.DiskFault)) = tt
end_change (Some (call_errors.Exec (exec_errors.Damaged file place))) = tt
end_change (Some (call_errors.Exec exec_errors.Memory)) = tt
end_change (Some call_errors.Memory) = tt

end_map : (lo hi : ℕ) (change : MapChange) (p : Params) (commands : List Command) → IsEnd (map_made lo hi change p commands).reply
end_map lo hi change p commands = by_order (nat_le lo hi)
  where
    by_order : (b : Bool) → IsEnd (if b then change_made (change_comes lo hi change p commands) else made [] (refused refusals.NoObject)).reply
    by_order true = end_change (change_comes lo hi change p commands).refusal
    by_order false = tt

made_end : (p : Params) (commands : List Command) (it : Made) (request : Request) → made_by p commands request ≡ Some it → IsEnd it.reply
made_end p commands it request is = of_request request it is
  where
    given : (mine it : Made) → Some mine ≡ Some it → IsEnd mine.reply → IsEnd it.reply
    given mine it same here = subst (λ (m : Made). IsEnd m.reply) (let e : mine ≡ it = cc same in e) here

    of_request : (request : Request) (it : Made) → made_by p commands request ≡ Some it → IsEnd it.reply
    of_request (Run op) it same = given _ it same (end_one _ _)
    of_request (Make (arun app n)) it same = given _ it same (end_made p commands (step_of app) n)
    of_request (Make (prun app code n)) it same = given _ it same (end_made p commands (program_step app code) n)
    of_request (Make (tinsert lo hi key value)) it same = let s = state_of p commands in let plan = insert_plan (bounds_of p) lo hi s key value in given _ it same (end_plan p.cap plan.commands (end_reply plan.refusal) (end_end plan.refusal))
    of_request (Make (tdelete lo hi key)) it same = let s = state_of p commands in let plan = delete_plan (bounds_of p) lo hi s key in given _ it same (end_plan p.cap plan.commands (end_reply plan.refusal) (end_end plan.refusal))
    of_request (Make (hset lo hi key value)) it same = given _ it same (end_hash_plan p (of_hash.put_plan (bounds_of p) lo hi (state_of p commands) key value))
    of_request (Make (hdel lo hi key)) it same = given _ it same (end_hash_plan p (of_hash.delete_plan (bounds_of p) lo hi (state_of p commands) key))
    of_request (Make (change_map lo hi change)) it same = given _ it same (end_map lo hi change p commands)
    of_request request it same = cc

-- where the answer is ok, there are some
abbrev HasSome : Made → Type 0
HasSome m = m.reply ≡ ok → m.ops ≡ [] → ⊥

some_one : (op : Command) (refusal : Option Refusal) → HasSome (one_unless op refusal)
some_one op None is none = cc none
some_one op (Some why) is none = cc is

some_run : (n k : ℕ) (refusal : Option Refusal) → run_reply n k refusal ≡ ok → ⊥
some_run zero k refusal is = cc is
some_run (suc n) k None is = cc is
some_run (suc n) k (Some refusals.Halted) is = cc is
some_run (suc n) k (Some refusals.NoInput) is = cc is
some_run (suc n) k (Some refusals.TooLarge) is = cc is
some_run (suc n) k (Some why) is = cc is

some_made : (p : Params) (commands : List Command) (step : Command) (n : ℕ) → (run_made p commands step n).reply ≡ ok → ⊥
some_made p commands step n = some_run n (steps_accepted p commands step n) (refusal_after p commands step)

-- a plan that is not refused has some commands
abbrev IsPlanned : TreePlan → Type 0
IsPlanned plan = plan.refusal ≡ None → plan.commands ≡ [] → ⊥

some_end : (refusal : Option TreeRefusal) → end_reply refusal ≡ ok → refusal ≡ None
some_end None is = refl
some_end (Some NoObject) is = cc is
some_end (Some (BadTree object)) is = cc is
some_end (Some (TreeFull need free)) is = cc is
some_end (Some NoKey) is = cc is

some_plan : (p : Params) (plan : TreePlan) → IsPlanned plan → HasSome (plan_made p plan)
some_plan p plan planned = of_commands plan.commands plan.refusal planned
  where
    of_commands : (ops : List NodeOp) (refusal : Option TreeRefusal) → (refusal ≡ None → ops ≡ [] → ⊥) → HasSome (made (made_of p.cap ops) (plan_reply p.cap ops (end_reply refusal)))
    of_commands [] refusal here = λ is none. here (some_end refusal is) refl
    of_commands (op ∷ ops) refusal here = λ is none.
        cond_both (nat_le 1024 p.cap) (map (λ n. node n) (op ∷ ops)) [] (λ (l : List Command). l ≡ [] → (if nat_le 1024 p.cap then end_reply refusal else refused refusals.TooLarge) ≡ ok → ⊥)
        (λ wide empty answer. cc empty)
        (λ small empty answer. let so : refused refusals.TooLarge ≡ ok = sym (ap (λ (b : Bool). if b then end_reply refusal else refused refusals.TooLarge) small) ∙ answer in cc so)
        none is

some_given : (mine it : Made) → Some mine ≡ Some it → HasSome mine → HasSome it
some_given mine it same here = subst HasSome (let e : mine ≡ it = cc same in e) here

-- how the commands end
module _ (m : Meaning Command) (limit : ℕ) where
  low_end : (grouped : Bool) (op : Command) (w : World Command) (used : ℕ) → (append_course m grouped limit op w used).stop ≡ Through → end_of (run m w (append_course m grouped limit op w used).steps) ≤ 2 ^ 62
  unfolding step run
  low_end grouped op w used =
      let n = command_length m op in
      let P : Course Command → Type 0 = λ c. c.stop ≡ Through → end_of (run m w c.steps) ≤ 2 ^ 62 in
      cond_both (nat_lt limit (grown m w used n)) _ _ P (λ over e. cc e)
      (λ fits. cond_both (nat_le (2 ^ 62) (end_of w)) _ _ P (λ last e. cc e)
      (λ left e. let low : length w.history + 1 < 2 ^ 62 = grind (arith, nat_tests, left) in omega (arith, low, length-append w.history (Logged op ∷ []))))

  -- no number past the last is given
  low_after : (ops : List Command) (w : World Command) (used : ℕ) → end_of w ≤ 2 ^ 62 → (commands_course m limit ops w used).stop ≡ Through → end_of (run m w (commands_course m limit ops w used).steps) ≤ 2 ^ 62
  low_after [] w used low = λ is. subst (λ (v : World Command). end_of v ≤ 2 ^ 62) (sym (run_nothing m w)) low
  low_after (op ∷ ops) w used low =
      let first = append_course m (is_some w.group) limit op w used in
      let second = commands_course m limit ops (run m w first.steps) first.used in
      behind_both (λ (c : Course Command). c.stop ≡ Through → end_of (run m w c.steps) ≤ 2 ^ 62) first second first.stop
      (λ on is. subst (λ (v : World Command). end_of v ≤ 2 ^ 62) (sym (run-append m w first.steps second.steps)) (low_after ops (run m w first.steps) first.used (low_end (is_some w.group) op w used (through_is first.stop on)) is))
      (λ ends is. low_end (is_some w.group) op w used is)

  low_some : (op : Command) (ops : List Command) (w : World Command) (used : ℕ) → (commands_course m limit (op ∷ ops) w used).stop ≡ Through → end_of (run m w (commands_course m limit (op ∷ ops) w used).steps) ≤ 2 ^ 62
  low_some op ops w used =
      let first = append_course m (is_some w.group) limit op w used in
      let second = commands_course m limit ops (run m w first.steps) first.used in
      behind_both (λ (c : Course Command). c.stop ≡ Through → end_of (run m w c.steps) ≤ 2 ^ 62) first second first.stop
      (λ on is. subst (λ (v : World Command). end_of v ≤ 2 ^ 62) (sym (run-append m w first.steps second.steps)) (low_after ops (run m w first.steps) first.used (low_end (is_some w.group) op w used (through_is first.stop on)) is))
      (λ ends is. low_end (is_some w.group) op w used is)

no_more_commands : (h : List (Member Command)) → length (commands_of h) ≤ length h
no_more_commands [] = omega arith
no_more_commands (Logged op ∷ h) = let low = no_more_commands h in omega (arith, low)
no_more_commands (Identity x v ∷ h) = let low = no_more_commands h in omega (arith, low)

few_commands : (m : Meaning Command) (limit : ℕ) (ops : List Command) (w now : World Command) (used : ℕ) → (ops ≡ [] → ⊥) → (commands_course m limit ops w used).stop ≡ Through → now ≡ run m w (commands_course m limit ops w used).steps
    → length (commands_of now.history) < 2 ^ 62
few_commands m limit [] w now used some is same = absurd (some refl)
few_commands m limit (op ∷ ops) w now used some is same =
    let low : end_of now ≤ 2 ^ 62 = subst (λ (v : World Command). end_of v ≤ 2 ^ 62) (sym same) (low_some m limit op ops w used is) in
    omega (arith, low, no_more_commands now.history)

planned_next : (on : NodeOp → TreePlan) (next : TreeNext) → IsPlanned (plan_next on next)
planned_next on (goes_on op) is none = cc none
planned_next on (ends op) is none = cc none
planned_next on (refuses why) is none = cc is

planned_there : (there : Bool) (plan other : TreePlan) → IsPlanned plan → IsPlanned other → IsPlanned (if there then plan else other)
planned_there true plan other here there = here
planned_there false plan other here there = there

planned_delete : (key : List ℕ) (way : Result Way ℕ) → IsPlanned (delete_on key way)
planned_delete key (Err bad) = λ is none. cc is
planned_delete key (Ok way) = planned_there (has key way.pairs) (record { commands = Delete way.object key ∷ []; refusal = None }) (record { commands = []; refusal = Some NoKey }) (λ is none. cc none) (λ is none. cc is)

no_object : IsPlanned (record { commands = []; refusal = Some NoObject })
no_object is none = cc is

made_some : (p : Params) (commands : List Command) (it : Made) (request : Request) → made_by p commands request ≡ Some it → HasSome it
made_some p commands it request is = of_request request it is
  where
    of_request : (request : Request) (it : Made) → made_by p commands request ≡ Some it → HasSome it
    of_request (Run op) it same = some_given _ it same (some_one _ _)
    of_request (Make (arun app n)) it same = some_given _ it same (λ e none. some_made p commands (step_of app) n e)
    of_request (Make (prun app code n)) it same = some_given _ it same (λ e none. some_made p commands (program_step app code) n e)
    of_request (Make (tinsert lo hi key value)) it same =
        let b = bounds_of p in
        let s = state_of p commands in
        let plan = insert_plan b lo hi s key value in
        some_given _ it same (some_plan p plan
        (planned_there (is_there b lo hi) (insert_from b lo hi key value (suc (size lo hi)) s) (record { commands = []; refusal = Some NoObject })
        (planned_next (λ op. insert_from b lo hi key value (size lo hi) (after (node_meaning b) s op)) (insert_next b lo hi s key value)) no_object))
    of_request (Make (tdelete lo hi key)) it same =
        let b = bounds_of p in
        let s = state_of p commands in
        let plan = delete_plan b lo hi s key in
        some_given _ it same (some_plan p plan
        (planned_there (is_there b lo hi) (delete_on key (walk lo hi s key)) (record { commands = []; refusal = Some NoObject }) (planned_delete key (walk lo hi s key)) no_object))
    of_request (Make (hset lo hi key value)) it same =
        let plan = of_hash.put_plan (bounds_of p) lo hi (state_of p commands) key value in
        some_given _ it same (some_hash p plan (planned_put_all (bounds_of p) lo hi (state_of p commands) key value))
    of_request (Make (hdel lo hi key)) it same =
        let plan = of_hash.delete_plan (bounds_of p) lo hi (state_of p commands) key in
        some_given _ it same (some_hash p plan (planned_delete_all (bounds_of p) lo hi (state_of p commands) key))
    of_request (Make (change_map lo hi change)) it same = some_given _ it same (some_map lo hi change p commands)
    of_request request it same = cc

-- a line that asks for commands leaves the open group as it is
pub made_keeps : (p : Params) (commands : List Command) (it : Made) (request : Request) → made_by p commands request ≡ Some it → (group : Option ℕ) → group_after request group commands ≡ group
made_keeps p commands it (Group begin_group) same group = cc same
made_keeps p commands it (Group end_group) same group = cc same
made_keeps p commands it (Group abort_group) same group = cc same
made_keeps p commands it request same group = refl

-- no identity write is logged by commands
abbrev pub AreNoIdentities : Type 0
AreNoIdentities = (b : Bounds) (limit : ℕ) (ops : List Command) (w : World Command) (used : ℕ) → logged_in (commands_course (all_meaning b) limit ops w used).steps ≡ []

module _ (p : Params) (old now : Disk) (before after : EngineView) (commands : List Command) (line : List ℕ) (it : Made) (holds : Holds p old before commands) (asks : AsksMade p commands line it) (none : AreNoIdentities) where
  abbrev w : World Command
  w = holds.world

  abbrev m : Meaning Command
  m = meaning_in p

  abbrev way : Course Command
  way = commands_course m p.limit it.ops w (used_in before)

  -- the stage that the course leads to
  ends_so : (stop : Stop) (world : World Command) → way.stop ≡ stop → IsBehind m w way world (used_in after) → after.identities ≡ before.identities → after.copied ≡ before.copied → Ends p (stage_of before w) line stop (stage_of after world)
  ends_so stop world is behind same copies = (
    way,
    inl (it, asks_in holds asks, refl),
    is,
    λ i. record {
      world = behind.world_is i;
      used = behind.used_is i;
      identities = (same ∙ none_more before.identities ∙ ap (λ (l : List ℕ). before.identities + length l) (sym (none (bounds_of p) p.limit it.ops w (used_in before)))) i;
      copied = copies i;
    },
  )

  abbrev Adds : Ending → Type 0
  Adds ending = AddsFront all_meaning p old now before after w commands it.ops ending

  abbrev Reached : Ending → List Command → Type 0
  Reached ending added = HasReached all_meaning p now after w (used_in before) it.ops (commands ++ added) ending

  reached : (ending : Ending) → (IsFailed ending → ⊥) → (a : Adds ending) → Reached ending (take a.done it.ops)
  reached ending working a = ⊎_elim (λ failed. absurd (working failed)) (λ here. here) a.kept

  rises : (ending : Ending) → (IsFailed ending → ⊥) → Adds ending → forced_in before ≤ forced_in after
  rises ending working a = ⊎_elim (λ failed. absurd (working failed)) (λ here. here) a.rising

  which_of : (ending : Ending) → (IsFailed ending → ⊥) → Adds ending → (forced_in after ≡ forced_in before) ⊎ ((before.group ≡ None) × (length commands ≤ forced_in after))
  which_of ending working a = ⊎_elim (λ failed. absurd (working failed)) (λ here. here) a.which

  -- in the same group, or none
  same_group : (ending : Ending) (working : IsFailed ending → ⊥) (a : Adds ending) → open_in (reached ending working a).world ≡ open_in w
  same_group ending working a =
      let here = reached ending working a in
      open_same (take a.done it.ops) holds.shows here.shows (here.commands_are ∙ ap (λ (l : List Command). l ++ take a.done it.ops) (sym holds.commands_are))
      (a.size ∙ ap (λ (n : ℕ). larger (group_size before) n) (sym (length-take-le a.done it.ops a.front)))

  regroups_so : (reply : Reply) (group : Option ℕ) → group ≡ open_in w → Regroups line reply commands (open_in w) group
  regroups_so ok group same = (asks.request, asks.asks, same ∙ sym (made_keeps p commands it asks.request asks.makes (open_in w)))
  regroups_so reply group same = same

  -- all of them are done
  all_done : (reply : Reply) → it.reply ≡ reply → Replies p (open_in w) commands line reply it.ops → ((world : World Command) → Ends p (stage_of before w) line Through (stage_of after world) → GoesBy p (stage_of before w) line reply (stage_of after world))
      → IsOfEngine after line reply → IsEngineCall p.limit old now before after 0 Done → Adds Done → IsDone p old now before after w commands line reply
  all_done reply is replies goes is_of call a =
      let here = reached Done (λ f. f) a in
      let whole : take a.done it.ops ≡ it.ops = take_all a.done it.ops (omega (arith, a.all refl)) in
      let regroups = regroups_so reply (open_in here.world) (same_group Done (λ f. f) a) in
      record {
        added = it.ops;
        replies = replies;
        quiet = call.quiet holds.shows.shows.told;
        world = here.world;
        shows = here.shows;
        becomes = grows_to line reply commands it.ops (open_in w) (open_in here.world) regroups (same_group Done (λ f. f) a) (here.commands_are ∙ ap (λ (l : List Command). commands ++ l) whole);
        regroups = regroups;
        rising = rises Done (λ f. f) a;
        which = which_of Done (λ f. f) a;
        goes = goes here.world (ends_so Through here.world here.ends.0 here.ends.1 a.identities call.copied);
        is_of = is_of;
      }

  -- so this is the answer
  asks_so : (reply : Reply) → it.reply ≡ reply → AsksMade p commands line (made it.ops reply)
  asks_so reply is = subst (λ (r : Reply). AsksMade p commands line (made it.ops r)) is asks

  few : it.reply ≡ ok → Adds Done → length (commands ++ it.ops) < 2 ^ 62
  few is a =
      let here = reached Done (λ f. f) a in
      let whole : take a.done it.ops ≡ it.ops = take_all a.done it.ops (omega (arith, a.all refl)) in
      let low = few_commands m p.limit it.ops w here.world (used_in before) (made_some p commands it asks.request asks.makes is) here.ends.0 here.ends.1.world_is in
      omega (arith, low, ap length here.commands_are, ap (λ (l : List Command). length (commands ++ l)) whole)

  pub made_done : (reply : Reply) → it.reply ≡ reply → IsEnd reply → IsEngineCall p.limit old now before after 0 Done → Adds Done → IsDone p old now before after w commands line reply
  made_done ok is fin call a = all_done ok is (inl (asks_so ok is, few is a)) (λ world goes. inl goes) tt call a
  made_done (ran k) is fin call a = all_done (ran k) is (asks_so (ran k) is) (λ world goes. goes) tt call a
  made_done (refused why) is fin call a = all_done (refused why) is (inl (asks_so (refused why) is)) (λ world goes. goes) tt call a
  made_done bad_tree is fin call a = all_done bad_tree is (inl (asks_so bad_tree is)) (λ world goes. goes) tt call a
  made_done tree_full is fin call a = all_done tree_full is (asks_so tree_full is) (λ world goes. goes) tt call a
  made_done (denied why) is fin call a = all_done (denied why) is (inl (asks_so (denied why) is)) (λ world goes. goes) tt call a
  made_done reply is fin call a = absurd fin

  -- one of them is stopped
  stopped_at : (stop : Stop) (a : Adds (Stopped stop)) → (at : IsStoppedAt all_meaning p (group_size before) it.ops a.done stop) → AsksBehind p commands line (take a.done it.ops) at.op
  stopped_at stop a at = record { it = it; asks = asks; rest = at.rest; next = sym (take-append-drop a.done it.ops) ∙ ap (λ (l : List Command). take a.done it.ops ++ l) at.here }

  stopped_so : (stop : Stop) (reply : Reply) (a : Adds (Stopped stop)) → Replies p (open_in w) commands line reply (take a.done it.ops)
      → ((world : World Command) → Ends p (stage_of before w) line stop (stage_of after world) → GoesBy p (stage_of before w) line reply (stage_of after world))
      → IsOfEngine after line reply → IsEngineCall p.limit old now before after 0 (Stopped stop) → IsDone p old now before after w commands line reply
  stopped_so stop reply a replies goes is_of call =
      let here = reached (Stopped stop) (λ f. f) a in
      let regroups = regroups_so reply (open_in here.world) (same_group (Stopped stop) (λ f. f) a) in
      record {
        added = take a.done it.ops;
        replies = replies;
        quiet = call.quiet holds.shows.shows.told;
        world = here.world;
        shows = here.shows;
        becomes = grows_to line reply commands (take a.done it.ops) (open_in w) (open_in here.world) regroups (same_group (Stopped stop) (λ f. f) a) here.commands_are;
        regroups = regroups;
        rising = rises (Stopped stop) (λ f. f) a;
        which = which_of (Stopped stop) (λ f. f) a;
        goes = goes here.world (ends_so stop here.world here.ends.0 here.ends.1 a.identities call.copied);
        is_of = is_of;
      }

  -- as many commands has the group then as the log's stop says
  size_so : (stop : Stop) (a : Adds (Stopped stop)) → larger (group_size before) a.done ≡ size_of (open_in w) (commands ++ take a.done it.ops)
  size_so stop a =
      let here = reached (Stopped stop) (λ f. f) a in
      sym a.size ∙ open_size here.shows here.commands_are ∙ ap (λ (group : Option ℕ). size_of group (commands ++ take a.done it.ops)) (same_group (Stopped stop) (λ f. f) a)

  pub made_full : (used need limit : ℕ) → IsEngineCall p.limit old now before after 0 (Stopped (Full used need limit)) → Adds (Stopped (Full used need limit)) → IsDone p old now before after w commands line (full used need limit)
  made_full used need limit call a =
      let stop = Full used need limit in
      let at = a.stopped stop refl in
      let need_is = at.need.0 ∙ ap (λ (size : Option ℕ). needed_in size (record_length p at.op)) (size_so stop a) in
      stopped_so stop (full used need limit) a (inl (at.op, stopped_at stop a at, need_is, at.need.1, over_limit (is_some before.group) p.limit after.parts.log used need limit (call.stopped stop refl))) (λ world goes. inl goes) (inl (left_stopped stop call)) call

  pub made_end_at : (number : ℕ) → IsEngineCall p.limit old now before after 0 (Stopped (At_end number)) → Adds (Stopped (At_end number)) → IsDone p old now before after w commands line (end number)
  made_end_at number call a =
      let stop = At_end number in
      let at = a.stopped stop refl in
      stopped_so stop (end number) a (inl (at.op, stopped_at stop a at), last_number (is_some before.group) p.limit after.parts.log number (call.stopped stop refl)) (λ world goes. inl goes)
      (asks.request, asks.asks, made_ends p commands it after number asks.request asks.makes (left_stopped stop call)) call

  -- whatever ended them
  abbrev Answered : Result Answer Early → Type 0
  Answered r = IfOk r (λ answer. IsDone p old now before after w commands line (reply_of answer))

  pub made_answered : (error : Option ExecErr) (result : Result Answer Early) → IsAnswerTo it.reply error result → IsEngineCall p.limit old now before after 0 (ending_of error) → Adds (ending_of error) → Answered result
  made_answered None result is call a =
      let (answer, so, same) = is in
      subst (λ (r : Result Answer Early). Answered r) (sym so) (made_done (reply_of answer) same (subst IsEnd same (made_end p commands it asks.request asks.makes)) call a)
  made_answered (Some (exec_errors.Refused why)) result is call a = subst (λ (r : Result Answer Early). Answered r) (sym is.0) (made_done (refused why) is.1 tt call a)
  made_answered (Some (exec_errors.LogFull used need limit)) result is call a = subst (λ (r : Result Answer Early). Answered r) (sym is) (made_full used need limit call a)
  made_answered (Some (exec_errors.LsnEnd number)) result is call a = subst (λ (r : Result Answer Early). Answered r) (sym is) (made_end_at number call a)
  made_answered (Some exec_errors.DiskFault) result is call a = subst (λ (r : Result Answer Early). Answered r) (sym is) tt
  made_answered (Some (exec_errors.Damaged file place)) result is call a = subst (λ (r : Result Answer Early). Answered r) (sym is) tt
  made_answered (Some exec_errors.Memory) result is call a = subst (λ (r : Result Answer Early). Answered r) (sym is) tt

  -- a moment of the call
  pub made_images : (ending : Ending) → Adds ending → old.tells_moments → LeavesOnly old now (Working p old before commands line)
  made_images ending a told = weaker old now (Between p old before.group (forced_in before) (length commands) (commands ++ take a.done it.ops)) (Working p old before commands line) (a.images told)
      (λ f s b. record { added = take a.done it.ops; front = inr (record { it = it; asks = asks; count = a.done; first = refl }); between = b })

  pub made_works : (ending : Ending) → Adds ending → Works p old now (stage_of before w) line
  made_works ending a = works_by p old now (stage_of before w) line way (inl (inl (it, asks_in holds asks, refl))) a.steps

-- the log of an engine that stands for commands may have as many bytes as the store says
abbrev limit_is : {p : Params} {old now : Disk} {before after : EngineView} {commands : List Command} {ending : Ending} → Holds p old before commands → IsEngineCall (params_of before).limit old now before after 0 ending → IsEngineCall p.limit old now before after 0 ending
limit_is {old = old} {now = now} {before = before} {after = after} {ending = ending} holds call = subst (λ (q : Params). IsEngineCall q.limit old now before after 0 ending) holds.shows.shows.store.params call

-- What a call for commands says of a line that asks for them.
module _ {p : Params} {old now : Disk} {before after : EngineView} {commands : List Command} {line : List ℕ} {request : Request} {result : Result Answer Early} (none : AreNoIdentities)
    (holds : Holds p old before commands) (asks : AsksFor line request) (u : IsMade old now before after request result) where
  pub list_done : IfOk result (λ answer. IsDone p old now before after holds.world commands line (reply_of answer))
  list_done =
      let (it, makes, adds, answers) = u.adds p commands holds in
      made_answered p old now before after commands line it holds (record { request = request; asks = asks; makes = makes }) none u.error result answers (limit_is holds u.calls.call) adds

  pub list_images : old.tells_moments → LeavesOnly old now (Working p old before commands line)
  list_images =
      let (it, makes, adds, answers) = u.adds p commands holds in
      made_images p old now before after commands line it holds (record { request = request; asks = asks; makes = makes }) none (ending_of u.error) adds

  pub list_works : Works p old now (stage_of before holds.world) line
  list_works =
      let (it, makes, adds, answers) = u.adds p commands holds in
      made_works p old now before after commands line it holds (record { request = request; asks = asks; makes = makes }) none (ending_of u.error) adds

-- a call was answered
abbrev pub IsOk : {T : Type 0} → Result T Early → Type 0
IsOk (Ok value) = ⊤
IsOk (Err stop) = ⊥

-- How calls end.
module _ {T : Type 0} where
  ended_ok : (value : T) (r : Result T Early) (P : Early → Type 0) → r ≡ Ok value → IfErr r P
  ended_ok value r P is = subst (λ (x : Result T Early). IfErr x P) (sym is) tt

  ended_cause : (old now : Disk) (error : Option ExecErr) (r : Result T Early) → IsEndedBy error r → (IsFailed (ending_of error) → Rises old.disk_faults now.disk_faults) → IfErr r (λ stop. IsCaused stop old now)
  ended_cause old now (Some exec_errors.DiskFault) r is fault = subst (λ (x : Result T Early). IfErr x (λ stop. IsCaused stop old now)) (sym is) (fault tt)
  ended_cause old now (Some (exec_errors.Damaged file place)) r is fault = subst (λ (x : Result T Early). IfErr x (λ stop. IsCaused stop old now)) (sym is) tt
  ended_cause old now (Some exec_errors.Memory) r is fault = subst (λ (x : Result T Early). IfErr x (λ stop. IsCaused stop old now)) (sym is) tt
  ended_cause old now (Some (exec_errors.Refused why)) r is fault = ended_ok is.0 r (λ stop. IsCaused stop old now) is.1
  ended_cause old now (Some (exec_errors.LogFull used need limit)) r is fault = ended_ok is.0 r (λ stop. IsCaused stop old now) is.1
  ended_cause old now (Some (exec_errors.LsnEnd number)) r is fault = ended_ok is.0 r (λ stop. IsCaused stop old now) is.1
  ended_cause old now None r is fault = ended_ok is.0 r (λ stop. IsCaused stop old now) is.1

  ended_whole : (error : Option ExecErr) (r : Result T Early) → IsEndedBy error r → IsSound error → IfErr r IsUndamaged
  ended_whole (Some exec_errors.DiskFault) r is sound = subst (λ (x : Result T Early). IfErr x IsUndamaged) (sym is) tt
  ended_whole (Some (exec_errors.Damaged file place)) r is sound = absurd sound
  ended_whole (Some exec_errors.Memory) r is sound = subst (λ (x : Result T Early). IfErr x IsUndamaged) (sym is) tt
  ended_whole (Some (exec_errors.Refused why)) r is sound = ended_ok is.0 r IsUndamaged is.1
  ended_whole (Some (exec_errors.LogFull used need limit)) r is sound = ended_ok is.0 r IsUndamaged is.1
  ended_whole (Some (exec_errors.LsnEnd number)) r is sound = ended_ok is.0 r IsUndamaged is.1
  ended_whole None r is sound = ended_ok is.0 r IsUndamaged is.1

  -- a call that was answered did not fail
  ended_working : (error : Option ExecErr) (r : Result T Early) → IsEndedBy error r → IsOk r → IsFailed (ending_of error) → ⊥
  ended_working (Some exec_errors.DiskFault) r is fine failed = subst (λ (x : Result T Early). IsOk x) is fine
  ended_working (Some (exec_errors.Damaged file place)) r is fine failed = failed
  ended_working (Some exec_errors.Memory) r is fine failed = failed
  ended_working (Some (exec_errors.Refused why)) r is fine failed = failed
  ended_working (Some (exec_errors.LogFull used need limit)) r is fine failed = failed
  ended_working (Some (exec_errors.LsnEnd number)) r is fine failed = failed
  ended_working None r is fine failed = failed

  -- it is done, or was stopped
  pub not_early : (error : Option ExecErr) (r : Result T Early) → IsEndedBy error r → IsOk r → (ending_of error ≡ Short → ⊥) × (ending_of error ≡ Failed → ⊥)
  not_early (Some exec_errors.DiskFault) r is fine = absurd (subst (λ (x : Result T Early). IsOk x) is fine)
  not_early (Some (exec_errors.Damaged file place)) r is fine = absurd (subst (λ (x : Result T Early). IsOk x) is fine)
  not_early (Some exec_errors.Memory) r is fine = absurd (subst (λ (x : Result T Early). IsOk x) is fine)
  not_early (Some (exec_errors.Refused why)) r is fine = (λ e. cc e, λ e. cc e)
  not_early (Some (exec_errors.LogFull used need limit)) r is fine = (λ e. cc e, λ e. cc e)
  not_early (Some (exec_errors.LsnEnd number)) r is fine = (λ e. cc e, λ e. cc e)
  not_early None r is fine = (λ e. cc e, λ e. cc e)

-- What holds on every machine of calls that end so.
module _ {T : Type 0} {old now : Disk} {before after : EngineView} {error : Option ExecErr} (r : Result T Early) (calls : AreCalls all_meaning old now before after error) (ended : IsEndedBy error r) where
  pub calls_cause : IfErr r (λ stop. IsCaused stop old now)
  calls_cause = ended_cause old now error r ended calls.call.fault

  pub calls_undamaged : old.tells_files → IsAttached old before → IfErr r IsUndamaged
  calls_undamaged told attached = ended_whole error r ended (calls.undamaged told attached)

  pub calls_attached : IsOk r → IsAttached old before → IsAttached now after
  calls_attached fine attached = still_attached calls.call (ended_working error r ended fine) attached

  pub calls_unbroken : IsOk r → after.broken ≡ false
  calls_unbroken fine = still_whole calls.call (ended_working error r ended fine)
