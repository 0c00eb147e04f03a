-- How calls on applications and trees are answered.
use Rattle.std.proofs.Common.{◌≡◌, ◌∙◌, ap, sym, subst, refl, ℕ, zero, suc, Bool, true, false, List, [], ◌∷◌, Option, Some, None, Result, Ok, Err, IfOk}
use Rattle.std.specs.Prelude.{◌&&◌, nat_le, nat_lt, if◌then◌else◌, map, option_map}
use Rattle.std.proofs.lemmas.Bool.{cond_both}
use Rattle.oper_core.specs.declared.bounds.Bounds.{Bounds}
use Rattle.oper_core.specs.declared.refusal.Refusal.{Refusal}
use Rattle.oper_core.specs.declared.refusal.Refusal.TheVariants as refusals
use Rattle.formats.specs.declared.params.Params.{Params}
use Rattle.app_steps.specs.Steps.{IsRefusedAtOnce, HasAnswer, ends_a_run, steps, steps_accepted}
use Rattle.btree_ops.specs.declared.node_op.NodeOp.{NodeOp}
use Rattle.running_store.specs.Taking.Ending.{Done, Stopped}
use Rattle.store_engine.specs.Lists.{AddsFront, AreCalls, ending_of}
use Rattle.store_calls.specs.Making.{Calls}
use Rattle.store_calls.specs.OfEngine.{AddsInWorlds, engine_view}
use Rattle.execution.specs.declared.exec_err.ExecErr.{ExecErr}
use Rattle.execution.specs.declared.exec_err.ExecErr.TheVariants as exec_errors
use Rattle.logical_btree.specs.Plan.{TreePlan, is_there}
use Rattle.logical_btree.specs.Walk.{Range}
use Rattle.logical_btree.specs.declared.refusal.TreeRefusal.{TreeRefusal}
use Rattle.logical_btree.specs.declared.refusal.TreeRefusal.TheVariants.{NoObject, BadTree, TreeFull, NoKey}
use Rattle.op_codec.specs.AllOps.{node}
use Rattle.script_lines.specs.Replies.{Reply, ok, ran, refused, bad_tree, tree_full}
use Rattle.script_lines.specs.declared.answer.Answer.{Answer}
use Rattle.script_lines.specs.declared.answer.Answer.TheVariants as answers
use Rattle.tree_client.specs.Answers.{cause_of, error_of, made_of, refused_in, refused_of, told}
use Rattle.tree_client.specs.Answers.{TreeErr}
use Rattle.range_calls.specs.declared.call_err.CallErr.TheVariants as tree_errors
use Rattle.logical_btree.specs.declared.refusal.TreeRefusal.TheVariants as tree_refusals
use Rattle.disk_model.specs.Disk.{Disk}
use Rattle.op_codec.specs.AllOps.{all_meaning}
use Rattle.running_store.specs.Courses.{Stop}
use Rattle.script_lines.specs.Grammar.{Request}
use Rattle.store_engine.specs.Engine.{EngineView}
use Rattle.store_engine.specs.Engine as of_engine
use Rattle.shell_base.specs.Store.{Command, refusal_after, state_of}
use Rattle.shell_base.specs.HoldLaws.{in_engine}
use Rattle.shell_base.specs.declared.stop.Stop.{Stop as Early}
use Rattle.script_run.specs.Found.{IsAnswerTo, IsAsked, IsEndedBy, IsMade, answer_of_error, answer_of_tree_error, refused_as, reply_in}
use Rattle.script_run.specs.Made.{end_reply, found_reply, made_by, plan_made, plan_reply, run_made, run_reply, tree_answer, tree_reply}
use Rattle.script_run.specs.declared.asking.Found.{Found}
use Rattle.script_run.specs.declared.asking.Found.TheVariants as founds
use Rattle.script_run.proofs.AskLemmas.{no_first}

-- a command's error ends the call so
pub error_ends : (e : ExecErr) {r : Result Answer Early} → r ≡ answer_of_error e → IsEndedBy (Some e) r
error_ends (exec_errors.Refused why) is = (answers.Refused why, is)
error_ends (exec_errors.LogFull used need limit) is = (answers.Full used need limit, is)
error_ends (exec_errors.LsnEnd number) is = (answers.End number, is)
error_ends exec_errors.DiskFault is = is
error_ends (exec_errors.Damaged file place) is = is
error_ends exec_errors.Memory is = is

pub error_answers : (e : ExecErr) {r : Result Answer Early} {reply : Reply} → r ≡ answer_of_error e → ((why : Refusal) → e ≡ exec_errors.Refused why → reply ≡ refused why) → IsAnswerTo reply (Some e) r
error_answers (exec_errors.Refused why) is so = (is, so why refl)
error_answers (exec_errors.LogFull used need limit) is so = is
error_answers (exec_errors.LsnEnd number) is so = is
error_answers exec_errors.DiskFault is so = is
error_answers (exec_errors.Damaged file place) is so = is
error_answers exec_errors.Memory is so = is

-- a run of steps that is done
module _ (p : Params) (commands : List Command) (step : Command) where
  run_done : (n k : ℕ) (refusal : Option Refusal) → refusal_after p commands step ≡ refusal → ((why : Refusal) → IsRefusedAtOnce p commands step n why → ⊥) → run_reply n k refusal ≡ ran k
  run_done zero k refusal is none = refl
  run_done (suc n) k None is none = refl
  run_done (suc n) k (Some refusals.Halted) is none = refl
  run_done (suc n) k (Some refusals.NoInput) is none = refl
  run_done (suc n) k (Some refusals.TooLarge) is none = refl
  run_done (suc n) k (Some why) is none = absurd (none why (record { some = λ e. cc e; first = is; no_end = refl }))

  run_is : (n k : ℕ) → HasAnswer p commands step n (Ok k) → run_reply n (steps_accepted p commands step n) (refusal_after p commands step) ≡ ran k
  run_is n k answer = run_done n (steps_accepted p commands step n) (refusal_after p commands step) refl answer.1 ∙ ap (λ (m : ℕ). ran m) (sym answer.0)

  refused_so : (n k : ℕ) (why : Refusal) → (n ≡ 0 → ⊥) → ends_a_run why ≡ false → run_reply n k (Some why) ≡ refused why
  refused_so zero k why some other = absurd (some refl)
  refused_so (suc n) k refusals.Halted some other = cc other
  refused_so (suc n) k refusals.NoInput some other = cc other
  refused_so (suc n) k refusals.TooLarge some other = cc other
  refused_so (suc n) k why some other = refl

  run_refused : (n : ℕ) (e : ExecErr) → HasAnswer p commands step n (Err e) → (why : Refusal) → e ≡ exec_errors.Refused why → run_reply n (steps_accepted p commands step n) (refusal_after p commands step) ≡ refused why
  run_refused n e answer why is =
      let here = subst (λ (x : ExecErr). HasAnswer p commands step n (Err x)) is answer in
      ap (λ (r : Option Refusal). run_reply n (steps_accepted p commands step n) r) here.first ∙ refused_so n (steps_accepted p commands step n) why here.some here.no_end

-- A run of steps for a request.
module _ (old now : Disk) (before after : EngineView) (request : Request) (step : Command) (n : ℕ) (makes : (p : Params) (commands : List Command) → made_by p commands request ≡ Some (run_made p commands step n)) where
  -- it adds its steps, as many as are accepted, or some first of them
  abbrev Steps : Option ExecErr → Type 0
  Steps error = (p : Params) (commands : List Command) → of_engine.Holds all_meaning p old before commands → AddsInWorlds all_meaning p old now before after commands (steps p commands step n) (ending_of error)

  abbrev Answers : Result ℕ ExecErr → Type 0
  Answers result = (p : Params) (commands : List Command) → of_engine.Holds all_meaning p old before commands → HasAnswer p commands step n result

  pub ran_well : (k : ℕ) → Calls (engine_view all_meaning) old now before after None → Steps None → Answers (Ok k) → IsMade old now before after request (Ok (answers.Ran k))
  ran_well k calls adds answer = record {
    error = None;
    calls = calls.own;
    ended = (answers.Ran k, refl);
    adds = λ p commands holds. (
      run_made p commands step n,
      makes p commands,
      adds p commands (in_engine holds) holds.world holds.shows holds.commands_are,
      (answers.Ran k, refl, run_is p commands step n k (answer p commands (in_engine holds))),
    );
  }

  pub ran_badly : (e : ExecErr) {r : Result Answer Early} → Calls (engine_view all_meaning) old now before after (Some e) → Steps (Some e) → Answers (Err e) → r ≡ answer_of_error e → IsMade old now before after request r
  ran_badly e calls adds answer is = record {
    error = Some e;
    calls = calls.own;
    ended = error_ends e is;
    adds = λ p commands holds. (
      run_made p commands step n,
      makes p commands,
      adds p commands (in_engine holds) holds.world holds.shows holds.commands_are,
      error_answers e is (run_refused p commands step n e (answer p commands (in_engine holds))),
    );
  }

-- the reply to a tree's own refusals, and to a command that is refused
abbrev pub reply_to : TreeErr → Reply
reply_to (tree_errors.Refused tree_refusals.NoObject) = refused refusals.NoObject
reply_to (tree_errors.Refused (tree_refusals.BadTree object)) = bad_tree
reply_to (tree_errors.Refused (tree_refusals.TreeFull need free)) = tree_full
reply_to (tree_errors.Refused tree_refusals.NoKey) = refused refusals.NoKey
reply_to (tree_errors.Exec (exec_errors.Refused why)) = refused why
reply_to error = ok

pub reply_same : (why : TreeRefusal) → tree_reply why ≡ reply_to (error_of why)
reply_same NoObject = refl
reply_same (BadTree object) = refl
reply_same (TreeFull need free) = refl
reply_same NoKey = refl

plan_end : (refusal : Option TreeRefusal) (e : Option TreeErr) → e ≡ option_map error_of refusal → ((e ≡ None → end_reply refusal ≡ ok) × ((x : TreeErr) → e ≡ Some x → end_reply refusal ≡ reply_to x))
plan_end None e is = (λ none. refl, λ x some. cc (some, is))
plan_end (Some why) e is = (λ none. cc (none, is), λ x some. reply_same why ∙ ap reply_to (let same : error_of why ≡ x = cc (is, some) in same))

-- what a plan is refused by is what its reply says
plan_so : (cap : ℕ) (ops : List NodeOp) (refusal : Option TreeRefusal) (e : Option TreeErr) → e ≡ refused_of cap ops (option_map error_of refusal)
    → ((e ≡ None → plan_reply cap ops (end_reply refusal) ≡ ok) × ((x : TreeErr) → e ≡ Some x → plan_reply cap ops (end_reply refusal) ≡ reply_to x))
plan_so room [] refusal e = λ is. plan_end refusal e is
plan_so room (op ∷ ops) refusal e = by_room (nat_le 1024 room)
  where
    by_room : (wide : Bool) → e ≡ (if wide then option_map error_of refusal else Some (tree_errors.Exec (exec_errors.Refused refusals.TooLarge)))
        → ((e ≡ None → (if wide then end_reply refusal else refused refusals.TooLarge) ≡ ok) × ((x : TreeErr) → e ≡ Some x → (if wide then end_reply refusal else refused refusals.TooLarge) ≡ reply_to x))
    by_room true is = plan_end refusal e is
    by_room false is = (λ none. cc (none, is), λ x some. ap reply_to (let same : tree_errors.Exec (exec_errors.Refused refusals.TooLarge) ≡ x = cc (is, some) in same))

pub plan_ok : (p : Params) (plan : TreePlan) → None ≡ refused_of p.cap plan.commands (option_map error_of plan.refusal) → (plan_made p plan).reply ≡ ok
plan_ok p plan is = (plan_so p.cap plan.commands plan.refusal None is).0 refl

pub plan_err : (p : Params) (plan : TreePlan) (e : TreeErr) → Some e ≡ refused_of p.cap plan.commands (option_map error_of plan.refusal) → (plan_made p plan).reply ≡ reply_to e
plan_err p plan e is = (plan_so p.cap plan.commands plan.refusal (Some e) is).1 e refl

-- the error of a call on a tree ends it so
pub tree_ends : (e : TreeErr) {r : Result Answer Early} → r ≡ answer_of_tree_error e → IsEndedBy (cause_of e) r
tree_ends (tree_errors.Refused tree_refusals.NoObject) is = (answers.Refused refusals.NoObject, is)
tree_ends (tree_errors.Refused (tree_refusals.BadTree object)) is = (answers.BadTree, is)
tree_ends (tree_errors.Refused (tree_refusals.TreeFull need free)) is = (answers.TreeFull, is)
tree_ends (tree_errors.Refused tree_refusals.NoKey) is = (answers.Refused refusals.NoKey, is)
tree_ends (tree_errors.Exec e) is = error_ends e is
tree_ends tree_errors.Memory is = is

pub tree_answers : (e : TreeErr) {r : Result Answer Early} {reply : Reply} → r ≡ answer_of_tree_error e → (ending_of (cause_of e) ≡ Done → reply ≡ reply_to e) → IsAnswerTo reply (cause_of e) r
tree_answers (tree_errors.Refused tree_refusals.NoObject) is so = (answers.Refused refusals.NoObject, is, so refl)
tree_answers (tree_errors.Refused (tree_refusals.BadTree object)) is so = (answers.BadTree, is, so refl)
tree_answers (tree_errors.Refused (tree_refusals.TreeFull need free)) is so = (answers.TreeFull, is, so refl)
tree_answers (tree_errors.Refused tree_refusals.NoKey) is so = (answers.Refused refusals.NoKey, is, so refl)
tree_answers (tree_errors.Exec e) {r} {reply} is so = of_error e is so
  where
    of_error : (e : ExecErr) → r ≡ answer_of_error e → (ending_of (Some e) ≡ Done → reply ≡ reply_to (tree_errors.Exec e)) → IsAnswerTo reply (Some e) r
    of_error (exec_errors.Refused why) is so = (is, so refl)
    of_error (exec_errors.LogFull used need limit) is so = is
    of_error (exec_errors.LsnEnd number) is so = is
    of_error exec_errors.DiskFault is so = is
    of_error (exec_errors.Damaged file place) is so = is
    of_error exec_errors.Memory is so = is
tree_answers tree_errors.Memory is so = is

-- the range that was made, if it is one
pub tree_is : (low high : ℕ) (t : Range) → Some t ≡ (if nat_le low high then Some (record { lo = low; hi = high }) else None) → t ≡ record { lo = low; hi = high }
tree_is low high t = by_order (nat_le low high)
  where
    by_order : (b : Bool) → Some t ≡ (if b then Some (record { lo = low; hi = high }) else None) → t ≡ record { lo = low; hi = high }
    by_order true is = cc is
    by_order false is = cc is

abbrev range_in : ℕ → ℕ → Range
range_in low high = record { lo = low; hi = high }

abbrev range_of : ℕ → ℕ → Option Range
range_of low high = if nat_le low high then Some (range_in low high) else None

pub no_range : (low high : ℕ) → None ≡ range_of low high → nat_le low high ≡ false
no_range low high = by_order (nat_le low high)
  where
    by_order : (b : Bool) → None ≡ (if b then Some (range_in low high) else None) → b ≡ false
    by_order true is = cc is
    by_order false is = refl

-- where there is none a call is refused, and makes nothing
pub nowhere : {X : Type 0} (b : Bounds) (low high : ℕ) (there none : X) → nat_le low high ≡ false → (if is_there b low high then there else none) ≡ none
nowhere b low high there none is = ap (λ (t : Bool). if t && nat_lt high b.objects then there else none) is

no_ops : (cap : ℕ) → made_of cap [] ≡ []
no_ops cap = cond_both (nat_le 1024 cap) (map (λ n. node n) []) [] (λ (l : List Command). l ≡ []) (λ wide. refl) (λ small. refl)

pub none_made : (p : Params) (plan : TreePlan) → plan ≡ record { commands = []; refusal = Some NoObject } → ((plan_made p plan).ops ≡ []) × ((plan_made p plan).reply ≡ refused refusals.NoObject)
none_made p plan is = (ap (λ (q : TreePlan). (plan_made p q).ops) is ∙ no_ops p.cap, ap (λ (q : TreePlan). (plan_made p q).reply) is)

-- what a tree tells
pub found_so : (answer : Result (Option (List ℕ)) TreeRefusal) (found : Option (List ℕ)) → Ok found ≡ told answer → found_reply answer ≡ found_reply (Ok found)
found_so (Ok value) found is = ap (λ (v : Option (List ℕ)). found_reply (Ok v)) (let same : value ≡ found = cc is in same)
found_so (Err why) found is = cc is

told_so : {T : Type 0} (reply : Result T TreeRefusal → Reply) → ((why : TreeRefusal) → reply (Err why) ≡ tree_reply why) → (answer : Result T TreeRefusal) (e : TreeErr) → Err e ≡ told answer → reply answer ≡ reply_to e
told_so reply same (Ok value) e is = cc is
told_so reply same (Err why) e is = same why ∙ reply_same why ∙ ap reply_to (let so : error_of why ≡ e = cc is in so)

-- a question that is refused: what is said then is what the map tells
module _ {T : Type 0} (reply : Result T TreeRefusal → Reply) (same : (why : TreeRefusal) → reply (Err why) ≡ tree_reply why) (answer : Result T TreeRefusal) where
  not_by_engine : (e : ExecErr) → Err (tree_errors.Exec e) ≡ told answer → ⊥
  not_by_engine e = of_answer answer
    where
      of_answer : (a : Result T TreeRefusal) → Err (tree_errors.Exec e) ≡ told a → ⊥
      of_answer (Ok value) is = cc is
      of_answer (Err NoObject) is = cc is
      of_answer (Err (BadTree object)) is = cc is
      of_answer (Err (TreeFull need free)) is = cc is
      of_answer (Err NoKey) is = cc is

  pub refused_tells : (e : TreeErr) (r : Result Found Early) → r ≡ refused_as (answer_of_tree_error e) → (ending_of (cause_of e) ≡ Done → Err e ≡ told answer) → ((stop : Stop) → ending_of (cause_of e) ≡ Stopped stop → ⊥)
      → IfOk r (λ found. reply answer ≡ reply_in found)
  refused_tells (tree_errors.Refused tree_refusals.NoObject) r is so none = subst (λ (x : Result Found Early). IfOk x (λ found. reply answer ≡ reply_in found)) (sym is) (told_so reply same answer (tree_errors.Refused tree_refusals.NoObject) (so refl))
  refused_tells (tree_errors.Refused (tree_refusals.BadTree object)) r is so none = subst (λ (x : Result Found Early). IfOk x (λ found. reply answer ≡ reply_in found)) (sym is) (told_so reply same answer (tree_errors.Refused (tree_refusals.BadTree object)) (so refl))
  refused_tells (tree_errors.Refused (tree_refusals.TreeFull need free)) r is so none = subst (λ (x : Result Found Early). IfOk x (λ found. reply answer ≡ reply_in found)) (sym is) (told_so reply same answer (tree_errors.Refused (tree_refusals.TreeFull need free)) (so refl))
  refused_tells (tree_errors.Refused tree_refusals.NoKey) r is so none = subst (λ (x : Result Found Early). IfOk x (λ found. reply answer ≡ reply_in found)) (sym is) (told_so reply same answer (tree_errors.Refused tree_refusals.NoKey) (so refl))
  refused_tells (tree_errors.Exec (exec_errors.Refused why)) r is so none = absurd (not_by_engine (exec_errors.Refused why) (so refl))
  refused_tells (tree_errors.Exec (exec_errors.LogFull used need limit)) r is so none = absurd (none _ refl)
  refused_tells (tree_errors.Exec (exec_errors.LsnEnd number)) r is so none = absurd (none _ refl)
  refused_tells (tree_errors.Exec exec_errors.DiskFault) r is so none = subst (λ (x : Result Found Early). IfOk x (λ found. reply answer ≡ reply_in found)) (sym is) tt
  refused_tells (tree_errors.Exec (exec_errors.Damaged file place)) r is so none = subst (λ (x : Result Found Early). IfOk x (λ found. reply answer ≡ reply_in found)) (sym is) tt
  refused_tells (tree_errors.Exec exec_errors.Memory) r is so none = subst (λ (x : Result Found Early). IfOk x (λ found. reply answer ≡ reply_in found)) (sym is) tt
  refused_tells tree_errors.Memory r is so none = subst (λ (x : Result Found Early). IfOk x (λ found. reply answer ≡ reply_in found)) (sym is) tt

-- and it ends so
pub asked_ends : (e : TreeErr) {r : Result Found Early} → r ≡ refused_as (answer_of_tree_error e) → IsEndedBy (cause_of e) r
asked_ends (tree_errors.Refused tree_refusals.NoObject) is = (_, is)
asked_ends (tree_errors.Refused (tree_refusals.BadTree object)) is = (_, is)
asked_ends (tree_errors.Refused (tree_refusals.TreeFull need free)) is = (_, is)
asked_ends (tree_errors.Refused tree_refusals.NoKey) is = (_, is)
asked_ends (tree_errors.Exec (exec_errors.Refused why)) is = (_, is)
asked_ends (tree_errors.Exec (exec_errors.LogFull used need limit)) is = (_, is)
asked_ends (tree_errors.Exec (exec_errors.LsnEnd number)) is = (_, is)
asked_ends (tree_errors.Exec exec_errors.DiskFault) is = is
asked_ends (tree_errors.Exec (exec_errors.Damaged file place)) is = is
asked_ends (tree_errors.Exec exec_errors.Memory) is = is
asked_ends tree_errors.Memory is = is

-- A call on a tree for commands.
module _ (old now : Disk) (before after : EngineView) (request : Request) (planned : Params → List Command → Range → TreePlan) (low high : ℕ)
    (makes : (p : Params) (commands : List Command) → made_by p commands request ≡ Some (plan_made p (planned p commands (record { lo = low; hi = high })))) where
  abbrev its : Range
  its = record { lo = low; hi = high }

  -- it has added the commands of its plan, or a front of them
  abbrev Adds : Range → Option ExecErr → Type 0
  Adds t error = (p : Params) (commands : List Command) → of_engine.Holds all_meaning p old before commands
      → AddsInWorlds all_meaning p old now before after commands (made_of p.cap (planned p commands t).commands) (ending_of error)

  -- and ended as the plan says
  abbrev Ends : Range → Option TreeErr → Option ExecErr → Type 0
  Ends t refusal error = (p : Params) (commands : List Command) → of_engine.Holds all_meaning p old before commands → ending_of error ≡ Done → refusal ≡ refused_in p.cap (planned p commands t)

  pub made_well : (t : Range) → t ≡ its → Calls (engine_view all_meaning) old now before after None → Adds t None → Ends t None None → IsMade old now before after request (Ok answers.Done)
  made_well t is calls adds ends = record {
    error = None;
    calls = calls.own;
    ended = (answers.Done, refl);
    adds = λ p commands holds. (
      plan_made p (planned p commands its),
      makes p commands,
      subst (λ (x : Range). Adds x None) is adds p commands (in_engine holds) holds.world holds.shows holds.commands_are,
      (answers.Done, refl, plan_ok p (planned p commands its) (subst (λ (x : Range). Ends x None None) is ends p commands (in_engine holds) refl)),
    );
  }

  pub made_badly : (t : Range) (e : TreeErr) {r : Result Answer Early} → t ≡ its → Calls (engine_view all_meaning) old now before after (cause_of e) → Adds t (cause_of e) → Ends t (Some e) (cause_of e) → r ≡ answer_of_tree_error e → IsMade old now before after request r
  made_badly t e is calls adds ends answered = record {
    error = cause_of e;
    calls = calls.own;
    ended = tree_ends e answered;
    adds = λ p commands holds. (
      plan_made p (planned p commands its),
      makes p commands,
      subst (λ (x : Range). Adds x (cause_of e)) is adds p commands (in_engine holds) holds.world holds.shows holds.commands_are,
      tree_answers e answered (λ done. plan_err p (planned p commands its) e (subst (λ (x : Range). Ends x (Some e) (cause_of e)) is ends p commands (in_engine holds) done)),
    );
  }

-- Where the range is none nothing is made.
pub made_nowhere : {d : Disk} {engine : EngineView} (request : Request) (plan : Params → List Command → TreePlan) → ((p : Params) (commands : List Command) → made_by p commands request ≡ Some (plan_made p (plan p commands)))
    → ((p : Params) (commands : List Command) → plan p commands ≡ record { commands = []; refusal = Some NoObject }) → AreCalls all_meaning d d engine engine None
    → ((p : Params) (commands : List Command) → (holds : of_engine.Holds all_meaning p d engine commands) → AddsFront all_meaning p d d engine engine holds.world commands [] Done) → IsMade d d engine engine request (Ok (answers.Refused refusals.NoObject))
made_nowhere {d} {engine} request plan makes none calls front = record {
  error = None;
  calls = calls;
  ended = (answers.Refused refusals.NoObject, refl);
  adds = λ p commands holds.
      let made = none_made p (plan p commands) (none p commands) in (
        plan_made p (plan p commands),
        makes p commands,
        subst (λ (l : List Command). AddsFront all_meaning p d d engine engine holds.world commands l Done) (sym made.0) (front p commands (in_engine holds)),
        (answers.Refused refusals.NoObject, refl, made.1),
      );
}

-- A call on a tree for pairs.
module _ (old now : Disk) (before after : EngineView) {T : Type 0} (reply : Result T TreeRefusal → Reply) (same : (why : TreeRefusal) → reply (Err why) ≡ tree_reply why) (request : Request)
    (tells : Params → List Command → Range → Result T TreeRefusal) (low high : ℕ)
    (makes : (p : Params) (commands : List Command) → tree_answer p (state_of p commands) request ≡ Some (reply (tells p commands (record { lo = low; hi = high })))) where
  abbrev here : Range
  here = record { lo = low; hi = high }

  -- it adds nothing
  abbrev Reads : Option ExecErr → Type 0
  Reads error = (p : Params) (commands : List Command) → of_engine.Holds all_meaning p old before commands → AddsInWorlds all_meaning p old now before after commands [] (ending_of error)

  pub asked_well : (t : Range) (found : Found) → t ≡ here → Calls (engine_view all_meaning) old now before after None → Reads None
      → ((p : Params) (commands : List Command) → of_engine.Holds all_meaning p old before commands → reply (tells p commands t) ≡ reply_in found) → IsAsked old now before after request (Ok found)
  asked_well t found is calls adds so = record {
    error = None;
    calls = calls.own;
    ended = (found, refl);
    adds = λ p commands holds. adds p commands (in_engine holds) holds.world holds.shows holds.commands_are;
    tells = λ p commands holds.
        makes p commands ∙ ap (λ (x : Reply). Some x) (subst (λ (x : Range). reply (tells p commands x) ≡ reply_in found) is (so p commands (in_engine holds)));
  }

  none_stops : (stop : Stop) (error : Option ExecErr) (p : Params) (commands : List Command) → (holds : of_engine.Holds all_meaning p old before commands) → Reads error → ending_of error ≡ Stopped stop → ⊥
  none_stops stop error p commands holds adds is =
      let a = adds p commands holds holds.world holds.shows holds.commands_are in
      let at = a.stopped stop is in
      no_first a.done at.op at.rest at.here

  tells_so : (answer : Result T TreeRefusal) (r : Result Found Early) → IfOk r (λ found. reply answer ≡ reply_in found) → (x : Option Reply) → x ≡ Some (reply answer) → IfOk r (λ found. x ≡ Some (reply_in found))
  tells_so answer (Ok found) is x from = from ∙ ap (λ (y : Reply). Some y) is
  tells_so answer (Err stop) is x from = tt

  pub asked_badly : (t : Range) (e : TreeErr) {r : Result Found Early} → t ≡ here → Calls (engine_view all_meaning) old now before after (cause_of e) → Reads (cause_of e)
      → ((p : Params) (commands : List Command) → of_engine.Holds all_meaning p old before commands → ending_of (cause_of e) ≡ Done → Err e ≡ told (tells p commands t)) → r ≡ refused_as (answer_of_tree_error e)
      → IsAsked old now before after request r
  asked_badly t e {r} is calls adds so answered = record {
    error = cause_of e;
    calls = calls.own;
    ended = asked_ends e answered;
    adds = λ p commands holds. adds p commands (in_engine holds) holds.world holds.shows holds.commands_are;
    tells = λ p commands holds.
        tells_so (tells p commands here) r
        (refused_tells reply same (tells p commands here) e r answered
        (λ done. subst (λ (x : Range). Err e ≡ told (tells p commands x)) is (so p commands (in_engine holds) done)) (λ stop. none_stops stop (cause_of e) p commands (in_engine holds) adds))
        (tree_answer p (state_of p commands) request) (makes p commands);
  }

-- where the range is none nothing is looked for
pub asked_nowhere : {d : Disk} {engine : EngineView} (request : Request) → ((p : Params) (commands : List Command) → tree_answer p (state_of p commands) request ≡ Some (refused refusals.NoObject)) → AreCalls all_meaning d d engine engine None
    → ((p : Params) (commands : List Command) → (holds : of_engine.Holds all_meaning p d engine commands) → AddsFront all_meaning p d d engine engine holds.world commands [] Done)
    → IsAsked d d engine engine request (Ok (founds.Refused (answers.Refused refusals.NoObject)))
asked_nowhere request makes calls front = record {
  error = None;
  calls = calls;
  ended = (founds.Refused (answers.Refused refusals.NoObject), refl);
  adds = λ p commands holds. front p commands (in_engine holds);
  tells = λ p commands holds. makes p commands;
}
