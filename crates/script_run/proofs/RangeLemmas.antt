-- How calls on a range of objects are answered, by how the range's own refusals are.
use Rattle.std.proofs.Common.{◌≡◌, ◌∙◌, ap, sym, subst, refl, ℕ, Bool, true, false, List, [], ◌∷◌, Option, Some, None, Result, Ok, Err, IfOk}
use Rattle.std.specs.Prelude.{nat_le, if◌then◌else◌, map, option_map}
use Rattle.std.proofs.lemmas.Bool.{cond_both}
use Rattle.oper_core.specs.declared.refusal.Refusal.TheVariants as refusals
use Rattle.formats.specs.declared.params.Params.{Params}
use Rattle.disk_model.specs.Disk.{Disk}
use Rattle.op_codec.specs.AllOps.{all_meaning}
use Rattle.running_store.specs.Courses.{Stop}
use Rattle.running_store.specs.Taking.Ending.{Done, Stopped}
use Rattle.execution.specs.declared.exec_err.ExecErr.{ExecErr}
use Rattle.execution.specs.declared.exec_err.ExecErr.TheVariants as exec_errors
use Rattle.store_engine.specs.Engine.{EngineView}
use Rattle.store_engine.specs.Engine as of_engine
use Rattle.store_engine.specs.Lists.{AddsFront, AreCalls, ending_of}
use Rattle.store_calls.specs.Making.{Calls}
use Rattle.store_calls.specs.OfEngine.{AddsInWorlds, engine_view}
use Rattle.call_plans.specs.Plan.{Plan}
use Rattle.range_calls.specs.Answers.{cause_of, made_of, refused_in, refused_of, told}
use Rattle.range_calls.specs.declared.call_err.CallErr.{CallErr}
use Rattle.range_calls.specs.declared.call_err.CallErr.TheVariants as call_errors
use Rattle.script_lines.specs.Grammar.{Request}
use Rattle.script_lines.specs.Replies.{Reply, ok, refused, reply_of}
use Rattle.script_lines.specs.declared.answer.Answer.{Answer}
use Rattle.script_lines.specs.declared.answer.Answer.TheVariants as answers
use Rattle.shell_base.specs.Store.{Command, state_of}
use Rattle.shell_base.specs.HoldLaws.{in_engine}
use Rattle.shell_base.specs.declared.stop.Stop.{Stop as Early}
use Rattle.script_run.specs.Found.{IsAnswerTo, IsAsked, IsEndedBy, IsMade, answer_of_call_error, answer_of_error, refused_as, reply_in}
use Rattle.script_run.specs.Made.{call_end, call_made, made_by, plan_reply, tree_answer}
use Rattle.script_run.specs.declared.asking.Found.{Found}
use Rattle.script_run.proofs.AskLemmas.{no_first}
use Rattle.script_run.proofs.MakingLemmas.{error_ends}

module _ {R : Type 0} (answer_to : R → Answer) (reply_to : R → Reply) (agree : (why : R) → reply_to why ≡ reply_of (answer_to why)) where
  -- an error ends the call so
  pub call_ends : (e : CallErr R) {r : Result Answer Early} → r ≡ answer_of_call_error answer_to e → IsEndedBy (cause_of e) r
  call_ends (call_errors.Refused why) is = (answer_to why, is)
  call_ends (call_errors.Exec e) is = error_ends e is
  call_ends call_errors.Memory is = is

  -- the reply to the range's own refusals, and to a command that is refused
  abbrev pub reply_for : CallErr R → Reply
  reply_for (call_errors.Refused why) = reply_to why
  reply_for (call_errors.Exec (exec_errors.Refused why)) = refused why
  reply_for error = ok

  pub call_answers : (e : CallErr R) {r : Result Answer Early} {reply : Reply} → r ≡ answer_of_call_error answer_to e → (ending_of (cause_of e) ≡ Done → reply ≡ reply_for e) → IsAnswerTo reply (cause_of e) r
  call_answers (call_errors.Refused why) is so = (answer_to why, is, so refl ∙ agree why)
  call_answers (call_errors.Exec e) {r} {reply} is so = of_error e is so
    where
      of_error : (e : ExecErr) → r ≡ answer_of_error e → (ending_of (Some e) ≡ Done → reply ≡ reply_for (call_errors.Exec e)) → IsAnswerTo reply (Some e) r
      of_error (exec_errors.Refused why) is so = (is, so refl)
      of_error (exec_errors.LogFull used need limit) is so = is
      of_error (exec_errors.LsnEnd number) is so = is
      of_error exec_errors.DiskFault is so = is
      of_error (exec_errors.Damaged file place) is so = is
      of_error exec_errors.Memory is so = is
  call_answers call_errors.Memory is so = is

  same_some : {A : Type 0} (a b : A) → Some a ≡ Some b → a ≡ b
  same_some a b is = cc is

  plan_end : (refusal : Option R) (e : Option (CallErr R)) → e ≡ option_map call_errors.Refused refusal
      → ((e ≡ None → call_end reply_to refusal ≡ ok) × ((x : CallErr R) → e ≡ Some x → call_end reply_to refusal ≡ reply_for x))
  plan_end None e is = (λ none. refl, λ x some. cc (some, is))
  plan_end (Some why) e is = (λ none. cc (none, is), λ x some. ap reply_for (same_some (call_errors.Refused why) x (sym is ∙ some)))

  -- what a plan is refused by is what its reply says
  plan_so : {O : Type 0} (cap : ℕ) (ops : List O) (refusal : Option R) (e : Option (CallErr R)) → e ≡ refused_of cap ops (option_map call_errors.Refused refusal)
      → ((e ≡ None → plan_reply cap ops (call_end reply_to refusal) ≡ ok) × ((x : CallErr R) → e ≡ Some x → plan_reply cap ops (call_end reply_to refusal) ≡ reply_for x))
  plan_so room [] refusal e = λ is. plan_end refusal e is
  plan_so room (op ∷ ops) refusal e = by_room (nat_le 1024 room)
    where
      by_room : (wide : Bool) → e ≡ (if wide then option_map call_errors.Refused refusal else Some (call_errors.Exec (exec_errors.Refused refusals.TooLarge)))
          → ((e ≡ None → (if wide then call_end reply_to refusal else refused refusals.TooLarge) ≡ ok) × ((x : CallErr R) → e ≡ Some x → (if wide then call_end reply_to refusal else refused refusals.TooLarge) ≡ reply_for x))
      by_room true is = plan_end refusal e is
      by_room false is = (λ none. cc (none, is), λ x some. ap reply_for (same_some (call_errors.Exec (exec_errors.Refused refusals.TooLarge)) x (sym is ∙ some)))

  -- A call for commands, on the range that was made.
  module _ {O X : Type 0} (command : O → Command) (old now : Disk) (before after : EngineView) (request : Request) (planned : Params → List Command → X → Plan O R) (its : X)
      (makes : (p : Params) (commands : List Command) → made_by p commands request ≡ Some (call_made command reply_to p (planned p commands its))) where
    -- it has added the commands of its plan, or a front of them
    abbrev Adds : X → Option ExecErr → Type 0
    Adds t error = (p : Params) (commands : List Command) → of_engine.Holds all_meaning p old before commands
        → AddsInWorlds all_meaning p old now before after commands (made_of p.cap (map command (planned p commands t).commands)) (ending_of error)

    -- and ended as the plan says
    abbrev Ends : X → Option (CallErr R) → Option ExecErr → Type 0
    Ends t refusal error = (p : Params) (commands : List Command) → of_engine.Holds all_meaning p old before commands → ending_of error ≡ Done → refusal ≡ refused_in p.cap (planned p commands t)

    pub call_made_well : (t : X) → t ≡ its → Calls (engine_view all_meaning) old now before after None → Adds t None → Ends t None None → IsMade old now before after request (Ok answers.Done)
    call_made_well t is calls adds ends = record {
      error = None;
      calls = calls.own;
      ended = (answers.Done, refl);
      adds = λ p commands holds.
          let plan = planned p commands its in (
            call_made command reply_to p plan,
            makes p commands,
            subst (λ (x : X). Adds x None) is adds p commands (in_engine holds) holds.world holds.shows holds.commands_are,
            (answers.Done, refl, (plan_so p.cap plan.commands plan.refusal None (subst (λ (x : X). Ends x None None) is ends p commands (in_engine holds) refl)).0 refl),
          );
    }

    pub call_made_badly : (t : X) (e : CallErr R) {r : Result Answer Early} → t ≡ its → Calls (engine_view all_meaning) old now before after (cause_of e) → Adds t (cause_of e) → Ends t (Some e) (cause_of e)
        → r ≡ answer_of_call_error answer_to e → IsMade old now before after request r
    call_made_badly t e is calls adds ends answered = record {
      error = cause_of e;
      calls = calls.own;
      ended = call_ends e answered;
      adds = λ p commands holds.
          let plan = planned p commands its in (
            call_made command reply_to p plan,
            makes p commands,
            subst (λ (x : X). Adds x (cause_of e)) is adds p commands (in_engine holds) holds.world holds.shows holds.commands_are,
            call_answers e answered (λ done. (plan_so p.cap plan.commands plan.refusal (Some e) (subst (λ (x : X). Ends x (Some e) (cause_of e)) is ends p commands (in_engine holds) done)).1 e refl),
          );
    }

  no_ops : {O : Type 0} (command : O → Command) (cap : ℕ) → made_of cap (map command []) ≡ []
  no_ops command cap = cond_both (nat_le 1024 cap) [] [] (λ (l : List Command). l ≡ []) (λ wide. refl) (λ small. refl)

  -- Where the range is none nothing is made, and the plan says so.
  pub call_made_nowhere : {O : Type 0} (command : O → Command) {d : Disk} {engine : EngineView} (request : Request) (plan : Params → List Command → Plan O R) (why : R)
      → ((p : Params) (commands : List Command) → made_by p commands request ≡ Some (call_made command reply_to p (plan p commands)))
      → ((p : Params) (commands : List Command) → plan p commands ≡ record { commands = []; refusal = Some why }) → AreCalls all_meaning d d engine engine None
      → ((p : Params) (commands : List Command) → (holds : of_engine.Holds all_meaning p d engine commands) → AddsFront all_meaning p d d engine engine holds.world commands [] Done)
      → IsMade d d engine engine request (Ok (answer_to why))
  call_made_nowhere {O} command {d} {engine} request plan why makes none calls front = record {
    error = None;
    calls = calls;
    ended = (answer_to why, refl);
    adds = λ p commands holds. (
      call_made command reply_to p (plan p commands),
      makes p commands,
      subst (λ (l : List Command). AddsFront all_meaning p d d engine engine holds.world commands l Done) (sym (ap (λ (q : Plan O R). (call_made command reply_to p q).ops) (none p commands) ∙ no_ops command p.cap)) (front p commands (in_engine holds)),
      (answer_to why, refl, ap (λ (q : Plan O R). (call_made command reply_to p q).reply) (none p commands) ∙ agree why),
    );
  }

  -- A call for what stands in the range.
  module _ {T X : Type 0} (reply : Result T R → Reply) (same : (why : R) → reply (Err why) ≡ reply_to why) (old now : Disk) (before after : EngineView) (request : Request)
      (tells : Params → List Command → X → Result T R) (its : X) (asks : (p : Params) (commands : List Command) → tree_answer p (state_of p commands) request ≡ Some (reply (tells p commands its))) where
    -- it adds nothing
    abbrev Reads : Option ExecErr → Type 0
    Reads error = (p : Params) (commands : List Command) → of_engine.Holds all_meaning p old before commands → AddsInWorlds all_meaning p old now before after commands [] (ending_of error)

    pub call_asked_well : (t : X) (found : Found) → t ≡ its → Calls (engine_view all_meaning) old now before after None → Reads None
        → ((p : Params) (commands : List Command) → of_engine.Holds all_meaning p old before commands → reply (tells p commands t) ≡ reply_in found) → IsAsked old now before after request (Ok found)
    call_asked_well t found is calls adds so = record {
      error = None;
      calls = calls.own;
      ended = (found, refl);
      adds = λ p commands holds. adds p commands (in_engine holds) holds.world holds.shows holds.commands_are;
      tells = λ p commands holds. asks p commands ∙ ap (λ (x : Reply). Some x) (subst (λ (x : X). reply (tells p commands x) ≡ reply_in found) is (so p commands (in_engine holds)));
    }

    none_stops : (stop : Stop) (error : Option ExecErr) (p : Params) (commands : List Command) → (holds : of_engine.Holds all_meaning p old before commands) → Reads error → ending_of error ≡ Stopped stop → ⊥
    none_stops stop error p commands holds adds is =
        let a = adds p commands holds holds.world holds.shows holds.commands_are in
        let at = a.stopped stop is in
        no_first a.done at.op at.rest at.here

    -- the engine's errors are none of what is told
    not_by_engine : (answer : Result T R) (e : ExecErr) → Err (call_errors.Exec e) ≡ told answer → ⊥
    not_by_engine (Ok value) e is = cc is
    not_by_engine (Err why) e is = cc is

    refused_why : (answer : Result T R) (why : R) → Err (call_errors.Refused why) ≡ told answer → reply answer ≡ reply_to why
    refused_why (Ok value) why is = cc is
    refused_why (Err other) why is = same other ∙ ap reply_to (let e : other ≡ why = cc is in e)

    ended_so : (e : CallErr R) {r : Result Found Early} → r ≡ refused_as (answer_of_call_error answer_to e) → IsEndedBy (cause_of e) r
    ended_so (call_errors.Refused why) is = (_, is)
    ended_so (call_errors.Exec (exec_errors.Refused why)) is = (_, is)
    ended_so (call_errors.Exec (exec_errors.LogFull used need limit)) is = (_, is)
    ended_so (call_errors.Exec (exec_errors.LsnEnd number)) is = (_, is)
    ended_so (call_errors.Exec exec_errors.DiskFault) is = is
    ended_so (call_errors.Exec (exec_errors.Damaged file place)) is = is
    ended_so (call_errors.Exec exec_errors.Memory) is = is
    ended_so call_errors.Memory is = is

    -- what is said where the call is refused is what the map tells
    tells_so : (answer : Result T R) (said : Option Reply) → said ≡ Some (reply answer) → (e : CallErr R) (r : Result Found Early) → r ≡ refused_as (answer_of_call_error answer_to e) → (ending_of (cause_of e) ≡ Done → Err e ≡ told answer)
        → ((stop : Stop) → ending_of (cause_of e) ≡ Stopped stop → ⊥) → IfOk r (λ found. said ≡ Some (reply_in found))
    tells_so answer said is (call_errors.Refused why) r answered so none =
        subst (λ (x : Result Found Early). IfOk x (λ found. said ≡ Some (reply_in found))) (sym answered) (is ∙ ap (λ (x : Reply). Some x) (refused_why answer why (so refl) ∙ agree why))
    tells_so answer said is (call_errors.Exec (exec_errors.Refused why)) r answered so none = absurd (not_by_engine answer (exec_errors.Refused why) (so refl))
    tells_so answer said is (call_errors.Exec (exec_errors.LogFull used need limit)) r answered so none = absurd (none _ refl)
    tells_so answer said is (call_errors.Exec (exec_errors.LsnEnd number)) r answered so none = absurd (none _ refl)
    tells_so answer said is (call_errors.Exec exec_errors.DiskFault) r answered so none = subst (λ (x : Result Found Early). IfOk x (λ found. said ≡ Some (reply_in found))) (sym answered) tt
    tells_so answer said is (call_errors.Exec (exec_errors.Damaged file place)) r answered so none = subst (λ (x : Result Found Early). IfOk x (λ found. said ≡ Some (reply_in found))) (sym answered) tt
    tells_so answer said is (call_errors.Exec exec_errors.Memory) r answered so none = subst (λ (x : Result Found Early). IfOk x (λ found. said ≡ Some (reply_in found))) (sym answered) tt
    tells_so answer said is call_errors.Memory r answered so none = subst (λ (x : Result Found Early). IfOk x (λ found. said ≡ Some (reply_in found))) (sym answered) tt

    pub call_asked_badly : (t : X) (e : CallErr R) {r : Result Found Early} → t ≡ its → Calls (engine_view all_meaning) old now before after (cause_of e) → Reads (cause_of e)
        → ((p : Params) (commands : List Command) → of_engine.Holds all_meaning p old before commands → ending_of (cause_of e) ≡ Done → Err e ≡ told (tells p commands t)) → r ≡ refused_as (answer_of_call_error answer_to e)
        → IsAsked old now before after request r
    call_asked_badly t e {r} is calls adds so answered = record {
      error = cause_of e;
      calls = calls.own;
      ended = ended_so e answered;
      adds = λ p commands holds. adds p commands (in_engine holds) holds.world holds.shows holds.commands_are;
      tells = λ p commands holds.
          tells_so (tells p commands its) (tree_answer p (state_of p commands) request) (asks p commands) e r answered
          (λ done. subst (λ (x : X). Err e ≡ told (tells p commands x)) is (so p commands (in_engine holds) done)) (λ stop. none_stops stop (cause_of e) p commands (in_engine holds) adds);
    }
