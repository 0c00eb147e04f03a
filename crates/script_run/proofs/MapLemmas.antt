-- The changes of a map, and what is read of it.
use Rattle.std.proofs.Common.{◌≡◌, ◌∙◌, ap, sym, subst, refl, ℕ, Bool, true, false, List, [], ◌∷◌, Option, Some, None, Result, Ok, Err}
use Rattle.std.specs.Prelude.{◌&&◌, nat_le, nat_lt, if◌then◌else◌}
use Rattle.disk_model.specs.Disk.{Disk}
use Rattle.call_plans.specs.Plan.{Plan}
use Rattle.formats.specs.Objects.{bounds_of}
use Rattle.formats.specs.declared.params.Params.{Params}
use Rattle.oper_core.specs.State.{State}
use Rattle.oper_core.specs.declared.bounds.Bounds.{Bounds}
use Rattle.oper_core.specs.declared.refusal.Refusal.TheVariants as refusals
use Rattle.running_store.specs.Taking.Ending.{Done}
use Rattle.execution.specs.declared.exec_err.ExecErr.{ExecErr}
use Rattle.execution.specs.declared.exec_err.ExecErr.TheVariants as exec_errors
use Rattle.op_codec.specs.AllOps.{all_meaning}
use Rattle.store_engine.specs.Engine.{EngineView}
use Rattle.store_engine.specs.Engine as of_engine
use Rattle.store_engine.specs.Lists.{AddsFront, AreCalls, ending_of}
use Rattle.store_calls.specs.Making.{Calls}
use Rattle.store_calls.specs.OfEngine.{AddsInWorlds, engine_view}
use Rattle.page_map.specs.Map.{Range, Span}
use Rattle.page_map.specs.Ranges.{back_answer, count_answer, range_answer}
use Rattle.page_map.specs.Reads.{above}
use Rattle.page_map.specs.Walk.{get_answer}
use Rattle.page_map.specs.declared.refusal.MapRefusal.TheVariants.{BadMap, TooLong, MapFull, NoKey}
use Rattle.range_calls.specs.Answers.{cause_of, told}
use Rattle.range_calls.specs.declared.call_err.CallErr.TheVariants as call_errors
use Rattle.map_client.specs.Answers.{MapErr}
use Rattle.map_client.specs.Answers as of_client
use Rattle.map_client.specs.declared.call_refusal.CallRefusal.{CallRefusal}
use Rattle.map_client.specs.declared.call_refusal.CallRefusal.TheVariants.{NoObject, NoPages, Map}
use Rattle.script_lines.specs.Grammar.{Request}
use Rattle.script_lines.specs.Replies.{Reply, counted, pairs_reply, refused, reply_of}
use Rattle.script_lines.specs.declared.answer.Answer.{Answer}
use Rattle.script_lines.specs.declared.answer.Answer.TheVariants as answers
use Rattle.script_lines.specs.declared.line.Line.TheVariants.{Ask}
use Rattle.script_lines.specs.declared.line.MapChange.{MapChange}
use Rattle.script_lines.specs.declared.line.MapQuestion.{MapQuestion}
use Rattle.script_lines.specs.declared.line.MapQuestion.TheVariants.{Get as mget, Range as mrange, Back as mback, Count as mcount, Next as mnext, Prev as mprev}
use Rattle.script_lines.specs.declared.line.Question.TheVariants.{Map as AskMap}
use Rattle.shell_base.specs.HoldLaws.{in_engine}
use Rattle.shell_base.specs.Store.{Command, state_of}
use Rattle.shell_base.specs.declared.stop.Stop.{Stop as Early}
use Rattle.script_run.specs.Found.{IsAsked, IsMade, answer_of_call_error, map_answer, refused_as, reply_in}
use Rattle.script_run.specs.Made.{change_comes, change_made, change_reply, end_of, keys_from, made, made_by, map_found, map_made, map_read, map_reply, of_map, read_reply, tree_answer, value_reply}
use Rattle.script_run.specs.declared.asking.Found.{Found}
use Rattle.script_run.specs.declared.asking.Found.TheVariants as founds
use Rattle.script_run.proofs.MakingLemmas.{asked_nowhere}
use Rattle.script_run.proofs.RangeLemmas.{call_answers, call_asked_badly, call_asked_well, call_ends, reply_for}

-- a refusal's answer says its reply
pub map_agree : (why : CallRefusal) → map_reply why ≡ reply_of (map_answer why)
map_agree NoObject = refl
map_agree NoPages = refl
map_agree (Map (BadMap object)) = refl
map_agree (Map TooLong) = refl
map_agree (Map MapFull) = refl
map_agree (Map NoKey) = refl

-- the range that was made, if it is one
abbrev range_in : ℕ → ℕ → Range
range_in low high = record { lo = low; hi = high }

abbrev range_of : ℕ → ℕ → Option Range
range_of low high = if nat_le low high then Some (range_in low high) else None

pub map_is : (low high : ℕ) (t : Range) → Some t ≡ range_of low high → t ≡ range_in low high
map_is low high t = by_order (nat_le low high)
  where
    by_order : (b : Bool) → Some t ≡ (if b then Some (range_in low high) else None) → t ≡ range_in low high
    by_order true is = cc is
    by_order false is = cc is

pub in_order : (low high : ℕ) (t : Range) → Some t ≡ range_of low high → nat_le low high ≡ true
in_order low high t = by_order (nat_le low high)
  where
    by_order : (b : Bool) → Some t ≡ (if b then Some (range_in low high) else None) → b ≡ true
    by_order true is = refl
    by_order false is = cc is

pub is_ordered : (low high : ℕ) (t : Range) → Some t ≡ range_of low high → nat_le t.lo t.hi ≡ true
is_ordered low high t is = subst (λ (r : Range). nat_le r.lo r.hi ≡ true) (sym (map_is low high t is)) (in_order low high t is)

pub no_map : (low high : ℕ) → None ≡ range_of low high → nat_le low high ≡ false
no_map low high = by_order (nat_le low high)
  where
    by_order : (b : Bool) → None ≡ (if b then Some (range_in low high) else None) → b ≡ false
    by_order true is = cc is
    by_order false is = refl

-- what a range that is one makes, and what none does
pub made_there : (lo hi : ℕ) (change : MapChange) (p : Params) (commands : List Command) → nat_le lo hi ≡ true → Some (map_made lo hi change p commands) ≡ Some (change_made (change_comes lo hi change p commands))
made_there lo hi change p commands is = ap (λ (b : Bool). Some (if b then change_made (change_comes lo hi change p commands) else made [] (refused refusals.NoObject))) is

pub made_nowhere : (lo hi : ℕ) (change : MapChange) (p : Params) (commands : List Command) → nat_le lo hi ≡ false → Some (map_made lo hi change p commands) ≡ Some (made [] (refused refusals.NoObject))
made_nowhere lo hi change p commands is = ap (λ (b : Bool). Some (if b then change_made (change_comes lo hi change p commands) else made [] (refused refusals.NoObject))) is

-- an error that ends a change is what its reply says
change_for : (e : MapErr) → change_reply (Some e) ≡ reply_for map_answer map_reply map_agree e
change_for (call_errors.Refused why) = refl
change_for (call_errors.Exec (exec_errors.Refused why)) = refl
change_for (call_errors.Exec (exec_errors.LogFull used need limit)) = refl
change_for (call_errors.Exec (exec_errors.LsnEnd number)) = refl
change_for (call_errors.Exec exec_errors.DiskFault) = refl
change_for (call_errors.Exec (exec_errors.Damaged file place)) = refl
change_for (call_errors.Exec exec_errors.Memory) = refl
change_for call_errors.Memory = refl

-- A change, on the range that was made: it adds the commands that it comes to, and ends so.
module _ {X : Type 0} (old now : Disk) (before after : EngineView) (request : Request) (plan : Params → List Command → X → Plan Command MapErr) (its : X)
    (makes : (p : Params) (commands : List Command) → made_by p commands request ≡ Some (change_made (plan p commands its))) where
  abbrev Adds : X → Option ExecErr → Type 0
  Adds t error = (p : Params) (commands : List Command) → of_engine.Holds all_meaning p old before commands
      → AddsInWorlds all_meaning p old now before after commands (plan p commands t).commands (ending_of error)

  abbrev Ends : X → Option MapErr → Option ExecErr → Type 0
  Ends t end error = (p : Params) (commands : List Command) → of_engine.Holds all_meaning p old before commands → ending_of error ≡ Done → end ≡ (plan p commands t).refusal

  pub changed : (t : X) → t ≡ its → Calls (engine_view all_meaning) old now before after None → Adds t None → Ends t None None → IsMade old now before after request (Ok answers.Done)
  changed t is calls adds ends = record {
    error = None;
    calls = calls.own;
    ended = (answers.Done, refl);
    adds = λ p commands holds. (
      change_made (plan p commands its),
      makes p commands,
      subst (λ (x : X). Adds x None) is adds p commands (in_engine holds) holds.world holds.shows holds.commands_are,
      (answers.Done, refl, sym (ap change_reply (subst (λ (x : X). Ends x None None) is ends p commands (in_engine holds) refl))),
    );
  }

  pub not_changed : (t : X) (e : MapErr) {r : Result Answer Early} → t ≡ its → Calls (engine_view all_meaning) old now before after (cause_of e) → Adds t (cause_of e) → Ends t (Some e) (cause_of e)
      → r ≡ answer_of_call_error map_answer e → IsMade old now before after request r
  not_changed t e is calls adds ends answered = record {
    error = cause_of e;
    calls = calls.own;
    ended = call_ends map_answer map_reply map_agree e answered;
    adds = λ p commands holds. (
      change_made (plan p commands its),
      makes p commands,
      subst (λ (x : X). Adds x (cause_of e)) is adds p commands (in_engine holds) holds.world holds.shows holds.commands_are,
      call_answers map_answer map_reply map_agree e answered
          (λ done. sym (ap change_reply (subst (λ (x : X). Ends x (Some e) (cause_of e)) is ends p commands (in_engine holds) done)) ∙ change_for e),
    );
  }

-- Where the range is none nothing is made.
pub not_there : {d : Disk} {engine : EngineView} (request : Request) → ((p : Params) (commands : List Command) → made_by p commands request ≡ Some (made [] (refused refusals.NoObject)))
    → AreCalls all_meaning d d engine engine None
    → ((p : Params) (commands : List Command) → (holds : of_engine.Holds all_meaning p d engine commands) → AddsFront all_meaning p d d engine engine holds.world commands [] Done)
    → IsMade d d engine engine request (Ok (answers.Refused refusals.NoObject))
not_there request makes calls front = record {
  error = None;
  calls = calls;
  ended = (answers.Refused refusals.NoObject, refl);
  adds = λ p commands holds. (made [] (refused refusals.NoObject), makes p commands, front p commands (in_engine holds), (answers.Refused refusals.NoObject, refl, refl));
}

-- what a read tells is what the client is told, in a range that is one
told_so : {A : Type 0} (there : Bool) (found : Result A ℕ) → (if there then of_client.told found else Err (call_errors.Refused NoObject)) ≡ told (if there then of_map found else Err NoObject)
told_so false found = refl
told_so true (Ok found) = refl
told_so true (Err bad) = refl

abbrev told_in : {A : Type 0} → Bounds → ℕ → Result A ℕ → Result A MapErr
told_in b hi found = if nat_lt hi b.objects then of_client.told found else Err (call_errors.Refused NoObject)

read_told : {A : Type 0} (b : Bounds) (lo hi : ℕ) (found : Result A ℕ) → nat_le lo hi ≡ true → told_in b hi found ≡ told (map_read b lo hi found)
read_told b lo hi found is = told_so (nat_lt hi b.objects) found ∙ ap (λ (t : Bool). told (if t && nat_lt hi b.objects then of_map found else Err NoObject)) (sym is)

found_so : {A : Type 0} (reply : A → Reply) (answer : Result A CallRefusal) (found : A) → told answer ≡ Ok found → read_reply reply answer ≡ reply found
found_so reply (Ok other) found is = ap reply (let same : other ≡ found = cc is in same)
found_so reply (Err why) found is = cc is

-- the keys that a read goes over
abbrev keys_over : List ℕ → Option (List ℕ) → Span
keys_over from end = record { from = from; to = end }

pub keys_so : (from to first : List ℕ) (end : Option (List ℕ)) → first ≡ from → end ≡ end_of to → keys_over first end ≡ keys_from from to
keys_so from to first end same ends = subst (λ (k : List ℕ). keys_over first end ≡ keys_over k (end_of to)) same (ap (keys_over first) ends)

-- A question, which reads this in the range that was made.
module _ {A X : Type 0} (reply : A → Reply) (reads : X → ℕ → ℕ → State → Result A ℕ) (old now : Disk) (before after : EngineView) (low high : ℕ) (question : MapQuestion)
    (its mine : X) (same : mine ≡ its)
    (asks : (p : Params) (commands : List Command) → tree_answer p (state_of p commands) (Ask (AskMap low high question)) ≡ Some (read_reply reply (map_read (bounds_of p) low high (reads its low high (state_of p commands))))) where
  abbrev Reads : Option ExecErr → Type 0
  Reads error = (p : Params) (commands : List Command) → of_engine.Holds all_meaning p old before commands → AddsInWorlds all_meaning p old now before after commands [] (ending_of error)

  -- what the client is told
  abbrev Tells : X → Range → Result A MapErr → Params → List Command → Type 0
  Tells x t answer p commands = told_in (bounds_of p) t.hi (reads x t.lo t.hi (state_of p commands)) ≡ answer

  abbrev tells : Params → List Command → Range → Result A CallRefusal
  tells p commands t = map_read (bounds_of p) t.lo t.hi (reads its t.lo t.hi (state_of p commands))

  as_told : (t : Range) (answer : Result A MapErr) (p : Params) (commands : List Command) → Some t ≡ range_of low high → Tells mine t answer p commands → told (tells p commands t) ≡ answer
  as_told t answer p commands is so =
      sym (read_told (bounds_of p) t.lo t.hi (reads its t.lo t.hi (state_of p commands)) (is_ordered low high t is)) ∙ subst (λ (x : X). Tells x t answer p commands) same so

  pub asked : (t : Range) (found : Found) (it : A) → Some t ≡ range_of low high → Calls (engine_view all_meaning) old now before after None → Reads None
      → ((p : Params) (commands : List Command) → of_engine.Holds all_meaning p old before commands → Tells mine t (Ok it) p commands) → reply it ≡ reply_in found
      → IsAsked old now before after (Ask (AskMap low high question)) (Ok found)
  asked t found it is calls adds so said =
      call_asked_well map_answer map_reply map_agree (read_reply reply) (λ why. refl) old now before after (Ask (AskMap low high question)) tells (range_in low high) asks
      t found (map_is low high t is) calls adds
      (λ p commands holds. found_so reply (tells p commands t) it (as_told t (Ok it) p commands is (so p commands holds)) ∙ said)

  pub not_asked : (t : Range) (e : MapErr) {r : Result Found Early} → Some t ≡ range_of low high → Calls (engine_view all_meaning) old now before after (cause_of e) → Reads (cause_of e)
      → ((p : Params) (commands : List Command) → of_engine.Holds all_meaning p old before commands → ending_of (cause_of e) ≡ Done → Tells mine t (Err e) p commands) → r ≡ refused_as (answer_of_call_error map_answer e)
      → IsAsked old now before after (Ask (AskMap low high question)) r
  not_asked t e is calls adds so =
      call_asked_badly map_answer map_reply map_agree (read_reply reply) (λ why. refl) old now before after (Ask (AskMap low high question)) tells (range_in low high) asks
      t e (map_is low high t is) calls adds (λ p commands holds done. sym (as_told t (Err e) p commands is (so p commands holds done)))

-- Where the range is none nothing is read.
nowhere : (b : Bounds) (lo hi : ℕ) (s : State) (question : MapQuestion) → nat_le lo hi ≡ false → map_found b lo hi s question ≡ refused refusals.NoObject
nowhere b lo hi s question is = by_question question
  where
    none : {A : Type 0} (reply : A → Reply) (found : Result A ℕ) → read_reply reply (map_read b lo hi found) ≡ refused refusals.NoObject
    none reply found = ap (λ (t : Bool). read_reply reply (if t && nat_lt hi b.objects then of_map found else Err NoObject)) is

    by_question : (question : MapQuestion) → map_found b lo hi s question ≡ refused refusals.NoObject
    by_question (mget key) = none value_reply (get_answer lo hi s key)
    by_question (mrange from to limit) = none pairs_reply (range_answer lo hi s (keys_from from to) limit)
    by_question (mback from to limit) = none pairs_reply (back_answer lo hi s (keys_from from to) limit)
    by_question (mcount from to) = none counted (count_answer lo hi s (keys_from from to))
    by_question (mnext key) = none pairs_reply (range_answer lo hi s (above key) 1)
    by_question (mprev key) = none pairs_reply (back_answer lo hi s (keys_from [] key) 1)

pub nothing_asked : {d : Disk} {engine : EngineView} (low high : ℕ) (question : MapQuestion) → None ≡ range_of low high → AreCalls all_meaning d d engine engine None
    → ((p : Params) (commands : List Command) → (holds : of_engine.Holds all_meaning p d engine commands) → AddsFront all_meaning p d d engine engine holds.world commands [] Done)
    → IsAsked d d engine engine (Ask (AskMap low high question)) (Ok (founds.Refused (answers.Refused refusals.NoObject)))
nothing_asked low high question none = asked_nowhere (Ask (AskMap low high question)) (λ p commands. ap (λ (r : Reply). Some r) (nowhere (bounds_of p) low high (state_of p commands) question (no_map low high none)))
