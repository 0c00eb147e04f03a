-- The end of a run: the open group is closed, and the log forced.
use Rattle.std.proofs.Common.{◌≡◌, ◌∙◌, ◌⊎◌, ◌++◌, List, ℕ, [], length, refl, sym, ap, subst, Option, None, Some, Result, Ok, Err, IfOk, OnOk}
use Rattle.std.specs.Prelude.{IfSome, IsTrue}
use Rattle.std.specs.Option.{is_some}
use Rattle.disk_model.specs.Disk.{Disk, LeavesOnly}
use Rattle.disk_model.specs.Silent.{silent_weaker}
use Rattle.oper_core.specs.Meaning.{Meaning}
use Rattle.disk_model.specs.declared.machine.Failed.{Failed as Failure}
use Rattle.formats.specs.declared.params.Params.{Params}
use Rattle.op_codec.specs.AllOps.{all_meaning}
use Rattle.explain_core.specs.History.{Member, commands_of}
use Rattle.explain_core.specs.RunLaws.{run-append}
use Rattle.explain_core.specs.Taken.{after_behind}
use Rattle.explain_core.specs.World.{World, Step, step, run}
use Rattle.explain_core.specs.World.Step.{End}
use Rattle.standing.specs.Moments.{ShowsSome, TakesSome}
use Rattle.standing.specs.Standing.{FilesShow}
use Rattle.running_store.specs.Calls.{IsFailed, ending_of_force}
use Rattle.running_store.specs.Courses.{force_course, force_steps}
use Rattle.store_engine.specs.Calls.{IsForcing, work_of_force}
use Rattle.store_engine.specs.Engine.{EngineView, FollowsIn, IsAfterIn, commands_since, forced_in, group_size, used_in}
use Rattle.store_engine.specs.Engine as of_engine
use Rattle.store_engine.specs.declared.work_err.WorkErr.{WorkErr}
use Rattle.shell_base.specs.Store.{Between, Command, Holds, Says, ShowsIn, meaning_in}
use Rattle.shell_base.specs.HoldLaws.{holds_after}
use Rattle.script_run.specs.Stages.{closing_steps, finish_course}

-- the engine with no group open
abbrev pub closed_engine : EngineView → EngineView
closed_engine engine = record engine { group = None }

-- that is what the end of the group makes of it, if one is open
pub end_closes : {T : Type 0} {E : Type 0} (result : Result ℕ E) (before mid : EngineView) → (before.group ≡ None → T × (mid ≡ before)) → IfSome (group_size before) (λ size. (result ≡ Ok size) × (mid ≡ closed_engine before))
    → mid ≡ closed_engine before
end_closes {T} {E} result before mid none some = by_group before.group refl some
  where
    by_group : (group : Option ℕ) → before.group ≡ group → IfSome (commands_since before.parts.log.next group) (λ size. (result ≡ Ok size) × (mid ≡ closed_engine before)) → mid ≡ closed_engine before
    by_group None is some = (none is).1 ∙ (λ i. record before { group = is i })
    by_group (Some begun) is some = some.1

-- a force from this engine answers so
abbrev pub Forces : Disk → Disk → EngineView → EngineView → Result ℕ WorkErr → Type 0
Forces old new before after result = (answer : Result ℕ Failure) × (result ≡ work_of_force answer) × IsForcing all_meaning old new before after answer

pub forces : (old new : Disk) (before mid after : EngineView) (result : Result ℕ WorkErr) → mid ≡ closed_engine before → (mid.group ≡ None → Forces old new mid after result) → Forces old new (closed_engine before) after result
forces old new before mid after result same alone = subst (λ (e : EngineView). Forces old new e after result) same (alone (ap (λ (e : EngineView). e.group) same))

-- it is done, or fails
pub force_done : (answer : Result ℕ Failure) (result : Result ℕ WorkErr) (n : ℕ) → result ≡ work_of_force answer → result ≡ Ok n → answer ≡ Ok n
force_done (Ok m) result n is done = cc (is, done)
force_done (Err e) result n is done = cc (is, done)

pub force_failed : (answer : Result ℕ Failure) (result : Result ℕ WorkErr) (e : WorkErr) → result ≡ work_of_force answer → result ≡ Err e → IsFailed (ending_of_force answer)
force_failed (Ok m) result e is failed = cc (is, failed)
force_failed (Err cause) result e is failed = tt

module _ (m : Meaning Command) (w : World Command) where
  -- the world with its group closed
  abbrev pub closed_world : World Command
  closed_world = run m w (closing_steps w.group)

  history_by : (group : Option ℕ) → (run m w (closing_steps group)).history ≡ w.history
  unfolding run step
  history_by None = refl
  history_by (Some n) = refl

  force_by : (group : Option ℕ) → force_steps m (run m w (closing_steps group)) ≡ force_steps m w
  unfolding run step
  force_by None = refl
  force_by (Some n) = refl

  pub same_history : closed_world.history ≡ w.history
  same_history = history_by w.group

  -- what waits for a force is the same
  pub same_force : force_steps m closed_world ≡ force_steps m w
  same_force = force_by w.group

-- the law that the end of a group is a step
abbrev pub Closes : Params → Disk → EngineView → World Command → Type 0
Closes p d engine w = IsTrue (is_some w.group) → ShowsIn p d (closed_engine engine) (step (meaning_in p) w End)

closed_by : {p : Params} {d : Disk} {engine : EngineView} {w : World Command} → ShowsIn p d engine w → Closes p d engine w → (group : Option ℕ) → w.group ≡ group → ShowsIn p d (closed_engine engine) (run (meaning_in p) w (closing_steps group))
unfolding run
closed_by {p} {d} {engine} {w} shows closes None is = subst (λ (e : EngineView). ShowsIn p d e w) (λ i. record engine { group = (sym shows.group ∙ is) i }) shows
closed_by {p} {d} {engine} {w} shows closes (Some n) is = closes (ap (λ (o : Option ℕ). is_some o) is)

pub closed_shown : {p : Params} {d : Disk} {engine : EngineView} {w : World Command} → ShowsIn p d engine w → Closes p d engine w → ShowsIn p d (closed_engine engine) (closed_world (meaning_in p) w)
closed_shown {w = w} shows closes = closed_by shows closes w.group refl

closed_holds : {p : Params} {d : Disk} {engine : EngineView} {commands : List Command} (holds : Holds p d engine commands) → ShowsIn p d (closed_engine engine) (closed_world (meaning_in p) holds.world)
    → of_engine.Holds all_meaning p d (closed_engine engine) commands
closed_holds {p} holds shows = record {
  world = closed_world (meaning_in p) holds.world;
  shows = shows;
  commands_are = ap (λ (h : List (Member Command)). commands_of h) (same_history (meaning_in p) holds.world) ∙ holds.commands_are;
}

-- the force after it
module _ {p : Params} {d new : Disk} {before after : EngineView} {answer : Result ℕ Failure} (it : IsForcing all_meaning d new (closed_engine before) after answer) where
  pub finish_images : {commands : List Command} (holds : Holds p d before commands) → Closes p d before holds.world → d.tells_moments → LeavesOnly d new (Between p d None (forced_in before) (length commands) commands)
  finish_images {commands} holds closes told =
      subst (λ (n : ℕ). LeavesOnly d new (Between p d None (forced_in before) n commands)) holds.says.accepted (it.commands.images told p commands (closed_holds holds (closed_shown holds.shows closes)))

  pub finish_steps : (w : World Command) → ShowsIn p d before w → Closes p d before w → d.tells_moments → TakesSome (meaning_in p) p d new w (finish_course (meaning_in p) w (used_in before)).steps
  finish_steps w shows closes told =
      let m = meaning_in p in
      let first = closing_steps w.group in
      let force = force_steps m w in
      silent_weaker d new (ShowsSome m p (closed_world m w) force) (ShowsSome m p w (first ++ force)) (λ files is. after_behind m (FilesShow m p files) w first force is)
      (subst (λ (l : List (Step Command)). TakesSome m p d new (closed_world m w) l) (same_force m w) (it.takes.steps told p (closed_world m w) (closed_shown shows closes)))

  pub finish_follows : (n : ℕ) → answer ≡ Ok n → (w : World Command) → ShowsIn p d before w → Closes p d before w → IsAfterIn all_meaning p new after w (finish_course (meaning_in p) w (used_in before))
  finish_follows n done w shows closes =
      let m = meaning_in p in
      let v = closed_world m w in
      let taken = subst (λ (r : Result ℕ Failure). FollowsIn all_meaning p new after v (force_course m v (used_in before)) (ending_of_force r)) done (it.takes.follows p v (closed_shown shows closes)) in
      record {
        shows = subst (λ (u : World Command). ShowsIn p new after u) (sym (run-append m w (closing_steps w.group) (force_steps m w)))
            (subst (λ (l : List (Step Command)). ShowsIn p new after (run m v l)) (same_force m w) taken.1.shows);
        used = taken.1.used;
      }

  pub finish_forced : (n : ℕ) → answer ≡ Ok n → {commands : List Command} (holds : Holds p d before commands) → Closes p d before holds.world → (of_engine.Holds all_meaning p new after commands → Says p new after commands)
      → Holds p new after commands × (forced_in after ≡ length commands) × (after.parts.log.log.pending ≡ [])
  finish_forced n done {commands} holds closes says =
      let here = closed_holds holds (closed_shown holds.shows closes) in
      let forced = subst (λ (r : Result ℕ Failure). IfOk r (λ k. (k ≡ length commands) × (forced_in after ≡ length commands))) done (it.forced p commands here) in (
        holds_after (subst (λ (r : Result ℕ Failure). IsFailed (ending_of_force r) ⊎ of_engine.Kept all_meaning p (closed_engine before) new after commands) done (it.commands.holds p commands here)) says,
        forced.1,
        subst (λ (r : Result ℕ Failure). OnOk r (after.parts.log.log.pending ≡ [])) done it.empty,
      )
