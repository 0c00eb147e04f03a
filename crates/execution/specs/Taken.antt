-- In which worlds the course of a command may be taken, and that of a record of another log, and what history they leave.
use Rattle.std.specs.Prelude.{◌≡◌, ℕ, false, [], ◌∷◌, ◌++◌, None, Some}
use Rattle.std.specs.Option.{is_some}
use Rattle.oper_core.specs.Meaning.{Meaning}
use Rattle.oper_core.specs.declared.refusal.Refusal.{Refusal}
use Rattle.formats.specs.declared.record.Record.{Record}
use Rattle.explain_core.specs.History.{commands_of}
use Rattle.explain_core.specs.Sound.{IsSound}
use Rattle.explain_core.specs.World.{World, run, AreAllowed, IsLive}
use Rattle.running_store.specs.Courses.{is_through}
use Rattle.running_store.specs.Courses.Stop.{Through}
use Rattle.running_store.specs.Running.{IsRunning}
use Rattle.execution.specs.Courses.{exec_course, refusal_in}
use Rattle.execution.specs.Following.{follow_course, judge_in}
use Rattle.execution.specs.Judged.{with_judged}

-- The steps of a command's course may be taken, also while a group is open in the world. After them the world is sound and
-- live, and the same group is open, or none; the commands are those before, with this one after them where nothing refuses
-- it and nothing stops it.
pub record MayExec {O : Type 0} (m : Meaning O) (limit : ℕ) (op : O) (w : World O) (used : ℕ) : Type 0 where
  pub allowed : AreAllowed m w (exec_course m (is_some w.group) limit op w used).steps
  pub sound : IsSound m (run m w (exec_course m (is_some w.group) limit op w used).steps)
  pub live : IsLive (run m w (exec_course m (is_some w.group) limit op w used).steps)
  pub group : (run m w (exec_course m (is_some w.group) limit op w used).steps).group ≡ w.group
  pub refused : (r : Refusal) → refusal_in m w op ≡ Some r → (exec_course m (is_some w.group) limit op w used).steps ≡ []
  pub stopped : is_through (exec_course m (is_some w.group) limit op w used).stop ≡ false → commands_of (run m w (exec_course m (is_some w.group) limit op w used).steps).history ≡ commands_of w.history
  pub done : refusal_in m w op ≡ None → (exec_course m (is_some w.group) limit op w used).stop ≡ Through
      → commands_of (run m w (exec_course m (is_some w.group) limit op w used).steps).history ≡ commands_of w.history ++ op ∷ []

-- The steps of a record's course may be taken. After them the world is one in which calls are made; where nothing stops them its
-- history is the one behind what was made of the record, and where the log is full no step is taken.
pub record MayFollow {O : Type 0} (m : Meaning O) (r : Record O) (w : World O) (used : ℕ) : Type 0 where
  pub allowed : AreAllowed m w (follow_course m r w used).steps
  pub running : IsRunning m (run m w (follow_course m r w used).steps)
  pub through : (follow_course m r w used).stop ≡ Through → (run m w (follow_course m r w used).steps).history ≡ with_judged w.history (judge_in m w r)
  pub stopped : is_through (follow_course m r w used).stop ≡ false → (follow_course m r w used).steps ≡ []
