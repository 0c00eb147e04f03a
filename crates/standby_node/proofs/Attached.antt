-- A standby begins with an engine that a restart has opened.
use Rattle.std.proofs.Common.{◌≡◌, ◌∙◌, sym, subst, ap, ℕ, ◌≤◌, false, List, [], length, take, refl, arith, inl, Option, None}
use Rattle.std.specs.Prelude.{IfSome}
use Rattle.disk_model.specs.Disk.{Disk, Files}
use Rattle.oper_core.specs.Meaning.{Meaning}
use Rattle.oper_core.specs.declared.bounds.Bounds.{Bounds}
use Rattle.formats.specs.declared.params.Params.{Params}
use Rattle.frame_stream.specs.FrameBuffer.{FrameBufferView, HasPassed}
use Rattle.explain_core.specs.History.{Member, commands_of}
use Rattle.explain_core.specs.World.{World, run, step}
use Rattle.explain_core.specs.declared.marks.Marks.{Marks}
use Rattle.standing.specs.Standing.{IsFound}
use Rattle.restart.specs.Courses.{restart_course}
use Rattle.running_store.specs.Parts.{Shows}
use Rattle.store_engine.specs.Engine.{EngineView, ShowsIn, forced_in}
use Rattle.store_engine.specs.Grouping.{ungrouped_alone}
use Rattle.store_engine.specs.Store.{meaning_in}
use Rattle.standby_node.specs.Attaching.{BeginsOn}
use Rattle.standby_node.specs.Standby.{IsFollowing, StandbyView}
use Rattle.standby_node.proofs.Settled.{IsSettledAt, restart_settled}

-- an engine in which no group is open shows what its parts do
pub shown_in : {O : Type 0} (meaning : Bounds → Meaning O) (p : Params) (d : Disk) (engine : EngineView) (w : World O) → engine.broken ≡ false → engine.group ≡ None → Shows (meaning_in meaning p) p d engine.parts w → ShowsIn meaning p d engine w
shown_in meaning p d engine w unbroken none shows = record {
  unbroken = unbroken;
  sound = shows.running.sound;
  group = shows.running.alone ∙ sym none;
  shows = subst (λ (v : World _). Shows (meaning_in meaning p) p d engine.parts v) (sym (ungrouped_alone w shows.running.alone)) shows;
  no_checkpoint = subst (λ (o : Option ℕ). IfSome o (λ begun. w.pending ≡ [])) (sym none) tt;
}

module _ {O : Type 0} (meaning : Bounds → Meaning O) (p : Params) (new : Disk) (w : World O) (marks : Marks) (used : ℕ) (engine : EngineView) (frames : FrameBufferView) (unbroken : engine.broken ≡ false) (none : engine.group ≡ None) (passed : HasPassed [] [] frames)
    (shows : Shows (meaning_in meaning p) p new engine.parts (run (meaning_in meaning p) w (restart_course (meaning_in meaning p) marks w used).steps)) (within : w.forced ≤ length w.history) where
  abbrev m : Meaning O
  m = meaning_in meaning p

  abbrev begun : StandbyView
  begun = record { engine = engine; frames = frames; done = 0; stopped = None }

  abbrev v : World O
  v = run m w (restart_course m marks w used).steps

  settled : IsSettledAt (take w.forced w.history) v
  settled = restart_settled m w within marks used

  -- the standby has its history
  pub follows_from : IsFollowing meaning p v.history [] new begun
  follows_from = record {
    payloads = [];
    groups = [];
    begun = [];
    passed = passed;
    frames_are = tt;
    in_hand = record { count = refl; within = inl refl; front = λ some. absurd (omega (arith, some)); shipped = tt };
    world = v;
    shows = shown_in meaning p new engine v unbroken none shows;
    fine = refl;
    members = refl;
    no_checkpoint = settled.none;
    forced = inl (settled.forced ∙ ap (λ (h : List (Member O)). length h) (sym settled.history));
  }

  -- where a restart finds the world it has the commands of the files
  pub begins_on : (files : Files) (commands : List O) → IsFound m p files commands w → forced_in engine ≡ length commands → BeginsOn meaning p new commands begun
  unfolding step
  begins_on files commands found forced =
      let all : take w.forced w.history ≡ w.history = ap (λ (u : World O). u.history) found.crashed in
      record {
        first = v.history;
        commands_are = ap (λ (h : List (Member O)). commands_of h) (settled.history ∙ all) ∙ found.commands_are;
        following = follows_from;
        stable = forced;
      }
