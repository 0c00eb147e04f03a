-- Worlds that engine and files show, and those that the parts show: the same but for an open group.
use Rattle.std.proofs.Common.{◌≡◌, ◌∙◌, sym, subst, ℕ, false, List, [], ◌⊎◌, ⊎_elim, Option, None, Some}
use Rattle.std.specs.Prelude.{IfSome}
use Rattle.disk_model.specs.Disk.{Disk}
use Rattle.oper_core.specs.Meaning.{Meaning}
use Rattle.oper_core.specs.declared.bounds.Bounds.{Bounds}
use Rattle.formats.specs.declared.params.Params.{Params}
use Rattle.log_blocks.specs.LogView.{used_of}
use Rattle.explain_core.specs.World.{World, Step, run}
use Rattle.running_store.specs.Courses.{Course}
use Rattle.running_store.specs.Parts.{Shows}
use Rattle.running_store.specs.Taking.{Ending, Follows, Takes}
use Rattle.running_store.specs.Taking.Ending.{Done, Stopped, Short, Failed}
use Rattle.running_store.specs.Calls.{IsFailed}
use Rattle.store_engine.specs.Engine.{EngineView, FollowsIn, ShowsIn, TakesIn}
use Rattle.store_engine.specs.Grouping.{AreInside, same_waits, ungrouped_alone}
use Rattle.store_engine.specs.Store.{meaning_in}

module _ {O : Type 0} (meaning : Bounds → Meaning O) (p : Params) (d : Disk) (engine : EngineView) (w : World O) where
  abbrev m : Meaning O
  m = meaning_in meaning p

  -- outside groups the parts show what the engine shows
  pub alone_shown : ShowsIn meaning p d engine w → engine.group ≡ None → Shows m p d engine.parts w
  alone_shown shows none = subst (λ (v : World O). Shows m p d engine.parts v) (ungrouped_alone w (shows.group ∙ none)) shows.shows

  pub shown_alone : engine.broken ≡ false → engine.group ≡ None → Shows m p d engine.parts w → ShowsIn meaning p d engine w
  shown_alone fine none shows = record {
    unbroken = fine;
    sound = shows.running.sound;
    group = shows.running.alone ∙ sym none;
    shows = subst (λ (v : World O). Shows m p d engine.parts v) (sym (ungrouped_alone w shows.running.alone)) shows;
    no_checkpoint = subst (λ (o : Option ℕ). IfSome o (λ begun. w.pending ≡ [])) (sym none) tt;
  }

-- a call outside groups that takes a course takes it in the engine
module _ {O : Type 0} (meaning : Bounds → Meaning O) (old new : Disk) (before after : EngineView) (course : Meaning O → World O → ℕ → Course O) (ending : Ending) where
  pub takes_alone : Takes meaning old new before.parts after.parts course ending → before.group ≡ None → after.group ≡ None → IsFailed ending ⊎ (after.broken ≡ false)
      → TakesIn meaning old new before after course ending
  takes_alone takes was is unbroken = record {
    follows = λ p w shows. by_ending p w (course (meaning_in meaning p) w (used_of before.parts.log.log)) ending unbroken (takes.follows p w (alone_shown meaning p old before w shows was));
    steps = λ told p w shows. takes.steps told p w (alone_shown meaning p old before w shows was);
  }
    where
      by_ending : (p : Params) (w : World O) (c : Course O) (e : Ending) → IsFailed e ⊎ (after.broken ≡ false) → Follows (meaning_in meaning p) p new after.parts w c e → FollowsIn meaning p new after w c e
      by_ending p w c Done unbroken f = (
        f.0,
        record {
          shows = shown_alone meaning p new after (run (meaning_in meaning p) w c.steps) (⊎_elim (λ failed. absurd failed) (λ fine. fine) unbroken) is f.1.shows;
          used = f.1.used;
        },
      )
      by_ending p w c (Stopped stop) unbroken f = (
        f.0,
        record {
          shows = shown_alone meaning p new after (run (meaning_in meaning p) w c.steps) (⊎_elim (λ failed. absurd failed) (λ fine. fine) unbroken) is f.1.shows;
          used = f.1.used;
        },
      )
      by_ending p w c Short unbroken f = record {
        taken = f.taken;
        begins = f.begins;
        holds = shown_alone meaning p new after (run (meaning_in meaning p) w f.taken) (⊎_elim (λ failed. absurd failed) (λ fine. fine) unbroken) is f.holds;
      }
      by_ending p w c Failed unbroken f = tt

-- within a group no checkpoint waits after steps inside it
pub waits_none : {O : Type 0} (m : Meaning O) (w : World O) (group : Option ℕ) (steps : List (Step O)) → AreInside group steps → IfSome group (λ begun. w.pending ≡ []) → IfSome group (λ begun. (run m w steps).pending ≡ [])
waits_none m w None steps are none = tt
waits_none m w (Some begun) steps are none = same_waits m begun w steps are ∙ none
