-- A call that takes a course without commands keeps the commands that engine and files stand for.
use Rattle.std.proofs.Common.{◌≡◌, ◌∙◌, sym, subst, ap, ℕ, ◌≤◌, List, length, take, arith, inl, inr, ◌⊎◌, ⊎_elim}
use Rattle.std.specs.Prelude.{None, false}
use Rattle.disk_model.specs.Disk.{Files, Disk}
use Rattle.disk_model.specs.Moments.{weaker}
use Rattle.disk_model.specs.declared.machine.FileNo.TheVariants.{Objects}
use Rattle.disk_model.specs.Silent.{IsSilent}
use Rattle.oper_core.specs.Meaning.{Meaning, IsSmall}
use Rattle.oper_core.specs.declared.bounds.Bounds.{Bounds}
use Rattle.formats.specs.Objects.{bounds_of}
use Rattle.formats.specs.declared.params.Params.{Params}
use Rattle.log_blocks.specs.LogView.{used_of}
use Rattle.explain_core.specs.History.{Member, commands_of}
use Rattle.explain_core.specs.RunLaws.{begins-allowed}
use Rattle.explain_core.specs.Sound.{IsSound}
use Rattle.explain_core.specs.Taken.{IsAfterSome}
use Rattle.explain_core.specs.World.{World, Step, run, AreAllowed}
use Rattle.standing.specs.Moments.{ShowsSome}
use Rattle.standing.specs.Standing.{StandsFor}
use Rattle.running_store.specs.Courses.{Course}
use Rattle.running_store.specs.Parts.{Parts, Shows}
use Rattle.running_store.specs.Running.{IsRunning, MayBeTaken}
use Rattle.running_store.specs.Taking.{Ending, Follows, Takes}
use Rattle.running_store.specs.Taking.Ending.{Done, Stopped, Short, Failed}
use Rattle.running_store.specs.Calls.{IsFailed}
use Rattle.store_engine.specs.Engine.{EngineView, Between, Holds, Kept, KeepsCommands, accepted_in, forced_in}
use Rattle.store_engine.specs.Store.{meaning_in}
use Rattle.store_engine.specs.Counts.{forced_shown}
use Rattle.store_engine.proofs.Grouped.{alone_shown, shown_alone}
use Rattle.store_engine.proofs.Holding.{Stand, holds_accepted, holds_forced}
use Rattle.store_engine.proofs.Stats.{small_in}
use Rattle.store_engine.proofs.Steps.{ArePlain, HasFront, plain_front, steps_extend, same_commands, more_forced, front_extended}

-- every run of steps that may be taken keeps a world sound
abbrev pub KeepsRuns : {O : Type 0} → (Bounds → Meaning O) → Type 0
KeepsRuns {O} meaning = (b : Bounds) (w : World O) (steps : List (Step O)) → IsSmall b → IsSound (meaning b) w → AreAllowed (meaning b) w steps → IsSound (meaning b) (run (meaning b) w steps)

-- the course of each world in which calls are made may be taken
abbrev pub MayTake : {O : Type 0} → (Bounds → Meaning O) → (Meaning O → World O → ℕ → Course O) → Type 0
MayTake {O} meaning course = (b : Bounds) (w : World O) (used : ℕ) → IsSmall b → IsRunning (meaning b) w → MayBeTaken (meaning b) w (course (meaning b) w used).steps

-- and it has no command
abbrev pub IsPlainCourse : {O : Type 0} → (Meaning O → World O → ℕ → Course O) → Type 0
IsPlainCourse {O} course = (m : Meaning O) (w : World O) (used : ℕ) → ArePlain (course m w used).steps

-- a store that is shown has small numbers
pub small_shown : {O : Type 0} (m : Meaning O) (p : Params) (d : Disk) (it : Parts) (w : World O) → Shows m p d it w → IsSmall (bounds_of p)
small_shown m p d it w shows = small_in m p (d.reads Objects) it.volatile w shows.store

-- an image that shows a sound later world, of whose stable members these are first commands: within a group the stable ones
pub between_front : {O : Type 0} (meaning : Bounds → Meaning O) (p : Params) (old : Disk) (before : EngineView) (commands : List O) (holds : Holds meaning p old before commands) (later : World O) (files : Files) (said : List ℕ)
    → HasFront holds.world later → (before.group ≡ None) ⊎ (take later.forced later.history ≡ take holds.world.forced holds.world.history)
    → said ≡ old.said → StandsFor meaning p files (commands_of (take later.forced later.history)) → Between meaning p old before.group (forced_in before) (accepted_in before) commands files said
between_front {O} meaning p old before commands holds later files said has inside quiet stands =
    let n = length (commands_of (take later.forced later.history)) in
    let front : take n commands ≡ commands_of (take later.forced later.history) = ap (λ (l : List O). take n l) (sym holds.commands_are) ∙ has.front in
    record {
      quiet = quiet;
      kept = n;
      enough = omega (arith, has.enough, holds_forced meaning p old before commands holds);
      within = omega (arith, has.within, ap (λ (l : List O). length l) holds.commands_are);
      which = ⊎_elim
          (λ none. ⊎_elim (λ same. inl (same ∙ sym (holds_forced meaning p old before commands holds))) (λ all. inr (none, omega (arith, all, ap (λ (l : List O). length l) holds.commands_are, holds_accepted meaning p old before commands holds))) has.which)
          (λ same. inl (ap (λ (h : List (Member O)). length (commands_of h)) same ∙ sym (holds_forced meaning p old before commands holds))) inside;
      stands = subst (λ (l : List O). StandsFor meaning p files l) (sym front) stands;
    }

module _ {O : Type 0} (meaning : Bounds → Meaning O) (p : Params) (old new : Disk) (before after : EngineView) (was : before.group ≡ None) (still : after.group ≡ None) (commands : List O) (holds : Holds meaning p old before commands) where
  abbrev m : Meaning O
  m = meaning_in meaning p

  within : holds.world.forced ≤ length holds.world.history
  within = holds.shows.sound.forced

  shown : Shows m p old before.parts holds.world
  shown = alone_shown meaning p old before holds.world holds.shows was

  -- parts that show the world after plain steps stand for the commands
  pub kept_plainly : (steps : List (Step O)) → ArePlain steps → after.broken ≡ false → Shows m p new after.parts (run m holds.world steps) → Kept meaning p before new after commands
  kept_plainly steps plain unbroken shows =
      let w = holds.world in
      let later = run m w steps in
      let e = steps_extend m w steps plain within in
      record {
        holds = record { world = later; shows = shown_alone meaning p new after later unbroken still shows; commands_are = same_commands w later e ∙ holds.commands_are };
        rising = omega (arith, more_forced w later within e.extends, holds_forced meaning p old before commands holds, forced_shown m p new after.parts later shows);
        which = ⊎_elim
            (λ same. inl (forced_shown m p new after.parts later shows ∙ same ∙ sym (holds_forced meaning p old before commands holds)))
            (λ all. inr (was, omega (arith, all, ap (λ (l : List O). length l) holds.commands_are, holds_accepted meaning p old before commands holds, forced_shown m p new after.parts later shows)))
            (front_extended w later within e).which;
      }

  kept_some : (steps : List (Step O)) → ArePlain steps → after.broken ≡ false → IsAfterSome m (λ v. Shows m p new after.parts v) holds.world steps → Kept meaning p before new after commands
  kept_some steps plain unbroken is = kept_plainly is.taken (plain_front steps is.taken is.begins plain) unbroken is.holds

  kept_by : (c : Course O) → ArePlain c.steps → (e : Ending) → IsFailed e ⊎ (after.broken ≡ false) → Follows m p new after.parts holds.world c e → IsFailed e ⊎ Kept meaning p before new after commands
  kept_by c plain Done unbroken f = ⊎_elim (λ failed. absurd failed) (λ fine. inr (kept_plainly c.steps plain fine f.1.shows)) unbroken
  kept_by c plain (Stopped stop) unbroken f = ⊎_elim (λ failed. absurd failed) (λ fine. inr (kept_plainly c.steps plain fine f.1.shows)) unbroken
  kept_by c plain Short unbroken f = ⊎_elim (λ failed. absurd failed) (λ fine. inr (kept_some c.steps plain fine f)) unbroken
  kept_by c plain Failed unbroken f = inl tt

  -- an image within plain steps that may be taken stands for a front of the commands
  pub between_plainly : KeepsRuns meaning → Stand meaning p → (steps : List (Step O)) → ArePlain steps → AreAllowed m holds.world steps → (files : Files) (said : List ℕ)
      → IsSilent (ShowsSome m p holds.world steps) old.said files said → Between meaning p old before.group (forced_in before) (accepted_in before) commands files said
  between_plainly keeps stand steps plain may files said is =
      let w = holds.world in
      let some = is.holds in
      let later = run m w some.taken in
      let e = steps_extend m w some.taken (plain_front steps some.taken some.begins plain) within in
      let small = small_shown m p old before.parts w shown in
      let sound = keeps (bounds_of p) w some.taken small holds.shows.sound (begins-allowed m w steps some.taken some.begins may) in
      between_front meaning p old before commands holds later files said (front_extended w later within e) (inl was) is.silent (stand files later sound some.holds)

-- a call that takes a course without commands
module _ {O : Type 0} (meaning : Bounds → Meaning O) (old new : Disk) (before after : EngineView) (course : Meaning O → World O → ℕ → Course O) (ending : Ending)
    (takes : Takes meaning old new before.parts after.parts course ending) (was : before.group ≡ None) (still : after.group ≡ None) where
  pub takes_holds : IsFailed ending ⊎ (after.broken ≡ false) → IsPlainCourse course → (p : Params) (commands : List O) → Holds meaning p old before commands → IsFailed ending ⊎ Kept meaning p before new after commands
  takes_holds unbroken plain p commands holds =
      let m = meaning_in meaning p in
      let used = used_of before.parts.log.log in
      let c = course m holds.world used in
      kept_by meaning p old new before after was still commands holds c (plain m holds.world used) ending unbroken (takes.follows p holds.world (alone_shown meaning p old before holds.world holds.shows was))

  pub takes_keeps : IsFailed ending ⊎ (after.broken ≡ false) → KeepsRuns meaning → ((p : Params) → Stand meaning p) → MayTake meaning course → IsPlainCourse course → KeepsCommands meaning old new before after ending
  takes_keeps unbroken keeps stand may plain = record {
    holds = takes_holds unbroken plain;
    images = λ told p commands holds.
        let m = meaning_in meaning p in
        let w = holds.world in
        let used = used_of before.parts.log.log in
        let shows = alone_shown meaning p old before w holds.shows was in
        let allowed = (may (bounds_of p) w used (small_shown m p old before.parts w shows) shows.running).allowed in
        weaker old new (IsSilent (ShowsSome m p w (course m w used).steps) old.said) (Between meaning p old before.group (forced_in before) (accepted_in before) commands) (takes.steps told p w shows)
        (λ files said is. between_plainly meaning p old new before after was still commands holds keeps (stand p) (course m w used).steps (plain m w used) allowed files said is);
  }
