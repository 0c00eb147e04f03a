-- A restart keeps the commands that the files stand for, and all of them are forced after it.
use Rattle.std.proofs.Common.{◌≡◌, ◌∙◌, sym, subst, ap, ℕ, ◌≤◌, List, ◌∷◌, ◌++◌, length, take, refl, arith, inl, inr, ⊎_elim, None}
use Rattle.std.specs.Prelude.{false}
use Rattle.std.proofs.lemmas.List.{take_all}
use Rattle.disk_model.specs.Disk.{Files, Disk, LeavesOnly}
use Rattle.disk_model.specs.Silent.{IsSilent}
use Rattle.oper_core.specs.Meaning.{Meaning, IsSmall}
use Rattle.oper_core.specs.declared.bounds.Bounds.{Bounds}
use Rattle.formats.specs.Objects.{bounds_of}
use Rattle.formats.specs.declared.params.Params.{Params}
use Rattle.explain_core.specs.History.{Member, commands_of}
use Rattle.explain_core.specs.RunLaws.{Begins, begins-allowed, begins-first}
use Rattle.explain_core.specs.World.{World, Step, step, run, AreAllowed}
use Rattle.explain_core.specs.World.Step.{Crash}
use Rattle.explain_core.specs.declared.marks.Marks.{Marks}
use Rattle.standing.specs.Moments.{ShowsSome}
use Rattle.standing.specs.Standing.{IsFound, StandsFor}
use Rattle.running_store.specs.Parts.{Parts, Shows}
use Rattle.running_store.specs.Taking.{IsAfter}
use Rattle.checkpointing.specs.Courses.{closing_course}
use Rattle.redo_pass.specs.Redo.{redo_steps}
use Rattle.restart.specs.Courses.{redo_course, restart_course}
use Rattle.restart.specs.Opening.{OpensThrough}
use Rattle.restart.specs.Starts.{OrAtStart, or_weaker}
use Rattle.store_engine.specs.Engine.{EngineView, Between, Holds, forced_in}
use Rattle.store_engine.specs.Store.{meaning_in}
use Rattle.store_engine.specs.Counts.{commands-fewer, forced_shown}
use Rattle.store_engine.proofs.Grouped.{shown_alone}
use Rattle.store_engine.proofs.Holding.{Stand}
use Rattle.store_engine.proofs.Keeping.{KeepsRuns}
use Rattle.store_engine.proofs.PlainCourses.{plain_redo, upkeep_closing}
use Rattle.store_engine.proofs.Steps.{ArePlain, ExtendsPlainly, HasFront, are_plain, extends_same, front_extended, more_forced, plain_front, same_commands, steps_extend}

module _ {O : Type 0} (m : Meaning O) (p : Params) (files : Files) (commands : List O) (w : World O) (found : IsFound m p files commands w) (marks : Marks) (used : ℕ) where
  within : w.forced ≤ length w.history
  within = found.sound.forced

  -- after the crash the steps are plain
  abbrev rest : List (Step O)
  rest = redo_steps m marks (step m w Crash) ++ (closing_course m (run m w (redo_course m marks w used).steps) used).steps

  rest_plain : ArePlain rest
  rest_plain = plain_redo m marks (step m w Crash) (closing_course m (run m w (redo_course m marks w used).steps) used).steps (are_plain _ (upkeep_closing m (run m w (redo_course m marks w used).steps) used))

  -- the world after the crash and some plain steps
  extended : (steps : List (Step O)) → ArePlain steps → ExtendsPlainly w (run m w (Crash ∷ steps))
  unfolding run
  extended steps plain = subst (λ (v : World O). ExtendsPlainly w (run m v steps)) (sym found.crashed) (steps_extend m w steps plain within)

  all_extended : ExtendsPlainly w (run m w (restart_course m marks w used).steps)
  all_extended = extended rest rest_plain

  some_extended : (taken : List (Step O)) → Begins (restart_course m marks w used).steps taken → ExtendsPlainly w (run m w taken)
  unfolding run
  some_extended taken begins = elim (begins-first Crash rest taken (λ g same. cc) begins) [
    | inl none ↦ subst (λ (l : List (Step O)). ExtendsPlainly w (run m w l)) (sym none) (extends_same w w refl (omega arith) within (inl refl))
    | inr more ↦ subst (λ (l : List (Step O)). ExtendsPlainly w (run m w l)) (sym more.1) (extended more.0 (plain_front rest more.0 more.2 rest_plain))
  ]

  pub restart_keeps : commands_of (run m w (restart_course m marks w used).steps).history ≡ commands
  restart_keeps = same_commands w (run m w (restart_course m marks w used).steps) all_extended ∙ found.commands_are

  -- all members are stable
  whole : take w.forced w.history ≡ w.history
  unfolding step
  whole = ap (λ (v : World O). v.history) found.crashed

  all_forced : length (commands_of (take w.forced w.history)) ≡ length commands
  all_forced = ap (λ (h : List (Member O)). length (commands_of h)) whole ∙ ap (λ (l : List O). length l) found.commands_are

  pub restart_forced : (d : Disk) (it : Parts) → Shows m p d it (run m w (restart_course m marks w used).steps) → it.log.forced ≡ length commands
  restart_forced d it shows =
      let later = run m w (restart_course m marks w used).steps in
      omega (
        arith,
        forced_shown m p d it later shows,
        more_forced w later within all_extended.extends,
        commands-fewer later.forced later.history,
        ap (λ (l : List O). length l) restart_keeps,
        all_forced,
      )

  pub some_front : (taken : List (Step O)) → Begins (restart_course m marks w used).steps taken → HasFront w (run m w taken)
  some_front taken begins = front_extended w (run m w taken) within (some_extended taken begins)

module _ {O : Type 0} (meaning : Bounds → Meaning O) (p : Params) (old new : Disk) (commands : List O) (w : World O) (found : IsFound (meaning_in meaning p) p old.reads commands w) (marks : Marks) (used : ℕ) where
  abbrev m : Meaning O
  m = meaning_in meaning p

  -- engine and files stand for the commands of the files
  pub restart_holds : (e : EngineView) → e.broken ≡ false → e.group ≡ None → IsAfter m p new e.parts w (restart_course m marks w used) → Holds meaning p new e commands × (forced_in e ≡ length commands)
  restart_holds e fine alone after = (
    record { world = run m w (restart_course m marks w used).steps; shows = shown_alone meaning p new e (run m w (restart_course m marks w used).steps) fine alone after.shows; commands_are = restart_keeps m p old.reads commands w found marks used },
    restart_forced m p old.reads commands w found marks used new e.parts after.shows,
  )

  restart_between : IsSmall (bounds_of p) → KeepsRuns meaning → Stand meaning p → AreAllowed m w (restart_course m marks w used).steps → (files : Files) (said : List ℕ)
      → IsSilent (ShowsSome m p w (restart_course m marks w used).steps) old.said files said → Between meaning p old None (length commands) (length commands) commands files said
  restart_between small keeps stand may files said is =
      let some = is.holds in
      let later = run m w some.taken in
      let n = length (commands_of (take later.forced later.history)) in
      let has = some_front m p old.reads commands w found marks used some.taken some.begins in
      let sound = keeps (bounds_of p) w some.taken small found.sound (begins-allowed m w (restart_course m marks w used).steps some.taken some.begins may) in
      let front : take n commands ≡ commands_of (take later.forced later.history) = ap (λ (l : List O). take n l) (sym found.commands_are) ∙ has.front in
      record {
        quiet = is.silent;
        kept = n;
        enough = omega (arith, has.enough, all_forced m p old.reads commands w found marks used);
        within = omega (arith, has.within, ap (λ (l : List O). length l) found.commands_are);
        which = inl (⊎_elim (λ same. same ∙ all_forced m p old.reads commands w found marks used) (λ all. all ∙ ap (λ (l : List O). length l) found.commands_are) has.which);
        stands = subst (λ (l : List O). StandsFor meaning p files l) (sym front) (stand files later sound some.holds);
      }

  -- and each image within the restart for a front of them
  pub restart_images : IsSmall (bounds_of p) → KeepsRuns meaning → Stand meaning p → AreAllowed m w (restart_course m marks w used).steps
      → OpensThrough m p old new w (restart_course m marks w used).steps → LeavesOnly old new (OrAtStart old (Between meaning p old None (length commands) (length commands) commands))
  restart_images small keeps stand may steps =
      or_weaker old new (IsSilent (ShowsSome m p w (restart_course m marks w used).steps) old.said) (Between meaning p old None (length commands) (length commands) commands) steps (restart_between small keeps stand may)

  -- and what reads give, which shows the world after some first steps, for all of them
  pub restart_stands : IsSmall (bounds_of p) → KeepsRuns meaning → Stand meaning p → AreAllowed m w (restart_course m marks w used).steps → ShowsSome m p w (restart_course m marks w used).steps new.reads → StandsFor meaning p new.reads commands
  restart_stands small keeps stand may some =
      let here = restart_between small keeps stand may new.reads old.said (record { silent = refl; holds = some }) in
      let enough = here.enough in
      subst (λ (l : List O). StandsFor meaning p new.reads l) (take_all here.kept commands enough) here.stands
