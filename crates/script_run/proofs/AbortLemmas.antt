-- An open group is given up: the files are opened again.
use Rattle.std.proofs.Common.{◌≡◌, ◌∙◌, ap, sym, subst, refl, inl, inr, ⊎_elim, ◌+◌, ℕ, List, [], ◌∷◌, length, length-take, take, drop, arith, Option, None, Some, Result, Ok, Err, false}
use Rattle.std.specs.Prelude.{IsErrOf, IsTrue}
use Rattle.std.specs.Option.{is_some}
use Rattle.std.proofs.lemmas.List.{take-take}
use Rattle.disk_model.specs.Disk.{Disk, IsDisk, LeavesOnly, Rises}
use Rattle.disk_model.specs.Moments.{weaker}
use Rattle.disk_model.specs.Silent.{IsSilent}
use Rattle.formats.specs.declared.params.Params.{Params}
use Rattle.explain_core.specs.History.{commands_of}
use Rattle.explain_core.specs.World.{World, run}
use Rattle.stable_objects.specs.declared.open_err.OpenErr.{OpenErr}
use Rattle.stable_objects.specs.declared.open_err.OpenErr.TheVariants as open_errors
use Rattle.standing.specs.Moments.{ShowsSome}
use Rattle.running_store.specs.Courses.Stop.{Full}
use Rattle.running_store.specs.Steps.Forced.{files_shown}
use Rattle.running_store.specs.Taking.{IsAfter}
use Rattle.op_codec.specs.AllOps.{all_meaning}
use Rattle.restart.specs.Opening.{IsOpening, OpensOn, OpensThrough}
use Rattle.restart.specs.Reopened.{IsReopened}
use Rattle.restart.specs.Starts.{OrAtStart}
use Rattle.script_lines.specs.Grammar.{AsksFor}
use Rattle.script_lines.specs.declared.answer.Answer.TheVariants as answers
use Rattle.script_lines.specs.declared.line.Line.TheVariants.{Group}
use Rattle.script_lines.specs.declared.line.Grouping.TheVariants.{Abort as abort_group}
use Rattle.script_lines.specs.Replies.{ok, reply_of}
use Rattle.store_engine.specs.Engine.{EngineView, InEachImage, SaysStopWithin, forced_in, opened, used_in}
use Rattle.store_engine.specs.Engine as of_engine
use Rattle.store_engine.specs.Grouping.{ungrouped}
use Rattle.shell_base.specs.First.{stage_of}
use Rattle.shell_base.specs.RestartLaws.{shown_alone}
use Rattle.shell_base.specs.Stops.{IsCaused, IsUndamaged}
use Rattle.shell_base.specs.Store.{Between, Command, Holds, IsAttached, Opens, ShowsIn, Stands, meaning_in}
use Rattle.script_run.specs.Courses.{IsWorkedOn, Works}
use Rattle.script_run.specs.Finding.{FindsAnswer, IsLineOf}
use Rattle.script_run.specs.Found.{IsDone, stop_of_opening}
use Rattle.script_run.specs.Groups.{all_after, open_in}
use Rattle.script_run.specs.Run.{Working}
use Rattle.script_run.specs.Stages.{GivesUp, abort_course}
use Rattle.script_run.proofs.GroupLemmas.{none_open}
use Rattle.script_run.proofs.MomentLemmas.{images_show, worked_none}
use Rattle.script_run.proofs.OpenGroups.{some_open, stable_are, waiting_are}
use Rattle.script_run.proofs.RunLemmas.{works_quietly}

-- what the engine's log says of its length within the group
abbrev pub SaysLength : Disk → EngineView → Type 0
SaysLength d engine = (p : Params) (w : World Command) → ShowsIn p d engine w → IsTrue (is_some w.group) → InEachImage d (λ files. SaysStopWithin all_meaning p (commands_of (drop w.forced w.history)) files (Full (used_in engine) 1 0))

-- that of a sound world has the stable commands
abbrev pub Reopens : Type 1
Reopens = (p : Params) (d : Disk) (used : ℕ) (w : World Command) → OpensOn (meaning_in p) p d used w → IsReopened (meaning_in p) w (run (meaning_in p) w (abort_course p w used).steps)

module _ {p : Params} {old : Disk} {before : EngineView} {commands : List Command} {line : List ℕ} (holds : Holds p old before commands) (asks : AsksFor line (Group abort_group)) (inside : IsTrue (is_some before.group)) (lengths : SaysLength old before) where
  abbrev w : World Command
  w = holds.world

  grouped : IsTrue (is_some w.group)
  grouped = ap (λ (o : Option ℕ). is_some o) holds.shows.group ∙ inside

  abbrev said : InEachImage old (λ files. SaysStopWithin all_meaning p (commands_of (drop w.forced w.history)) files (Full (used_in before) 1 0))
  said = lengths p w holds.shows grouped

  -- the length of the log in the files
  abbrev place : ℕ
  place = said.0.0

  gives : GivesUp p (stage_of before w) line place
  gives = record {
    asks = asks;
    inside = some_open holds.shows inside;
    waits = said.0.2 ∙ ap (λ (l : List Command). place + of_engine.group_bytes all_meaning p l) (sym (waiting_are holds.shows.sound w.group refl grouped));
  }

  opens_on : OpensOn (meaning_in p) p old place w
  opens_on = record { told = holds.shows.shows.told; sound = holds.shows.sound; shows = files_shown (meaning_in p) p old before.parts (ungrouped w) holds.shows.shows; ends = said.0.1 }

  -- the commands before the group, all of them forced
  abbrev first : List Command
  first = take (forced_in before) commands

  opens : Opens p old first
  opens = record { told = holds.shows.shows.told; stands = holds.says.images.0 }

  count : length first ≡ forced_in before
  count = omega (arith, length-take (forced_in before) commands, holds.says.forced)

  -- a crash leaves these, as at the start
  abort_images : {now : Disk} → IsDisk old → (old.tells_moments → LeavesOnly old now (OrAtStart old (Between p old None (length first) (length first) first))) → old.tells_moments → LeavesOnly old now (Working p old before commands line)
  abort_images {now} lawful images told = weaker old now (OrAtStart old (Between p old None (length first) (length first) first)) (Working p old before commands line) (images told) (λ files said here. works_quietly (⊎_elim
      (λ was. record {
        quiet = lawful.said_now told files said was;
        kept = forced_in before;
        enough = omega arith;
        within = holds.says.forced;
        which = inl refl;
        stands = holds.says.images.1 told files said was;
      })
      (λ (b : Between p old None (length first) (length first) first files said).
      let enough = b.enough in
      let within = b.within in
      let same : b.kept ≡ forced_in before = omega (arith, enough, within, count) in
      record {
        quiet = b.quiet;
        kept = forced_in before;
        enough = omega arith;
        within = holds.says.forced;
        which = inl refl;
        stands = subst (λ (l : List Command). Stands p files l) (ap (λ (k : ℕ). take k first) same ∙ take-take (forced_in before) (forced_in before) commands (omega arith)) b.stands;
      })
      here))

  -- at each moment some first steps of the restart are taken
  abort_works : {now : Disk} → IsDisk old → (old.tells_moments → OpensThrough (meaning_in p) p old now w (abort_course p w place).steps) → Works p old now (stage_of before w) line
  abort_works {now} lawful steps told =
      let s = stage_of before w in
      let course = abort_course p w place in
      weaker old now (OrAtStart old (IsSilent (ShowsSome (meaning_in p) p w course.steps) old.said)) (IsSilent (IsWorkedOn p s (line ∷ [])) old.said) (steps told) (λ files said here. ⊎_elim
      (λ was. record { silent = lawful.said_now told files said was; holds = worked_none p s (line ∷ []) files (images_show holds.shows told files said was) })
      (λ (b : IsSilent (ShowsSome (meaning_in p) p w course.steps) old.said files said). record { silent = b.silent; holds = record { its = course; due = inr (inr (inr (place, gives, refl))); shows = b.holds } })
      here)

  -- the group is gone
  abort_done : {now : Disk} {after : EngineView} → now.said ≡ old.said → after.broken ≡ false → after.group ≡ None → after.copied ≡ None → after.identities ≡ 0 → forced_in after ≡ length first
      → IsAfter (meaning_in p) p now after.parts w (abort_course p w place) → IsReopened (meaning_in p) w (run (meaning_in p) w (abort_course p w place).steps) → IsDone p old now before after w commands line ok
  abort_done {now} {after} quiet fine alone uncopied none all there again =
      let v = run (meaning_in p) w (abort_course p w place).steps in
      let shows = shown_alone fine alone there.shows in
      let same : forced_in after ≡ forced_in before = all ∙ count in
      record {
        added = [];
        replies = inr (Group abort_group, some_open holds.shows inside, asks, refl);
        quiet = quiet;
        world = v;
        shows = shows;
        becomes = (Group abort_group, asks, again.commands ∙ sym (stable_are holds.shows.sound w.group [] refl grouped) ∙ ap (λ (l : List Command). all_after (Group abort_group) (open_in w) l []) holds.commands_are);
        regroups = (Group abort_group, asks, none_open shows alone);
        rising = omega (arith, same);
        which = inl same;
        goes = inr (inr (place, gives, λ i. record { world = v; used = there.used i; identities = none i; copied = uncopied i }));
        is_of = tt;
      }

-- why it is not opened again
abort_cause : (old now : Disk) (cause : OpenErr) → (IsErrOf (opened (Err cause)) open_errors.DiskFault → Rises old.disk_faults now.disk_faults) → IsCaused (stop_of_opening cause) old now
abort_cause old now open_errors.DiskFault fault = fault refl
abort_cause old now open_errors.NotAStore fault = tt
abort_cause old now (open_errors.Damaged file at) fault = tt
abort_cause old now open_errors.Memory fault = tt

abort_undamaged : (cause : OpenErr) → IsUndamaged (stop_of_opening cause)
abort_undamaged open_errors.DiskFault = tt
abort_undamaged open_errors.NotAStore = tt
abort_undamaged (open_errors.Damaged file at) = tt
abort_undamaged open_errors.Memory = tt

-- The answer to it, or none.
module _ {old now : Disk} {before : EngineView} (lawful : IsDisk old) (inside : IsTrue (is_some before.group)) (lengths : SaysLength old before) (result : Result EngineView OpenErr) (opening : IsOpening all_meaning old now (opened result))
    (images : old.tells_moments → (p : Params) (commands : List Command) → Opens p old commands → LeavesOnly old now (OrAtStart old (Between p old None (length commands) (length commands) commands)))
    (steps : old.tells_moments → (p : Params) (used : ℕ) (w : World Command) → OpensOn (meaning_in p) p old used w → OpensThrough (meaning_in p) p old now w (abort_course p w used).steps) where
  pub abort_finds : (after : EngineView) → (after.broken ≡ false) × (after.group ≡ None) × (after.copied ≡ None) × (after.identities ≡ 0) × IsAttached now after → ((p : Params) (commands : List Command) → Opens p old commands → forced_in after ≡ length commands)
      → ((p : Params) (used : ℕ) (w : World Command) → OpensOn (meaning_in p) p old used w → IsAfter (meaning_in p) p now after.parts w (abort_course p w used)) → Reopens → FindsAnswer reply_of (IsLineOf (Some (Group abort_group))) old now before after (Ok answers.Done)
  abort_finds after ready all follows again = record {
    time = opening.time;
    quiet = opening.quiet;
    cause = tt;
    undamaged = λ told attached. tt;
    attached = λ attached. ready.4;
    unbroken = ready.0;
    images = λ p commands line asks holds. abort_images holds asks inside lengths lawful (λ told. images told p (take (forced_in before) commands) (opens holds asks inside lengths));
    works = λ p commands line asks holds. abort_works holds asks inside lengths lawful (λ told. steps told p (place holds asks inside lengths) holds.world (opens_on holds asks inside lengths));
    done = λ p commands line asks holds.
        let found = opens_on holds asks inside lengths in
        abort_done holds asks inside lengths (opening.quiet holds.shows.shows.told) ready.0 ready.1 ready.2 ready.3 (all p (take (forced_in before) commands) (opens holds asks inside lengths))
        (follows p (place holds asks inside lengths) holds.world found) (again p old (place holds asks inside lengths) holds.world found);
  }

  pub abort_fails : (after : EngineView) (cause : OpenErr) → result ≡ Err cause → FindsAnswer reply_of (IsLineOf (Some (Group abort_group))) old now before after (Err (stop_of_opening cause))
  abort_fails after cause is = record {
    time = opening.time;
    quiet = opening.quiet;
    cause = abort_cause old now cause (subst (λ (r : Result EngineView OpenErr). IsErrOf (opened r) open_errors.DiskFault → Rises old.disk_faults now.disk_faults) is opening.fault);
    undamaged = λ told attached. abort_undamaged cause;
    attached = λ attached. tt;
    unbroken = tt;
    images = λ p commands line asks holds. abort_images holds asks inside lengths lawful (λ told. images told p (take (forced_in before) commands) (opens holds asks inside lengths));
    works = λ p commands line asks holds. abort_works holds asks inside lengths lawful (λ told. steps told p (place holds asks inside lengths) holds.world (opens_on holds asks inside lengths));
    done = λ p commands line asks holds. tt;
  }
