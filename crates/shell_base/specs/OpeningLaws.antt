-- A call from before the store was opened.
use Rattle.std.proofs.Common.{◌≡◌, ◌≢◌, refl, List, length, None, subst, inl, inr, sym, arith}
use Rattle.std.proofs.lemmas.List.{take_all}
use Rattle.disk_model.specs.Disk.{Disk, LeavesOnly, Files, IsSettled}
use Rattle.formats.specs.declared.params.Params.{Params}
use Rattle.op_codec.specs.AllOps.{all_meaning}
use Rattle.restart.specs.Starts.{OrAtStart, or_weaker}
use Rattle.restart.specs.WellFormed.{opens_gate}
use Rattle.std.proofs.Math.Path.{fun_ext}
use Rattle.disk_model.specs.declared.machine.FileNo.{FileNo}
use Rattle.disk_model.specs.Moments.{runs_on, weaker}
use Rattle.standing.specs.Standing.{FilesShow}
use Rattle.running_store.specs.Steps.Forced.{files_shown}
use Rattle.store_engine.specs.Engine.{EngineView, InEachImage, forced_in}
use Rattle.store_engine.specs.Grouping.{ungrouped}
use Rattle.shell_base.specs.Store.{Command, IsWellFormed, Stands, Opens, Between, meaning_in, Holds}
use Rattle.shell_base.specs.Again.{IsStartRefused, StandsStill}
use Rattle.shell_base.specs.Judging.{JudgesFiles}
use Rattle.shell_base.specs.Open.{OpensFiles, IsOpen}
use Rattle.shell_base.specs.Status.{IsOfUnopened, IsOfOpened}
use Rattle.shell_base.specs.declared.budget.Budget.{Budget}
use Rattle.shell_base.specs.declared.status.Status.{Status}
use Rattle.shell_base.specs.declared.status.Status.TheVariants.{NotAStore, Damaged, DiskFault as DiskFailed, SayFault as OutputFailed, Memory as OutOfMemory, RestartMemory}
use Rattle.shell_base.specs.First.{OpeningMoment, TableMoment, Stage, IsFirst}
use Rattle.shell_base.specs.Keeps.{KeepsFiles}
use Rattle.shell_base.specs.HoldLaws.{told_by}
use Rattle.shell_base.specs.KeepLaws.{settled_each}

-- at each moment while the store is opened each image is one that a crash at the start could leave, or stands for the
-- commands
abbrev pub OpensSo : Params → Disk → Disk → List Command → Type 0
OpensSo p start mid commands = start.tells_moments → LeavesOnly start mid (OrAtStart start (Between p start None (length commands) (length commands) commands))

-- where no store was opened in files that stand for commands, the disk has failed or memory
pub opening_failed : (status : Status) → IsOfUnopened status → (status ≢ NotAStore) × (status ≢ Damaged) → (status ≢ OutputFailed) × (status ≢ OutOfMemory) → status ≢ DiskFailed → status ≢ RestartMemory → ⊥
opening_failed NotAStore of store output disk memory = store.0 refl
opening_failed Damaged of store output disk memory = store.1 refl
opening_failed DiskFailed of store output disk memory = disk refl
opening_failed OutputFailed of store output disk memory = output.0 refl
opening_failed OutOfMemory of store output disk memory = output.1 refl
opening_failed RestartMemory of store output disk memory = memory refl
opening_failed status of store output disk memory = of

-- where a store was not opened the files stand for the commands as they did
pub stands_still : (p : Params) (commands : List Command) {old mid : Disk} → (old.tells_moments → LeavesOnly old mid (OrAtStart old (Between p old None (length commands) (length commands) commands))) → mid.said ≡ old.said
    → Opens p mid commands → old.tells_moments → StandsStill p commands old mid
stands_still p commands {old} {mid} opening quiet again told = record {
  opens = again;
  quiet = quiet;
  images = or_weaker old mid (Between p old None (length commands) (length commands) commands) (λ files said. Stands p files commands × (said ≡ old.said)) (opening told)
      (λ f s b. let enough = b.enough in (subst (λ (l : List Command). Stands p f l) (take_all b.kept commands enough) b.stands, b.quiet));
}

pub start_refused : {budget : Budget} (p : Params) (commands : List Command) {old mid : Disk} → OpensFiles budget p commands old mid → old.tells_moments → IsStartRefused budget p commands old mid
start_refused p commands files told = record { still = stands_still p commands files.images files.quiet (files.again told) told; steps = files.steps told }

-- a call on a store that was opened judges its files so
pub judged_open : {old new : Disk} (status : Status) → IsWellFormed old.reads → (status ≢ NotAStore) × (status ≢ Damaged) → IsOfOpened status → JudgesFiles old new status
judged_open status image store fine = record {
  no_store = λ is. absurd (store.0 is);
  damaged = λ is. absurd (store.1 is);
  store = λ image. store;
  opened = λ of. image;
  keeps = λ broken. absurd (broken image);
  memory = λ is. opens_gate all_meaning image;
  silent = λ broken is. absurd (broken image);
  unopened = λ is. absurd (subst IsOfOpened is fine);
}

-- an open store stands for the commands, all forced, and so do files that are kept from then on
pub dump_stands : (p : Params) (mid new : Disk) (engine : EngineView) (commands : List Command) → Holds p mid engine commands → forced_in engine ≡ length commands → KeepsFiles mid new → IsSettled new
    → InEachImage new (λ files. Stands p files commands)
dump_stands p mid new engine commands h all keeps settled =
    let here : Stands p mid.reads commands = subst (λ (l : List Command). Stands p mid.reads l) (take_all (forced_in engine) commands (omega (arith, all))) h.says.images.0 in
    settled_each new (λ files. Stands p files commands) settled (subst (λ (f : Files). Stands p f commands) (sym (keeps.reads (told_by h))) here)

-- What is done at each moment: the restart's course, and nothing after it.
module _ {budget : Budget} (p : Params) (old mid new : Disk) (commands : List Command) (engine : EngineView) (opened : IsOpen budget p commands old mid engine) (files : OpensFiles budget p commands old mid) (keeps : KeepsFiles mid new) (first : Stage) (is : IsFirst budget p commands old first) where
  opened_shows : FilesShow (meaning_in p) p mid.reads first.world
  opened_shows =
      let shown = opened.shows first is in
      subst (λ (s : Stage). FilesShow (meaning_in p) p mid.reads s.world) (sym shown.1) (files_shown (meaning_in p) p mid engine.parts (ungrouped shown.0.world) shown.0.shows.shows)

  pub dump_shows : mid.tells_files → FilesShow (meaning_in p) p new.reads first.world
  dump_shows told = subst (λ (f : Files). FilesShow (meaning_in p) p f first.world) (sym (keeps.reads told)) opened_shows

  pub dump_steps : IsSettled mid → (old.tells_moments → mid.tells_moments) → old.tells_moments → LeavesOnly old new (OrAtStart old (TableMoment budget p commands old first is))
  dump_steps settled telling told =
      runs_on old mid new (OrAtStart old (TableMoment budget p commands old first is))
      (or_weaker old mid (OpeningMoment budget p commands old first is) (TableMoment budget p commands old first is) (files.steps told first is) (λ f s here. inl here))
      (weaker mid new (λ f s. mid.left_since mid.clock f mid.said) (OrAtStart old (TableMoment budget p commands old first is)) (keeps.images (telling told))
      (λ f s left. inr (inr (subst (λ (x : Files). FilesShow (meaning_in p) p x first.world) (fun_ext (λ (n : FileNo). sym (settled n (telling told) f mid.said left))) opened_shows))))
