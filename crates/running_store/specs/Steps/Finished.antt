-- Parts that show a world show, after a force and a node's last steps, the world after these.
use Rattle.std.proofs.Common.{◌≡◌, sym, subst, ℕ, Bool, List, [], ◌∷◌, ◌++◌}
use Rattle.disk_model.specs.Disk.{Disk, OthersStay, IsSettled, Runs, Same}
use Rattle.disk_model.specs.declared.machine.FileNo.TheVariants.{Objects}
use Rattle.oper_core.specs.Meaning.{Meaning}
use Rattle.formats.specs.declared.params.Params.{Params}
use Rattle.log_records.specs.RecordLog.{RecordLogView}
use Rattle.explain_core.specs.RunLaws.{run-append, allowed-front}
use Rattle.explain_core.specs.World.{World, step, run, IsLive, AreAllowed}
use Rattle.explain_core.specs.World.Step.{Slot_gate, Removal}
use Rattle.standing.specs.Moments.{TakesSome, moments_longer, moments_twice}
use Rattle.running_store.specs.Courses.{force_steps, removal_steps}
use Rattle.running_store.specs.Parts.{Volatile, Parts, Shows, ShowsLog, VolatileShows}
use Rattle.running_store.specs.Parts.Stored.{keeps_beside, log_flushed, log_removed, run_one, run_two}

-- calls that say nothing, whatever they do to the files
abbrev pub IsQuiet : Disk → Disk → Type 0
IsQuiet old new = Runs (λ before after. Unit {0}) Same old new

module _ {O : Type 0} (m : Meaning O) where
  -- a log shows the same world where the objects alone change
  pub log_stays : (p : Params) (old new : Disk) (log : RecordLogView) (w : World O) → OthersStay Objects old.reads new.reads → IsSettled new → ShowsLog m old log w → ShowsLog m new log w
  log_stays p old new log w others settled shows = record {
    stable = shows.stable;
    pending = shows.pending;
    keeps = keeps_beside m p old new log shows.stable shows.pending others settled shows.keeps;
    base = shows.base;
    commands_before = shows.commands_before;
    forced = shows.forced;
    waiting = shows.waiting;
    tables = shows.tables;
    pending_tables = shows.pending_tables;
  }

  live_finished : (w : World O) (node : ℕ → Bool) (work : List ℕ) → IsLive w → IsLive (run m w (removal_steps m node work))
  unfolding run step
  live_finished w node [] live = live
  live_finished w node (x ∷ work) live = live

  log_finished : (p : Params) (old new : Disk) (log : RecordLogView) (w : World O) (node : ℕ → Bool) (work : List ℕ) → OthersStay Objects old.reads new.reads → IsSettled new → ShowsLog m old log w
      → ShowsLog m new log (run m w (removal_steps m node work))
  log_finished p old new log w node [] others settled shows =
      subst (λ (v : World O). ShowsLog m new log v) (sym (run_one m w (Removal node))) (log_removed m p new log w node (log_stays p old new log w others settled shows))
  log_finished p old new log w node (x ∷ work) others settled shows =
      subst (λ (v : World O). ShowsLog m new log v) (sym (run_two m w (Slot_gate node x) (Removal node)))
      (log_removed m p new log (step m w (Slot_gate node x)) node (log_flushed m p old new log w node x others settled shows))

  -- with a log beside them the parts show the world after a node's last steps
  pub finished_shows : (p : Params) (old new : Disk) (it : Parts) (after : Volatile) (w : World O) (node : ℕ → Bool) (work : List ℕ) → Shows m p old it w → OthersStay Objects old.reads new.reads
      → VolatileShows m p new after (run m w (removal_steps m node work)) → Shows m p new (record { log = it.log; volatile = after }) (run m w (removal_steps m node work))
  finished_shows p old new it after w node work shows others done = record {
    told = done.told;
    running = record { sound = done.sound; live = live_finished w node work shows.running.live; alone = done.alone };
    bounds = shows.bounds;
    store = done.store;
    log = log_finished p old new it.log w node work others done.settled shows.log;
  }

  module _ (p : Params) (w : World O) (node : ℕ → Bool) (work : List ℕ) where
    abbrev forced : World O
    forced = run m w (force_steps m w)

    -- the node's last steps may be taken after the force
    pub finish_allowed : AreAllowed m w (force_steps m w ++ removal_steps m node work) → AreAllowed m forced (removal_steps m node work)
    finish_allowed allowed = (allowed-front m w (force_steps m w) (removal_steps m node work) allowed).1

    -- within a force a crash leaves the world after some first of all steps
    pub forcing_moments : (old new : Disk) → TakesSome m p old new w (force_steps m w) → TakesSome m p old new w (force_steps m w ++ removal_steps m node work)
    forcing_moments old new first = moments_longer m p old new w (force_steps m w) (removal_steps m node work) first

    pub finishing_moments : (old mid new : Disk) → mid.said ≡ old.said → TakesSome m p old mid w (force_steps m w) → TakesSome m p mid new forced (removal_steps m node work)
        → TakesSome m p old new w (force_steps m w ++ removal_steps m node work)
    finishing_moments old mid new quiet first second = moments_twice m p old mid new w (force_steps m w) (removal_steps m node work) quiet first second

    pub finish_shows : (d : Disk) (it : Parts) → Shows m p d it (run m forced (removal_steps m node work)) → Shows m p d it (run m w (force_steps m w ++ removal_steps m node work))
    finish_shows d it done = subst (λ (v : World O). Shows m p d it v) (sym (run-append m w (force_steps m w) (removal_steps m node work))) done
