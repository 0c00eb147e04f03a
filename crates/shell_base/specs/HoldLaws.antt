-- Engine and files that stand for commands, over calls that write nothing.
use Rattle.std.proofs.Common.{◌≡◌, ◌⊎◌, inl, ⊎_elim, ◌≤◌, List, ℕ, length, take, refl, sym, ap, ◌∙◌, subst, arith, Result, Ok, Err, OnOk}
use Rattle.disk_model.specs.Disk.{Files, Disk, IsDisk, Runs, Stays, Same, IsSettled, LeavesOnly, Rises}
use Rattle.disk_model.specs.Moments.{started, first_call}
use Rattle.disk_model.specs.declared.machine.FileNo.TheVariants.{Objects}
use Rattle.formats.specs.Image.{EndsAt}
use Rattle.formats.specs.declared.params.Params.{Params}
use Rattle.log_records.specs.RecordLaws.{keeps_stay}
use Rattle.op_codec.specs.AllOps.{all_meaning}
use Rattle.explain_core.specs.World.{World}
use Rattle.running_store.specs.Kept.Laws.{shown_attached, stays_log}
use Rattle.running_store.specs.Laid.{IsLaidOn, values_in}
use Rattle.running_store.specs.Parts.{ShowsVolatile}
use Rattle.store_engine.specs.Engine.{EngineView, InEachImage, forced_in, used_in}
use Rattle.store_engine.specs.Engine as of_engine
use Rattle.store_engine.specs.Grouping.{ungrouped}
use Rattle.shell_base.specs.Store.{IsAttached, Command, meaning_in, state_of, Stands, ShowsIn, Says, Holds, Between}

-- as the engine says it
abbrev pub in_engine : {p : Params} {d : Disk} {engine : EngineView} {commands : List Command} → Holds p d engine commands → of_engine.Holds all_meaning p d engine commands
in_engine holds = record { world = holds.world; shows = holds.shows; commands_are = holds.commands_are }

-- with what the engine says
abbrev pub holds_of : {p : Params} {d : Disk} {engine : EngineView} {commands : List Command} → (holds : of_engine.Holds all_meaning p d engine commands)
    → (of_engine.Holds all_meaning p d engine commands → Says p d engine commands) → Holds p d engine commands
holds_of holds says = record { world = holds.world; shows = holds.shows; commands_are = holds.commands_are; says = says holds }

-- of the same commands
abbrev pub holds_as : {p : Params} {d : Disk} {engine : EngineView} {commands others : List Command} → commands ≡ others → Holds p d engine commands → Holds p d engine others
holds_as {p} {d} {engine} same holds = record {
  world = holds.world;
  shows = holds.shows;
  commands_are = holds.commands_are ∙ same;
  says = subst (λ (l : List Command). Says p d engine l) same holds.says;
}

-- the machine reports its files
abbrev pub told_by : {p : Params} {d : Disk} {engine : EngineView} {commands : List Command} → Holds p d engine commands → d.tells_files
told_by holds = holds.shows.shows.told

-- what is true of each image stays so
pub each_stays : {d new : Disk} {says : List ℕ → List ℕ → Type 0} {P : Files → Type 0} → Runs Same says d new → d.tells_files → InEachImage d P → InEachImage new P
each_stays {d} {new} {says} {P} run told here = (
  subst P (sym (run.reads told)) here.0,
  λ told_new f s left.
      let told_old = run.time.moments_told.1 told_new in
      let from = run.crash told_old f s (run.ends.among d.clock new.clock f s run.time.later (omega arith) left) in
      subst P (sym from.0.2) (here.1 told_old from.0.0 d.said from.0.1),
)

-- an engine that is on its files stays on them while something is said
pub attached_said : {says : List ℕ → List ℕ → Type 0} (old new : Disk) (engine : EngineView) → Runs Same says old new → IsAttached old engine → IsAttached new engine
attached_said old new engine runs attached told_new =
    let told = runs.time.files_told.1 told_new in
    let is = attached told in
    (subst (λ (f : Files). IsLaidOn engine.parts.volatile.objects (f Objects)) (sym (runs.reads told)) is.0, stays_log (all_meaning engine.parts.log.bounds) old new engine.parts.log told runs is.1)

-- a settled machine stays so
pub still_settled : {d new : Disk} {says : List ℕ → List ℕ → Type 0} → Runs Same says d new → d.tells_files → IsSettled d → IsSettled new
still_settled {d} {new} {says} run told settled file told_new f s left =
    let told_old = run.time.moments_told.1 told_new in
    let from = run.crash told_old f s (run.ends.among d.clock new.clock f s run.time.later (omega arith) left) in
    ap (λ (g : Files). g file) from.0.2 ∙ settled file told_old from.0.0 d.said from.0.1 ∙ sym (ap (λ (g : Files). g file) (run.reads told))

-- the world that is shown stays
pub shows_stays : {p : Params} {d new : Disk} {engine : EngineView} {w : World Command} {says : List ℕ → List ℕ → Type 0} → Runs Same says d new → ShowsIn p d engine w → ShowsIn p new engine w
shows_stays {p} {d} {new} {engine} {w} run shows =
    let here = shows.shows in
    let log = here.log in
    record {
      unbroken = shows.unbroken;
      sound = shows.sound;
      group = shows.group;
      shows = record {
        told = run.time.files_told.0 here.told;
        running = here.running;
        bounds = here.bounds;
        store = subst (λ (f : Files). ShowsVolatile (meaning_in p) p (f Objects) engine.parts.volatile (ungrouped w)) (sym (run.reads here.told)) here.store;
        log = record {
          stable = log.stable;
          pending = log.pending;
          keeps = keeps_stay (meaning_in p) d new engine.parts.log log.stable log.pending here.told run log.keeps;
          base = log.base;
          commands_before = log.commands_before;
          forced = log.forced;
          waiting = log.waiting;
          tables = log.tables;
          pending_tables = log.pending_tables;
        };
      };
      no_checkpoint = shows.no_checkpoint;
    }

-- and so does what the images and the map say
pub says_stays : {p : Params} {d new : Disk} {engine : EngineView} {commands : List Command} {says : List ℕ → List ℕ → Type 0} → Runs Same says d new → d.tells_files → Says p d engine commands → Says p new engine commands
says_stays {p} {d} {new} {engine} {commands} run told here = record {
  accepted = here.accepted;
  forced = here.forced;
  images = each_stays {P = λ (f : Files). Stands p f (take (forced_in engine) commands)} run told here.images;
  map_is = λ x below. subst (λ (f : Files). values_in engine.parts.volatile.objects (f Objects) x ≡ state_of p commands x) (sym (run.reads told)) (here.map_is x below);
  none_waits = λ none. let all = here.none_waits none in (all.0, each_stays {P = λ (f : Files). EndsAt f (used_in engine)} run told all.1);
  group_waits = here.group_waits;
}

-- engine and files stand for the same commands after a call that writes no file
abbrev pub holds_stays : {p : Params} {d new : Disk} {engine : EngineView} {commands : List Command} {says : List ℕ → List ℕ → Type 0} → Runs Same says d new → Holds p d engine commands → Holds p new engine commands
holds_stays run holds = record {
  world = holds.world;
  shows = shows_stays run holds.shows;
  commands_are = holds.commands_are;
  says = says_stays run (told_by holds) holds.says;
}

-- where no call is made, each image stands for what is forced
pub holds_between : {p : Params} {d : Disk} {engine : EngineView} {commands : List Command} → IsDisk d → Holds p d engine commands → d.tells_moments → LeavesOnly d d (Between p d engine.group (forced_in engine) (length commands) commands)
holds_between {p} {d} {engine} {commands} lawful holds told = started d (Between p d engine.group (forced_in engine) (length commands) commands) (λ f s left. record {
  quiet = lawful.said_now told f s left;
  kept = forced_in engine;
  enough = omega arith;
  within = holds.says.forced;
  which = inl refl;
  stands = holds.says.images.1 told f s left;
})

-- calls that change nothing leave what is forced
pub stays_between : {p : Params} {d new : Disk} {engine : EngineView} {commands : List Command} → Stays d new → Holds p d engine commands → d.tells_moments → LeavesOnly d new (Between p d engine.group (forced_in engine) (length commands) commands)
stays_between {p} {d} {new} {engine} {commands} run holds told = first_call d new (Between p d engine.group (forced_in engine) (length commands) commands) told run.time (λ f s left.
    let from = run.crash told f s left in
    record {
      quiet = from.1;
      kept = forced_in engine;
      enough = omega arith;
      within = holds.says.forced;
      which = inl refl;
      stands = subst (λ (x : Files). Stands p x (take (forced_in engine) commands)) (sym from.0.2) (holds.says.images.1 told from.0.0 d.said from.0.1);
    })

-- a count that rose in a part of a call rose in the call
pub rises_within : (a b c d : ℕ) → a ≤ b → c ≤ d → Rises b c → Rises a d
rises_within a b c d before after rises small = omega (arith, before, after, rises (omega (arith, small, after)))

-- after a call that did not fail, by what the engine then says
abbrev pub holds_after : {p : Params} {d : Disk} {before engine : EngineView} {commands : List Command} → ⊥ ⊎ of_engine.Kept all_meaning p before d engine commands
    → (of_engine.Holds all_meaning p d engine commands → Says p d engine commands) → Holds p d engine commands
holds_after {p} {d} {before} {engine} {commands} kept says = holds_of (⊎_elim (λ failed. absurd failed) (λ (k : of_engine.Kept all_meaning p before d engine commands). k.holds) kept) says

-- what holds whatever is answered holds where all is well
pub always : {T E P : Type 0} (result : Result T E) → P → OnOk result P
always (Ok value) here = here
always (Err e) here = tt

-- an engine that stands for commands is on its files
pub attached_of : {p : Params} {d : Disk} {engine : EngineView} {commands : List Command} → Holds p d engine commands → IsAttached d engine
attached_of {p} {d} {engine} holds = shown_attached all_meaning p d engine.parts (ungrouped holds.world) holds.shows.shows
