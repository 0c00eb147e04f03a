-- What the engine and its files stand for, and what its calls make of them.
use Rattle.std.specs.Prelude.{◌≡◌, ◌⊎◌, ◌↔◌, ℕ, zero, suc, ◌+◌, ◌-◌, ◌^◌, ◌≤◌, ◌<◌, ◌==◌, ◌&&◌, ⊤, Bool, true, false, List, length, take, [], ◌∷◌, Option, Some, None, IsSome, IfSome, Result, Ok, Err}
use Rattle.std.specs.Option.{is_some}
use Rattle.disk_model.specs.Disk.{Files, Disk, LeavesOnly, Passes, Rises, Stays}
use Rattle.disk_model.specs.declared.machine.FileNo.{FileNo}
use Rattle.disk_model.specs.declared.machine.FileNo.TheVariants.{Objects}
use Rattle.oper_core.specs.Meaning.{Meaning, IsInGrammar}
use Rattle.oper_core.specs.declared.bounds.Bounds.{Bounds}
use Rattle.formats.specs.Objects.{BeginsStore}
use Rattle.formats.specs.Image.{EndsAt, NextIs}
use Rattle.formats.specs.InForce.{HasHeader, IsInForce}
use Rattle.formats.specs.Log.{Header}
use Rattle.formats.specs.declared.params.Params.{Params}
use Rattle.log_blocks.specs.Creating.{IsNewLog}
use Rattle.log_blocks.specs.LogView.{used_of}
use Rattle.stable_objects.specs.Making.{IsNewFile}
use Rattle.stable_objects.specs.declared.open_err.OpenErr.{OpenErr}
use Rattle.dirty_cache.specs.Contents.{held}
use Rattle.install_order.specs.Computed.{least_below}
use Rattle.explain_core.specs.History.{commands_of}
use Rattle.explain_core.specs.Sound.{IsSound}
use Rattle.explain_core.specs.Taken.{IsAfterSome}
use Rattle.explain_core.specs.Turns.{count_below, dirty_in}
use Rattle.explain_core.specs.World.{World, run, end_of, node_named}
use Rattle.standing.specs.Moments.{TakesSome}
use Rattle.running_store.specs.Calls.{IsFailed}
use Rattle.running_store.specs.Courses.{Course, Stop}
use Rattle.running_store.specs.Courses.Stop.{Through, Full, At_end, Worn}
use Rattle.running_store.specs.Kept as of_parts
use Rattle.running_store.specs.Laid.{values_in}
use Rattle.running_store.specs.Parts.{Parts, Shows}
use Rattle.running_store.specs.StoreView.{StoreView, next_of, store_params}
use Rattle.running_store.specs.Taking.{Ending}
use Rattle.running_store.specs.Taking.Ending.{Done, Stopped, Short, Failed}
use Rattle.execution.specs.Done as of_command
use Rattle.execution.specs.Stops.{StopsCommand}
use Rattle.execution.specs.declared.exec_err.ExecErr.{ExecErr}
use Rattle.execution.specs.declared.exec_err.ExecErr.TheVariants.{Refused, LogFull, LsnEnd, DiskFault, Damaged, Memory}
use Rattle.store_engine.specs.Grouping.{ungrouped}
use Rattle.store_engine.specs.Store.{meaning_in, state_of, refusal_after, record_length, Stands}
use Rattle.store_engine.specs.declared.stat.Stat.{Stat}

-- an engine, as contracts see it
pub record EngineView : Type 0 where
  -- its log, its objects, and the entries of its write graph
  pub parts : Parts
  -- so many identity writes were logged since the restart
  pub identities : ℕ
  -- the LSN at which the open group began
  pub group : Option ℕ
  -- so many objects are copied, while the slots are copied
  pub copied : Option ℕ
  -- a call was answered that the disk failed
  pub broken : Bool

-- the engine of this store, whose open group began with this LSN, and of whose objects so many are copied
abbrev pub engine_of : StoreView → Option ℕ → Option ℕ → EngineView
engine_of store group copied = record { parts = store.parts; identities = store.identities; group = group; copied = copied; broken = store.broken }

-- the open group began up to the next LSN, and no more objects are copied than there are
pub record AreWithin (store : StoreView) (group copied : Option ℕ) : Type 0 where
  pub begun : store.broken ≡ false → IfSome group (λ n. n ≤ next_of store)
  pub few : IfSome copied (λ n. n ≤ (store_params store).objects)

-- so many objects are copied, none where nothing is
abbrev pub so_far : Option ℕ → ℕ
so_far None = 0
so_far (Some copied) = copied

-- the numbers of its store
abbrev pub params_of : EngineView → Params
params_of engine = engine.parts.volatile.objects.slots.params

-- the length of its log, what waits for a force counted
abbrev pub used_in : EngineView → ℕ
used_in engine = used_of engine.parts.log.log

-- so many commands were accepted since the store was made, and so many of them are stable
abbrev pub accepted_in : EngineView → ℕ
accepted_in engine = engine.parts.log.accepted

abbrev pub forced_in : EngineView → ℕ
forced_in engine = engine.parts.log.forced

-- a group that began with this LSN has so many commands, where the next LSN is this one
abbrev pub commands_since : ℕ → Option ℕ → Option ℕ
commands_since next None = None
commands_since next (Some begun) = Some (next - begun)

-- so many commands has the open group
abbrev pub group_size : EngineView → Option ℕ
group_size engine = commands_since engine.parts.log.next engine.group

-- so many bytes does a command's record need for which the log has no room: within a group that has commands already its
-- own, else the head of a block too
abbrev pub needed_in : Option ℕ → ℕ → ℕ
needed_in None n = n + 5
needed_in (Some zero) n = n + 5
needed_in (Some (suc k)) n = n

-- an object is cached
abbrev pub IsCached : EngineView → ℕ → Type 0
IsCached engine x = IsSome (held engine.parts.volatile.objects.cache x)

-- this is true of the files and of whatever a crash now leaves of them
abbrev pub InEachImage : Disk → (Files → Type 0) → Type 0
InEachImage d P = P d.reads × (d.tells_moments → (files : Files) (said : List ℕ) → d.left_since d.clock files said → P files)

-- what an opening answers, without the counts of the engine
abbrev pub opened : Result EngineView OpenErr → Result Parts OpenErr
opened (Ok engine) = Ok engine.parts
opened (Err cause) = Err cause

-- so many identity writes are logged in a call that logs nothing else with an LSN
abbrev pub logged_since : EngineView → EngineView → ℕ
logged_since before after = after.parts.log.next - before.parts.log.next

-- the epoch of the log in force is this one
pub record EpochIs (files : Files) (epoch : ℕ) : Type 0 where
  pub active : FileNo
  pub header : Header
  pub in_force : IsInForce active header.epoch files
  pub has : HasHeader header (files active)
  pub here : epoch ≡ header.epoch

module _ {O : Type 0} (meaning : Bounds → Meaning O) where
  -- where the machine reports its files, the engine's objects are laid on the objects file, and its log, which is another
  -- one, keeps some records
  abbrev pub IsAttached : Disk → EngineView → Type 0
  IsAttached d engine = of_parts.IsAttached meaning d engine.parts

  -- What holds on every machine of each call that may change the log, which may have `most` bytes: time passes, nothing is
  -- said, the store's numbers stay, the open group, and how many objects are copied; unless it is answered that the disk
  -- failed, the engine stays attached; so many identity writes are logged; a call that was stopped says the LSNs of the log
  -- that it leaves; the engine is broken exactly where it is answered that the disk failed, and then the disk counted that.
  -- (The count may rise beside another answer: where a force succeeds, zeros may have been refused.)
  pub record IsEngineCall (most : ℕ) (old new : Disk) (before after : EngineView) (logged : ℕ) (ending : Ending) : Type 0 where
    pub time : Passes old new
    pub quiet : old.tells_files → new.said ≡ old.said
    pub params : params_of after ≡ params_of before
    pub group : after.group ≡ before.group
    pub copied : after.copied ≡ before.copied
    pub attached : IsFailed ending ⊎ (IsAttached old before → IsAttached new after)
    pub identities : after.identities ≡ before.identities + logged
    pub stopped : (stop : Stop) → ending ≡ Stopped stop → StopsCommand (is_some before.group) most after.parts.log stop
    pub broken : (after.broken ≡ true) ↔ IsFailed ending
    pub fault : IsFailed ending → Rises old.disk_faults new.disk_faults

  -- What holds on every machine of a fetch: the files, the log, the counts, the open group and how many objects are copied
  -- stay, and nothing is said; the engine stays attached; it is broken exactly where it is answered that the disk failed.
  pub record IsEngineFetch (old new : Disk) (before after : EngineView) (failed : Type 0) : Type 0 where
    pub kept : Stays old new
    pub log : after.parts.log ≡ before.parts.log
    pub identities : after.identities ≡ before.identities
    pub group : after.group ≡ before.group
    pub copied : after.copied ≡ before.copied
    pub attached : IsAttached old before → IsAttached new after
    pub broken : (after.broken ≡ true) ↔ failed

  -- what holds on every machine of a command
  abbrev pub IsOutcome : Disk → Disk → EngineView → Parts → O → Result ℕ ExecErr → Type 0
  IsOutcome old new before after op answer = of_command.IsOutcome meaning (is_some before.group) old new before.parts after op answer

  -- Engine and files show the world, which is sound. The same group is open in both, or none; what the parts show is the
  -- world but for that. Within a group no checkpoint waits, since all that waited was forced as it began.
  pub record ShowsIn (p : Params) (d : Disk) (engine : EngineView) (w : World O) : Type 0 where
    pub unbroken : engine.broken ≡ false
    pub sound : IsSound (meaning_in meaning p) w
    pub group : w.group ≡ engine.group
    pub shows : Shows (meaning_in meaning p) p d engine.parts (ungrouped w)
    pub no_checkpoint : IfSome engine.group (λ begun. w.pending ≡ [])

  -- What holds on every machine of a call that only reads: the files and the engine stay as they are, but that it is broken
  -- exactly where it is answered that the disk failed. Unless it is, engine and files show the world that they showed.
  pub record IsEngineRead (old new : Disk) (before after : EngineView) (failed : Type 0) : Type 0 where
    pub kept : Stays old new
    pub engine : after ≡ record before { broken = after.broken }
    pub broken : (after.broken ≡ true) ↔ failed
    pub shows : (p : Params) (w : World O) → ShowsIn p old before w → failed ⊎ ShowsIn p new after w

  -- engine and files show the world after the whole course, and the log is as long as the course says
  pub record IsAfterIn (p : Params) (d : Disk) (engine : EngineView) (w : World O) (course : Course O) : Type 0 where
    pub shows : ShowsIn p d engine (run (meaning_in meaning p) w course.steps)
    pub used : used_in engine ≡ course.used

  -- Done, a call took the whole course, which nothing stops; stopped, it took the whole course, which that stops; short of
  -- memory, it took some first steps of it; after a fault nothing is said.
  abbrev pub FollowsIn : Params → Disk → EngineView → World O → Course O → Ending → Type 0
  FollowsIn p d engine w course Done = (course.stop ≡ Through) × IsAfterIn p d engine w course
  FollowsIn p d engine w course (Stopped stop) = (course.stop ≡ stop) × IsAfterIn p d engine w course
  FollowsIn p d engine w course Short = IsAfterSome (meaning_in meaning p) (λ v. ShowsIn p d engine v) w course.steps
  FollowsIn p d engine w course Failed = ⊤

  -- The call takes its course, a function of the world that engine and files show as it begins, the open group among it; a
  -- crash at any moment of it leaves the world after some first steps of the course.
  pub record TakesIn (old new : Disk) (before after : EngineView) (course : Meaning O → World O → ℕ → Course O) (ending : Ending) : Type 0 where
    pub follows : (p : Params) (w : World O) → ShowsIn p old before w → FollowsIn p new after w (course (meaning_in meaning p) w (used_in before)) ending
    pub steps : old.tells_moments → (p : Params) (w : World O) → ShowsIn p old before w
        → TakesSome (meaning_in meaning p) p old new w (course (meaning_in meaning p) w (used_in before)).steps

  -- Engine and files stand for the commands: they show a sound world whose history has these commands.
  pub record Holds (p : Params) (d : Disk) (engine : EngineView) (commands : List O) : Type 0 where
    pub world : World O
    pub shows : ShowsIn p d engine world
    pub commands_are : commands_of world.history ≡ commands

  -- the cache, laid over the slots, is the state after the commands
  abbrev pub IsMapOf : Params → Disk → EngineView → List O → Type 0
  IsMapOf p d engine commands = (x : ℕ) → x < p.objects → values_in engine.parts.volatile.objects (d.reads Objects) x ≡ state_of meaning p commands x

  -- What the images of a moment and the map say, where engine and files stand for the commands: the images stand for those
  -- that are forced, the map is that of all. Where nothing waits all are forced, and the log in the files is as long as the
  -- engine says.
  pub record Says (p : Params) (d : Disk) (engine : EngineView) (commands : List O) : Type 0 where
    pub accepted : accepted_in engine ≡ length commands
    pub forced : forced_in engine ≤ length commands
    pub images : InEachImage d (λ files. Stands meaning p files (take (forced_in engine) commands))
    pub map_is : IsMapOf p d engine commands
    pub none_waits : engine.parts.log.log.pending ≡ [] → (forced_in engine ≡ length commands) × InEachImage d (λ files. EndsAt files (used_in engine))
    -- the commands of the open group are those that are not forced
    pub group_waits : IfSome (group_size engine) (λ n. forced_in engine + n ≡ length commands)

  -- An image at a moment of calls on an engine that came to stand for the commands, of which so many, `start`, were there at
  -- first: nothing more is said, and just those are there that were forced, or, where no group was open, at least those of
  -- the start. So a moment splits no group: neither the open one nor a closed one that waits.
  pub record Between (p : Params) (old : Disk) (group : Option ℕ) (forced start : ℕ) (commands : List O) (files : Files) (said : List ℕ) : Type 0 where
    pub quiet : said ≡ old.said
    pub kept : ℕ
    pub enough : forced ≤ kept
    pub within : kept ≤ length commands
    pub which : (kept ≡ forced) ⊎ ((group ≡ None) × (start ≤ kept))
    pub stands : Stands meaning p files (take kept commands)

  -- what engine and files stand for after calls: no fewer are forced; as many, or, where no group was open, at least all that
  -- were there at first
  pub record Kept (p : Params) (before : EngineView) (d : Disk) (engine : EngineView) (commands : List O) : Type 0 where
    pub holds : Holds p d engine commands
    pub rising : forced_in before ≤ forced_in engine
    pub which : (forced_in engine ≡ forced_in before) ⊎ ((before.group ≡ None) × (accepted_in before ≤ forced_in engine))

  -- The call adds no command: engine and files stand for the same ones after it, unless the disk failed, no fewer are
  -- forced, and at each moment each image stands for those that were forced, or for all.
  pub record KeepsCommands (old new : Disk) (before after : EngineView) (ending : Ending) : Type 0 where
    pub holds : (p : Params) (commands : List O) → Holds p old before commands → IsFailed ending ⊎ Kept p before new after commands
    pub images : old.tells_moments → (p : Params) (commands : List O) → Holds p old before commands → LeavesOnly old new (Between p old before.group (forced_in before) (accepted_in before) commands)

  -- What an `exec` says of the map: it is done where nothing refuses it, and is the next command; it is refused so; it is
  -- stopped only where nothing refuses it; it fails with the disk only so where no group is open, or where it reads objects.
  -- No file is damaged. `size` is the number of commands of the open group, if there is one.
  abbrev pub HasCause : Option ℕ → Params → List O → O → Result ℕ ExecErr → Type 0
  HasCause size p commands op (Ok n) = (refusal_after meaning p commands op ≡ None) × (length commands + 1 < 2 ^ 62) × (n ≡ length commands + 1)
  HasCause size p commands op (Err (Refused refusal)) = refusal_after meaning p commands op ≡ Some refusal
  HasCause size p commands op (Err (LogFull used need limit)) = (refusal_after meaning p commands op ≡ None) × (need ≡ needed_in size (record_length meaning p op)) × (limit ≡ p.limit)
  HasCause size p commands op (Err (LsnEnd lsn)) = refusal_after meaning p commands op ≡ None
  HasCause size p commands op (Err DiskFault) = (IsInGrammar (meaning_in meaning p) op × (0 < length ((meaning_in meaning p).reads op))) ⊎ ((size ≡ None) × (refusal_after meaning p commands op ≡ None))
  HasCause size p commands op (Err (Damaged file place)) = ⊥
  HasCause size p commands op (Err Memory) = ⊤

  -- what the files say of a stop
  abbrev pub SaysStop : Params → Files → Stop → Type 0
  SaysStop p files Through = ⊤
  SaysStop p files (Full used need limit) = EndsAt files used
  SaysStop p files (At_end lsn) = NextIs (meaning_in meaning p) files lsn
  SaysStop p files (Worn epoch) = EpochIs files epoch

  -- so many bytes do the records of commands have
  abbrev pub records_of : Params → List O → ℕ
  records_of p [] = 0
  records_of p (op ∷ ops) = record_length meaning p op + records_of p ops

  -- so many bytes longer do the commands of an open group, which wait, make the log: one block has them all
  abbrev pub group_bytes : Params → List O → ℕ
  group_bytes p [] = 0
  group_bytes p (op ∷ ops) = 5 + records_of p (op ∷ ops)

  -- what the files say of a stop within a group that has these commands, of which the files have none
  abbrev pub SaysStopWithin : Params → List O → Files → Stop → Type 0
  SaysStopWithin p ops files Through = ⊤
  SaysStopWithin p ops files (Full used need limit) = (place : ℕ) × EndsAt files place × (used ≡ place + group_bytes p ops)
  SaysStopWithin p ops files (At_end lsn) = (next : ℕ) × NextIs (meaning_in meaning p) files next × (lsn ≡ next + length ops)
  SaysStopWithin p ops files (Worn epoch) = ⊤

  -- n is in the graph, and the least of its node
  abbrev pub is_name : Params → World O → ℕ → Bool
  is_name p w n = w.graph n && (least_below (end_of w) (node_named (meaning_in meaning p) w n) == n)

  -- the numbers that `stat` answers of the graph and the cache of a world
  pub record IsStat (p : Params) (w : World O) (stat : Stat) : Type 0 where
    pub nodes : stat.nodes ≡ count_below (end_of w) (is_name p w)
    pub dirty : stat.dirty ≡ dirty_in (meaning_in meaning p) w
    pub uninstalled : stat.uninstalled ≡ count_below (end_of w) w.graph

  -- the machine reports its files, and what reads give stands for the commands
  pub record Opens (p : Params) (d : Disk) (commands : List O) : Type 0 where
    pub told : d.tells_files
    pub stands : Stands meaning p d.reads commands

  -- The files are those of a new store, byte by byte but for what is free: no object has been written, and the log, in log A
  -- and of the first epoch, has no block. So they stand for no commands.
  pub record IsNewStore (p : Params) (files : Files) : Type 0 where
    pub objects : IsNewFile p (files Objects)
    pub log : IsNewLog files
    pub stands : Stands meaning p files []

  -- no store is there, or one without commands
  abbrev pub IsNew : Params → Files → Type 0
  IsNew p files = (BeginsStore (files Objects) → ⊥) ⊎ Stands meaning p files []
