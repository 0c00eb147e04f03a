-- What the calls on a store in use say beside what the engine's say.
use Rattle.std.specs.Prelude.{◌≡◌, ◌≤◌, ◌+◌, ◌-◌, ◌^◌, ℕ, List, Option, None, Some, Result, Ok, Err, length, min, take}
use Rattle.disk_model.specs.Disk.{Disk, Files}
use Rattle.formats.specs.declared.params.Params.{Params}
use Rattle.dirty_cache.specs.Contents.{AreDirty}
use Rattle.write_graph.specs.Graph.{IsCount, NamesNode}
use Rattle.op_codec.specs.AllOps.{AllOps, all_meaning}
use Rattle.explain_core.specs.History.{Member, commands_of}
use Rattle.explain_core.specs.World.{World}
use Rattle.running_store.specs.Parts.{Parts}
use Rattle.stable_objects.specs.Reading.{IsNoDamage}
use Rattle.stable_objects.specs.declared.open_err.OpenErr.{OpenErr}
use Rattle.store_engine.specs.Engine.{EngineView, IsStat, ShowsIn, accepted_in, forced_in, params_of, used_in}
use Rattle.store_engine.specs.Store.{Stands, meaning_in}
use Rattle.store_engine.specs.declared.stat.Stat.{Stat}
use Rattle.store_engine.specs.declared.work_err.WorkErr.{WorkErr}
use Rattle.store_engine.specs.declared.work_err.WorkErr.TheVariants.{LogFull}
use Rattle.backup_copy.specs.Target.{IsBackup}
use Rattle.embed.specs.declared.store.Store.{Store}

-- the disk failed in an earlier call: it is answered so again, and nothing is done
pub record IsStillBroken {M T E : Type 0} (fault : E) (old new : Store M) (result : Result T E) : Type 0 where
  pub answer : result ≡ Err fault
  pub same : new ≡ old

-- what a call answers that copies an object's value into some room, where the store has so many objects: how long the value is,
-- with as much of its front as there is room for; or that there is no such object
abbrev pub GivesValue : ℕ → ℕ → List ℕ → List ℕ → List ℕ → Option ℕ → Type 0
GivesValue objects object value before after None = objects ≤ object
GivesValue objects object value before after (Some n) = (n ≡ length value) × (take (min n (length before)) after ≡ take (length before) value)

-- What an engine reports of itself: the numbers of its log, the identity writes since it was opened, the entries of its write graph,
-- the nodes that these make, and the objects that are dirty. Where engine and files show a world, the graph and the objects are the world's.
pub record Reports (engine : EngineView) (d : Disk) (stat : Stat) : Type 0 where
  pub used : stat.used ≡ used_in engine
  pub accepted : stat.accepted ≡ accepted_in engine
  pub forced : stat.forced ≡ forced_in engine
  pub identities : stat.identities ≡ engine.identities
  pub uninstalled : stat.uninstalled ≡ length engine.parts.volatile.entries
  pub nodes : IsCount (NamesNode engine.parts.volatile.entries) stat.nodes
  pub dirty : (objects : List ℕ) × AreDirty engine.parts.volatile.objects.cache objects × (stat.dirty ≡ length objects)
  pub shown : (p : Params) (w : World AllOps) → ShowsIn all_meaning p d engine w → IsStat all_meaning p w stat

-- the machine of an opening: in the store, or given back
abbrev pub machine_of : {M : Type 0} → Result (Store M) (OpenErr × M) → M
machine_of (Ok store) = store.machine
machine_of (Err failure) = failure.1

-- what an opening answers, as a restart says it
abbrev pub opened : {M : Type 0} → Result (Store M) (OpenErr × M) → Result Parts OpenErr
opened (Ok store) = Ok store.engine.parts
opened (Err failure) = Err failure.0

-- a store is not there again for want of memory, or with the disk: no file is damaged
abbrev pub IsUnharmed : {M : Type 0} → OpenErr × M → Type 0
IsUnharmed failure = IsNoDamage failure.0

-- the log has no room for records of so many bytes and the head of a block
abbrev pub SaysFull : {T : Type 0} → EngineView → ℕ → Result T WorkErr → Type 0
SaysFull engine bytes result = result ≡ Err (LogFull (used_in engine) (min (bytes + 5) (2 ^ 64 - 1)) (params_of engine).limit)

-- The files of a backup that was finished stand for the commands of this history, and show just its members, all of them stable: so
-- the next record has the number that it has in the store.
abbrev pub AreSaved : Params → List (Member AllOps) → Files → Type 0
AreSaved p history files = Stands all_meaning p files (commands_of history) × IsBackup (meaning_in all_meaning p) p history files
