-- What a call of the engine leaves, from what the call on its store does.
use Rattle.std.proofs.Common.{◌≡◌, ◌∙◌, subst, sym, ap, ℕ, ◌≤◌, false, ◌⊎◌, Option, None, Some, refl, arith}
use Rattle.std.specs.Prelude.{IfSome}
use Rattle.std.specs.Option.{is_some}
use Rattle.disk_model.specs.Disk.{Disk}
use Rattle.oper_core.specs.Meaning.{Meaning}
use Rattle.oper_core.specs.declared.bounds.Bounds.{Bounds}
use Rattle.log_records.specs.RecordLog.{RecordLogView}
use Rattle.explain_core.specs.World.{World}
use Rattle.formats.specs.declared.layout.Layout.{Layout}
use Rattle.running_store.specs.Calls as of_store
use Rattle.running_store.specs.Calls.{IsFailed}
use Rattle.running_store.specs.Courses.{Course, Stop}
use Rattle.running_store.specs.StoreView.{StoreView}
use Rattle.running_store.specs.Taking.{Ending, Takes}
use Rattle.execution.specs.Stops.{StopsCommand}
use Rattle.store_engine.specs.Engine.{EngineView, IsEngineCall, KeepsCommands, TakesIn, engine_of}
use Rattle.store_engine.proofs.Grouped.{takes_alone}
use Rattle.store_engine.proofs.Holding.{Stand}
use Rattle.store_engine.proofs.Keeping.{IsPlainCourse, KeepsRuns, MayTake, takes_keeps}
use Rattle.store_engine.proofs.Ways.{unbroken_or}

-- a group that began with an LSN up to the next one did so still
pub begun_still : (group : Option ℕ) (next later : ℕ) → next ≤ later → IfSome group (λ n. n ≤ next) → IfSome group (λ n. n ≤ later)
begun_still None next later le begun = tt
begun_still (Some n) next later le begun = omega (arith, le, begun)

-- where the engine's group is none, what holds of an engine without one holds of it
pub as_alone : (store later : StoreView) (group copied : Option ℕ) (before : EngineView) → engine_of store group copied ≡ before → before.group ≡ None → (P : EngineView → EngineView → Type 0)
    → P (engine_of store None copied) (engine_of later None copied) → P before (engine_of later group copied)
as_alone store later group copied before is none P has =
    let alone : group ≡ None = ap (λ (e : EngineView). e.group) is ∙ none in
    subst (λ (e : EngineView). P e (engine_of later group copied)) is (subst (λ (o : Option ℕ). P (engine_of store o copied) (engine_of later o copied)) (sym alone) has)

module _ {O : Type 0} (meaning : Bounds → Meaning O) (old new : Disk) (store later : StoreView) (logged : ℕ) (stops : RecordLogView → Stop → Type 0) (ending : Ending)
    (call : of_store.IsCall meaning old new store later logged stops ending) where
  pub call_of : (most : ℕ) (group copied : Option ℕ) → ((log : RecordLogView) (stop : Stop) → stops log stop → StopsCommand (is_some group) most log stop)
      → IsEngineCall meaning most old new (engine_of store group copied) (engine_of later group copied) logged ending
  call_of most group copied so = record {
    time = call.quiet.time;
    quiet = call.quiet.said;
    params = ap (λ (l : Layout). l.params) call.layout;
    group = refl;
    copied = refl;
    attached = call.attached;
    identities = call.identities;
    stopped = λ stop is. so later.parts.log stop (call.stopped stop is);
    broken = call.broken;
    fault = call.fault;
  }

  pub fine : IsFailed ending ⊎ (later.broken ≡ false)
  fine = unbroken_or later.broken (IsFailed ending) call.broken

  -- outside groups
  module _ (copied : Option ℕ) (course : Meaning O → World O → ℕ → Course O) (takes : Takes meaning old new store.parts later.parts course ending) where
    pub takes_of : TakesIn meaning old new (engine_of store None copied) (engine_of later None copied) course ending
    takes_of = takes_alone meaning old new (engine_of store None copied) (engine_of later None copied) course ending takes refl refl fine

    pub keeps_of : KeepsRuns meaning → ((p : _) → Stand meaning p) → MayTake meaning course → IsPlainCourse course → KeepsCommands meaning old new (engine_of store None copied) (engine_of later None copied) ending
    keeps_of = takes_keeps meaning old new (engine_of store None copied) (engine_of later None copied) course ending takes refl refl fine
