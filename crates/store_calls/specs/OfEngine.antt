-- An engine as a store.
use Rattle.std.specs.Prelude.{◌≡◌, false, List, []}
use Rattle.disk_model.specs.Disk.{Disk}
use Rattle.oper_core.specs.Meaning.{Meaning}
use Rattle.oper_core.specs.declared.bounds.Bounds.{Bounds}
use Rattle.formats.specs.declared.params.Params.{Params}
use Rattle.explain_core.specs.History.{commands_of}
use Rattle.explain_core.specs.World.{World}
use Rattle.running_store.specs.Laid.{values_in}
use Rattle.running_store.specs.Taking.{Ending}
use Rattle.store_engine.specs.Engine.{EngineView, Holds, IsCached, KeepsCommands, ShowsIn, params_of}
use Rattle.store_engine.specs.Lists.{AddsFront, AreCalls}
use Rattle.store_calls.specs.View.{View}

module _ {O : Type 0} (meaning : Bounds → Meaning O) where
  -- in each world with these commands that engine and files show
  abbrev pub AddsInWorlds : Params → Disk → Disk → EngineView → EngineView → List O → List O → Ending → Type 0
  AddsInWorlds p old new before after commands ops ending = (w : World O) → ShowsIn meaning p old before w → commands_of w.history ≡ commands
      → AddsFront meaning p old new before after w commands ops ending

  -- what it says is what an engine says; the value of a cached object is the cached one
  abbrev pub engine_view : View O EngineView
  engine_view = record {
    params = params_of;
    unbroken = λ engine. engine.broken ≡ false;
    holds = Holds meaning;
    numbers = λ p d engine commands holds. holds.shows.shows.store.params;
    calls = AreCalls meaning;
    adds = AddsInWorlds;
    keeps = KeepsCommands meaning;
    cached = IsCached;
    value = λ engine object. values_in engine.parts.volatile.objects [] object;
  }
