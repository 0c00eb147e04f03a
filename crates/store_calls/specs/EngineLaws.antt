-- What is said of calls on a store, as it is said of an engine.
use Rattle.std.proofs.Common.{◌≡◌, refl, subst, ℕ, List, [], Option, None, Some, ◌++◌}
use Rattle.std.specs.Prelude.{IsSome}
use Rattle.disk_model.specs.Disk.{Disk}
use Rattle.oper_core.specs.Meaning.{Meaning}
use Rattle.oper_core.specs.declared.bounds.Bounds.{Bounds}
use Rattle.formats.specs.declared.params.Params.{Params}
use Rattle.explain_core.specs.History.{commands_of}
use Rattle.explain_core.specs.World.{World}
use Rattle.running_store.specs.Taking.{Ending}
use Rattle.running_store.specs.Taking.Ending.{Done}
use Rattle.execution.specs.declared.exec_err.ExecErr.{ExecErr}
use Rattle.formats.specs.Objects.{cell_of}
use Rattle.dirty_cache.specs.Contents.{held}
use Rattle.running_store.specs.Laid.{cell_or, values_in}
use Rattle.store_engine.specs.Engine.{EngineView, Holds, IsCached, ShowsIn}
use Rattle.store_engine.specs.Lists.{AddsFront, ending_of}
use Rattle.store_calls.specs.Making.{Adds, Makes}
use Rattle.store_calls.specs.OfEngine.{AddsInWorlds, engine_view}

module _ {O : Type 0} (meaning : Bounds → Meaning O) (old new : Disk) (before after : EngineView) where
  -- in each world that engine and files show
  pub in_world : (ops : Params → List O → List O) (error : Option ExecErr) → Makes (engine_view meaning) old new before after ops error → (p : Params) (w : World O) → ShowsIn meaning p old before w
      → (rest : List O) → (ending_of error ≡ Done → rest ≡ []) → AddsFront meaning p old new before after w (commands_of w.history) (ops p (commands_of w.history) ++ rest) (ending_of error)
  in_world ops error makes p w shows rest ended = makes.adds p (commands_of w.history) (record { world = w; shows = shows; commands_are = refl }) rest ended w shows refl

  -- and in the one of what they stand for
  pub in_its_world : (p : Params) (commands ops : List O) (ending : Ending) → AddsInWorlds meaning p old new before after commands ops ending → (holds : Holds meaning p old before commands)
      → AddsFront meaning p old new before after holds.world commands ops ending
  in_its_world p commands ops ending adds holds = adds holds.world holds.shows holds.commands_are

  -- what is said of each world is said of the commands
  pub of_worlds : (ops : Params → List O → List O) (error : Option ExecErr)
      → ((p : Params) (w : World O) → ShowsIn meaning p old before w → (rest : List O) → (ending_of error ≡ Done → rest ≡ []) → AddsFront meaning p old new before after w (commands_of w.history) (ops p (commands_of w.history) ++ rest) (ending_of error))
      → (p : Params) (commands : List O) → Holds meaning p old before commands → Adds (engine_view meaning) old new before after p commands (ops p commands) error
  of_worlds ops error adds p commands holds rest ended w shows are =
      subst (λ (l : List O). AddsFront meaning p old new before after w l (ops p l ++ rest) (ending_of error)) are (adds p w shows rest ended)

-- the value of a cached object, whatever the file has
pub cached_value : (engine : EngineView) (x : ℕ) → IsCached engine x → (file : List ℕ) → values_in engine.parts.volatile.objects file x ≡ values_in engine.parts.volatile.objects [] x
cached_value engine x cached file =
    elim (held engine.parts.volatile.objects.cache x) as (λ o. IsSome o → (cell_or o (cell_of x file)).value ≡ (cell_or o (cell_of x [])).value) [
      | None ↦ λ no. cc no
      | Some entry ↦ λ yes. refl
    ] cached
