-- Beside the same log parts show the world after a turn that logs nothing, as they do its objects and its graph.
use Rattle.std.proofs.Common.{sym, subst, ℕ, Bool, List, [], ◌∷◌, ◌++◌, refl}
use Rattle.std.specs.Prelude.{max}
use Rattle.disk_model.specs.Disk.{Disk, IsSettled, OthersStay}
use Rattle.disk_model.specs.declared.machine.FileNo.TheVariants.{Objects}
use Rattle.oper_core.specs.Meaning.{Meaning}
use Rattle.formats.specs.declared.params.Params.{Params}
use Rattle.log_records.specs.RecordLog.{RecordLogView}
use Rattle.explain_core.specs.RoundGates.{Gate, gate_step, gates_of, removals_of}
use Rattle.explain_core.specs.RunLaws.{run-append}
use Rattle.explain_core.specs.TurnLaws.{by_thin_turn}
use Rattle.explain_core.specs.Turns.{free_gates, thin_node, thin_turn}
use Rattle.explain_core.specs.World.{IsLive, Step, World, run, step}
use Rattle.explain_core.specs.World.Step.{Removal}
use Rattle.running_store.specs.Steps.Finished.{log_stays}
use Rattle.running_store.specs.Parts.{Parts, Shows, ShowsLog, Volatile, VolatileShows}
use Rattle.running_store.specs.Parts.Stored.{log_flushed, log_removed}

-- what holds of the world after removals, where each keeps it
module _ {O : Type 0} (m : Meaning O) (P : World O → Type 0) (removal : (w : World O) (node : ℕ → Bool) → P w → P (step m w (Removal node))) where
  pub by_removals : (w : World O) (gates : List Gate) → P w → P (run m w (removals_of gates))
  unfolding run
  by_removals w [] holds = holds
  by_removals w (g ∷ gates) holds = by_removals (step m w (Removal g.node)) gates (removal w g.node holds)

-- and after a turn that logs nothing, where gates keep it too
module _ {O : Type 0} (m : Meaning O) (P : World O → Type 0) (gate : (w : World O) (g : Gate) → P w → P (step m w (gate_step g))) (removal : (w : World O) (node : ℕ → Bool) → P w → P (step m w (Removal node))) where
  by_gates : (w : World O) (gates : List Gate) → P w → P (run m w (gates_of gates))
  unfolding run
  by_gates w [] holds = holds
  by_gates w (g ∷ gates) holds = by_gates (step m w (gate_step g)) gates (gate w g holds)

  by_round : (w : World O) (gates : List Gate) → P w → P (run m w (gates_of gates ++ removals_of gates))
  by_round w gates holds = subst P (sym (run-append m w (gates_of gates) (removals_of gates))) (by_removals m P removal (run m w (gates_of gates)) gates (by_gates w gates holds))

  pub by_turn : (most : ℕ) (w : World O) → P w → P (run m w (thin_turn m most w))
  unfolding run
  by_turn most w holds =
      by_thin_turn m (λ (l : List (Step O)). P (run m w l)) most w (λ thin some. by_round w (free_gates m (max 1 most) w) holds) (λ thin none. removal w (thin_node m w) holds) (λ no_thin. holds)

module _ {O : Type 0} (m : Meaning O) where
  gate_live : (w : World O) (g : Gate) → IsLive w → IsLive (step m w (gate_step g))
  unfolding step
  gate_live w g live = live

  pub removal_live : (w : World O) (node : ℕ → Bool) → IsLive w → IsLive (step m w (Removal node))
  unfolding step
  removal_live w node live = live

module _ {O : Type 0} (m : Meaning O) (p : Params) where
  turn_log : (d : Disk) → IsSettled d → (log : RecordLogView) (most : ℕ) (w : World O) → ShowsLog m d log w → ShowsLog m d log (run m w (thin_turn m most w))
  turn_log d settled log most w shows =
      by_turn m (λ v. ShowsLog m d log v) (λ v g shown. log_flushed m p d d log v g.node g.object (λ other ne. refl) settled shown) (λ v node shown. log_removed m p d log v node shown) most w shows

  pub turn_shown : (old new : Disk) (it : Parts) (after : Volatile) (most : ℕ) (w : World O) → Shows m p old it w → OthersStay Objects old.reads new.reads → VolatileShows m p new after (run m w (thin_turn m most w))
      → Shows m p new (record { log = it.log; volatile = after }) (run m w (thin_turn m most w))
  turn_shown old new it after most w shows others done = record {
    told = done.told;
    running = record { sound = done.sound; live = by_turn m IsLive (gate_live m) (removal_live m) most w shows.running.live; alone = done.alone };
    bounds = shows.bounds;
    store = done.store;
    log = turn_log new done.settled it.log most w (log_stays m p old new it.log w others done.settled shows.log);
  }
