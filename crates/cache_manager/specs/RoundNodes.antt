-- The nodes of a round leave the graph.
use Rattle.std.specs.Prelude.{◌≡◌, ◌+◌, ◌≤◌, ⊤, ℕ, IsFalse, List, [], ◌∷◌, length}
use Rattle.disk_model.specs.Disk.{Disk}
use Rattle.oper_core.specs.Meaning.{Meaning}
use Rattle.oper_core.specs.State.{is_among}
use Rattle.oper_core.specs.declared.bounds.Bounds.{Bounds}
use Rattle.formats.specs.declared.params.Params.{Params}
use Rattle.install_order.specs.declared.entry.Entry.{Entry}
use Rattle.write_graph.specs.Graph.{IsNodeNamed, NamesMinimal}
use Rattle.explain_core.specs.RoundGates.{Gate, removals_of}
use Rattle.explain_core.specs.World.{AreAllowed, World, run}
use Rattle.standing.specs.Moments.{TakesSome}
use Rattle.running_store.specs.Calls.Beside.{IsOnObjectsAlone}
use Rattle.running_store.specs.Calls.{IsCall, Never}
use Rattle.running_store.specs.Parts.{VolatileShows, meaning_in}
use Rattle.running_store.specs.StoreView.{StoreView}
use Rattle.running_store.specs.Taking.{Ending}
use Rattle.running_store.specs.Taking.Ending.{Done}
use Rattle.cache_manager.specs.LogsDirty.{LogsDirty}

-- these name minimal nodes, each once
abbrev pub NameMinimal : List Entry → List ℕ → Type 0
NameMinimal entries [] = ⊤
NameMinimal entries (n ∷ names) = NamesMinimal entries n × IsFalse (is_among n names) × NameMinimal entries names

-- and these gates install their nodes
abbrev pub AreNodesOf : List Entry → List ℕ → List Gate → Type 0
AreNodesOf entries [] [] = ⊤
AreNodesOf entries (n ∷ names) (g ∷ gates) = IsNodeNamed entries n g.node × AreNodesOf entries names gates
AreNodesOf entries [] (g ∷ gates) = ⊥
AreNodesOf entries (n ∷ names) [] = ⊥

-- The nodes with these names are taken out one after the other, which have nothing to flush. The objects and the graph show the
-- world after the removals, and a crash leaves that after some first of them.
pub record AreRemoved {O : Type 0} (meaning : Bounds → Meaning O) (old new : Disk) (before after : StoreView) (names : List ℕ) (ending : Ending) : Type 0 where
  pub call : IsCall meaning old new before after 0 Never ending
  pub beside : IsOnObjectsAlone old new before after
  pub shows : ending ≡ Done → (p : Params) (w : World O) (gates : List Gate) → let m = meaning_in meaning p in
      VolatileShows m p old before.parts.volatile w → AreNodesOf before.parts.volatile.entries names gates → AreAllowed m w (removals_of gates)
      → VolatileShows m p new after.parts.volatile (run m w (removals_of gates))
  pub steps : old.tells_moments → (p : Params) (w : World O) (gates : List Gate) → let m = meaning_in meaning p in
      VolatileShows m p old before.parts.volatile w → AreNodesOf before.parts.volatile.entries names gates → AreAllowed m w (removals_of gates)
      → TakesSome m p old new w (removals_of gates)
  pub logs : ending ≡ Done → LogsDirty before.parts after.parts
  pub fewer : ending ≡ Done → length after.parts.volatile.entries + length names ≤ length before.parts.volatile.entries
