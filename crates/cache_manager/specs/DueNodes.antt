-- The nodes that a round installs, as a store tells them on every machine.
use Rattle.std.specs.Prelude.{◌≡◌, ◌⊎◌, ◌<◌, ◌≤◌, ℕ, zero, suc, Bool, List, [], ◌∷◌, ◌++◌}
use Rattle.write_graph.specs.Graph.{IsNodeNamed, NamesMinimal}
use Rattle.oper_core.specs.Meaning.{Meaning}
use Rattle.explain_core.specs.RoundGates.{Gate}
use Rattle.explain_core.specs.Turns.{gate_at}
use Rattle.explain_core.specs.World.{World}
use Rattle.running_store.specs.Parts.{Volatile}
use Rattle.cache_manager.specs.Beside.{IsFresh}
use Rattle.cache_manager.specs.Thin.{IsWork}

-- n names a minimal node that has one object to flush, x; if x is copied, the node is one identity write
pub record IsDueFor (it : Volatile) (copied n x : ℕ) : Type 0 where
  pub minimal : NamesMinimal it.entries n
  pub work : (node : ℕ → Bool) → IsNodeNamed it.entries n node → IsWork it node (x ∷ [])
  pub fresh : IsFresh it.entries n copied (x ∷ [])

abbrev pub NamesDue : Volatile → ℕ → ℕ → Type 0
NamesDue it copied n = (x : ℕ) × IsDueFor it copied n x

-- these are the names from `from` on of nodes that are due, and beside them their objects, none passed over, and so many at most
abbrev pub IsRoundFrom : Volatile → ℕ → ℕ → ℕ → List ℕ → List ℕ → Type 0
IsRoundFrom it copied most from [] [] = (most ≡ 0) ⊎ ((k : ℕ) → from ≤ k → NamesDue it copied k → ⊥)
IsRoundFrom it copied most from [] (x ∷ objects) = ⊥
IsRoundFrom it copied most from (n ∷ names) [] = ⊥
IsRoundFrom it copied zero from (n ∷ names) (x ∷ objects) = ⊥
IsRoundFrom it copied (suc most) from (n ∷ names) (x ∷ objects) =
    (from ≤ n) × IsDueFor it copied n x × ((k : ℕ) → from ≤ k → k < n → NamesDue it copied k → ⊥) × IsRoundFrom it copied most (suc n) names objects

-- n is added to the names with its object where its node is due
abbrev pub IsConsidered : Volatile → ℕ → ℕ → (names objects later_names later_objects : List ℕ) → Type 0
IsConsidered it copied n names objects later_names later_objects =
    ((x : ℕ) × IsDueFor it copied n x × (later_names ≡ names ++ n ∷ []) × (later_objects ≡ objects ++ x ∷ []))
    ⊎ ((NamesDue it copied n → ⊥) × (later_names ≡ names) × (later_objects ≡ objects))

-- the gates of the nodes with these names
abbrev pub gates_at : {O : Type 0} → Meaning O → World O → List ℕ → List Gate
gates_at m w [] = []
gates_at m w (n ∷ names) = gate_at m w n ∷ gates_at m w names
