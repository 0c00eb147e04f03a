-- The nodes that a turn makes ready, as a store tells them on every machine.
use Rattle.std.specs.Prelude.{◌≡◌, ◌⊎◌, ◌<◌, ◌≤◌, ℕ, zero, suc, Bool, List, [], ◌∷◌, ◌++◌, length, map}
use Rattle.write_graph.specs.Graph.{IsLeast, IsNodeNamed, NamesMinimal}
use Rattle.running_store.specs.Laid.{Laid, values_in}
use Rattle.running_store.specs.Parts.{Volatile}
use Rattle.cache_manager.specs.Beside.{HasCopied}
use Rattle.cache_manager.specs.InstallCourses.{but_longest}
use Rattle.cache_manager.specs.Thin.{IsWork}

-- n names a minimal node that has this work, and may not be finished yet: it has two or more objects to flush, or one that is copied,
-- and is more than one identity write
pub record IsUnreadyFor (it : Volatile) (copied n : ℕ) (work : List ℕ) : Type 0 where
  pub minimal : NamesMinimal it.entries n
  pub is_work : (node : ℕ → Bool) → IsNodeNamed it.entries n node → IsWork it node work
  pub must : (1 < length work) ⊎ HasCopied it.entries n copied work

abbrev pub IsUnready : Volatile → ℕ → ℕ → Type 0
IsUnready it copied n = (work : List ℕ) × IsUnreadyFor it copied n work

-- these are all of the work but the longest of those that are not copied, by the lengths of the values
abbrev pub AreOthers : Laid → ℕ → List ℕ → List ℕ → Type 0
AreOthers laid copied work others = (file : List ℕ) (lengths : ℕ → ℕ) → map (λ x. length (values_in laid file x)) work ≡ map lengths work → others ≡ but_longest copied lengths work

-- these are the names from `from` on of such nodes, none passed over, and so many at most; and these objects are logged of them
abbrev pub IsReadyFrom : Volatile → ℕ → ℕ → ℕ → List ℕ → List ℕ → Type 0
IsReadyFrom it copied most from [] logs = (logs ≡ []) × ((most ≡ 0) ⊎ ((k : ℕ) → from ≤ k → IsUnready it copied k → ⊥))
IsReadyFrom it copied zero from (n ∷ names) logs = ⊥
IsReadyFrom it copied (suc most) from (n ∷ names) logs =
    (work others rest : List ℕ) × (logs ≡ others ++ rest) × (from ≤ n) × IsUnreadyFor it copied n work × AreOthers it.objects copied work others
    × ((k : ℕ) → from ≤ k → k < n → IsUnready it copied k → ⊥) × IsReadyFrom it copied most (suc n) names rest

-- n is added to the names where its node is one of them, and behind the objects what is logged of it
abbrev pub IsReadied : Volatile → ℕ → ℕ → (names logs later_names later_logs : List ℕ) → Type 0
IsReadied it copied n names logs later_names later_logs =
    ((work others : List ℕ) × IsUnreadyFor it copied n work × AreOthers it.objects copied work others × (later_names ≡ names ++ n ∷ []) × (later_logs ≡ logs ++ others))
    ⊎ ((IsUnready it copied n → ⊥) × (later_names ≡ names) × (later_logs ≡ logs))

-- the node of the least name may not be finished yet, and these objects are logged of it and of those like it, of so many nodes at most
abbrev pub AreLoggedFirst : Volatile → ℕ → ℕ → List ℕ → Type 0
AreLoggedFirst it copied most logs = (n : ℕ) × IsLeast (NamesMinimal it.entries) n × IsUnready it copied n × ((names : List ℕ) × IsReadyFrom it copied most 0 names logs)

-- there is no node, or that of the least name may be finished
abbrev pub IsNextReady : Volatile → ℕ → Type 0
IsNextReady it copied = (it.entries ≡ []) ⊎ ((n : ℕ) × IsLeast (NamesMinimal it.entries) n × (IsUnready it copied n → ⊥))
