-- The same operations under other numbers, as places in a list and the numbers that stand there.
use Rattle.std.specs.Prelude.{◌≡◌, ◌==◌, ℕ, ◌<◌, Bool, ◌&&◌, IsTrue}
use Rattle.install_order.specs.Order.{Access}
use Rattle.install_order.specs.Computed.{some_below}

-- what a place of the domain, which is below the end, accesses in a, its LSN accesses in b, and nobody else accesses anything
pub record IsRenamed (a b : Access) (dom : ℕ → Bool) (end : ℕ) (lsn : ℕ → ℕ) : Type 0 where
  pub below : (i : ℕ) → IsTrue (dom i) → i < end
  pub rising : (i j : ℕ) → IsTrue (dom i) → i < j → IsTrue (dom j) → lsn i < lsn j
  pub reads : (i x : ℕ) → IsTrue (dom i) → b.reads (lsn i) x ≡ a.reads i x
  pub writes : (i x : ℕ) → IsTrue (dom i) → b.writes (lsn i) x ≡ a.writes i x
  pub reads_in : (i x : ℕ) → IsTrue (a.reads i x) → IsTrue (dom i)
  pub writes_in : (i x : ℕ) → IsTrue (a.writes i x) → IsTrue (dom i)
  pub reads_from : (n x : ℕ) → IsTrue (b.reads n x) → (i : ℕ) × IsTrue (dom i) × (lsn i ≡ n)
  pub writes_from : (n x : ℕ) → IsTrue (b.writes n x) → (i : ℕ) × IsTrue (dom i) × (lsn i ≡ n)

-- the LSNs of a set of places
abbrev pub lsns_of : (ℕ → Bool) → ℕ → (ℕ → ℕ) → (ℕ → Bool) → ℕ → Bool
lsns_of dom end lsn set n = some_below end (λ i. dom i && (set i && (lsn i == n)))

-- the places of a set of LSNs
abbrev pub places_of : (ℕ → Bool) → (ℕ → ℕ) → (ℕ → Bool) → ℕ → Bool
places_of dom lsn set i = dom i && set (lsn i)
