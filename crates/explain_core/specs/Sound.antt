-- What every step keeps.
use Rattle.std.specs.Prelude.{◌≡◌, ℕ, ◌+◌, ◌-◌, ◌<◌, ◌≤◌, ◌≢◌, nat_lt, Bool, ◌||◌, IsTrue, IsFalse, IfSome, List, length, take}
use Rattle.std.specs.List.{AllByRecursion}
use Rattle.oper_core.specs.Meaning.{Meaning}
use Rattle.install_order.specs.Order.{Access}
use Rattle.explain_core.specs.History.{Member, accesses_of, value_at, IsHistory, IsCommand, commands_of, with_lsn}
use Rattle.explain_core.specs.Explains.{Explains}
use Rattle.explain_core.specs.World.{World, Starts, end_of, plan_of}

-- the installed LSNs and those below n
abbrev pub and_below : ℕ → (ℕ → Bool) → ℕ → Bool
and_below n installed k = nat_lt k n || installed k

-- a checkpoint that skips nothing: no redo start is past an uninstalled write of its object
pub record SkipsNothing (a : Access) (installed : ℕ → Bool) (base end : ℕ) (t : Starts) : Type 0 where
  pub before : (n x : ℕ) → IsFalse (installed n) → IsTrue (a.writes n x) → t.redo_from x ≤ n
  pub start : (x : ℕ) → t.redo_from x ≤ t.next
  pub from_base : (x : ℕ) → base ≤ t.redo_from x
  pub next_from_base : base ≤ t.next
  pub next_within : t.next ≤ end

-- a group that began with this LSN: all before it is stable and nothing in it, and its members are commands
pub record IsGroup {O : Type 0} (history : List (Member O)) (forced begun : ℕ) : Type 0 where
  pub stable : begun ≡ forced + 1
  pub commands : (n : ℕ) → begun ≤ n → IfSome (with_lsn history n) IsCommand

-- the slots alone are explained by the installed members, and with the log they give the map
pub record IsSound {O : Type 0} (m : Meaning O) (w : World O) : Type 0 where
  pub history : IsHistory m w.history
  pub forced : w.forced ≤ length w.history
  -- what is installed is stable
  pub installed : (n : ℕ) → IsTrue (w.installed n) → n ≤ w.forced
  -- the installed members explain the slots over the stable history
  pub slots : Explains (accesses_of m (take w.forced w.history)) (value_at m (take w.forced w.history)) w.installed w.slots
  -- a redo by any of the checkpoints would skip nothing
  pub tables : AllByRecursion (SkipsNothing (accesses_of m w.history) w.installed w.base (w.forced + 1)) w.tables
  pub pending : AllByRecursion (SkipsNothing (accesses_of m w.history) w.installed w.base (end_of w)) w.pending
  -- all before the base is installed, and its commands are counted
  pub base : 1 ≤ w.base
  pub below_base : (n : ℕ) → n < w.base → IsTrue (w.installed n)
  pub counted : w.commands_before ≡ length (commands_of (take (w.base - 1) w.history))
  -- in the middle of a redo all members are stable
  pub all_stable : w.next ≤ length w.history → w.forced ≡ length w.history
  -- the graph holds LSNs from the base on that were executed or replayed, and all of these that are not installed
  pub graph : (n : ℕ) → IsTrue (w.graph n) → (w.base ≤ n) × (n < w.next)
  pub next : (w.base ≤ w.next) × (w.next ≤ end_of w)
  pub passed : (n : ℕ) → n < w.next → IsFalse (w.installed n) → IsTrue (w.graph n)
  -- the installed members and all that were executed or replayed explain the cache
  pub cache : Explains (accesses_of m w.history) (value_at m w.history) (and_below w.next w.installed) w.cache
  -- a version in the cache that is not installed is right
  pub cache_right : (x : ℕ) → IsFalse (w.installed (w.cache x).lsn) → (w.cache x).value ≡ value_at m w.history (w.cache x).lsn x
  -- no uninstalled member of the graph writes a later version than the cache has
  pub cache_late : (n x : ℕ) → IsTrue (w.graph n) → IsFalse (w.installed n) → IsTrue ((accesses_of m w.history).writes n x) → n ≤ (w.cache x).lsn
  -- where slot and cache differ, the cache has the newest version of the graph's members, and the plan would redo it
  pub dirty : (x : ℕ) → (w.slots x).lsn ≢ (w.cache x).lsn →
      ((w.slots x).lsn < (w.cache x).lsn) × IsTrue (w.graph (w.cache x).lsn) ×
      ((n : ℕ) → IsTrue (w.graph n) → IsTrue ((accesses_of m w.history).writes n x) → n ≤ (w.cache x).lsn) ×
      (w.next ≤ length w.history → (plan_of w.tables w.base).redo_from x ≤ (w.cache x).lsn)
  -- what is stable is all before the open group, and its members are commands
  pub group : IfSome w.group (IsGroup w.history w.forced)
