-- The store as a machine: a world, and the steps that it may take.
use Rattle.std.specs.Prelude.{◌≡◌, ℕ, zero, suc, ◌+◌, ◌-◌, ◌<◌, ◌≤◌, ◌==◌, ◌≢◌, nat_lt, nat_le, min, Bool, false, not, ◌&&◌, ◌||◌, if◌then◌else◌, IsTrue, Option, None, Some, List, [], ◌∷◌, ◌++◌, length, take}
use Rattle.std.specs.Option.{is_some}
use Rattle.oper_core.specs.State.{is_among}
use Rattle.oper_core.specs.Meaning.{Meaning, Accepts}
use Rattle.install_order.specs.Order.{Access, within, IsMinimal, flush_set_of}
use Rattle.install_order.specs.Computed.{some_below, least_below, edge_test, node_of}
use Rattle.explain_core.specs.History.{Member, writes_of, with_lsn, accesses_of, made_by, commands_of}
use Rattle.explain_core.specs.History.Member.{Command, Identity}
use Rattle.oper_core.specs.Cell.{Cell}

-- a checkpoint: for each object the LSN from which a redo applies its writes, and the next LSN as it was taken
pub record Starts : Type 0 where
  pub redo_from : ℕ → ℕ
  pub next : ℕ

pub record World (O : Type 0) : Type 0 where
  pub history : List (Member O)
  pub forced : ℕ  -- so many members are stable
  pub installed : ℕ → Bool  -- the installed members, and all LSNs before the first
  pub slots : ℕ → Cell  -- the stable state
  pub cache : ℕ → Cell
  pub graph : ℕ → Bool  -- the members that the write graph holds
  pub tables : List Starts  -- the stable checkpoints, the newest first
  pub pending : List Starts  -- the checks that are not stable yet
  pub base : ℕ  -- the stable log begins with this LSN
  pub commands_before : ℕ  -- so many commands are before the base
  pub next : ℕ  -- the next LSN to replay; past the end where nothing is left to replay
  pub group : Option ℕ  -- the LSN at which the open group began

pub data Step (O : Type 0) : Type 0 where
  Begin : Step O  -- a group opens: of the members from here on a crash leaves all or none
  End : Step O  -- the group closes
  Append : (member : Member O) → Step O
  Block_gate : Step O  -- all members and checkpoints become stable
  Checkpoint : Step O
  Slot_gate : (node : ℕ → Bool) (x : ℕ) → Step O  -- the cache's x becomes stable, and the node installed
  Removal : (node : ℕ → Bool) → Step O  -- the node becomes installed, and leaves the graph
  Header_gate : (base : ℕ) → Step O  -- what is before the base leaves the log
  Replay : Step O
  Crash : Step O

-- nothing is left to replay
abbrev pub IsLive : {O : Type 0} → World O → Type 0
IsLive w = length w.history < w.next

-- the LSN after the history
abbrev pub end_of : {O : Type 0} → World O → ℕ
end_of w = length w.history + 1

-- the accesses of the graph's members
abbrev pub graph_access : {O : Type 0} → Meaning O → World O → Access
graph_access m w = within w.graph (accesses_of m w.history)

-- the node of the graph that has this member
abbrev pub node_named : {O : Type 0} → Meaning O → World O → ℕ → ℕ → Bool
node_named m w one = node_of (edge_test (graph_access m w) m.objects (end_of w)) (end_of w) one

-- what a node has to flush: the objects of its flush set whose slots are not yet as the cache has them
abbrev pub work_of : {O : Type 0} → Meaning O → World O → (ℕ → Bool) → ℕ → Type 0
work_of m w node x = flush_set_of (graph_access m w) node x × ((w.slots x).lsn ≢ (w.cache x).lsn)

-- a checkpoint taken now: for each object the least member of the graph that writes it, or the next LSN
abbrev pub table_now : {O : Type 0} → Meaning O → World O → Starts
table_now m w = record { redo_from = λ x. least_below (end_of w) (λ n. w.graph n && (accesses_of m w.history).writes n x); next = end_of w }

-- the last stable checkpoint; without one a redo applies all from the base on
abbrev pub plan_of : List Starts → ℕ → Starts
plan_of [] base = record { redo_from = λ x. base; next = base }
plan_of (t ∷ ts) base = t

-- the least of one number and of f below n
abbrev pub least_of : (ℕ → ℕ) → ℕ → ℕ → ℕ
least_of f zero one = one
least_of f (suc n) one = min (f n) (least_of f n one)

-- where a redo begins
abbrev pub start_of : ℕ → Starts → ℕ
start_of objects t = least_of t.redo_from objects t.next

-- the cache after a member with the LSN n that sets the objects that pass
abbrev pub set_by : {O : Type 0} → Meaning O → Option (Member O) → (ℕ → Bool) → ℕ → (ℕ → Cell) → ℕ → Cell
set_by m member chosen n cache x = if chosen x then record { lsn = n; value = made_by m member (λ y. (cache y).value) x } else cache x

-- a replay of the next LSN sets x: it writes x, the cache's x is older, and the plan asks for it
abbrev pub is_redone : {O : Type 0} → Meaning O → World O → ℕ → Bool
is_redone m w x = (accesses_of m w.history).writes w.next x && (nat_lt (w.cache x).lsn w.next && nat_le ((plan_of w.tables w.base).redo_from x) w.next)

-- no group is open
abbrev pub NoGroup : {O : Type 0} → World O → Type 0
NoGroup w = w.group ≡ None

-- all members are stable, and no group is open
abbrev pub IsAllStable : {O : Type 0} → World O → Type 0
IsAllStable w = (w.forced ≡ length w.history) × NoGroup w

-- a member may be appended: a command that is accepted on the cache, or outside groups an identity write of the cache's
-- value
abbrev pub MayAppend : {O : Type 0} → Meaning O → World O → Member O → Type 0
MayAppend m w (Command op) = Accepts m (λ x. (w.cache x).value) op
MayAppend m w (Identity x v) = (x < m.objects) × (v ≡ (w.cache x).value) × NoGroup w

-- a minimal node of the graph, with all members stable and no group open
abbrev pub IsInstallable : {O : Type 0} → Meaning O → World O → (ℕ → Bool) → Type 0
IsInstallable m w node = ((n : ℕ) → IsTrue (node n) → IsTrue (w.graph n)) × IsMinimal (graph_access m w) node × IsAllStable w

-- a step may be taken
abbrev pub IsAllowed : {O : Type 0} → Meaning O → World O → Step O → Type 0
IsAllowed m w Begin = IsLive w × IsAllStable w
IsAllowed m w End = IsTrue (is_some w.group)
IsAllowed m w (Append member) = IsLive w × MayAppend m w member
IsAllowed m w Block_gate = IsLive w × NoGroup w
IsAllowed m w Checkpoint = IsLive w × NoGroup w
IsAllowed m w (Slot_gate node x) = IsInstallable m w node × work_of m w node x × ((y : ℕ) → work_of m w node y → y ≡ x)
IsAllowed m w (Removal node) = IsInstallable m w node × ((y : ℕ) → work_of m w node y → ⊥)
IsAllowed m w (Header_gate base) = IsLive w × IsAllStable w × (w.base ≤ base) × (base ≤ w.next) × ((n : ℕ) → IsTrue (w.graph n) → base ≤ n)
IsAllowed m w Replay = w.next ≤ length w.history
IsAllowed m w Crash = Unit {0}

-- the world after a step
unfoldable pub step : {O : Type 0} → Meaning O → World O → Step O → World O
step m w Begin = record w { group = Some (end_of w) }
step m w End = record w { group = None }
step m w (Append member) = record w {
  history = w.history ++ member ∷ [];
  cache = set_by m (Some member) (λ x. is_among x (writes_of m member)) (end_of w) w.cache;
  graph = λ n. (n == end_of w) || w.graph n;
  next = w.next + 1;
}
step m w Block_gate = record w { forced = length w.history; tables = w.pending ++ w.tables; pending = [] }
step m w Checkpoint = record w { pending = table_now m w ∷ w.pending }
step m w (Slot_gate node x) = record w {
  slots = λ y. if y == x then w.cache x else w.slots y;
  installed = λ n. node n || w.installed n;
}
step m w (Removal node) = record w {
  installed = λ n. node n || w.installed n;
  graph = λ n. w.graph n && not (node n);
}
step m w (Header_gate base) = record w {
  base = base;
  commands_before = length (commands_of (take (base - 1) w.history));
  tables = table_now m w ∷ [];
  pending = [];
}
step m w Replay = record w {
  cache = set_by m (with_lsn w.history w.next) (is_redone m w) w.next w.cache;
  graph = λ n. ((n == w.next) && some_below m.objects (is_redone m w)) || w.graph n;
  next = w.next + 1;
}
step m w Crash = record w {
  history = take w.forced w.history;
  cache = w.slots;
  graph = λ n. false;
  pending = [];
  next = start_of m.objects (plan_of w.tables w.base);
  group = None;
}

-- the steps of a list may be taken, each in its turn
abbrev pub AreAllowed : {O : Type 0} → Meaning O → World O → List (Step O) → Type 0
AreAllowed m w [] = Unit {0}
AreAllowed m w (s ∷ steps) = IsAllowed m w s × AreAllowed m (step m w s) steps

-- the world after a list of steps
unfoldable pub run : {O : Type 0} → Meaning O → World O → List (Step O) → World O
run m w [] = w
run m w (s ∷ steps) = run m (step m w s) steps

-- the world of a new store; the LSN 0 stands for the start, and counts as installed
abbrev pub new_world : (O : Type 0) → World O
new_world O = record {
  history = [];
  forced = 0;
  installed = λ n. n == 0;
  slots = λ x. record { lsn = 0; value = [] };
  cache = λ x. record { lsn = 0; value = [] };
  graph = λ n. false;
  tables = [];
  pending = [];
  base = 1;
  commands_before = 0;
  next = 1;
  group = None;
}

-- so many replays
abbrev pub replays : {O : Type 0} → ℕ → List (Step O)
replays zero = []
replays (suc n) = Replay ∷ replays n

-- as many replays as there are LSNs left to replay
abbrev pub redo_of : {O : Type 0} → World O → List (Step O)
redo_of w = replays (end_of w - w.next)
