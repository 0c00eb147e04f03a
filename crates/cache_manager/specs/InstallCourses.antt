-- What an install and a drain do, as functions of the world and of the log's length. No group is open in the world.
use Rattle.std.specs.Prelude.{◌+◌, ◌-◌, ◌^◌, ◌/◌, ◌==◌, ℕ, zero, suc, nat_lt, nat_le, Bool, not, ◌&&◌, ◌||◌, true, if◌then◌else◌, Option, None, Some, List, [], ◌∷◌, ◌++◌, length, max}
use Rattle.std.specs.List.{filter, list_any}
use Rattle.oper_core.specs.Meaning.{Meaning}
use Rattle.install_order.specs.Computed.{some_below, least_below}
use Rattle.identity_writes.specs.Plan.{but_kept}
use Rattle.explain_core.specs.History.Member.{Identity}
use Rattle.explain_core.specs.RoundGates.{gates_of, removals_of}
use Rattle.explain_core.specs.Turns.{count_below, dirty_in, has_work, is_entered, round_gates}
use Rattle.explain_core.specs.World.{World, Step, step, end_of, node_named}
use Rattle.explain_core.specs.World.Step.{Append, Slot_gate, Removal}
use Rattle.running_store.specs.Courses.{Course, and_then, cached_length, course, force_steps, identity_length, identity_steps, is_identity_at, placed, removal_steps, room_steps}
use Rattle.running_store.specs.Courses.Stop.{Through}

-- so many numbers from k on, rising
abbrev pub counted : ℕ → ℕ → List ℕ
counted k zero = []
counted k (suc n) = k ∷ counted (suc k) n

-- of the objects the one with the longest value, of several such the first
abbrev pub longest : (ℕ → ℕ) → ℕ → List ℕ → ℕ
longest lengths so_far [] = so_far
longest lengths so_far (y ∷ objects) = longest lengths (if nat_lt (lengths so_far) (lengths y) then y else so_far) objects

-- and none where there is none
abbrev pub longest_of : (ℕ → ℕ) → List ℕ → Option ℕ
longest_of lengths [] = None
longest_of lengths (x ∷ objects) = Some (longest lengths x objects)

-- the objects that a copy of the slots does not have yet, which are those from a number on; where none is taken it is 0
abbrev pub not_copied : ℕ → List ℕ → List ℕ
not_copied copied objects = filter (λ x. nat_le copied x) objects

-- all but the longest of those that are not copied
abbrev pub but_longest : ℕ → (ℕ → ℕ) → List ℕ → List ℕ
but_longest copied lengths objects = but_kept (longest_of lengths (not_copied copied objects)) objects

-- so many nodes are installed in one round: as many as have objects of at most 2^20 bytes together, however long their values
-- are, and at least 64
abbrev pub round_limit : {O : Type 0} → Meaning O → ℕ
round_limit m = max 64 (2 ^ 20 / m.cap)

-- so many nodes are removed
abbrev pub removed_by : {O : Type 0} → Step O → ℕ
removed_by (Removal node) = 1
removed_by s = 0

abbrev pub removals : {O : Type 0} → List (Step O) → ℕ
removals [] = 0
removals (s ∷ steps) = removed_by s + removals steps

module _ {O : Type 0} (m : Meaning O) where
  -- an identity write of x: room is made for it, and it is placed
  abbrev pub identity_course : ℕ → World O → ℕ → Course O
  identity_course x w used =
      let n = identity_length (cached_length m w x) in
      and_then m w (course (room_steps m w n) used Through) (λ v used. placed m v used (2 ^ 48) n true (identity_steps m x v))

  -- one after the other
  abbrev pub identities : List ℕ → World O → ℕ → Course O
  identities [] w used = course [] used Through
  identities (x ∷ objects) w used = and_then m w (identity_course x w used) (λ v used. identities objects v used)

  -- the least number of the graph that is in a minimal node, and that node
  abbrev pub next_name : World O → ℕ
  next_name w = least_below (end_of w) (λ n. w.graph n && not (is_entered m w (node_named m w n)))

  abbrev pub next_node : World O → ℕ → Bool
  next_node w = node_named m w (next_name w)

  -- what a node has to flush, rising, and what the next one has
  abbrev pub work_in : World O → (ℕ → Bool) → List ℕ
  work_in w node = filter (has_work m w node) (counted 0 m.objects)

  abbrev pub work : World O → List ℕ
  work w = work_in w (next_node w)

  -- all that waits is forced, and the node finished
  abbrev pub finish_steps : World O → List (Step O)
  finish_steps w = force_steps m w ++ removal_steps m (next_node w) (work w)

  -- some member is in the graph
  abbrev pub has_members : World O → Bool
  has_members w = some_below (end_of w) w.graph

  -- there is a next node, and it has no object to flush
  abbrev pub is_next_workless : World O → Bool
  is_next_workless w = has_members w && (length (work w) == 0)

  -- such a node is finished
  abbrev pub workless_course : World O → ℕ → Course O
  workless_course w used = course (if is_next_workless w then finish_steps w else []) used Through

  -- and so on while there is one, so many at most
  abbrev pub workless_nodes : ℕ → World O → ℕ → Course O
  workless_nodes zero w used = course [] used Through
  workless_nodes (suc n) w used = if is_next_workless w then and_then m w (course (finish_steps w) used Through) (λ v used. workless_nodes n v used) else course [] used Through

  -- Beside a copy of the slots that has the objects below a number.
  module _ (copied : ℕ) where
    -- an object is copied, and its version in the cache is of a command
    abbrev pub is_stale : World O → ℕ → Bool
    is_stale w x = nat_lt x copied && not (is_identity_at w.history (w.cache x).lsn)

    -- a node may not be finished yet: it has two or more objects to flush, or one that is copied, whose version is of a command
    abbrev pub must_log_in : World O → (ℕ → Bool) → Bool
    must_log_in w node = nat_lt 1 (length (work_in w node)) || list_any (is_stale w) (work_in w node)

    -- what is logged then: of the work all but the longest of those that are not copied
    abbrev pub others_in : World O → (ℕ → Bool) → List ℕ
    others_in w node = but_longest copied (cached_length m w) (work_in w node)

    -- so it is with the next node
    abbrev pub must_log : World O → Bool
    must_log w = must_log_in w (next_node w)

    abbrev pub others : World O → List ℕ
    others w = others_in w (next_node w)

    -- while the node may not be finished, these are logged; so many rounds at most
    abbrev pub rounds : ℕ → World O → ℕ → Course O
    rounds zero w used = course (finish_steps w) used Through
    rounds (suc n) w used = if must_log w then and_then m w (identities (others w) w used) (λ v used. rounds n v used) else course (finish_steps w) used Through

    -- An install. Each object is logged at most once, so there are at most as many rounds as objects.
    abbrev pub install_course : World O → ℕ → Course O
    install_course w used = if has_members w then rounds m.objects w used else course [] used Through

    -- an object may be flushed as it is
    abbrev pub may_flush : World O → ℕ → Bool
    may_flush w x = not (is_stale w x)

    -- A round: all that waits is forced, the gates of minimal nodes are opened that have one object to flush, from the least name
    -- on and of so many at most, and then the nodes are removed.
    abbrev pub round_steps : ℕ → World O → List (Step O)
    round_steps most w = let gates = round_gates m may_flush most w in force_steps m w ++ (gates_of gates ++ removals_of gates)

    abbrev pub round_course : ℕ → World O → ℕ → Course O
    round_course most w used = course (round_steps most w) used Through

    -- the next node may be finished, and it has an object to flush
    abbrev pub is_next_due : World O → Bool
    is_next_due w = not (must_log w) && nat_lt 0 (length (work w))

    -- n names a minimal node that may not be finished yet
    abbrev pub is_unready : World O → ℕ → Bool
    is_unready w n =
        let node = node_named m w n in
        w.graph n && ((least_below (end_of w) node == n) && (not (is_entered m w node) && must_log_in w node))

    -- of `fuel` LSNs from k on those that are such names, so many at most
    abbrev pub unready_from : (most fuel k : ℕ) → World O → List ℕ
    unready_from most zero k w = []
    unready_from zero (suc fuel) k w = []
    unready_from (suc most) (suc fuel) k w = if is_unready w k then k ∷ unready_from most fuel (suc k) w else unready_from (suc most) fuel (suc k) w

    -- the names of these nodes from the least on, so many at most
    abbrev pub unready_nodes : ℕ → World O → List ℕ
    unready_nodes most w = unready_from most (end_of w) 0 w

    -- what is logged of them
    abbrev pub others_of : World O → List ℕ → List ℕ
    others_of w [] = []
    others_of w (n ∷ names) = others_in w (node_named m w n) ++ others_of w names

    -- In a turn of at most so many nodes
    module _ (most : ℕ) where
      -- this is logged first, where the next node is one of them;
      abbrev pub readied : World O → List ℕ
      readied w = if must_log w then others_of w (unready_nodes most w) else []

      -- then a round is taken, where the next node is due, or it is installed,
      abbrev pub first_course : World O → ℕ → Course O
      first_course w used = if is_next_due w then round_course most w used else install_course w used

      -- and behind it go nodes that have no object to flush, while they are next, if something is left.
      abbrev pub ready_turn : World O → ℕ → Course O
      ready_turn w used = let first = first_course w used in if has_members w then and_then m w first (λ v used. workless_nodes (most - removals first.steps) v used) else course [] used Through

      abbrev pub turn_course : World O → ℕ → Course O
      turn_course w used = and_then m w (identities (readied w) w used) (λ v used. ready_turn v used)

      -- turns until nothing is left: so many at most
      abbrev pub turns : ℕ → World O → ℕ → Course O
      turns zero w used = course [] used Through
      turns (suc n) w used = if has_members w then and_then m w (turn_course w used) (λ v used. turns n v used) else course [] used Through

      -- each turn takes a member out, and the identity writes are of different dirty objects
      abbrev pub all_turns : World O → ℕ → Course O
      all_turns w used = turns (count_below (end_of w) w.graph + dirty_in m w) w used

    -- a drain: turns of full rounds
    abbrev pub drain_course : World O → ℕ → Course O
    drain_course w used = all_turns (round_limit m) w used

-- the objects that a step logs by an identity write, and that the steps of a list log
abbrev pub logged_by : {O : Type 0} → Step O → List ℕ
logged_by (Append (Identity x value)) = x ∷ []
logged_by s = []

abbrev pub logged_in : {O : Type 0} → List (Step O) → List ℕ
logged_in [] = []
logged_in (s ∷ steps) = logged_by s ++ logged_in steps

-- the objects that a step flushes, and that the steps of a list flush
abbrev pub flushed_by : {O : Type 0} → Step O → List ℕ
flushed_by (Slot_gate node x) = x ∷ []
flushed_by s = []

abbrev pub flushed_in : {O : Type 0} → List (Step O) → List ℕ
flushed_in [] = []
flushed_in (s ∷ steps) = flushed_by s ++ flushed_in steps

-- so many members does a step remove from the graph, and so many do the steps of a list
abbrev pub members_removed_by : {O : Type 0} → World O → Step O → ℕ
members_removed_by w (Removal node) = count_below (end_of w) (λ n. w.graph n && node n)
members_removed_by w s = 0

abbrev pub members_removed : {O : Type 0} → Meaning O → World O → List (Step O) → ℕ
members_removed m w [] = 0
members_removed m w (s ∷ steps) = members_removed_by w s + members_removed m (step m w s) steps
