-- Worked runs: a swap of two objects, of which one is flushed and the other one is logged as an identity write.
use Rattle.std.specs.Prelude.{ℕ, Bool, ◌==◌, if◌then◌else◌, List, [], ◌∷◌, ◌++◌, false}
use Rattle.oper_core.specs.declared.bounds.Bounds.{Bounds}
use Rattle.install_order.specs.Entries.{set_of}
use Rattle.explain_core.specs.declared.byte_op.ByteOp.{ByteOp}
use Rattle.explain_core.specs.declared.byte_op.ByteOp.TheVariants.{Put, Swap}
use Rattle.explain_core.specs.ByteOps.{byte_meaning}
use Rattle.explain_core.specs.History.{Member}
use Rattle.explain_core.specs.History.Member.{Command, Identity}
use Rattle.oper_core.specs.Cell.{Cell}
use Rattle.explain_core.specs.World.{World, Step, run, new_world, replays}
use Rattle.explain_core.specs.Backup.{with_next}
use Rattle.explain_core.specs.World.Step.{Begin, End, Append, Block_gate, Checkpoint, Slot_gate, Removal, Header_gate, Crash}

-- two objects of at most one byte
abbrev pub two : Bounds
two = record { objects = 2; cap = 1; more = false }

-- the world after these steps of a new store
abbrev pub after_steps : List (Step ByteOp) → World ByteOp
after_steps steps = run (byte_meaning two) (new_world ByteOp) steps

-- the node of the two puts and the swap
abbrev pub swap_node : ℕ → Bool
swap_node = set_of (1 ∷ 2 ∷ 3 ∷ [])

-- aa is put into 0 and bb into 1, and the two are swapped
abbrev pub swapped : List (Member ByteOp)
swapped = Command (Put 0 170) ∷ Command (Put 1 187) ∷ Command (Swap 0 1) ∷ []

-- of the swap's two objects only 0 is flushed
abbrev pub half_flushed : ℕ → Cell
half_flushed x = if x == 0 then record { lsn = 3; value = 187 ∷ [] } else record { lsn = 0; value = [] }

-- the same as steps; 1 then has aa, which is logged as the record 4; all is forced
abbrev pub swap_logged : List (Step ByteOp)
swap_logged =
    Append (Command (Put 0 170)) ∷ Append (Command (Put 1 187)) ∷ Append (Command (Swap 0 1)) ∷ Append (Identity 1 (170 ∷ []))
    ∷ Block_gate ∷ []

-- and 0 is flushed, which installs the node
abbrev pub swap_flushed : List (Step ByteOp)
swap_flushed = swap_logged ++ Slot_gate swap_node 0 ∷ []

-- and the node leaves the graph
abbrev pub swap_removed : List (Step ByteOp)
swap_removed = swap_flushed ++ Removal swap_node ∷ []

-- a checkpoint is taken and forced, the log is cut before the identity write, and the store stops
abbrev pub swap_checkpointed : List (Step ByteOp)
swap_checkpointed = swap_removed ++ Checkpoint ∷ Block_gate ∷ Header_gate 4 ∷ Crash ∷ []

-- the store stops just after the flush, and so many records are replayed
abbrev pub swap_redone : ℕ → List (Step ByteOp)
swap_redone n = swap_flushed ++ Crash ∷ replays n

-- the node of the second put and the swap, in a redo that skipped the first put
abbrev pub redone_node : ℕ → Bool
redone_node = set_of (2 ∷ 3 ∷ [])

-- before the identity write is replayed, that node is installed: the wrong value of 1 goes to its slot
abbrev pub swap_installed : List (Step ByteOp)
swap_installed = swap_redone 3 ++ Slot_gate redone_node 1 ∷ Removal redone_node ∷ []

-- the store stops once more, and so many records are replayed
abbrev pub swap_redone_again : ℕ → List (Step ByteOp)
swap_redone_again n = swap_installed ++ Crash ∷ replays n

-- aa is put into 0 and forced; a group opens, in which bb is put into 1 and the two are swapped
abbrev pub group_opened : List (Step ByteOp)
group_opened =
    Append (Command (Put 0 170)) ∷ Block_gate ∷ Begin ∷ Append (Command (Put 1 187)) ∷ Append (Command (Swap 0 1)) ∷ []

-- the store stops within the group, and the one record that is left is replayed
abbrev pub group_lost : List (Step ByteOp)
group_lost = group_opened ++ Crash ∷ replays 1

-- the group is closed and forced before the store stops, and so many records are replayed
abbrev pub group_kept : ℕ → List (Step ByteOp)
group_kept n = group_opened ++ End ∷ Block_gate ∷ Crash ∷ replays n

-- the node of the identity write
abbrev pub identity_node : ℕ → Bool
identity_node = set_of (4 ∷ [])

-- both slots are copied after the removal of the swap's node
abbrev pub both_copied : ℕ → Cell
both_copied = with_next (after_steps swap_removed) 1 (with_next (after_steps swap_removed) 0 (λ x. record { lsn = 0; value = [] }))

-- and then the identity write is installed
abbrev pub copied_flushed : List (Step ByteOp)
copied_flushed = swap_removed ++ Slot_gate identity_node 1 ∷ []

-- 0 is copied before the swap's node is flushed, and 1 after the identity write is
abbrev pub stale_copied : ℕ → Cell
stale_copied = with_next (after_steps copied_flushed) 1 (with_next (after_steps swap_logged) 0 (λ x. record { lsn = 0; value = [] }))
