-- What a rewrite of a store's log does, as a function of the world, and what it leaves.
use Rattle.std.specs.Prelude.{◌≡◌, ◌+◌, ◌-◌, ℕ, nat_lt, if◌then◌else◌, List, [], ◌∷◌, ◌++◌, map, drop, Result, Ok, Err}
use Rattle.oper_core.specs.Meaning.{Meaning}
use Rattle.dirty_page_table.specs.declared.table.DirtyPageTable.{DirtyPageTable}
use Rattle.formats.specs.Limits.{log_limit}
use Rattle.install_order.specs.Computed.{least_below}
use Rattle.log_records.specs.Rewriting.{blocks_length}
use Rattle.log_records.specs.declared.rewrite_err.RewriteErr.{RewriteErr}
use Rattle.log_records.specs.declared.rewrite_err.RewriteErr.TheVariants as of_rewrite
use Rattle.explain_core.specs.World.{World, end_of, table_now}
use Rattle.explain_core.specs.World.Step.{Header_gate}
use Rattle.standing.specs.Members.{table_of}
use Rattle.running_store.specs.Calls.{with_log}
use Rattle.running_store.specs.Courses.{Course, course, record_length, table_length}
use Rattle.running_store.specs.Courses.Stop.{Through, Full, Worn}
use Rattle.running_store.specs.StoreView.{StoreView}
use Rattle.running_store.specs.Taking.{Ending}
use Rattle.running_store.specs.Taking.Ending.{Done, Stopped, Short, Failed}

module _ {O : Type 0} (m : Meaning O) where
  -- the bytes of the record of a checkpoint taken now
  abbrev pub checkpoint_length : World O → ℕ
  checkpoint_length w = table_length m (table_now m w)

  -- where the log begins after a trim: at the least member of the graph, or at the next LSN
  abbrev pub new_base : World O → ℕ
  new_base w = least_below (end_of w) w.graph

  -- the lengths of the records that a trim leaves in the log: the members from the new base on, and a checkpoint taken now
  abbrev pub lengths_left : World O → List ℕ
  lengths_left w = map (record_length m) (drop (new_base w - 1) w.history) ++ checkpoint_length w ∷ []

  -- the length of the log after a trim: a header, the head of the first block, and the blocks
  abbrev pub trimmed : World O → ℕ
  trimmed w = 33 + (5 + blocks_length 0 (lengths_left w))

  -- the length of its file, in which a closed gate follows the last block
  abbrev pub trimmed_file : World O → ℕ
  trimmed_file w = trimmed w + 1

  -- the log is rewritten, where all is forced and its file has at most so many bytes
  abbrev pub rewrite_within : ℕ → World O → ℕ → Course O
  rewrite_within most w used =
      if nat_lt most (trimmed_file w) then course [] used (Full used (trimmed_file w) most) else course (Header_gate (new_base w) ∷ []) (trimmed w) Through

  -- it is, where its file may be as long as a log's
  abbrev pub rewrite_course : World O → ℕ → Course O
  rewrite_course = rewrite_within log_limit

  -- a checkpoint that the world would take now, and the LSN from which a log of it is then kept
  pub record IsKeptFrom (w : World O) (base : ℕ) (table : DirtyPageTable) : Type 0 where
    pub now : table_of table ≡ table_now m w
    pub starts : base ≡ new_base w

-- how a rewrite ends; of a damaged log nothing is rewritten, as without memory
abbrev pub ending_of_rewrite : {T : Type 0} → Result T RewriteErr → Ending
ending_of_rewrite (Ok value) = Done
ending_of_rewrite (Err (of_rewrite.LogFull used need limit)) = Stopped (Full used need limit)
ending_of_rewrite (Err (of_rewrite.Exhausted epoch)) = Stopped (Worn epoch)
ending_of_rewrite (Err of_rewrite.DiskFault) = Failed
ending_of_rewrite (Err (of_rewrite.Damaged file place)) = Short
ending_of_rewrite (Err of_rewrite.Memory) = Short

-- The log is one of the next epoch, which begins at the base. No LSN is given, no command is added, and all but the log is
-- as it was.
pub record IsRewritten (before after : StoreView) (base : ℕ) : Type 0 where
  pub bounds : after.parts.log.bounds ≡ before.parts.log.bounds
  pub epoch : after.parts.log.log.header.epoch ≡ before.parts.log.log.header.epoch + 1
  pub begins : after.parts.log.log.header.base ≡ base
  pub next : after.parts.log.next ≡ before.parts.log.next
  pub accepted : after.parts.log.accepted ≡ before.parts.log.accepted
  pub same : after ≡ with_log before after.parts.log

-- a log that is not rewritten is as it was, and so is the store, but that it may be broken
abbrev pub HasRewritten : {T E : Type 0} → StoreView → StoreView → ℕ → Result T E → Type 0
HasRewritten before after base (Ok value) = IsRewritten before after base
HasRewritten before after base (Err e) = after ≡ record before { broken = after.broken }
