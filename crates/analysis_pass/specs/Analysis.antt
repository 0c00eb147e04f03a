-- Where a redo by the last checkpoint of a log starts.
use Rattle.std.specs.Prelude.{ℕ, min, Option, None, Some, List, [], ◌∷◌}
use Rattle.dirty_page_table.specs.declared.table.DirtyPageTable.{DirtyPageTable}
use Rattle.formats.specs.Records.{last_checkpoint}
use Rattle.formats.specs.declared.record.Record.{Record}

-- a redo, as contracts see it before it begins
pub record PlanView : Type 0 where
  -- the LSN at which it starts
  pub start : ℕ
  -- from which LSN on it applies what is written to each object
  pub table : DirtyPageTable

-- without a checkpoint, an empty table whose next LSN is the base, so each object starts there
abbrev pub table_or : ℕ → Option DirtyPageTable → DirtyPageTable
table_or base None = record { next = base; starts = [] }
table_or base (Some table) = table

-- the table by which a log that begins at this base, with these records, is redone
abbrev pub plan_table : {O : Type 0} → ℕ → List (Record O) → DirtyPageTable
plan_table base records = table_or base (last_checkpoint records)

-- the least of a number and of redo starts
abbrev pub least_start : ℕ → List (ℕ × ℕ) → ℕ
least_start next [] = next
least_start next (s ∷ starts) = min s.1 (least_start next starts)
