-- The last checkpoint of records that are right in their places.
use Rattle.std.proofs.Common.{◌≡◌, ◌+◌, ℕ, Option, None, Some, List, [], ◌∷◌}
use Rattle.std.specs.Option.{option_or}
use Rattle.std.specs.Prelude.{IfSome}
use Rattle.oper_core.specs.Meaning.{Meaning}
use Rattle.formats.specs.Records.{last_checkpoint, IsCheckpointAt, AreRecords}
use Rattle.formats.specs.declared.record.Record.{Record}
use Rattle.formats.specs.declared.record.Record.TheVariants.{Command, Identity, Checkpoint}
use Rattle.dirty_page_table.specs.RedoStarts.{redo_from}
use Rattle.dirty_page_table.specs.declared.table.DirtyPageTable.{DirtyPageTable}
use Rattle.explain_core.specs.World.{start_of}
use Rattle.analysis_pass.specs.Analysis.{table_or, plan_table, least_start}
use Rattle.analysis_pass.proofs.Least.{least_start-is, least_start-none}

module _ {O : Type 0} (m : Meaning O) (base : ℕ) where
  -- it is right in its place
  abbrev IsSomewhere : DirtyPageTable → Type 0
  IsSomewhere table = (next : ℕ) × IsCheckpointAt m base next table

  or_earlier : (last : Option DirtyPageTable) (t : DirtyPageTable) → IfSome last IsSomewhere → IsSomewhere t → IfSome (option_or last (Some t)) IsSomewhere
  or_earlier None t none is = is
  or_earlier (Some s) t is earlier = is

  last_is_placed : (next : ℕ) (records : List (Record O)) → AreRecords m base next records → IfSome (last_checkpoint records) IsSomewhere
  last_is_placed next [] are = tt
  last_is_placed next (Command lsn op ∷ records) are = last_is_placed (next + 1) records are.2
  last_is_placed next (Identity lsn x value ∷ records) are = last_is_placed (next + 1) records are.2
  last_is_placed next (Checkpoint t ∷ records) are = or_earlier (last_checkpoint records) t (last_is_placed next records are.2) (next, are.1)

  pub checkpoint_starts : (next : ℕ) (table : DirtyPageTable) → IsCheckpointAt m base next table → least_start table.next table.starts ≡ start_of m.objects (record { redo_from = redo_from table; next = table.next })
  checkpoint_starts next table is = least_start-is m.objects table is.rising is.there

  by_last : (last : Option DirtyPageTable) → IfSome last IsSomewhere
      → least_start (table_or base last).next (table_or base last).starts ≡ start_of m.objects (record { redo_from = redo_from (table_or base last); next = (table_or base last).next })
  by_last None none = least_start-none m.objects base
  by_last (Some table) is = checkpoint_starts is.0 table is.1

  pub plan_starts : (next : ℕ) (records : List (Record O)) → AreRecords m base next records
      → least_start (plan_table base records).next (plan_table base records).starts
      ≡ start_of m.objects (record { redo_from = redo_from (plan_table base records); next = (plan_table base records).next })
  plan_starts next records are = by_last (last_checkpoint records) (last_is_placed next records are)
