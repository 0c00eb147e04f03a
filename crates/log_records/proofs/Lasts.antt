-- The last checkpoint of records that grow at their end.
use Rattle.std.proofs.Common.{◌≡◌, ◌∙◌, refl, ap, Option, None, Some, List, [], ◌∷◌, ◌++◌}
use Rattle.std.specs.Option.{option_or}
use Rattle.dirty_page_table.specs.declared.table.DirtyPageTable.{DirtyPageTable}
use Rattle.formats.specs.Records.{last_checkpoint}
use Rattle.formats.specs.declared.record.Record.{Record}
use Rattle.formats.specs.declared.record.Record.TheVariants.{Command, Identity, Checkpoint}

or_none : (a : Option DirtyPageTable) → a ≡ option_or a None
or_none None = refl
or_none (Some t) = refl

or_assoc : (a b c : Option DirtyPageTable) → option_or (option_or a b) c ≡ option_or a (option_or b c)
or_assoc None b c = refl
or_assoc (Some t) b c = refl

-- with one more it is that one, where it is a checkpoint, and else the one before
pub last_push : {O : Type 0} (records : List (Record O)) (r : Record O) → last_checkpoint (records ++ r ∷ []) ≡ option_or (last_checkpoint (r ∷ [])) (last_checkpoint records)
last_push [] r = or_none (last_checkpoint (r ∷ []))
last_push (Command lsn op ∷ records) r = last_push records r
last_push (Identity lsn x value ∷ records) r = last_push records r
last_push (Checkpoint t ∷ records) r =
    ap (λ (o : Option DirtyPageTable). option_or o (Some t)) (last_push records r) ∙ or_assoc (last_checkpoint (r ∷ [])) (last_checkpoint records) (Some t)
