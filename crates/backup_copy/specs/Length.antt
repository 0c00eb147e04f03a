-- How long the log of a backup is.
use Rattle.std.specs.Prelude.{◌+◌, ◌-◌, ℕ, List, [], ◌∷◌, drop, map, take}
use Rattle.oper_core.specs.Meaning.{Meaning}
use Rattle.formats.specs.Records.{payload_of}
use Rattle.formats.specs.declared.record.Record.{Record}
use Rattle.formats.specs.declared.record.Record.TheVariants as logged
use Rattle.log_blocks.specs.Rewriting.{file_length}
use Rattle.log_records.specs.LogCopy.{or_checkpoint}
use Rattle.log_records.specs.Rewriting.{in_full_blocks}
use Rattle.explain_core.specs.History.{Member}
use Rattle.explain_core.specs.History.Member.{Command, Identity}
use Rattle.explain_core.specs.World.{World}

-- the records of these members, which are numbered from an LSN on
abbrev pub records_from : {O : Type 0} → ℕ → List (Member O) → List (Record O)
records_from next [] = []
records_from next (Command op ∷ members) = logged.Command next op ∷ records_from (next + 1) members
records_from next (Identity x value ∷ members) = logged.Identity next x value ∷ records_from (next + 1) members

-- The log of a backup of a world has the stable members from the world's base on, in blocks as full as whole records allow, or
-- an empty checkpoint where there are none. So many bytes has it.
abbrev pub backup_length : {O : Type 0} → Meaning O → World O → ℕ
backup_length m w =
    let records = records_from w.base (drop (w.base - 1) (take w.forced w.history)) in
    file_length (map (payload_of m) (in_full_blocks m (or_checkpoint w.base records)))
