-- Records that are the members of a history from an LSN on.
use Rattle.std.specs.Prelude.{◌≡◌, ◌<◌, ◌+◌, ⊤, ℕ, Some, List, [], ◌∷◌, length}
use Rattle.formats.specs.declared.record.Record.{Record}
use Rattle.formats.specs.declared.record.Record.TheVariants.{Command, Identity, Checkpoint}
use Rattle.explain_core.specs.History.{Member, with_lsn}
use Rattle.explain_core.specs.History.Member.{Command as a_command, Identity as an_identity}

-- the record's LSN is below this one; a checkpoint has none
abbrev pub IsBelow : {O : Type 0} → ℕ → Record O → Type 0
IsBelow end (Command lsn op) = lsn < end
IsBelow end (Identity lsn x value) = lsn < end
IsBelow end (Checkpoint table) = ⊤

-- the records with an LSN are the members of the history from the LSN k on, to its end
abbrev pub AreMembers : {O : Type 0} → List (Member O) → ℕ → List (Record O) → Type 0
AreMembers h k [] = k ≡ length h + 1
AreMembers h k (Command lsn op ∷ records) = (lsn ≡ k) × (with_lsn h k ≡ Some (a_command op)) × AreMembers h (k + 1) records
AreMembers h k (Identity lsn x value ∷ records) = (lsn ≡ k) × (with_lsn h k ≡ Some (an_identity x value)) × AreMembers h (k + 1) records
AreMembers h k (Checkpoint table ∷ records) = AreMembers h k records
