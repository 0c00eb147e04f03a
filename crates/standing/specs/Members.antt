-- The log's records as members of a history, and its checkpoints as those of a world.
use Rattle.std.specs.Prelude.{◌≡◌, ◌+◌, ℕ, List, [], ◌∷◌, ◌++◌, length, refl}
use Rattle.std.proofs.Common.{ap, sym, ◌∙◌, arith, append_assoc}
use Rattle.std.proofs.lemmas.List.{append-nil}
use Rattle.dirty_page_table.specs.RedoStarts as starts
use Rattle.dirty_page_table.specs.declared.table.DirtyPageTable.{DirtyPageTable}
use Rattle.formats.specs.Records.{next_after, commands_of as logged_commands}
use Rattle.formats.specs.declared.record.Record.{Record}
use Rattle.formats.specs.declared.record.Record.TheVariants.{Command as Logged_command, Identity as Logged_identity, Checkpoint as Logged_checkpoint}
use Rattle.explain_core.specs.History.{Member, commands_of}
use Rattle.explain_core.specs.History.Member.{Command, Identity}
use Rattle.explain_core.specs.World as core

-- a checkpoint's table in the terms of a world: the LSN from which a redo applies what is written to each object
abbrev pub table_of : DirtyPageTable → core.Starts
table_of table = record { redo_from = starts.redo_from table; next = table.next }

-- the members that the records with an LSN are
abbrev pub members_of : {O : Type 0} → List (Record O) → List (Member O)
members_of [] = []
members_of (Logged_command lsn op ∷ records) = Command op ∷ members_of records
members_of (Logged_identity lsn x value ∷ records) = Identity x value ∷ members_of records
members_of (Logged_checkpoint table ∷ records) = members_of records

-- the checkpoints among the records, the newest first
abbrev pub tables_in : {O : Type 0} → List (Record O) → List core.Starts
tables_in [] = []
tables_in (Logged_command lsn op ∷ records) = tables_in records
tables_in (Logged_identity lsn x value ∷ records) = tables_in records
tables_in (Logged_checkpoint table ∷ records) = tables_in records ++ table_of table ∷ []

pub members-append : {O : Type 0} (xs ys : List (Record O)) → members_of (xs ++ ys) ≡ members_of xs ++ members_of ys
members-append [] ys = refl
members-append {O} (Logged_command lsn op ∷ xs) ys = ap (λ (l : List (Member O)). Command op ∷ l) (members-append xs ys)
members-append {O} (Logged_identity lsn x value ∷ xs) ys = ap (λ (l : List (Member O)). Identity x value ∷ l) (members-append xs ys)
members-append (Logged_checkpoint table ∷ xs) ys = members-append xs ys

pub tables-append : {O : Type 0} (xs ys : List (Record O)) → tables_in (xs ++ ys) ≡ tables_in ys ++ tables_in xs
tables-append [] ys = sym (append-nil (tables_in ys))
tables-append (Logged_command lsn op ∷ xs) ys = tables-append xs ys
tables-append (Logged_identity lsn x value ∷ xs) ys = tables-append xs ys
tables-append (Logged_checkpoint table ∷ xs) ys = ap (λ (l : List core.Starts). l ++ table_of table ∷ []) (tables-append xs ys) ∙ append_assoc (tables_in ys) (tables_in xs) (table_of table ∷ [])

-- the next LSN counts the members
pub next-members : {O : Type 0} (next : ℕ) (xs : List (Record O)) → next_after next xs ≡ next + length (members_of xs)
next-members next [] = omega arith
next-members next (Logged_command lsn op ∷ xs) = let r = next-members (next + 1) xs in omega (arith, r)
next-members next (Logged_identity lsn x value ∷ xs) = let r = next-members (next + 1) xs in omega (arith, r)
next-members next (Logged_checkpoint table ∷ xs) = next-members next xs

-- their commands are those of the records
pub commands-members : {O : Type 0} (xs : List (Record O)) → commands_of (members_of xs) ≡ logged_commands xs
commands-members [] = refl
commands-members {O} (Logged_command lsn op ∷ xs) = ap (λ (l : List O). op ∷ l) (commands-members xs)
commands-members (Logged_identity lsn x value ∷ xs) = commands-members xs
commands-members (Logged_checkpoint table ∷ xs) = commands-members xs
