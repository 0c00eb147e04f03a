-- What the format says of the checkpoints of a log.
use Rattle.std.proofs.Common.{ℕ, ◌+◌, ◌≤◌, Bool, List, [], ◌∷◌, ◌++◌, arith}
use Rattle.std.specs.Prelude.{IsTrue, IsFalse, All, ◌==◌}
use Rattle.std.specs.List.{AllByRecursion}
use Rattle.std.proofs.lemmas.Bool.{cond_both}
use Rattle.std.proofs.lemmas.List.Elements.{All-head, All-tail}
use Rattle.dirty_page_table.specs.RedoStarts.{start_or}
use Rattle.dirty_page_table.specs.declared.table.DirtyPageTable.{DirtyPageTable}
use Rattle.oper_core.specs.Meaning.{Meaning}
use Rattle.formats.specs.Records.{AreRecords, IsCheckpointAt, next_after}
use Rattle.formats.specs.declared.record.Record.{Record}
use Rattle.formats.specs.declared.record.Record.TheVariants.{Command, Identity, Checkpoint}
use Rattle.install_order.specs.Order.{Access}
use Rattle.explain_core.specs.Sound.{SkipsNothing}
use Rattle.explain_core.specs.World as core
use Rattle.standing.specs.Members.{table_of, tables_in, next-members}

all-push : {T : Type 0} (P : T → Type 0) (xs : List T) (x : T) → AllByRecursion P xs → P x → AllByRecursion P (xs ++ x ∷ [])
all-push P [] x all is = (is, tt)
all-push P (y ∷ xs) x all is = (all.0, all-push P xs x all.1 is)

all-pushed : {T : Type 0} (P : T → Type 0) (xs : List T) (x : T) → AllByRecursion P (xs ++ x ∷ []) → AllByRecursion P xs × P x
all-pushed P [] x all = (tt, all.0)
all-pushed P (y ∷ xs) x all = let rest = all-pushed P xs x all.1 in ((all.0, rest.0), rest.1)

-- what each redo start of a table has, and its next LSN, the LSN from which an object is redone has
start-has : (P : ℕ → Type 0) (other : ℕ) (starts : List (ℕ × ℕ)) (x : ℕ) → P other → All (λ s. P s.1) starts → P (start_or other starts x)
start-has P other [] x is all = is
start-has P other (s ∷ starts) x is all =
    cond_both (x == s.0) s.1 (start_or other starts x) P (λ same. All-head (λ s. P s.1) s starts all)
    (λ differs. start-has P other starts x is (All-tail (λ s. P s.1) s starts all))

module _ {O : Type 0} (m : Meaning O) (a : Access) (installed : ℕ → Bool) (base : ℕ) where
  -- no redo start is past a write that is not installed
  abbrev pub IsInTime : core.Starts → Type 0
  IsInTime t = (n x : ℕ) → IsFalse (installed n) → IsTrue (a.writes n x) → t.redo_from x ≤ n

  table_fits : (next end : ℕ) (table : DirtyPageTable) → base ≤ next → next ≤ end → IsCheckpointAt m base next table → IsInTime (table_of table) → SkipsNothing a installed base end (table_of table)
  table_fits next end table low high at in_time =
      let next_is = at.next_is in
      record {
        before = in_time;
        start = λ x. start-has (λ k. k ≤ table.next) table.next table.starts x (omega arith) (λ i d within. let lt = at.before i d within in omega (arith, lt, next_is));
        from_base = λ x. start-has (λ k. base ≤ k) table.next table.starts x (omega (arith, low, next_is)) at.from_base;
        next_from_base = omega (arith, low, next_is);
        next_within = omega (arith, high, next_is);
      }

  pub tables_fit : (next end : ℕ) (records : List (Record O)) → base ≤ next → next_after next records ≤ end → AreRecords m base next records
      → AllByRecursion IsInTime (tables_in records) → AllByRecursion (SkipsNothing a installed base end) (tables_in records)
  tables_fit next end [] low high are in_time = tt
  tables_fit next end (Command lsn op ∷ records) low high are in_time = tables_fit (next + 1) end records (omega (arith, low)) high are.2 in_time
  tables_fit next end (Identity lsn x value ∷ records) low high are in_time = tables_fit (next + 1) end records (omega (arith, low)) high are.2 in_time
  tables_fit next end (Checkpoint table ∷ records) low high are in_time =
      let parts = all-pushed IsInTime (tables_in records) (table_of table) in_time in
      let within : next ≤ end = omega (arith, high, next-members next records) in
      all-push (SkipsNothing a installed base end) (tables_in records) (table_of table)
      (tables_fit next end records low high are.2 parts.0) (table_fits next end table low within are.1 parts.1)
