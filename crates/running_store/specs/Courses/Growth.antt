-- The length that the log has in memory is the one of the courses.
use Rattle.std.proofs.Common.{◌≡◌, ◌∙◌, sym, ap, ℕ, ◌+◌, ◌<◌, Bool, true, false, List, [], ◌∷◌, ◌++◌, length, drop, refl, arith, length-append, length-drop}
use Rattle.std.specs.Prelude.{◌||◌, nat_lt}
use Rattle.std.proofs.lemmas.Bool.{lt-ltb, le-ltb, cond-true, cond-false}
use Rattle.byteorder.specs.Endian.{little_bytes}
use Rattle.oper_core.specs.LittleEndian.{length-little_bytes}
use Rattle.oper_core.specs.Meaning.{Meaning}
use Rattle.disk_model.specs.Disk.{Disk}
use Rattle.formats.specs.Records.{record_code, payload_of}
use Rattle.formats.specs.declared.record.Record.{Record}
use Rattle.formats.specs.declared.record.Record.TheVariants.{Command as Logged_command, Identity as Logged_identity, Checkpoint as Logged_checkpoint}
use Rattle.log_blocks.specs.LogView.{end_with, used_of, growth_of}
use Rattle.log_records.specs.RecordLog.{RecordLogView}
use Rattle.explain_core.specs.History.{Member}
use Rattle.explain_core.specs.History.Member.{Command, Identity}
use Rattle.explain_core.specs.World.{World, Starts}
use Rattle.standing.specs.Members.{members_of, tables_in, table_of}
use Rattle.running_store.specs.Courses.{waits, grown, record_length}
use Rattle.running_store.specs.Parts.{ShowsLog, record_of}

module _ {O : Type 0} (m : Meaning O) where
  -- a record has as many bytes as its member
  pub code_length : (lsn : ℕ) (member : Member O) → length (record_code m (record_of lsn member)) ≡ record_length m member
  code_length lsn (Command op) = omega (arith, length-append (little_bytes 8 lsn) (m.code op), length-little_bytes 8 lsn)
  code_length lsn (Identity x value) = omega (
    arith,
    length-append (little_bytes 8 lsn) (little_bytes 4 x ++ (little_bytes 4 (length value) ++ value)),
    length-little_bytes 8 lsn,
    length-append (little_bytes 4 x) (little_bytes 4 (length value) ++ value),
    length-little_bytes 4 x,
    length-append (little_bytes 4 (length value)) value,
    length-little_bytes 4 (length value),
  )

  -- a payload of some records has some bytes
  payload_some : (r : Record O) (records : List (Record O)) (gate n : ℕ) → growth_of (payload_of m (r ∷ records)) n ≡ n
  payload_some (Logged_command lsn op) records gate n = refl
  payload_some (Logged_identity lsn x value) records gate n = refl
  payload_some (Logged_checkpoint table) records gate n = refl

  -- where records wait, the world says so
  waiting_some : (w : World O) (r : Record O) (records : List (Record O)) → members_of (r ∷ records) ≡ drop w.forced w.history → tables_in (r ∷ records) ≡ w.pending → waits m w ≡ true
  waiting_some w (Logged_command lsn op) records members tables =
      ap (λ (b : Bool). b || nat_lt 0 (length w.pending)) (lt-ltb w.forced (length w.history) (omega (arith, ap length members, length-drop w.forced w.history)))
  waiting_some w (Logged_identity lsn x value) records members tables =
      ap (λ (b : Bool). b || nat_lt 0 (length w.pending)) (lt-ltb w.forced (length w.history) (omega (arith, ap length members, length-drop w.forced w.history)))
  waiting_some w (Logged_checkpoint table) records members tables =
      ap (λ (b : Bool). nat_lt w.forced (length w.history) || b) (lt-ltb 0 (length w.pending) (omega (arith, ap length tables, length-append (tables_in records) (table_of table ∷ [])))) ∙ or_true (nat_lt w.forced (length w.history))
    where
      or_true : (b : Bool) → (b || true) ≡ true
      or_true true = refl
      or_true false = refl

  waiting_none : (w : World O) → [] ≡ drop w.forced w.history → [] ≡ w.pending → waits m w ≡ false
  waiting_none w members tables =
      ap (λ (b : Bool). b || nat_lt 0 (length w.pending)) (le-ltb w.forced (length w.history) (omega (arith, ap length members, length-drop w.forced w.history)))
      ∙ ap (λ (l : List Starts). nat_lt 0 (length l)) (sym tables)

  -- so many bytes more make the log as long as the courses say
  pub growth_shown : (d : Disk) (log : RecordLogView) (w : World O) (n : ℕ) → ShowsLog m d log w → used_of log.log + growth_of log.log.pending n ≡ grown m w (used_of log.log) n
  growth_shown d log w n shows = by_records shows.pending shows.keeps.pending_are shows.waiting shows.pending_tables
    where
      by_records : (records : List (Record O)) → log.log.pending ≡ payload_of m records → members_of records ≡ drop w.forced w.history → tables_in records ≡ w.pending → used_of log.log + growth_of log.log.pending n ≡ grown m w (used_of log.log) n
      by_records [] bytes members tables =
          ap (λ (l : List ℕ). used_of log.log + growth_of l n) bytes ∙ ap (λ (k : ℕ). used_of log.log + k) (sym (cond-false (waits m w) n (n + 5) (waiting_none w members tables)))
      by_records (r ∷ records) bytes members tables =
          ap (λ (l : List ℕ). used_of log.log + growth_of l n) bytes ∙ ap (λ (k : ℕ). used_of log.log + k) (payload_some r records 0 n ∙ sym (cond-true (waits m w) n (n + 5) (waiting_some w r records members tables)))

-- the length with some bytes more after those that wait
pub end_more : (gate : ℕ) (pending bytes : List ℕ) → 0 < length bytes → end_with gate (pending ++ bytes) ≡ end_with gate pending + growth_of pending (length bytes)
end_more gate [] [] some = absurd (omega (arith, some))
end_more gate [] (b ∷ bytes) some = omega arith
end_more gate (a ∷ pending) bytes some = let l : length (pending ++ bytes) ≡ length pending + length bytes = length-append pending bytes in omega (arith, l)

-- a record takes some bytes of the log
pub growth_some : (pending : List ℕ) (n : ℕ) → 0 < n → 0 < growth_of pending n
growth_some [] n some = omega arith
growth_some (a ∷ pending) n some = some
