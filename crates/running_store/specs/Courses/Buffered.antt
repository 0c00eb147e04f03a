-- As many bytes wait in the log's buffer as the courses say.
use Rattle.std.proofs.Common.{◌≡◌, ◌∙◌, sym, subst, ap, ℕ, suc, ◌+◌, ◌*◌, ◌<◌, Bool, false, List, [], ◌∷◌, ◌++◌, length, map, refl, arith, length-append, if◌then◌else◌, inl, inr}
use Rattle.std.specs.Prelude.{All, IsFalse, ◌^◌, ◌≤◌, slice_index_or, nat_eq, nat_lt, ◌||◌, ◌==◌}
use Rattle.std.specs.List.{flat_map, AllPairs}
use Rattle.std.proofs.lemmas.Bool.{cases_Bool, or_parts, lt-ltb, le-ltb, ne_eqb, cond-true, cond-false}
use Rattle.std.proofs.lemmas.List.Elements.{All-head, All-tail}
use Rattle.std.proofs.lemmas.List.Kept.{AllPairs-from_increasing}
use Rattle.byteorder.specs.Endian.{little_bytes}
use Rattle.oper_core.specs.LittleEndian.{length-little_bytes}
use Rattle.oper_core.specs.Meaning.{Meaning}
use Rattle.oper_core.specs.State.{is_among}
use Rattle.disk_model.specs.Disk.{Disk}
use Rattle.dirty_page_table.specs.Codec.{start_code}
use Rattle.dirty_page_table.specs.RedoStarts.{start_or}
use Rattle.dirty_page_table.specs.declared.table.DirtyPageTable.{DirtyPageTable as Checkpoint_table}
use Rattle.formats.specs.Records.{record_code, payload_of, next_after, next_behind, AreRecords, IsCheckpointAt}
use Rattle.formats.specs.declared.record.Record.{Record}
use Rattle.formats.specs.declared.record.Record.TheVariants.{Command as Logged_command, Identity as Logged_identity, Checkpoint as Logged_checkpoint}
use Rattle.log_records.specs.RecordLog.{RecordLogView}
use Rattle.explain_core.specs.CountLaws.{count_same, count_none, count_more}
use Rattle.explain_core.specs.Turns.{count_below}
use Rattle.explain_core.specs.World.{World, Starts}
use Rattle.standing.specs.Members.{members_of, tables_in, table_of}
use Rattle.running_store.specs.Courses.{buffered, force_steps, room_steps, records_length, table_length, tables_length}
use Rattle.running_store.specs.Parts.{ShowsLog}

-- the objects of pairs
abbrev pub firsts : List (ℕ × ℕ) → List ℕ
firsts starts = map (λ s. s.0) starts

-- an object without a start
pub start_absent : (other : ℕ) (starts : List (ℕ × ℕ)) (x : ℕ) → IsFalse (is_among x (firsts starts)) → start_or other starts x ≡ other
start_absent other [] x none = refl
start_absent other (s ∷ starts) x none =
    let apart = or_parts (x == s.0) (is_among x (firsts starts)) none in
    ap (λ (b : Bool). if b then s.1 else start_or other starts x) apart.0 ∙ start_absent other starts x apart.1

-- an LSN below all others is not among them
below_all : (x : ℕ) (xs : List ℕ) → ((j : ℕ) → j < length xs → x < slice_index_or xs j 0) → IsFalse (is_among x xs)
below_all x [] each = refl
below_all x (y ∷ xs) each =
    ap (λ (b : Bool). b || is_among x xs) (ne_eqb x y (λ e. absurd (omega (arith, e, each 0 (omega arith))))) ∙ below_all x xs (λ j lt. each (suc j) (omega (arith, lt)))

-- as many objects have a start below the next LSN as there are pairs
count_starts : (n next : ℕ) (starts : List (ℕ × ℕ)) → AllPairs (λ x y. x < y) (firsts starts) → All (λ s. s.0 < n) starts → All (λ s. s.1 < next) starts
    → count_below n (λ x. nat_lt (start_or next starts x) next) ≡ length starts
count_starts n next [] rising there before = count_same n (λ x. nat_lt next next) (λ x. false) (λ x lt. le-ltb next next (omega arith)) ∙ count_none n
count_starts n next (s ∷ starts) rising there before =
    let q : ℕ → Bool = λ x. nat_lt (start_or next starts x) next in
    let low : s.1 < next = All-head (λ (t : ℕ × ℕ). t.1 < next) s starts before in
    let here : s.0 < n = All-head (λ (t : ℕ × ℕ). t.0 < n) s starts there in
    let none : q s.0 ≡ false = ap (λ (k : ℕ). nat_lt k next) (start_absent next starts s.0 (below_all s.0 (firsts starts) (λ j lt. rising 0 (suc j) 0 (omega arith) (omega (arith, lt))))) ∙ le-ltb next next (omega arith) in
    count_same n (λ x. nat_lt (if x == s.0 then s.1 else start_or next starts x) next) (λ x. nat_eq x s.0 || q x) (λ x lt. elim (cases_Bool (x == s.0)) [
      | inl is ↦ ap (λ (b : Bool). nat_lt (if b then s.1 else start_or next starts x) next) is ∙ lt-ltb s.1 next low ∙ sym (ap (λ (b : Bool). b || q x) is)
      | inr other ↦ ap (λ (b : Bool). nat_lt (if b then s.1 else start_or next starts x) next) other ∙ sym (ap (λ (b : Bool). b || q x) other)
    ])
    ∙ count_more n s.0 q here none
    ∙ ap suc (count_starts n next starts (λ i j d lt low. rising (suc i) (suc j) d (omega (arith, lt)) (omega (arith, low))) (All-tail (λ (t : ℕ × ℕ). t.0 < n) s starts there) (All-tail (λ (t : ℕ × ℕ). t.1 < next) s starts before))

-- a start has twelve bytes
pub start_bytes : (starts : List (ℕ × ℕ)) → length (flat_map start_code starts) ≡ 12 * length starts
start_bytes [] = refl
start_bytes (s ∷ starts) =
    let rest = start_bytes starts in
    omega (arith, rest, length-append (start_code s) (flat_map start_code starts), length-append (little_bytes 4 s.0) (little_bytes 8 s.1), length-little_bytes 4 s.0, length-little_bytes 8 s.1)

module _ {O : Type 0} (m : Meaning O) where
  -- a checkpoint has as many bytes as its table
  pub checkpoint_bytes : (base next : ℕ) (table : Checkpoint_table) → IsCheckpointAt m base next table → length (record_code m (Logged_checkpoint table)) ≡ table_length m (table_of table)
  checkpoint_bytes base next table is =
      let before : All (λ s. s.1 < table.next) table.starts = subst (λ (k : ℕ). All (λ (s : ℕ × ℕ). s.1 < k) table.starts) (sym is.next_is) is.before in
      let count = count_starts m.objects table.next table.starts (AllPairs-from_increasing (firsts table.starts) is.rising) is.there before in
      omega (
        arith,
        count,
        start_bytes table.starts,
        length-append (little_bytes 8 table.next) (little_bytes 4 (length table.starts) ++ flat_map start_code table.starts),
        length-little_bytes 8 table.next,
        length-append (little_bytes 4 (length table.starts)) (flat_map start_code table.starts),
        length-little_bytes 4 (length table.starts),
      )

  tables_append : (ts us : List Starts) → tables_length m (ts ++ us) ≡ tables_length m ts + tables_length m us
  tables_append [] us = omega arith
  tables_append (t ∷ ts) us = let rest = tables_append ts us in omega (arith, rest)

  -- records have the bytes of their members and of their checks
  payload_bytes : (base next : ℕ) (records : List (Record O)) → AreRecords m base next records
      → length (payload_of m records) ≡ records_length m (members_of records) + tables_length m (tables_in records)
  payload_bytes base next [] all = refl
  payload_bytes base next (Logged_command lsn op ∷ records) all =
      let rest = payload_bytes base (next + 1) records all.2 in
      omega (arith, rest, length-append (record_code m (Logged_command lsn op)) (payload_of m records), length-append (little_bytes 8 lsn) (m.code op), length-little_bytes 8 lsn)
  payload_bytes base next (Logged_identity lsn x value ∷ records) all =
      let rest = payload_bytes base (next + 1) records all.2 in
      omega (
        arith,
        rest,
        length-append (record_code m (Logged_identity lsn x value)) (payload_of m records),
        length-append (little_bytes 8 lsn) (little_bytes 4 x ++ (little_bytes 4 (length value) ++ value)),
        length-little_bytes 8 lsn,
        length-append (little_bytes 4 x) (little_bytes 4 (length value) ++ value),
        length-little_bytes 4 x,
        length-append (little_bytes 4 (length value)) value,
        length-little_bytes 4 (length value),
      )
  payload_bytes base next (Logged_checkpoint table ∷ records) all =
      let rest = payload_bytes base next records all.2 in
      omega (arith, rest, length-append (record_code m (Logged_checkpoint table)) (payload_of m records), checkpoint_bytes base next table all.1, tables_append (tables_in records) (table_of table ∷ []))

  records_behind : (base next : ℕ) (stable pending : List (Record O)) → AreRecords m base next (stable ++ pending) → AreRecords m base (next_after next stable) pending
  records_behind base next [] pending all = all
  records_behind base next (r ∷ stable) pending all = records_behind base (next_behind next r) stable pending all.2

  -- so many bytes wait
  pub buffered_shown : (d : Disk) (log : RecordLogView) (w : World O) → ShowsLog m d log w → length log.log.pending ≡ buffered m w
  buffered_shown d log w shows =
      let base = log.log.header.base in
      ap length shows.keeps.pending_are ∙ payload_bytes base (next_after base shows.stable) shows.pending (records_behind base base shows.stable shows.pending shows.keeps.placed)
      ∙ (λ i. records_length m (shows.waiting i) + tables_length m (shows.pending_tables i))

  -- a record of n bytes fits into the block that waits, so nothing is forced before it
  pub room_none : (d : Disk) (log : RecordLogView) (w : World O) (n : ℕ) → ShowsLog m d log w → length log.log.pending + n ≤ 2 ^ 30 → room_steps m w n ≡ []
  room_none d log w n shows fits =
      cond-false (nat_lt (2 ^ 30) (buffered m w + n)) (force_steps m w) [] (le-ltb (2 ^ 30) (buffered m w + n) (omega (arith, fits, buffered_shown d log w shows)))

  -- it does not, so what waits is forced
  pub room_force : (d : Disk) (log : RecordLogView) (w : World O) (n : ℕ) → ShowsLog m d log w → 2 ^ 30 < length log.log.pending + n → room_steps m w n ≡ force_steps m w
  room_force d log w n shows long =
      cond-true (nat_lt (2 ^ 30) (buffered m w + n)) (force_steps m w) [] (lt-ltb (2 ^ 30) (buffered m w + n) (omega (arith, long, buffered_shown d log w shows)))
