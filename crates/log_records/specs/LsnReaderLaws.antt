-- What the records are that a reader of records with an LSN has given, and that it may go on after the objects have changed.
use Rattle.std.proofs.Common.{◌≡◌, ◌≢◌, ℕ, suc, ◌+◌, ◌<◌, ◌≤◌, ◌&&◌, nat_le, nat_lt, Bool, cond, List, [], ◌∷◌, ◌++◌, map, refl, sym, ap, ◌∙◌, subst, arith, inl, inr}
use Rattle.std.specs.Prelude.{All}
use Rattle.std.proofs.Math.Bool.{and-true}
use Rattle.std.proofs.lemmas.Bool.{cases_Bool, cond-true, cond-false, and_parts, leb-true, ltb-true, lt-ltb}
use Rattle.std.proofs.lemmas.List.{append-nil}
use Rattle.std.proofs.lemmas.List.Elements.{All-cons, All-nil, All-filter, filter-append}
use Rattle.disk_model.specs.Disk.{Files, Disk, OthersStay}
use Rattle.disk_model.specs.declared.machine.FileNo.{FileNo}
use Rattle.disk_model.specs.declared.machine.FileNo.TheVariants.{Objects}
use Rattle.oper_core.specs.Meaning.{Meaning}
use Rattle.formats.specs.Log.{IsWholeLog}
use Rattle.formats.specs.Records.{payload_of, next_behind, next_after, IsRecord, AreRecords, Rise}
use Rattle.formats.specs.declared.record.Record.{Record}
use Rattle.formats.specs.declared.record.Record.TheVariants.{Command, Identity, Checkpoint}
use Rattle.log_blocks.specs.LogView.{LogView}
use Rattle.log_records.specs.CodecLaws.{HasCodes}
use Rattle.log_records.specs.LsnReader.{LsnReaderView, IsReadingFromLsn, AreAllFromLsn}
use Rattle.log_records.specs.RecordLaws.{next-append, next_rises, AreRecords-front}
use Rattle.log_records.specs.RecordLog.{RecordLogView, Keeps}
use Rattle.log_records.specs.RecordReader.{RecordReaderView, AreFirst, IsReading}
use Rattle.log_records.specs.Rewriting.{from_lsn, is_between, between_lsns}
use Rattle.log_records.specs.Uniqueness.{first_records, one_grouping}

module _ {O : Type 0} (m : Meaning O) where
  -- records in their places are in the grammar
  pub all_in_grammar : (base next : ℕ) (records : List (Record O)) → AreRecords m base next records → All (IsRecord m) records
  all_in_grammar base next [] are = All-nil (IsRecord m)
  all_in_grammar base next (r ∷ records) are = All-cons (IsRecord m) r records are.0 (all_in_grammar base (next_behind next r) records are.2)

module _ {O : Type 0} (m : Meaning O) (from end : ℕ) where
  same_test : (lsn : ℕ) → lsn < end → (nat_le from lsn && nat_lt lsn end) ≡ nat_le from lsn
  same_test lsn low = ap (λ (b : Bool). nat_le from lsn && b) (lt-ltb lsn end low) ∙ and-true (nat_le from lsn)

  -- of records in their places all are below an LSN that is not below the next
  between_all : (base next : ℕ) (records : List (Record O)) → AreRecords m base next records → next_after next records ≤ end → between_lsns from end records ≡ from_lsn from records
  between_all base next [] are within = refl
  between_all base next (Command lsn op ∷ records) are within =
      let rest = between_all base (next + 1) records are.2 within in
      let same = same_test lsn (omega (arith, are.1.0, within, next_rises m (next + 1) records)) in
      λ i. cond (same i) (Command lsn op ∷ rest i) (rest i)
  between_all base next (Identity lsn x value ∷ records) are within =
      let rest = between_all base (next + 1) records are.2 within in
      let same = same_test lsn (omega (arith, are.1.0, within, next_rises m (next + 1) records)) in
      λ i. cond (same i) (Identity lsn x value ∷ rest i) (rest i)
  between_all base next (Checkpoint table ∷ records) are within = between_all base next records are.2 within

  -- the numbers of those between two numbers rise
  rise_between : (base next low last : ℕ) (records : List (Record O)) → AreRecords m base next records → ((k : ℕ) → from ≤ k → next ≤ k → low ≤ k) → end ≤ last → Rise low last (between_lsns from end records)
  rise_between base next low last [] are above most = tt
  rise_between base next low last (Command lsn op ∷ records) are above most = elim (cases_Bool (nat_le from lsn && nat_lt lsn end)) [
    | inl stays ↦
        let tests = and_parts (nat_le from lsn) (nat_lt lsn end) stays in
        subst (λ (l : List (Record O)). Rise low last l) (sym (cond-true _ _ _ stays)) (
          above lsn (leb-true from lsn tests.0) (omega (arith, are.1.0)),
          omega (arith, most, ltb-true lsn end tests.1),
          rise_between base (next + 1) (lsn + 1) last records are.2 (λ k one two. omega (arith, two, are.1.0)) most,
        )
    | inr goes ↦
        subst (λ (l : List (Record O)). Rise low last l) (sym (cond-false _ _ _ goes)) (rise_between base (next + 1) low last records are.2 (λ k one two. above k one (omega (arith, two))) most)
  ]
  rise_between base next low last (Identity lsn x value ∷ records) are above most = elim (cases_Bool (nat_le from lsn && nat_lt lsn end)) [
    | inl stays ↦
        let tests = and_parts (nat_le from lsn) (nat_lt lsn end) stays in
        subst (λ (l : List (Record O)). Rise low last l) (sym (cond-true _ _ _ stays)) (
          above lsn (leb-true from lsn tests.0) (omega (arith, are.1.0)),
          omega (arith, most, ltb-true lsn end tests.1),
          rise_between base (next + 1) (lsn + 1) last records are.2 (λ k one two. omega (arith, two, are.1.0)) most,
        )
    | inr goes ↦
        subst (λ (l : List (Record O)). Rise low last l) (sym (cond-false _ _ _ goes)) (rise_between base (next + 1) low last records are.2 (λ k one two. above k one (omega (arith, two))) most)
  ]
  rise_between base next low last (Checkpoint table ∷ records) are above most = rise_between base next low last records are.2 above most

module _ {O : Type 0} (m : Meaning O) where
  -- what a reader has given is of the grammar
  pub given_in_grammar : (d : Disk) (log : RecordLogView) (it : LsnReaderView) (given : List (Record O)) → IsReadingFromLsn m d log it given → All (IsRecord m) given
  given_in_grammar d log it given is =
      let base = log.log.header.base in
      subst (λ (l : List (Record O)). All (IsRecord m) l) (sym is.given_are)
      (All-filter (is_between it.from it.end) (IsRecord m) is.all (all_in_grammar m base base is.all is.past.placed))

  -- and so is the last
  pub last_of : {X : Type 0} (P : X → Type 0) (xs : List X) (x : X) → All P (xs ++ x ∷ []) → P x
  last_of P [] x all = all 0 x (omega arith)
  last_of P (y ∷ xs) x all = last_of P xs x (λ k d less. all (suc k) d (omega (arith, less)))

  pub last_in_grammar : (d : Disk) (log : RecordLogView) (it : LsnReaderView) (given : List (Record O)) (r : Record O) → IsReadingFromLsn m d log it (given ++ r ∷ []) → IsRecord m r
  last_in_grammar d log it given r is = last_of (IsRecord m) given r (given_in_grammar d log it (given ++ r ∷ []) is)

  -- the LSNs rise, from the reader's on and below the log's next one
  pub given_rise : (d : Disk) (log : RecordLogView) (it : LsnReaderView) (given : List (Record O)) (low last : ℕ) → low ≤ it.from → log.next ≤ last → IsReadingFromLsn m d log it given → Rise low last given
  given_rise d log it given low last under most is =
      let base = log.log.header.base in
      subst (λ (l : List (Record O)). Rise low last l) (sym is.given_are)
      (rise_between m it.from it.end base base low last is.all is.past.placed (λ k one two. omega (arith, one, under)) (omega (arith, is.end, most)))

  -- the first of records in their places, of which all are below the next LSN of the log that keeps them
  first_from_lsn : (d : Disk) (log : RecordLogView) (stable pending all more : List (Record O)) (from : ℕ) → Keeps m d log stable pending → stable ≡ all ++ more
      → from_lsn from stable ≡ between_lsns from log.next all ++ between_lsns from log.next more
  first_from_lsn d log stable pending all more from keeps split =
      let base = log.log.header.base in
      let placed = AreRecords-front m base base stable pending keeps.placed in
      let within : next_after base stable ≤ log.next = omega (arith, keeps.next_is, next-append m base stable pending, next_rises m (next_after base stable) pending) in
      sym (between_all m from log.next base base stable placed within) ∙ ap (λ (l : List (Record O)). between_lsns from log.next l) split
      ∙ filter-append (is_between from log.next) all more

  -- Where what is read may be the files, and the log keeps some records, what a reader has given are the first of those from its
  -- LSN on.
  pub given_first : HasCodes m → (d : Disk) (log : RecordLogView) (it : LsnReaderView) (given stable pending : List (Record O)) → d.agrees d.reads → Keeps m d log stable pending → IsReadingFromLsn m d log it given
      → (later : List (Record O)) × (from_lsn it.from stable ≡ given ++ later)
  given_first codes d log it given stable pending agree keeps is =
      let base = log.log.header.base in
      let reading = is.reading keeps.in_force.a_log in
      let first = reading.read d.reads agree (map (payload_of m) keeps.groups) keeps.file.log in
      let placed = subst (λ (l : List (Record O)). AreRecords m base base l) first.records_are reading.placed in
      let front = first_records m codes base base base base keeps.groups first.groups first.part _ first.later keeps.file.placed placed first.stands.payloads_are in
      let split : stable ≡ is.all ++ front.more = sym keeps.stable_are ∙ front.all_are ∙ ap (λ (l : List (Record O)). l ++ front.more) (sym first.records_are) in
      let given_are : given ≡ between_lsns it.from log.next is.all = is.given_are ∙ ap (λ (n : ℕ). between_lsns it.from n is.all) is.end in (
        between_lsns it.from log.next front.more,
        first_from_lsn d log stable pending is.all front.more it.from keeps split ∙ ap (λ (l : List (Record O)). l ++ between_lsns it.from log.next front.more) (sym given_are),
      )

  -- and where it has ended they are all of them
  pub given_all : HasCodes m → (d : Disk) (log : RecordLogView) (from : ℕ) (given stable pending : List (Record O)) → d.agrees d.reads → Keeps m d log stable pending → AreAllFromLsn m d log from given
      → from_lsn from stable ≡ given
  given_all codes d log from given stable pending agree keeps is =
      let base = log.log.header.base in
      let all = is.read keeps.in_force.a_log in
      let so = all.read d.reads agree (map (payload_of m) keeps.groups) keeps.file.log in
      let same : is.all ≡ stable = so.records_are
      ∙ one_grouping m codes base base base base so.groups keeps.groups (subst (λ (l : List (Record O)). AreRecords m base base l) so.records_are all.placed) keeps.file.placed (sym so.payloads_are)
      ∙ keeps.stable_are in
      first_from_lsn d log stable pending is.all [] from keeps (sym same ∙ sym (append-nil is.all)) ∙ append-nil (between_lsns from log.next is.all) ∙ sym is.given_are

  -- A reader goes on where another file alone has changed.
  pub reading_beside : (old new : Disk) (file : FileNo) (log : LogView) (it : RecordReaderView) (records : List (Record O)) → log.active ≢ file → ((now : Files) → new.agrees now → (was : Files) × old.agrees was × OthersStay file was now)
      → IsReading m old log it records → IsReading m new log it records
  reading_beside old new file log it records apart beside is = record {
    file = is.file;
    base = is.base;
    placed = is.placed;
    next_is = is.next_is;
    short = is.short;
    read = λ now agree payloads whole.
        let was = beside now agree in
        let same = was.2 log.active apart in
        subst (λ (f : List ℕ). AreFirst m f it payloads records) (sym same)
        (is.read was.0 was.1 payloads (subst (λ (f : List ℕ). IsWholeLog log.header payloads f) same whole));
  }

  pub goes_on_beside : (old new : Disk) (log : RecordLogView) (it : LsnReaderView) (given : List (Record O)) → ((now : Files) → new.agrees now → (was : Files) × old.agrees was × OthersStay Objects was now)
      → IsReadingFromLsn m old log it given → IsReadingFromLsn m new log it given
  goes_on_beside old new log it given beside is = record {
    end = is.end;
    all = is.all;
    given_are = is.given_are;
    past = is.past;
    reading = λ apart. reading_beside old new Objects log.log it.records is.all apart beside (is.reading apart);
  }
