-- How a reader goes on from block to block, and what it gives of each.
use Rattle.std.proofs.Common.{◌≡◌, ◌<◌, ◌≤◌, ℕ, Bool, true, false, Option, None, Some, List, [], ◌∷◌, ◌++◌, filter, length, map, take, refl, sym, ap, ◌∙◌, subst, arith, inl, inr, append_assoc, length-append}
use Rattle.std.proofs.lemmas.Bool.{cases_eq}
use Rattle.std.proofs.lemmas.List.{append-nil, map-append, take_at}
use Rattle.std.proofs.lemmas.List.Concat.{flat_map-append}
use Rattle.std.proofs.lemmas.List.Elements.{filter-append}
use Rattle.disk_model.specs.Disk.{Files, Disk, Stays, read_of}
use Rattle.disk_model.specs.Moments.{agreed_before, stays_twice}
use Rattle.disk_model.specs.declared.machine.FileNo.{FileNo}
use Rattle.oper_core.specs.Meaning.{Meaning}
use Rattle.oper_core.specs.declared.bounds.Bounds.{Bounds}
use Rattle.formats.specs.Log.{end_of}
use Rattle.formats.specs.Records.{payload_of, record_code, records_of, AreRecords}
use Rattle.formats.specs.declared.record.Record.{Record}
use Rattle.log_blocks.specs.Forcing.{with_block}
use Rattle.log_blocks.specs.LogView.{LogView}
use Rattle.log_blocks.specs.Payloads.{PayloadReaderView, HasNext, IsInLog, ahead, remaining, untaken}
use Rattle.log_records.specs.BlockReader.{AreAllBlocks, GoesOn, IsReadingBlocks, IsReadingIn, TakesRecord, blocks_from, is_some_list, payloads_from}
use Rattle.log_records.specs.Codec.{AreShort, StartsWithRecord}
use Rattle.log_records.specs.RecordLaws.{payload_push, payloads-with_group, records-with_group, with_group, with_group-none, with_group-some}
use Rattle.log_records.specs.RecordReader.{RecordReaderView, IsReading, HasEnded, HasFound}
use Rattle.log_records.specs.Rewriting.{is_from_lsn, from_lsn}
use Rattle.log_records.proofs.Laid.{code_some}

nil_of : (l : List ℕ) → length l ≡ 0 → l ≡ []
nil_of [] none = refl
nil_of (x ∷ l) none = absurd (omega (arith, none))

-- a reader that looked for the next payload, where it had taken nothing of the one in hand
pub goes_next : (file : List ℕ) (it : PayloadReaderView) (payloads passed : List (List ℕ)) (taken : List ℕ) (later : List (List ℕ)) (more : Bool) → taken ≡ [] → HasNext file it payloads (with_block passed taken) later more → GoesOn file it payloads passed taken more
goes_next file it payloads passed taken later true none next = (
  next.1,
  subst (λ (t : List ℕ). IsInLog file it payloads passed t next.1) (sym none) (subst (λ (l : List (List ℕ)). IsInLog file it payloads l [] next.1) (ap (with_block passed) none) next.3),
)
goes_next file it payloads passed taken later false none next = next ∙ ap (with_block passed) none

-- nothing is left of the payload in hand
untaken_none : (file : List ℕ) (it : PayloadReaderView) → remaining it ≡ 0 → untaken file it ≡ []
untaken_none file it none =
    let bytes : it.bytes ≡ [] = nil_of it.bytes (omega (arith, none)) in
    let left : it.left ≡ 0 = omega (arith, none) in
    λ i. bytes i ++ read_of file it.place (left i)

-- then it is passed
rest_between : (file : List ℕ) (it : PayloadReaderView) (payloads passed : List (List ℕ)) (taken : List ℕ) (later : List (List ℕ)) → IsInLog file it payloads passed taken later → remaining it ≡ 0 → IsInLog file it payloads (with_block passed taken) [] later
rest_between file it payloads passed taken later is none =
    let rest = untaken_none file it none in
    let here : with_block passed (taken ++ untaken file it) ≡ with_block (with_block passed taken) (untaken file it) =
    ap (λ (l : List ℕ). with_block passed (taken ++ l)) rest ∙ ap (with_block passed) (append-nil taken) ∙ sym (ap (with_block (with_block passed taken)) rest) in
    record {
      header = is.header;
      whole = is.whole;
      payloads_are = is.payloads_are ∙ ap (λ (l : List (List ℕ)). l ++ later) here;
      gate = is.gate ∙ ap end_of here;
      within = is.within;
      size = is.size;
    }

module _ {O : Type 0} (m : Meaning O) where
  -- the code of a record was taken off the bytes in memory
  pub takes_record : (file : List ℕ) (searched moved : PayloadReaderView) (payloads passed : List (List ℕ)) (taken : List ℕ) (rest : List (List ℕ)) (r : Record O) (n : ℕ) → StartsWithRecord m searched.bytes r → n ≡ length (record_code m r)
      → IsInLog file moved payloads passed (taken ++ take n searched.bytes) rest → IsInLog file moved payloads passed (taken ++ record_code m r) rest
  takes_record file searched moved payloads passed taken rest r n starts long stands =
      let code : take n searched.bytes ≡ record_code m r = ap (take n) starts.split ∙ take_at (record_code m r) starts.rest n (sym long) in
      subst (λ (l : List ℕ). IsInLog file moved payloads passed (taken ++ l) rest) code stands

  -- a reader that stands at the end of a block has passed it
  stands_between : (d : Disk) (log : LogView) (it : RecordReaderView) (groups : List (List (Record O))) (part : List (Record O)) → IsReadingIn m d log it groups part → remaining it.payloads ≡ 0 → IsReadingIn m d log it (with_group groups part) []
  stands_between d log it groups part is none = record {
    reading = subst (λ (l : List (Record O)). IsReading m d log it l) (sym (append-nil (records_of (with_group groups part)) ∙ records-with_group m groups part)) is.reading;
    stands = λ files agree payloads whole.
        let stood = is.stands files agree payloads whole in (
          stood.0,
          subst (λ (l : List (List ℕ)). IsInLog (files log.active) it.payloads payloads l [] stood.0) (payloads-with_group m groups part)
              (rest_between (files log.active) it.payloads payloads (map (payload_of m) groups) (payload_of m part) stood.0 stood.1 none),
        );
  }

  -- what the next call of a reader says of where it stands
  abbrev pub Takes : Disk → RecordReaderView → RecordReaderView → Option (Record O) → Type 0
  Takes new it now found = (files : Files) → new.agrees files → (payloads passed : List (List ℕ)) (taken : List ℕ) (later : List (List ℕ)) → (remaining it.payloads ≡ 0 → taken ≡ [])
      → IsInLog (files it.payloads.file) it.payloads payloads passed taken later → TakesRecord m (files now.payloads.file) now.payloads payloads passed taken found

  -- it has taken a record more of the block
  record_taken : (old new : Disk) (log : LogView) (it now : RecordReaderView) (groups : List (List (Record O))) (part : List (Record O)) (r : Record O) → Stays old new → IsReadingIn m old log it groups part
      → (remaining it.payloads ≡ 0 → part ≡ []) → IsReading m new log now ((records_of groups ++ part) ++ r ∷ []) → Takes new it now (Some r) → IsReadingIn m new log now groups (part ++ r ∷ [])
  record_taken old new log it now groups part r kept is through reading takes = record {
    reading = subst (λ (l : List (Record O)). IsReading m new log now l) (append_assoc (records_of groups) part (r ∷ [])) reading;
    stands = λ files agree payloads whole.
        let stood = is.stands files (agreed_before kept files agree) payloads whole in
        let passed = map (payload_of m) groups in
        let took = takes files agree payloads passed (payload_of m part) stood.0 (λ none. ap (payload_of m) (through none))
        (subst (λ (f : FileNo). IsInLog (files f) it.payloads payloads passed (payload_of m part) stood.0) (sym is.reading.file) stood.1) in (
          took.0,
          subst (λ (l : List ℕ). IsInLog (files log.active) now.payloads payloads passed l took.0) (sym (payload_push m part r))
              (subst (λ (f : FileNo). IsInLog (files f) now.payloads payloads passed (payload_of m part ++ record_code m r) took.0) reading.file took.1),
        );
  }

  -- or it has passed all blocks
  blocks_end : (old new : Disk) (log : LogView) (it now : RecordReaderView) (from : ℕ) (given : List (List ℕ)) (groups : List (List (Record O))) → Stays old new → given ≡ payloads_from m from groups → IsReadingIn m old log it groups []
      → HasEnded m new log now (records_of groups ++ []) → Takes new it now None → AreAllBlocks m new log from given
  blocks_end old new log it now from given groups kept given_are is ended takes =
      let all = append-nil (records_of groups) in
      record {
        groups = groups;
        given_are = given_are;
        placed = subst (λ (l : List (Record O)). AreRecords m log.header.base log.header.base l) all ended.0.placed;
        short = subst (λ (l : List (Record O)). AreShort m l) all ended.0.short;
        read = λ files agree payloads whole.
            let stood = is.stands files (agreed_before kept files agree) payloads whole in
            takes files agree payloads (map (payload_of m) groups) [] stood.0 (λ none. refl) (subst (λ (f : FileNo). IsInLog (files f) it.payloads payloads (map (payload_of m) groups) [] stood.0) (sym is.reading.file) stood.1);
      }

  -- what one group more gives
  from_push : (from : ℕ) (groups : List (List (Record O))) (g : List (Record O)) → blocks_from from (groups ++ g ∷ []) ≡ blocks_from from groups ++ filter is_some_list (from_lsn from g ∷ [])
  from_push from groups g = ap (filter is_some_list) (map-append (from_lsn from) groups (g ∷ [])) ∙ filter-append is_some_list (map (from_lsn from) groups) (from_lsn from g ∷ [])

  one_kept : (g : List (Record O)) → 0 < length (payload_of m g) → filter is_some_list (g ∷ []) ≡ g ∷ []
  one_kept [] some = absurd (omega (arith, some))
  one_kept (r ∷ g) some = refl

  none_in : (g : List (Record O)) → length (payload_of m g) ≡ 0 → g ≡ []
  none_in [] none = refl
  none_in (r ∷ g) none = absurd (omega (arith, none, code_some m r, length-append (record_code m r) (payload_of m g)))

  given_more : (from : ℕ) (groups : List (List (Record O))) (part : List (Record O)) → 0 < length (payload_of m (from_lsn from part)) → payloads_from m from (with_group groups part) ≡ payloads_from m from groups ++ payload_of m (from_lsn from part) ∷ []
  given_more from groups [] some = absurd (omega (arith, some))
  given_more from groups (r ∷ part) some =
      let mine = from_lsn from (r ∷ part) in
      ap (payloads_from m from) (with_group-some groups r part)
      ∙ ap (map (payload_of m)) (from_push from groups (r ∷ part) ∙ ap (λ (l : List (List (Record O))). blocks_from from groups ++ l) (one_kept mine some))
      ∙ map-append (payload_of m) (blocks_from from groups) (mine ∷ [])

  given_same : (from : ℕ) (groups : List (List (Record O))) (part : List (Record O)) → from_lsn from part ≡ [] → payloads_from m from (with_group groups part) ≡ payloads_from m from groups
  given_same from groups [] none = ap (payloads_from m from) (with_group-none groups)
  given_same from groups (r ∷ part) none =
      ap (payloads_from m from) (with_group-some groups r part)
      ∙ ap (map (payload_of m)) (from_push from groups (r ∷ part) ∙ ap (λ (l : List (Record O)). blocks_from from groups ++ filter is_some_list (l ∷ [])) none ∙ append-nil (blocks_from from groups))

-- These bytes are what the reader has to give of the records that it took of the next block, after the payloads that were given.
pub record Gathered {O : Type 0} (m : Meaning O) (d : Disk) (log : LogView) (it : RecordReaderView) (from : ℕ) (given : List (List ℕ)) (into : List ℕ) : Type 0 where
  pub groups : List (List (Record O))
  pub part : List (Record O)
  pub given_are : given ≡ payloads_from m from groups
  pub into_are : into ≡ payload_of m (from_lsn from part)
  pub reading : IsReadingIn m d log it groups part

-- and it took none where nothing is left of the block in hand
pub record IsGathered {O : Type 0} (m : Meaning O) (d : Disk) (log : LogView) (it : RecordReaderView) (from : ℕ) (given : List (List ℕ)) (into : List ℕ) : Type 0 where
  pub so_far : Gathered m d log it from given into
  pub through : remaining it.payloads ≡ 0 → so_far.part ≡ []

-- what is known between two records of a block
pub record IsGathering {O : Type 0} (m : Meaning O) (first now : Disk) (from : ℕ) (old it : RecordReaderView) (into : List ℕ) : Type 0 where
  pub kept : Stays first now
  pub bounds : it.bounds ≡ old.bounds
  pub less : ahead it.payloads ≤ ahead old.payloads
  pub rest : remaining it.payloads ≡ 0 → into ≡ []
  pub gathered : (log : LogView) (given : List (List ℕ)) → IsReadingBlocks m first log (record { records = old; from = from }) given → IsGathered m now log it from given into

module _ {O : Type 0} (m : Meaning O) where
  -- none at first
  pub gathered_none : (d : Disk) (log : LogView) (it : RecordReaderView) (from : ℕ) (given : List (List ℕ)) → IsReadingBlocks m d log (record { records = it; from = from }) given → IsGathered m d log it from given []
  gathered_none d log it from given is = record {
    so_far = record { groups = is.groups; part = []; given_are = is.given_are; into_are = refl; reading = is.reading };
    through = λ none. refl;
  }

  -- one record more
  pub gathered_more : (old new : Disk) (log : LogView) (it now : RecordReaderView) (from : ℕ) (given : List (List ℕ)) (into into' : List ℕ) (found : Option (Record O)) (r : Record O) → found ≡ Some r → Stays old new → IsGathered m old log it from given into
      → into' ≡ into ++ payload_of m (from_lsn from (r ∷ [])) → ((log : LogView) (records : List (Record O)) → IsReading m old log it records → HasFound m new log now records found) → Takes m new it now found → Gathered m new log now from given into'
  gathered_more old new log it now from given into into' found r is kept was more finds takes =
      let g = was.so_far in
      let mine = from_lsn from g.part in
      let one = from_lsn from (r ∷ []) in
      let reading = subst (λ (o : Option (Record O)). HasFound m new log now (records_of g.groups ++ g.part) o) is (finds log (records_of g.groups ++ g.part) g.reading.reading) in
      record {
        groups = g.groups;
        part = g.part ++ r ∷ [];
        given_are = g.given_are;
        into_are = more ∙ ap (λ (l : List ℕ). l ++ payload_of m one) g.into_are ∙ sym (flat_map-append (record_code m) mine one) ∙ ap (payload_of m) (sym (filter-append (is_from_lsn from) g.part (r ∷ [])));
        reading = record_taken m old new log it now g.groups g.part r kept g.reading was.through reading (subst (Takes m new it now) is takes);
      }

  empty_of : (it : RecordReaderView) (into : List ℕ) → remaining it.payloads ≡ 0 → ((remaining it.payloads ≡ 0) × (0 < length into) → ⊥) → length into ≡ 0
  empty_of it [] none never = refl
  empty_of it (x ∷ into) none never = absurd (never (none, omega arith))

  -- the block is not whole, or has nothing to give
  pub gathered_on : (d : Disk) (log : LogView) (it : RecordReaderView) (from : ℕ) (given : List (List ℕ)) (into : List ℕ) → Gathered m d log it from given into → ((remaining it.payloads ≡ 0) × (0 < length into) → ⊥) → IsGathered m d log it from given into
  gathered_on d log it from given into g open_still = elim (cases_eq (remaining it.payloads) 0) [
    | inl none ↦
        let empty : length into ≡ 0 = empty_of it into none open_still in
        let mine = none_in m (from_lsn from g.part) (sym (ap length g.into_are) ∙ empty) in
        record {
          so_far = record {
            groups = with_group g.groups g.part;
            part = [];
            given_are = g.given_are ∙ sym (given_same m from g.groups g.part mine);
            into_are = nil_of into empty;
            reading = stands_between m d log it g.groups g.part g.reading none;
          };
          through = λ again. refl;
        }
    | inr some ↦ record { so_far = g; through = λ none. absurd (some none) }
  ]

  -- it is whole, and has
  pub gathered_whole : (d : Disk) (log : LogView) (it : RecordReaderView) (from : ℕ) (given : List (List ℕ)) (into : List ℕ) → Gathered m d log it from given into → remaining it.payloads ≡ 0 → 0 < length into
      → IsReadingBlocks m d log (record { records = it; from = from }) (given ++ into ∷ [])
  gathered_whole d log it from given into g none some = record {
    groups = with_group g.groups g.part;
    given_are = (λ i. g.given_are i ++ g.into_are i ∷ []) ∙ sym (given_more m from g.groups g.part (omega (arith, some, ap length g.into_are)));
    reading = stands_between m d log it g.groups g.part g.reading none;
  }

  -- none comes
  pub gathered_all : (old new : Disk) (log : LogView) (it now : RecordReaderView) (from : ℕ) (given : List (List ℕ)) (into : List ℕ) (found : Option (Record O)) → found ≡ None → Stays old new → IsGathered m old log it from given into → remaining it.payloads ≡ 0
      → ((log : LogView) (records : List (Record O)) → IsReading m old log it records → HasFound m new log now records found) → Takes m new it now found → AreAllBlocks m new log from given × (into ≡ [])
  gathered_all old new log it now from given into found is kept was none finds takes =
      let g = was.so_far in
      let part = was.through none in
      let reading = subst (λ (l : List (Record O)). IsReadingIn m old log it g.groups l) part g.reading in
      let ended = subst (λ (o : Option (Record O)). HasFound m new log now (records_of g.groups ++ []) o) is (finds log (records_of g.groups ++ []) reading.reading) in (
        blocks_end m old new log it now from given g.groups kept g.given_are reading ended (subst (Takes m new it now) is takes),
        g.into_are ∙ ap (λ (l : List (Record O)). payload_of m (from_lsn from l)) part,
      )

-- What is known between two records, with one more of the block taken.
module _ {O : Type 0} (meaning : Bounds → Meaning O) (first mid new : Disk) (from : ℕ) (old it now : RecordReaderView) (into into' : List ℕ) (found : Option (Record O)) (r : Record O) (is : found ≡ Some r) (inv : IsGathering (meaning old.bounds) first mid from old it into)
    (kept : Stays mid new) (more : into' ≡ into ++ payload_of (meaning old.bounds) (from_lsn from (r ∷ []))) (finds : (log : LogView) (records : List (Record O)) → IsReading (meaning it.bounds) mid log it records → HasFound (meaning it.bounds) new log now records found)
    (takes : Takes (meaning it.bounds) new it now found) where
  pub gathering_more : (log : LogView) (given : List (List ℕ)) → IsReadingBlocks (meaning old.bounds) first log (record { records = old; from = from }) given → Gathered (meaning old.bounds) new log now from given into'
  gathering_more log given reading = gathered_more (meaning old.bounds) mid new log it now from given into into' found r is kept (inv.gathered log given reading) more
      (subst (λ (b : Bounds). (log : LogView) (records : List (Record O)) → IsReading (meaning b) mid log it records → HasFound (meaning b) new log now records found) inv.bounds finds)
      (subst (λ (b : Bounds). Takes (meaning b) new it now found) inv.bounds takes)

  pub gathering_on : now.bounds ≡ it.bounds → ahead now.payloads < ahead it.payloads → ((remaining now.payloads ≡ 0) × (0 < length into') → ⊥) → IsGathering (meaning old.bounds) first new from old now into'
  gathering_on same less open_still = record {
    kept = stays_twice first mid new inv.kept kept;
    bounds = same ∙ inv.bounds;
    less = omega (arith, less, inv.less);
    rest = λ none. nil_of into' (empty_of (meaning old.bounds) now into' none open_still);
    gathered = λ log given reading. gathered_on (meaning old.bounds) new log now from given into' (gathering_more log given reading) open_still;
  }
