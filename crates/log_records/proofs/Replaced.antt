-- The steps of a rewrite that puts its blocks one by one: the other file's header gate is closed, the new log is written behind it,
-- and the gate is opened.
use Rattle.std.proofs.Common.{◌≡◌, ◌+◌, ◌<◌, ◌^◌, ℕ, List, [], ◌∷◌, ◌++◌, map, refl, sym, ap, ◌∙◌, subst, arith, inl, length-append}
use Rattle.std.proofs.lemmas.List.{append-nil}
use Rattle.disk_model.specs.Disk.{Files, Disk, Any, HoldsAt, In, IsSettled, IsSettledIn, LeavesOnly, Runs, Same, Stays, Torn}
use Rattle.disk_model.specs.Moments.{runs_on, runs_twice, runs_wider, settled_again, stays_settled, weaker}
use Rattle.disk_model.specs.declared.machine.FileNo.{FileNo}
use Rattle.dirty_page_table.specs.declared.table.DirtyPageTable.{DirtyPageTable}
use Rattle.oper_core.specs.Meaning.{Meaning}
use Rattle.formats.specs.InForce.{other_of}
use Rattle.formats.specs.Log.{end_of, IsClosedLog}
use Rattle.formats.specs.Records.{next_after, payload_of, records_of, AreRecords, IsRecordLog}
use Rattle.formats.specs.declared.record.Record.{Record}
use Rattle.formats.specs.declared.record.Record.TheVariants.{Checkpoint}
use Rattle.log_blocks.specs.LogView.{LogView}
use Rattle.log_blocks.specs.RewriteLaws.{new_in_force, opened_whole, other_apart}
use Rattle.log_blocks.specs.Rewriting.{IsOldOrNew, IsPrepared, KeepsClosed, next_header}
use Rattle.log_blocks.specs.StreamLaws.{closing_still, ending_leaves, writing_still}
use Rattle.log_blocks.specs.Streaming.{HasCome, IsNext, IsStill, MayBegin}
use Rattle.log_blocks.specs.Writing.{LogWriterView, rewritten_to}
use Rattle.log_records.specs.Codec.{AreShort}
use Rattle.log_records.specs.CodecLaws.{HasCodes}
use Rattle.log_records.specs.Copying.{IsPlanned}
use Rattle.log_records.specs.Laying.{room_of}
use Rattle.log_records.specs.Loading.{IsTailFault}
use Rattle.log_records.specs.RecordLaws.{keeps_stay, lsn_end}
use Rattle.log_records.specs.RecordLog.{RecordLogView, Keeps}
use Rattle.log_records.specs.Rewriting.{commands_before, in_full_blocks, new_payloads, from_lsn, rewritten_log, rewritten_records, IsOldLog, IsRefused, IsRewrittenPartly}
use Rattle.log_records.specs.Uniqueness.{no_record_fault}
use Rattle.log_records.specs.declared.new_log.NewLog.{NewLog}
use Rattle.log_records.proofs.Laid.{are_payloads, room_measured}
use Rattle.log_records.proofs.Rewrites.{Rewrites, is_old, keeps_rewritten, new_commands, old_partly, old_stays, partly}

-- a writer of the log that takes the place of this one, which has put nothing
abbrev pub new_writer : LogView → LogWriterView
new_writer log = record { file = other_of log.active; place = 1; bytes = [] }

-- what is known once the other file's header gate is closed, or that was tried
pub record HasClosed (old one : Disk) (log : LogView) : Type 0 where
  pub run : Runs (In (other_of log.active) (Torn 0 1)) Same old one
  pub idle : old.tells_files → IsClosedLog (old.reads (other_of log.active)) → Stays old one

-- it is closed, and all is settled
pub record IsClosing (old one : Disk) (log : LogView) : Type 0 where
  pub begun : HasClosed old one log
  pub closed : old.tells_files → IsClosedLog (one.reads (other_of log.active))
  pub settled : IsSettled old → IsSettled one

pub any_once : (old new : Disk) (file : FileNo) (change : List ℕ → List ℕ → Type 0) → Runs (In file change) Same old new → Runs (In file Any) Same old new
any_once old new file change run = runs_wider old new (In file change) (In file Any) (λ a b is. record { changed = tt; others = is.others }) run

pub any_twice : (old mid new : Disk) (file : FileNo) → Runs (In file Any) Same old mid → Runs (In file Any) Same mid new → Runs (In file Any) Same old new
any_twice old mid new file first second = runs_twice old mid new (In file Any) (λ a b c x y. record { changed = tt; others = λ other apart. y.others other apart ∙ x.others other apart }) first second

-- the runs of the first step, of both, and of all three
pub closing_run : (old one : Disk) (log : LogView) → HasClosed old one log → Runs (In (other_of log.active) Any) Same old one
closing_run old one log is = any_once old one (other_of log.active) (Torn 0 1) is.run

pub writing_run : (old one two : Disk) (log : LogView) → HasClosed old one log → Runs (In (other_of log.active) KeepsClosed) Same one two → Runs (In (other_of log.active) Any) Same old two
writing_run old one two log is run = any_twice old one two (other_of log.active) (closing_run old one log is) (any_once one two (other_of log.active) KeepsClosed run)

pub ending_run : (old one two new : Disk) (log : LogView) → HasClosed old one log → Runs (In (other_of log.active) KeepsClosed) Same one two → Runs (In (other_of log.active) (Torn 0 1)) Same two new → Runs (In (other_of log.active) Any) Same old new
ending_run old one two new log is run last = any_twice old two new (other_of log.active) (writing_run old one two log is run) (any_once two new (other_of log.active) (Torn 0 1) last)

-- a run that changes the other file, after calls that change none
pub planned_run : (old mid new : Disk) (file : FileNo) → Stays old mid → Runs (In file Any) Same mid new → Runs (In file Any) Same old new
planned_run old mid new file kept run = any_twice old mid new file
    (runs_wider old mid Same (In file Any) (λ a b same. record { changed = tt; others = λ other apart. ap (λ (f : Files). f other) same }) kept) run

-- what was written is on the disk
pub written_settled : (one two : Disk) (file : FileNo) → IsSettled one → Runs (In file KeepsClosed) Same one two → IsSettledIn file two → IsSettled two
written_settled one two file settled run here = settled_again one two file KeepsClosed KeepsClosed run.ends settled run.time run.crash (λ told. run.reads (run.begins.telling told)) here

module _ {O : Type 0} (m : Meaning O) where
  module _ (old : Disk) (log : RecordLogView) (stable : List (Record O)) (keeps : Keeps m old log stable []) where
    abbrev held : List (List ℕ)
    held = map (payload_of m) keeps.groups

    abbrev file : FileNo
    file = other_of log.log.active

    may_begin : old.tells_moments → MayBegin old log.log held
    may_begin told = record { told = told; rests = record { settled = keeps.settled; stands = keeps.file.log; place = keeps.place }; in_force = keeps.in_force }

    has_come : (one : Disk) → IsClosing old one log.log → HasCome old one log.log
    has_come one is = record { runs = closing_run old one log.log is.begun; settled = is.settled keeps.settled }

    -- where the first step fails, the old log is in force at any moment
    still_one : old.tells_moments → (one : Disk) → HasClosed old one log.log → LeavesOnly old one (IsStill old log.log held)
    still_one told one is = closing_still old log.log held (may_begin told) one is.run is.idle

    pub closing_old : old.tells_moments → (one : Disk) → HasClosed old one log.log → LeavesOnly old one (IsOldLog m old log.log stable)
    closing_old told one is = weaker old one (IsStill old log.log held) (IsOldLog m old log.log stable) (still_one told one is) (is_old m old log stable keeps)

    -- and so where the second does
    still_two : old.tells_moments → (one two : Disk) → IsClosing old one log.log → Runs (In file KeepsClosed) Same one two → LeavesOnly old two (IsStill old log.log held)
    still_two told one two is run =
        writing_still old log.log held (may_begin told) one two (still_one told one is.begun) (has_come one is) (is.closed (is.begun.run.begins.telling told)) run

    pub writing_old : old.tells_moments → (one two : Disk) → IsClosing old one log.log → Runs (In file KeepsClosed) Same one two → LeavesOnly old two (IsOldLog m old log.log stable)
    writing_old told one two is run = weaker old two (IsStill old log.log held) (IsOldLog m old log.log stable) (still_two told one two is run) (is_old m old log stable keeps)

    -- the old log keeps its records
    pub writing_keeps : old.tells_files → (one two : Disk) → IsClosing old one log.log → Runs (In file KeepsClosed) Same one two → IsSettledIn file two → Keeps m two log stable []
    writing_keeps told one two is run here =
        let whole = (writing_run old one two log.log is.begun run).reads told in
        let same : two.reads log.log.active ≡ old.reads log.log.active = whole.others log.log.active (other_apart log.log.active keeps.in_force.a_log) in
        record {
          settled = written_settled one two file (is.settled keeps.settled) run here;
          in_force = record { a_log = keeps.in_force.a_log; other = inl ((run.reads (is.begun.run.time.files_told.0 told)).changed (is.closed told)) };
          groups = keeps.groups;
          file = subst (λ (f : List ℕ). IsRecordLog m log.log.header keeps.groups f) (sym same) keeps.file;
          stable_are = keeps.stable_are;
          place = keeps.place;
          pending_are = keeps.pending_are;
          placed = keeps.placed;
          next_is = keeps.next_is;
          accepted_are = keeps.accepted_are;
          forced_are = keeps.forced_are;
        }

  -- so a rewrite that fails before its last step refuses
  pub refused_writing : (old one two : Disk) (log : RecordLogView) → IsClosing old one log.log → Runs (In (other_of log.log.active) KeepsClosed) Same one two → IsSettledIn (other_of log.log.active) two → IsRefused m old two log
  refused_writing old one two log is run here = record {
    kept = λ told stable keeps. writing_keeps old log stable keeps told one two is run here;
    settled = λ settled. written_settled one two (other_of log.log.active) (is.settled settled) run here;
    any_moment = λ told stable keeps. writing_old old log stable keeps told one two is run;
  }

  -- what was planned, of the records that the log keeps
  pub record IsPlan (log : LogView) (base : ℕ) (table : DirtyPageTable) (stable : List (Record O)) (new : NewLog) : Type 0 where
    pub commands : new.commands ≡ commands_before log base stable
    pub end : 33 + room_of new.lengths.items ≡ end_of (new_payloads m base table stable)
    pub short : AreShort m (rewritten_records base table stable)

  pub is_plan : (d : Disk) (log : LogView) (base : ℕ) (table : DirtyPageTable) (stable : List (Record O)) (new : NewLog) (is : IsPlanned m d log base (Checkpoint table ∷ []) new) → is.records ≡ stable → IsPlan log base table stable new
  is_plan d log base table stable new is same = record {
    commands = is.commands ∙ ap (commands_before log base) same;
    end = ap (λ (n : ℕ). 33 + n) (ap room_of is.lengths ∙ room_measured m (rewritten_records base table is.records)) ∙ ap (λ (l : List (Record O)). end_of (new_payloads m base table l)) same;
    short = subst (λ (l : List (Record O)). AreShort m (rewritten_records base table l)) same is.short;
  }

  module _ (old : Disk) (log : RecordLogView) (base : ℕ) (table : DirtyPageTable) (stable : List (Record O)) (is : Rewrites m old log base table stable) (new_log : NewLog) (plan : IsPlan log.log base table stable new_log) (epoch : log.log.header.epoch < 2 ^ 62) where
    abbrev commands : ℕ
    commands = commands_before log.log base stable

    abbrev payloads : List (List ℕ)
    payloads = new_payloads m base table stable

    -- the header of the new log is within its ranges, and each of its payloads
    is_next : IsNext log.log base commands payloads
    is_next =
        let range = is.keeps.file.log.in_range in
        let hb = log.log.header.base in
        let placed = subst (λ (l : List (Record O)). AreRecords m hb hb l) (append-nil stable) is.keeps.placed in
        let next = is.keeps.next_is ∙ ap (next_after hb) (append-nil stable) in
        record {
          in_range = record {
            epoch_low = omega arith;
            epoch_high = omega (arith, epoch);
            base_low = omega (arith, range.base_low, is.may.low);
            base_high = omega (arith, is.may.high, next, lsn_end m hb hb stable range.base_high placed);
            commands = new_commands m log.log.header base stable range placed is.may.low;
          };
          whole = are_payloads m (rewritten_records base table stable) (omega (arith, length-append (from_lsn base stable) (Checkpoint table ∷ []))) plan.short;
        }

    -- what was prepared is that log
    prepared_is : (two : Disk) → IsPrepared (next_header log.log base new_log.commands) (map (payload_of m) (in_full_blocks m (from_lsn base (records_of is.keeps.groups) ++ Checkpoint table ∷ []))) (two.reads (other_of log.log.active))
        → IsPrepared (next_header log.log base commands) payloads (two.reads (other_of log.log.active))
    prepared_is two prepared = subst (λ (n : ℕ). IsPrepared (next_header log.log base n) payloads (two.reads (other_of log.log.active))) plan.commands
        (subst (λ (l : List (Record O)). IsPrepared (next_header log.log base new_log.commands) (map (payload_of m) (in_full_blocks m (rewritten_records base table l))) (two.reads (other_of log.log.active))) is.keeps.stable_are prepared)

    module _ (one two new : Disk) (closing : IsClosing old one log.log) (run : Runs (In (other_of log.log.active) KeepsClosed) Same one two) (here : IsSettledIn (other_of log.log.active) two)
        (prepared : IsPrepared (next_header log.log base new_log.commands) (map (payload_of m) (in_full_blocks m (from_lsn base (records_of is.keeps.groups) ++ Checkpoint table ∷ []))) (two.reads (other_of log.log.active)))
        (last : Runs (In (other_of log.log.active) (Torn 0 1)) Same two new) where
      come_two : HasCome old two log.log
      come_two = record { runs = writing_run old one two log.log closing.begun run; settled = written_settled one two (other_of log.log.active) (closing.settled is.keeps.settled) run here }

      -- the last step leaves the old log or the new one at any moment
      pub ending_partly : old.tells_moments → LeavesOnly old new (IsRewrittenPartly m old log.log base table stable)
      ending_partly told = weaker old new (IsOldOrNew old log.log (held old log stable is.keeps) (rewritten_log m log.log base table stable) payloads) (IsRewrittenPartly m old log.log base table stable)
          (ending_leaves old log.log (held old log stable is.keeps) (may_begin old log stable is.keeps told) payloads base commands is_next two new (still_two old log stable is.keeps told one two closing run) come_two (prepared_is two prepared) last)
          (partly m old log base table stable is)

      -- and then the new one is in force
      pub ending_keeps : old.tells_files → (after : RecordLogView) (end : ℕ) → end ≡ 33 + room_of new_log.lengths.items → after ≡ record log { log = rewritten_to log.log base new_log.commands end } → IsSettled new
          → In (other_of log.log.active) (HoldsAt 0 (1 ∷ [])) two.reads new.reads
          → Keeps m new after (rewritten_records base table stable) [] × (after ≡ record log { log = rewritten_log m log.log base table stable })
      ending_keeps told after end end_is after_is settled opened =
          let last_is : after ≡ record log { log = rewritten_log m log.log base table stable } = after_is ∙ (λ i. record log { log = rewritten_to log.log base (plan.commands i) ((end_is ∙ plan.end) i) }) in
          let whole = ending_run old one two new log.log closing.begun run last in (
            keeps_rewritten m old new log after base table stable is last_is
                (record {
                  settled = settled;
                  stands = opened_whole (next_header log.log base commands) payloads (two.reads (other_of log.log.active)) (new.reads (other_of log.log.active)) is_next.in_range is_next.whole (prepared_is two prepared) opened.changed;
                  place = refl;
                })
                (new_in_force old log.log (held old log stable is.keeps) base commands payloads is.keeps.file.log is.keeps.in_force.a_log new.reads (whole.reads told)),
            last_is,
          )

  -- what follows calls that change no file
  module _ (old mid new : Disk) (log : RecordLogView) (kept : Stays old mid) where
    pub planned_partly : (base : ℕ) (table : DirtyPageTable) (stable : List (Record O)) → Keeps m old log stable [] → old.tells_moments
        → (mid.tells_moments → Keeps m mid log stable [] → LeavesOnly mid new (IsRewrittenPartly m mid log.log base table stable)) → LeavesOnly old new (IsRewrittenPartly m old log.log base table stable)
    planned_partly base table stable keeps told leaves =
        let files_told = kept.begins.telling told in
        runs_on old mid new (IsRewrittenPartly m old log.log base table stable) (old_partly m old mid log.log base table stable (old_stays m old mid log stable keeps kept told))
        (weaker mid new (IsRewrittenPartly m mid log.log base table stable) (IsRewrittenPartly m old log.log base table stable) (leaves (kept.time.moments_told.0 told) (keeps_stay m old mid log stable [] files_told kept keeps))
        (λ files said so. record {
          others = subst (λ (f : Files). In (other_of log.log.active) Any f files) (kept.reads files_told) so.others;
          in_force = so.in_force;
          nothing_said = so.nothing_said ∙ kept.said files_told;
        }))

    pub planned_refused : IsRefused m mid new log → IsRefused m old new log
    planned_refused refused = record {
      kept = λ told stable keeps. refused.kept (kept.time.files_told.0 told) stable (keeps_stay m old mid log stable [] told kept keeps);
      settled = λ settled. refused.settled (λ file. stays_settled old mid file kept (settled file));
      any_moment = λ told stable keeps.
          let files_told = kept.begins.telling told in
          runs_on old mid new (IsOldLog m old log.log stable) (old_stays m old mid log stable keeps kept told)
          (weaker mid new (IsOldLog m mid log.log stable) (IsOldLog m old log.log stable) (refused.any_moment (kept.time.moments_told.0 told) stable (keeps_stay m old mid log stable [] files_told kept keeps))
          (λ files said so. record {
            others = subst (λ (f : Files). In (other_of log.log.active) Any f files) (kept.reads files_told) so.others;
            in_force = so.in_force;
            nothing_said = so.nothing_said ∙ kept.said files_told;
          }));
    }

  -- no record of a log of records is wrong while another file is written
  pub no_fault_beside : HasCodes m → (old new : Disk) (log : RecordLogView) (stable : List (Record O)) → Keeps m old log stable [] → old.tells_files → Runs (In (other_of log.log.active) Any) Same old new
      → (file : FileNo) (place : ℕ) → IsTailFault m new log.log file place → ⊥
  no_fault_beside codes old new log stable keeps told run f place there =
      let same = (run.reads told).others log.log.active (other_apart log.log.active keeps.in_force.a_log) in
      let log_is = subst (λ (f : List ℕ). IsRecordLog m log.log.header keeps.groups f) (sym same) keeps.file in
      no_record_fault m codes log.log.header keeps.groups (new.reads log.log.active) place log_is (there.1 new.reads (run.ends.agreeing (run.time.files_told.0 told)) (map (payload_of m) keeps.groups) log_is.log)
