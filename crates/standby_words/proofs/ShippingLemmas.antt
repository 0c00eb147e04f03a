-- The blocks of a log are read, and said as frames.
use Rattle.std.proofs.Common.{◌≡◌, ◌≢◌, ◌⊎◌, ⊎_elim, ◌∙◌, ◌<◌, ◌≤◌, ◌++◌, List, ℕ, [], ◌∷◌, map, append_assoc, true, false, refl, ap, sym, subst, inl, inr, arith, length, None, Result, Ok, Err, IfErr}
use Rattle.std.specs.Result.{IsErrAnd}
use Rattle.std.proofs.Math.Path.{fun_ext}
use Rattle.std.proofs.lemmas.List.{append-nil, take_all}
use Rattle.std.proofs.lemmas.List.Concat.{flat_map-append}
use Rattle.disk_model.specs.Disk.{Files, Disk, IsDisk, Passes, Runs, SaysFront, Stays, Same, IsSettled, LeavesOnly}
use Rattle.disk_model.specs.Moments.{first_call, runs_on, stays_here, weaker}
use Rattle.disk_model.specs.declared.machine.FileNo.{FileNo}
use Rattle.oper_core.specs.Meaning.{Meaning}
use Rattle.oper_core.specs.declared.bounds.Bounds.{Bounds}
use Rattle.formats.specs.Log.{IsWholeLog}
use Rattle.formats.specs.Reading.{FailsBy}
use Rattle.formats.specs.Records.{AreRecords, HoldsRecordLog, payload_of, records_of}
use Rattle.formats.specs.declared.record.Record.{Record}
use Rattle.log_blocks.specs.Forcing.{with_block}
use Rattle.log_blocks.specs.Payloads.{untaken}
use Rattle.formats.specs.declared.params.Params.{Params}
use Rattle.formats.specs.declared.read_err.ReadErr.{ReadErr}
use Rattle.formats.specs.declared.read_err.ReadErr.TheVariants as of_read
use Rattle.frame_stream.specs.Frames.{frame, frames}
use Rattle.log_blocks.specs.LogView.{LogView}
use Rattle.log_records.specs.BlockReader.{AreAllBlocks, BlockReaderView, HasGivenBlock, IsReadingBlocks, payloads_from}
use Rattle.op_codec.specs.AllOps.{all_meaning}
use Rattle.restart.specs.Starts.{OrAtStart, from_settled, or_weaker}
use Rattle.store_engine.specs.Engine.{EngineView}
use Rattle.store_engine.specs.Shipping.{HasShipCause, IsReaderFrom, base_of}
use Rattle.store_engine.specs.declared.ship_err.ShipErr.{ShipErr}
use Rattle.store_engine.specs.declared.ship_err.ShipErr.TheVariants as of_ship
use Rattle.shell_base.specs.Judging.{CountsFaults}
use Rattle.shell_base.specs.First.{OpeningMoment, TableMoment}
use Rattle.shell_base.specs.Keeps.{KeepsFiles, SaysOnly}
use Rattle.shell_base.specs.Notices as notices
use Rattle.shell_base.specs.Open.{IsOpen, OpensFiles}
use Rattle.shell_base.specs.Stops.{IsCaused, IsUndamaged}
use Rattle.shell_base.specs.Status.{IsOfOpened, IsOfShip, IsOfUnopened, status_of, stop_from_read}
use Rattle.shell_base.specs.Store.{Between, Command, Holds, IsAttached, Opens, Stands, meaning_in}
use Rattle.shell_base.specs.declared.budget.Budget.{Budget}
use Rattle.shell_base.specs.declared.status.Status.{Status}
use Rattle.shell_base.specs.declared.status.Status.TheVariants.{Done, NotAStore, Damaged, DiskFault, SayFault, Memory, RestartMemory, Gone}
use Rattle.shell_base.specs.declared.stop.Stop.{Stop}
use Rattle.shell_base.specs.declared.stop.Stop.TheVariants as stops
use Rattle.shell_base.specs.HoldLaws.{attached_said, rises_within, told_by}
use Rattle.shell_base.specs.KeepLaws.{agreed_said, keeps_none, keeps_settled, says_behind, says_then_stays, says_twice, stays_silent, stays_then_says}
use Rattle.shell_base.specs.OpeningLaws.{dump_stands, dump_steps, opening_failed, start_refused}
use Rattle.standby_words.specs.Shipping.{AreFirstBlocks, IsShipOn, SaysBlocks, SaysFrames, SaysGone, SaysOfLog, SaysPart, SaysPartGone, ShipMoment}

-- a reader of blocks stands where it stood while something is said
blocks_said : {O : Type 0} {m : Meaning O} {d new : Disk} {log : LogView} {says : List ℕ → List ℕ → Type 0} → Runs Same says d new → {it : BlockReaderView} {given : List (List ℕ)} → IsReadingBlocks m d log it given
    → IsReadingBlocks m new log it given
blocks_said run reads =
    let reading = reads.reading.reading in
    record {
      groups = reads.groups;
      given_are = reads.given_are;
      reading = record {
        reading = record {
          file = reading.file;
          base = reading.base;
          placed = reading.placed;
          next_is = reading.next_is;
          short = reading.short;
          read = λ files agrees. reading.read files (agreed_said run files agrees);
        };
        stands = λ files agrees. reads.reading.stands files (agreed_said run files agrees);
      };
    }

-- some bytes that were not taken are of a block more, or there are none
block_front : (passed : List (List ℕ)) (bytes : List ℕ) (later : List (List ℕ)) → (more : List (List ℕ)) × (with_block passed bytes ++ later ≡ passed ++ more)
block_front passed [] later = (later, refl)
block_front passed (byte ∷ bytes) later = ((byte ∷ bytes) ∷ later, append_assoc passed ((byte ∷ bytes) ∷ []) later)

-- what a reader of blocks has given are the log's first ones
first_of_reading : {m : Meaning Command} {d : Disk} {log : LogView} {it : BlockReaderView} {given : List (List ℕ)} → IsReadingBlocks m d log it given → AreFirstBlocks m d log it.from given
first_of_reading {m} {d} {log} {it} reads = record {
  groups = reads.groups;
  given_are = reads.given_are;
  placed = subst (λ (l : List (Record Command)). AreRecords m log.header.base log.header.base l) (append-nil (records_of reads.groups)) reads.reading.reading.placed;
  read = λ files agrees payloads whole.
      let (later, at) = reads.reading.stands files agrees payloads whole in
      let front = block_front (map (payload_of m) reads.groups) (untaken (files log.active) it.records.payloads) later in
      (front.0, at.payloads_are ∙ front.1);
}

first_of_all : {m : Meaning Command} {d : Disk} {log : LogView} {from : ℕ} {given : List (List ℕ)} → AreAllBlocks m d log from given → AreFirstBlocks m d log from given
first_of_all {m} all = record {
  groups = all.groups;
  given_are = all.given_are;
  placed = all.placed;
  read = λ files agrees payloads whole. ([], all.read files agrees payloads whole ∙ sym (append-nil (map (payload_of m) all.groups)));
}

-- an engine that was broken neither before a call that only reads nor after it is the same
pub same_engine : (before after : EngineView) → after ≡ record before { broken = after.broken } → before.broken ≡ false → after.broken ≡ false → after ≡ before
same_engine before after is was now = is ∙ (λ i. record before { broken = (now ∙ sym was) i })

-- What was said so far of the blocks that a reader has given, and where it stands.
pub record IsShipping (start now : Disk) (before here : EngineView) (first it : BlockReaderView) : Type 0 where
  pub engine : here ≡ before
  pub unbroken : before.broken ≡ false
  pub reads : IsReaderFrom all_meaning start before first.from first
  pub same : it ≡ record first { records = it.records }
  pub bounds : it.records.bounds ≡ first.records.bounds
  pub given : List (List ℕ)
  pub says : Runs Same (SaysFront (frames given)) start now
  pub reading : IsReadingBlocks (all_meaning before.parts.log.bounds) now before.parts.log.log it given
  pub said : start.tells_files → now.said ≡ start.said ++ frames given

pub starts_shipping : {d : Disk} {engine : EngineView} {first : BlockReaderView} → IsDisk d → engine.broken ≡ false → IsReaderFrom all_meaning d engine first.from first → IsShipping d d engine engine first first
starts_shipping {d} lawful unbroken reads = record {
  engine = refl;
  unbroken = unbroken;
  reads = reads;
  same = refl;
  bounds = refl;
  given = [];
  says = stays_silent (stays_here d lawful);
  reading = reads.reading;
  said = λ told. sym (append-nil d.said);
}

module _ {start now : Disk} {before here : EngineView} {first it : BlockReaderView} (so_far : IsShipping start now before here first it) where
  -- by the bounds of the reader, and the engine that is there
  own_bounds : it.records.bounds ≡ before.parts.log.bounds
  own_bounds = so_far.bounds ∙ so_far.reads.bounds

  pub unbroken_here : here.broken ≡ false
  unbroken_here = ap (λ (e : EngineView). e.broken) so_far.engine ∙ so_far.unbroken

  pub reading_here : IsReadingBlocks (all_meaning it.records.bounds) now here.parts.log.log it so_far.given
  reading_here =
      subst (λ (e : EngineView). IsReadingBlocks (all_meaning it.records.bounds) now e.parts.log.log it so_far.given) (sym so_far.engine)
      (subst (λ (b : Bounds). IsReadingBlocks (all_meaning b) now before.parts.log.log it so_far.given) (sym own_bounds) so_far.reading)

  pub bounds_here : it.records.bounds ≡ here.parts.log.bounds
  bounds_here = own_bounds ∙ ap (λ (e : EngineView). e.parts.log.bounds) (sym so_far.engine)

  pub attached_here : IsAttached start before → IsAttached now here
  attached_here attached = subst (λ (e : EngineView). IsAttached now e) (sym so_far.engine) (attached_said start now before so_far.says attached)

  -- where no more is read
  pub none_said : {mid : Disk} → Stays now mid → SaysBlocks (all_meaning before.parts.log.bounds) start mid before.parts.log.log first.from
  none_said {mid} stays = record {
    given = so_far.given;
    first = subst (λ (n : ℕ). AreFirstBlocks (all_meaning before.parts.log.bounds) mid before.parts.log.log n so_far.given) (ap (λ (r : BlockReaderView). r.from) so_far.same) (first_of_reading (blocks_said stays so_far.reading));
    says = says_then_stays so_far.says so_far.said stays;
  }

  module _ {mid : Disk} {after : EngineView} {next : BlockReaderView} (stays : Stays now mid) (is : after ≡ record here { broken = after.broken }) (unbroken : after.broken ≡ false)
      (same : next ≡ record it { records = next.records }) (bounds : next.records.bounds ≡ it.records.bounds) where
    more_given : (payload : List ℕ) → frames so_far.given ++ frame payload ≡ frames (so_far.given ++ payload ∷ [])
    more_given payload = ap (λ (l : List ℕ). frames so_far.given ++ l) (sym (append-nil (frame payload))) ∙ sym (flat_map-append frame so_far.given (payload ∷ []))

    pub more_says : {new : Disk} (payload : List ℕ) → Runs Same (SaysFront (frame payload)) mid new → Runs Same (SaysFront (frames (so_far.given ++ payload ∷ []))) start new
    more_says {new} payload says =
        subst (λ (l : List ℕ). Runs Same (SaysFront l) start new) (more_given payload)
        (says_behind (says_then_stays so_far.says so_far.said stays) (λ told. stays.said (so_far.says.time.files_told.0 told) ∙ so_far.said told) says)

    more_read : {new : Disk} {says : List ℕ → List ℕ → Type 0} (payload : List ℕ) → HasGivenBlock (all_meaning it.records.bounds) mid here.parts.log.log next so_far.given payload true → Runs Same says mid new
        → IsReadingBlocks (all_meaning before.parts.log.bounds) new before.parts.log.log next (so_far.given ++ payload ∷ [])
    more_read {new} payload given says = blocks_said says
        (subst (λ (e : EngineView). IsReadingBlocks (all_meaning before.parts.log.bounds) mid e.parts.log.log next (so_far.given ++ payload ∷ [])) so_far.engine
        (subst (λ (b : Bounds). IsReadingBlocks (all_meaning b) mid here.parts.log.log next (so_far.given ++ payload ∷ [])) own_bounds given))

    next_from : next.from ≡ first.from
    next_from = ap (λ (r : BlockReaderView). r.from) same ∙ ap (λ (r : BlockReaderView). r.from) so_far.same

    -- so much was said where the next block is said in part
    pub part_said : {new : Disk} (payload : List ℕ) → HasGivenBlock (all_meaning it.records.bounds) mid here.parts.log.log next so_far.given payload true → Runs Same (SaysFront (frame payload)) mid new
        → SaysBlocks (all_meaning before.parts.log.bounds) start new before.parts.log.log first.from
    part_said {new} payload given says = record {
      given = so_far.given ++ payload ∷ [];
      first = subst (λ (n : ℕ). AreFirstBlocks (all_meaning before.parts.log.bounds) new before.parts.log.log n (so_far.given ++ payload ∷ [])) next_from (first_of_reading (more_read payload given says));
      says = more_says payload says;
    }

    -- one block more is said
    pub more_said : {new : Disk} (payload : List ℕ) → HasGivenBlock (all_meaning it.records.bounds) mid here.parts.log.log next so_far.given payload true → Runs Same (SaysFront (frame payload)) mid new → (mid.tells_files → new.said ≡ mid.said ++ frame payload)
        → IsShipping start new before after first next
    more_said {new} payload given says said = record {
      says = more_says payload says;
      engine = same_engine here after is unbroken_here unbroken ∙ so_far.engine;
      unbroken = so_far.unbroken;
      reads = so_far.reads;
      same = same ∙ ap (λ (r : BlockReaderView). record r { records = next.records }) so_far.same;
      bounds = bounds ∙ so_far.bounds;
      given = so_far.given ++ payload ∷ [];
      reading = more_read payload given says;
      said = λ told.
          let told_now = so_far.says.time.files_told.0 told in
          said (stays.time.files_told.0 told_now) ∙ ap (λ (l : List ℕ). l ++ frame payload) (stays.said told_now ∙ so_far.said told)
          ∙ append_assoc start.said (frames so_far.given) (frame payload)
          ∙ ap (λ (l : List ℕ). start.said ++ l) (ap (λ (l : List ℕ). frames so_far.given ++ l) (sym (append-nil (frame payload))) ∙ sym (flat_map-append frame so_far.given (payload ∷ [])));
    }

    -- there is none more
    pub all_said : (payload : List ℕ) → HasGivenBlock (all_meaning it.records.bounds) mid here.parts.log.log next so_far.given payload false → start.tells_files
        → (given : List (List ℕ)) × AreAllBlocks (all_meaning before.parts.log.bounds) mid before.parts.log.log first.from given × (mid.said ≡ start.said ++ frames given)
    all_said payload given told =
        let blocks = subst (λ (e : EngineView). AreAllBlocks (all_meaning before.parts.log.bounds) mid e.parts.log.log first.from so_far.given) so_far.engine
        (subst (λ (b : Bounds). AreAllBlocks (all_meaning b) mid here.parts.log.log first.from so_far.given) own_bounds
        (subst (λ (n : ℕ). AreAllBlocks (all_meaning it.records.bounds) mid here.parts.log.log n so_far.given) next_from given.0)) in
        (so_far.given, blocks, stays.said (so_far.says.time.files_told.0 told) ∙ so_far.said told)

-- why no block could be read
module _ (old new : Disk) (fault : FileNo → ℕ → Type 0) where
  read_caused : {rises : Type 0} → (rises → IsCaused (stop_from_read of_read.DiskFault) old new) → (e : ReadErr) → FailsBy rises fault e → IsCaused (stop_from_read e) old new
  read_caused risen of_read.DiskFault fails = risen fails
  read_caused risen (of_read.Damaged file place) fails = tt
  read_caused risen of_read.Memory fails = tt

  pub block_caused : {S rises : Type 0} → (rises → IsCaused (stop_from_read of_read.DiskFault) old new) → (result : Result S Stop) (e : ReadErr) → IsErrAnd result (λ stop. stop ≡ stop_from_read e) → FailsBy rises fault e
      → IfErr result (λ stop. IsCaused stop old new)
  block_caused risen (Ok value) e is fails = tt
  block_caused risen (Err stop) e is fails = subst (λ (s : Stop). IsCaused s old new) (sym is) (read_caused risen e fails)

read_whole : (e : ReadErr) → ((file : FileNo) (place : ℕ) → e ≡ of_read.Damaged file place → ⊥) → IsUndamaged (stop_from_read e)
read_whole of_read.DiskFault whole = tt
read_whole (of_read.Damaged file place) whole = absurd (whole file place refl)
read_whole of_read.Memory whole = tt

pub block_whole : {S : Type 0} (result : Result S Stop) (e : ReadErr) → IsErrAnd result (λ stop. stop ≡ stop_from_read e) → ((file : FileNo) (place : ℕ) → e ≡ of_read.Damaged file place → ⊥) → IfErr result IsUndamaged
block_whole (Ok value) e is whole = tt
block_whole (Err stop) e is whole = subst IsUndamaged (sym is) (read_whole e whole)

-- What is said of the log of an engine that stands for commands.
module _ {p : Params} {old : Disk} (new : Disk) {engine : EngineView} {commands : List Command} (from : ℕ) (holds : Holds p old engine commands) (reads : new.reads ≡ old.reads) where
  -- it is still there
  there : HoldsRecordLog (meaning_in p) engine.parts.log.log.active engine.parts.log.log.header holds.shows.shows.log.keeps.groups new.reads
  there = subst (λ (f : Files). HoldsRecordLog (meaning_in p) engine.parts.log.log.active engine.parts.log.log.header holds.shows.shows.log.keeps.groups f) (sym reads)
      (record { in_force = holds.shows.shows.log.keeps.in_force; log = holds.shows.shows.log.keeps.file })

  pub says_frames : base_of engine ≤ from → new.agrees old.reads
      → (given : List (List ℕ)) × AreAllBlocks (all_meaning engine.parts.log.bounds) new engine.parts.log.log from given × (new.said ≡ old.said ++ frames given) → SaysFrames p from old new
  says_frames reached agrees (given, blocks, said) =
      let keeps = holds.shows.shows.log.keeps in
      let all = subst (λ (b : Bounds). AreAllBlocks (all_meaning b) new engine.parts.log.log from given) holds.shows.shows.bounds blocks in
      let same : map (payload_of (meaning_in p)) keeps.groups ≡ map (payload_of (meaning_in p)) all.groups = all.read old.reads agrees (map (payload_of (meaning_in p)) keeps.groups) keeps.file.log in
      record {
        active = engine.parts.log.log.active;
        header = engine.parts.log.log.header;
        groups = all.groups;
        log = record {
          in_force = there.in_force;
          log = record {
            log = subst (λ (l : List (List ℕ)). IsWholeLog engine.parts.log.log.header l (new.reads engine.parts.log.log.active)) same there.log.log;
            placed = all.placed;
          };
        };
        reached = reached;
        said = said ∙ ap (λ (l : List (List ℕ)). old.said ++ frames l) all.given_are;
      }

-- a reader of the log reads that of an engine that is the same
pub reader_of : {d : Disk} {before after : EngineView} {from : ℕ} {it : BlockReaderView} → after ≡ before → IsReaderFrom all_meaning d before from it → IsReaderFrom all_meaning d after it.from it
reader_of {d} {it = it} same reads = subst (λ (e : EngineView). IsReaderFrom all_meaning d e it.from it) (sym same) (record { from_is = refl; bounds = reads.bounds; reading = reads.reading })

-- what a reader of the log of an open store gave was said
pub ship_done : {p : Params} {old mid new : Disk} {engine after : EngineView} {commands : List Command} {from : ℕ} (it : BlockReaderView) → Holds p old engine commands → Stays old mid → after ≡ engine → it.from ≡ from → base_of engine ≤ from → SaysOnly mid new
    → (mid.tells_files → (given : List (List ℕ)) × AreAllBlocks (all_meaning after.parts.log.bounds) new after.parts.log.log it.from given × (new.said ≡ mid.said ++ frames given)) → SaysFrames p from old new
ship_done {p} {old} {mid} {new} {engine} {after} {commands} {from} it holds stays same from_is reached says all =
    let run = says_twice old mid new stays says in
    let told = told_by holds in
    let (given, blocks, said) = all (stays.time.files_told.0 told) in
    let agrees = subst new.agrees (run.reads told) (run.ends.agreeing (run.time.files_told.0 told)) in
    says_frames new from holds (run.reads told) reached agrees (
      given,
      subst (λ (n : ℕ). AreAllBlocks (all_meaning engine.parts.log.bounds) new engine.parts.log.log n given) from_is
          (subst (λ (e : EngineView). AreAllBlocks (all_meaning e.parts.log.bounds) new e.parts.log.log it.from given) same blocks),
      said ∙ ap (λ (l : List ℕ). l ++ frames given) (stays.said told),
    )

-- No more was said than of the log of an engine that stands for commands.
module _ {p : Params} {old mid new : Disk} {engine after : EngineView} {commands : List Command} {from : ℕ} (it : BlockReaderView) (holds : Holds p old engine commands) (stays : Stays old mid) (same : after ≡ engine) (from_is : it.from ≡ from)
    (reached : base_of engine ≤ from) (blocks : SaysBlocks (all_meaning after.parts.log.bounds) mid new after.parts.log.log it.from) where
  all_run : Runs Same (SaysFront (frames blocks.given)) old new
  all_run = stays_then_says stays blocks.says

  own_first : AreFirstBlocks (meaning_in p) new engine.parts.log.log from blocks.given
  own_first = subst (λ (b : Bounds). AreFirstBlocks (all_meaning b) new engine.parts.log.log from blocks.given) holds.shows.shows.bounds
      (subst (λ (n : ℕ). AreFirstBlocks (all_meaning engine.parts.log.bounds) new engine.parts.log.log n blocks.given) from_is
      (subst (λ (e : EngineView). AreFirstBlocks (all_meaning e.parts.log.bounds) new e.parts.log.log it.from blocks.given) same blocks.first))

  part_of : {said : List ℕ} → SaysFront (frames blocks.given) old.said said → SaysPart p from old.said old.reads said
  part_of {said} part =
      let told = told_by holds in
      let agrees = subst new.agrees (all_run.reads told) (all_run.ends.agreeing (all_run.time.files_told.0 told)) in
      let keeps = holds.shows.shows.log.keeps in
      let read = own_first.read old.reads agrees (map (payload_of (meaning_in p)) keeps.groups) keeps.file.log in
      record {
        active = engine.parts.log.log.active;
        header = engine.parts.log.log.header;
        groups = own_first.groups;
        later = read.0;
        in_force = keeps.in_force;
        log = subst (λ (l : List (List ℕ)). IsWholeLog engine.parts.log.log.header l (old.reads engine.parts.log.log.active)) read.1 keeps.file.log;
        placed = own_first.placed;
        reached = reached;
        part = subst (λ (l : List (List ℕ)). SaysFront (frames l) old.said said) own_first.given_are part;
      }

  pub said_part : SaysOfLog p from old.said new.reads new.said
  said_part =
      let told = told_by holds in
      inr (inl (subst (λ (f : Files). SaysPart p from old.said f new.said) (sym (all_run.reads told)) (part_of (all_run.said told))))

  pub images_part : old.tells_moments → LeavesOnly old new (λ files said. (files ≡ old.reads) × SaysOfLog p from old.said files said)
  images_part telling = first_call old new (λ files said. (files ≡ old.reads) × SaysOfLog p from old.said files said) telling all_run.time (λ files said left.
      let was = all_run.crash telling files said left in
      let there : files ≡ old.reads = was.0.2 ∙ fun_ext (λ (n : FileNo). holds.shows.shows.log.keeps.settled n telling was.0.0 old.said was.0.1) in
      (there, inr (inl (subst (λ (f : Files). SaysPart p from old.said f said) (sym there) (part_of was.1)))))

-- or nothing was
pub said_none : {p : Params} {old mid : Disk} {engine : EngineView} {commands : List Command} (from : ℕ) → Holds p old engine commands → Stays old mid → SaysOfLog p from old.said mid.reads mid.said
said_none from holds stays = inl (stays.said (told_by holds))

pub images_none : {p : Params} {old mid : Disk} {engine : EngineView} {commands : List Command} (from : ℕ) → Holds p old engine commands → Stays old mid → old.tells_moments
    → LeavesOnly old mid (λ files said. (files ≡ old.reads) × SaysOfLog p from old.said files said)
images_none {p} {old} {mid} from holds stays telling = first_call old mid (λ files said. (files ≡ old.reads) × SaysOfLog p from old.said files said) telling stays.time (λ files said left.
    let was = stays.crash telling files said left in
    (was.0.2 ∙ fun_ext (λ (n : FileNo). holds.shows.shows.log.keeps.settled n telling was.0.0 old.said was.0.1), inl was.1))

-- an engine that refused a number begins later
pub gone_cause : (T rises : Type 0) (base from : ℕ) (fault : FileNo → ℕ → Type 0) (e : ShipErr) (begins : ℕ) → e ≡ of_ship.Gone begins → HasShipCause {T = T} base from rises fault (Err e) → (from < base) × (begins ≡ base)
gone_cause T rises base from fault e begins is cause = subst (λ (x : ShipErr). HasShipCause {T = T} base from rises fault (Err x)) is cause

-- or that it begins later
module _ {p : Params} {old new : Disk} {engine : EngineView} {commands : List Command} (from : ℕ) (holds : Holds p old engine commands) (above : from < base_of engine) (run : Runs Same (SaysFront (notices.gone (base_of engine))) old new) where
  gone_part : {said : List ℕ} → SaysFront (notices.gone (base_of engine)) old.said said → SaysPartGone p from old.said old.reads said
  gone_part part = record {
    active = engine.parts.log.log.active;
    header = engine.parts.log.log.header;
    groups = holds.shows.shows.log.keeps.groups;
    log = record { in_force = holds.shows.shows.log.keeps.in_force; log = holds.shows.shows.log.keeps.file };
    above = above;
    part = part;
  }

  pub said_gone : SaysOfLog p from old.said new.reads new.said
  said_gone =
      let told = told_by holds in
      inr (inr (subst (λ (f : Files). SaysPartGone p from old.said f new.said) (sym (run.reads told)) (gone_part (run.said told))))

  pub images_gone : old.tells_moments → LeavesOnly old new (λ files said. (files ≡ old.reads) × SaysOfLog p from old.said files said)
  images_gone telling = first_call old new (λ files said. (files ≡ old.reads) × SaysOfLog p from old.said files said) telling run.time (λ files said left.
      let was = run.crash telling files said left in
      let there : files ≡ old.reads = was.0.2 ∙ fun_ext (λ (n : FileNo). holds.shows.shows.log.keeps.settled n telling was.0.0 old.said was.0.1) in
      (there, inr (inr (subst (λ (f : Files). SaysPartGone p from old.said f said) (sym there) (gone_part was.1)))))

-- what ended it has its cause, and ends the call so
stop_ship : (old new : Disk) (stop : Stop) → IsCaused stop old new → IsOfShip (status_of stop)
stop_ship old new stops.ReadFault cause = absurd cause
stop_ship old new stops.BackupFault cause = absurd cause
stop_ship old new stops.TooLong cause = absurd cause
stop_ship old new stop cause = tt

stop_counts : (old new : Disk) (stop : Stop) → IsCaused stop old new → CountsFaults old new (status_of stop)
stop_counts old new stops.DiskFault cause = record { disk = λ is. cause; output = λ is. cc is }
stop_counts old new (stops.Damaged file place) cause = record { disk = λ is. cc is; output = λ is. cc is }
stop_counts old new stops.SayFault cause = record { disk = λ is. cc is; output = λ is. cause }
stop_counts old new stops.Memory cause = record { disk = λ is. cc is; output = λ is. cc is }
stop_counts old new stops.ReadFault cause = absurd cause
stop_counts old new stops.BackupFault cause = absurd cause
stop_counts old new stops.TooLong cause = absurd cause

stop_store : (stop : Stop) → IsUndamaged stop → (status_of stop ≢ NotAStore) × (status_of stop ≢ Damaged)
stop_store (stops.Damaged file place) whole = absurd whole
stop_store stop whole = (λ is. cc is, λ is. cc is)

stop_early : (stop : Stop) → (status_of stop ≡ Done) ⊎ (status_of stop ≡ Gone) → ⊥
stop_early stops.DiskFault is = ⊎_elim (λ e. cc e) (λ e. cc e) is
stop_early stop is = ⊎_elim (λ e. cc e) (λ e. cc e) is

module _ (stop : Stop) {status : Status} (is : status ≡ status_of stop) where
  pub ended_ship : (old new : Disk) → IsCaused stop old new → IsOfShip status
  ended_ship old new cause = subst IsOfShip (sym is) (stop_ship old new stop cause)

  pub ended_counts : (old mid new : Disk) → Passes old mid → IsCaused stop mid new → CountsFaults old new status
  ended_counts old mid new time cause =
      let counts = subst (λ (s : Status). CountsFaults mid new s) (sym is) (stop_counts mid new stop cause) in
      record {
        disk = λ e. rises_within _ _ _ _ time.disk_faults (omega arith) (counts.disk e);
        output = λ e. rises_within _ _ _ _ time.say_faults (omega arith) (counts.output e);
      }

  pub ended_store : IsUndamaged stop → (status ≢ NotAStore) × (status ≢ Damaged)
  ended_store whole = subst (λ (s : Status). (s ≢ NotAStore) × (s ≢ Damaged)) (sym is) (stop_store stop whole)

  pub ended_early : (status ≡ Done) ⊎ (status ≡ Gone) → ⊥
  ended_early early = stop_early stop (subst (λ (s : Status). (s ≡ Done) ⊎ (s ≡ Gone)) is early)

-- A shipment from before the store was opened.
module _ (p : Params) (commands : List Command) (old : Disk) where
  -- while the store is opened the files stand for the commands, and nothing is said
  opens_standing : (from : ℕ) (mid : Disk) → (old.tells_moments → LeavesOnly old mid (OrAtStart old (Between p old None (length commands) (length commands) commands))) → old.tells_moments → LeavesOnly old mid (OrAtStart old (ShipMoment p commands from old.said))
  opens_standing from mid opening told =
      or_weaker old mid (Between p old None (length commands) (length commands) commands) (ShipMoment p commands from old.said) (opening told)
      (λ f s b. let enough = b.enough in (subst (λ (l : List Command). Stands p f l) (take_all b.kept commands enough) b.stands, inl b.quiet))

  pub ship_unopened : {budget : Budget} (from : ℕ) (mid : Disk) (status : Status) → IsDisk old → Opens p old commands → OpensFiles budget p commands old mid → IsOfUnopened status → (status ≢ NotAStore) × (status ≢ Damaged) → (status ≢ SayFault) × (status ≢ Memory) → IsShipOn budget from p commands old mid status
  ship_unopened {budget} from mid status lawful opens files of store output =
      let images = opens_standing from mid files.images in
      record {
        done = λ is. absurd (subst IsOfUnopened is of);
        gone = λ is. absurd (subst IsOfUnopened is of);
        said = inl files.quiet;
        images = images;
        from_settled = λ told settled. from_settled old mid (ShipMoment p commands from old.said) lawful told settled (opens.stands, inl refl) (images told);
        store = store;
        settled = λ disk memory. absurd (opening_failed status of store output disk memory);
        stands = λ disk memory. absurd (opening_failed status of store output disk memory);
        unopened = λ told is. start_refused p commands files told;
        steps = λ told first is. or_weaker old mid (OpeningMoment budget p commands old first is) (TableMoment budget p commands old first is) (files.steps told first is) (λ f s here. inl here);
      }

  pub ship_on : {budget : Budget} (from : ℕ) (mid new : Disk) (engine : EngineView) (status : Status) → IsDisk old → IsDisk mid → IsDisk new → Passes old mid → Passes mid new → Opens p old commands → OpensFiles budget p commands old mid → IsOpen budget p commands old mid engine → Holds p mid engine commands
      → IsSettled mid → KeepsFiles mid new → (status ≡ Done → SaysFrames p from mid new) → (status ≡ Gone → SaysGone p from mid new) → SaysOfLog p from mid.said new.reads new.said
      → (mid.tells_moments → LeavesOnly mid new (λ files said. (files ≡ mid.reads) × SaysOfLog p from mid.said files said)) → (status ≢ NotAStore) × (status ≢ Damaged) → IsOfOpened status → IsShipOn budget from p commands old new status
  ship_on from mid new engine status lawful lawful_mid lawful_new first second opens files opened holds settled_mid keeps done gone said moments store fine =
      let settled = keeps_settled mid new lawful_mid lawful_new second keeps settled_mid in
      let here : Stands p mid.reads commands = (dump_stands p mid mid engine commands holds opened.all (keeps_none mid lawful_mid) settled_mid).0 in
      let images : old.tells_moments → LeavesOnly old new (OrAtStart old (ShipMoment p commands from old.said))
      = λ told. runs_on old mid new (OrAtStart old (ShipMoment p commands from old.said)) (opens_standing from mid files.images told)
      (weaker mid new (λ files said. (files ≡ mid.reads) × SaysOfLog p from mid.said files said) (OrAtStart old (ShipMoment p commands from old.said)) (moments (first.moments_told.0 told))
      (λ f s m. inr (subst (λ (x : Files). Stands p x commands) (sym m.0) here, subst (λ (l : List ℕ). SaysOfLog p from l f s) files.quiet m.1))) in
      record {
        done = λ is. frames_from (done is);
        gone = λ is. gone_from (gone is);
        said = subst (λ (l : List ℕ). SaysOfLog p from l new.reads new.said) files.quiet said;
        images = images;
        from_settled = λ told settled_old. from_settled old new (ShipMoment p commands from old.said) lawful told settled_old (opens.stands, inl refl) (images told);
        store = store;
        settled = λ disk memory. settled;
        stands = λ disk memory. dump_stands p mid new engine commands holds opened.all keeps settled;
        unopened = λ told is. absurd (subst IsOfOpened is fine);
        steps = λ told first_stage is. dump_steps p old mid new commands engine opened files keeps first_stage is settled_mid (λ telling. first.moments_told.0 telling) told;
      }
    where
      frames_from : SaysFrames p from mid new → SaysFrames p from old new
      frames_from is = record {
        active = is.active;
        header = is.header;
        groups = is.groups;
        log = is.log;
        reached = is.reached;
        said = is.said ∙ ap (λ (l : List ℕ). l ++ frames (payloads_from (meaning_in p) from is.groups)) files.quiet;
      }

      gone_from : SaysGone p from mid new → SaysGone p from old new
      gone_from is = record {
        active = is.active;
        header = is.header;
        groups = is.groups;
        log = is.log;
        above = is.above;
        said = is.said ∙ ap (λ (l : List ℕ). l ++ notices.gone is.header.base) files.quiet;
      }

-- a shipment may end as one of no store
pub unopened_ship : (status : Status) → IsOfUnopened status → IsOfShip status
unopened_ship NotAStore of = tt
unopened_ship Damaged of = tt
unopened_ship DiskFault of = tt
unopened_ship SayFault of = tt
unopened_ship Memory of = tt
unopened_ship RestartMemory of = tt
unopened_ship status of = absurd of
