-- What is read of the log for whoever follows it, and that it is not damaged.
use Rattle.std.proofs.Common.{◌≡◌, ◌∙◌, ap, sym, subst, refl, inl, inr, ⊎_elim, ℕ, ◌≤◌, ◌++◌, List, [], ◌∷◌, append_assoc, arith, map, true}
use Rattle.std.specs.Prelude.{◌↔◌, IsErrAnd, IsErrOf, Result, Ok, Err}
use Rattle.std.proofs.lemmas.Grind.{flat_map-append}
use Rattle.std.proofs.lemmas.List.{append-nil}
use Rattle.disk_model.specs.Disk.{Disk, Files, Rises, Stays}
use Rattle.disk_model.specs.Moments.{stays_then}
use Rattle.disk_model.specs.declared.machine.FileNo.{FileNo}
use Rattle.oper_core.specs.Meaning.{HasBounds, IsLawful, IsSmall, Meaning}
use Rattle.oper_core.specs.declared.bounds.Bounds.{Bounds}
use Rattle.formats.specs.Objects.{IsInRange}
use Rattle.formats.specs.Reading.{FailsBy}
use Rattle.formats.specs.Records.{IsRecordLog, payload_of}
use Rattle.formats.specs.declared.read_err.ReadErr.{ReadErr}
use Rattle.formats.specs.declared.read_err.ReadErr.TheVariants as of_read
use Rattle.frame_stream.specs.Frames.{frame, frames}
use Rattle.log_blocks.specs.LogView.{LogView}
use Rattle.log_records.specs.BlockLaws.{blocks_given}
use Rattle.log_records.specs.BlockReader.{AreAllBlocks, BlockReaderView, IsReadingBlocks}
use Rattle.log_records.specs.CodecLaws.{HasCodes}
use Rattle.log_records.specs.Loading.{IsTailFault}
use Rattle.log_records.specs.Uniqueness.{no_record_fault}
use Rattle.restart.specs.DamageLaws.{codes_in}
use Rattle.running_store.specs.Calls.Faults.{is_read_fault}
use Rattle.running_store.specs.Parts.{Parts}
use Rattle.running_store.specs.Taking.{ArePartsInUse}
use Rattle.store_engine.specs.Engine.{EngineView, IsAttached, IsEngineRead}
use Rattle.store_engine.specs.Shipping.{AreFramesFrom, HasShipCause, IsReaderFrom, base_of, ship_from_read}
use Rattle.store_engine.specs.declared.ship_err.ShipErr.{ShipErr}
use Rattle.store_engine.specs.declared.ship_err.ShipErr.TheVariants.{Damaged, DiskFault, Memory}
use Rattle.store_engine.proofs.Ways.{error_from}

-- the disk failed exactly where the answer says so
ship_fails_so : {T : Type 0} (e : ReadErr) → (is_read_fault e ≡ true) ↔ IsErrOf {T = T} (Err (ship_from_read e)) DiskFault
ship_fails_so of_read.DiskFault = (λ is. refl, λ is. refl)
ship_fails_so (of_read.Damaged file place) = (λ is. cc, λ is. cc)
ship_fails_so of_read.Memory = (λ is. cc, λ is. cc)

-- an error that is handed on as it is
abbrev err_or : {T E : Type 0} → E → Result T E → E
err_or e (Ok value) = e
err_or e (Err other) = other

error_again : {T U E : Type 0} (e other : E) → IsErrOf {T = T} (Err e) other → IsErrOf {T = U} (Err e) other
error_again e other is = ap (λ (k : _). Err k) (ap (err_or other) is)

-- why the log was not read on is why it was not shipped
pub ship_cause : {T : Type 0} (base from : ℕ) (rises : Type 0) (fault : FileNo → ℕ → Type 0) (result : Result T ShipErr) (e : ReadErr) → IsErrAnd result (λ k. k ≡ ship_from_read e) → base ≤ from → FailsBy rises fault e
    → HasShipCause base from rises fault result
ship_cause {T} base from rises fault result e is reached why = subst (λ (r : Result T ShipErr). HasShipCause base from rises fault r) (sym (error_from result (ship_from_read e) is)) (by_cause e why)
  where
    by_cause : (e : ReadErr) → FailsBy rises fault e → HasShipCause {T = T} base from rises fault (Err (ship_from_read e))
    by_cause of_read.DiskFault why = (reached, why)
    by_cause (of_read.Damaged file place) why = (reached, why)
    by_cause of_read.Memory why = reached

-- where it was damaged, so was what was read
pub damage_read : {T : Type 0} (result : Result T ShipErr) (e : ReadErr) (file : FileNo) (place : ℕ) → IsErrAnd result (λ k. k ≡ ship_from_read e) → IsErrOf result (Damaged file place) → e ≡ of_read.Damaged file place
damage_read {T} result e file place is damaged = by_error e (ap (err_or (Damaged file place)) (sym (error_from result (ship_from_read e) is) ∙ damaged))
  where
    by_error : (e : ReadErr) → ship_from_read e ≡ Damaged file place → e ≡ of_read.Damaged file place
    by_error of_read.DiskFault same = cc
    by_error (of_read.Damaged other at) same = cc
    by_error of_read.Memory same = cc

module _ {O : Type 0} (meaning : Bounds → Meaning O) where
  -- a read fails where one says so that fails just there
  pub read_as : {old new : Disk} {before after : EngineView} {F G : Type 0} → F ↔ G → IsEngineRead meaning old new before after F → IsEngineRead meaning old new before after G
  read_as so read = record {
    kept = read.kept;
    engine = read.engine;
    broken = (λ set. so.0 (read.broken.0 set), λ fails. read.broken.1 (so.1 fails));
    shows = λ p w shows. ⊎_elim (λ fails. inl (so.0 fails)) (λ now. inr now) (read.shows p w shows);
  }

  pub read_fails : {T : Type 0} {old new : Disk} {before after : EngineView} (result : Result T ShipErr) (e : ReadErr) → IsErrAnd result (λ k. k ≡ ship_from_read e) → IsEngineRead meaning old new before after (is_read_fault e ≡ true)
      → IsEngineRead meaning old new before after (IsErrOf result DiskFault)
  read_fails {T} {old} {new} {before} {after} result e is read =
      subst (λ (r : Result T ShipErr). IsEngineRead meaning old new before after (IsErrOf r DiskFault)) (sym (error_from result (ship_from_read e) is)) (read_as (ship_fails_so e) read)

  pub read_again : {T U : Type 0} {old new : Disk} {before after : EngineView} (result : Result U ShipErr) (e : ShipErr) → IsErrAnd result (λ k. k ≡ e) → IsEngineRead meaning old new before after (IsErrOf {T = T} (Err e) DiskFault)
      → IsEngineRead meaning old new before after (IsErrOf result DiskFault)
  read_again {T} {U} {old} {new} {before} {after} result e is read =
      subst (λ (r : Result U ShipErr). IsEngineRead meaning old new before after (IsErrOf r DiskFault)) (sym (error_from result e is)) (read_as (error_again e DiskFault, error_again e DiskFault) read)

  -- one that is done, or runs out of memory, has not failed with the disk
  pub read_done : {T E : Type 0} {old new : Disk} {before after : EngineView} (value : T) (e : E) → IsEngineRead meaning old new before after (IsErrOf (Ok value) e) → IsEngineRead meaning old new before after ⊥
  read_done value e read = read_as (λ is. cc, λ none. absurd none) read

  pub done_read : {T : Type 0} {old new : Disk} {before after : EngineView} (value : T) → IsEngineRead meaning old new before after ⊥ → IsEngineRead meaning old new before after (IsErrOf (Ok value) DiskFault)
  done_read value read = read_as (λ none. absurd none, λ is. cc) read

  pub short_read : {T : Type 0} {old new : Disk} {before after : EngineView} (result : Result T ShipErr) → IsErrAnd result (λ k. k ≡ Memory) → IsEngineRead meaning old new before after ⊥ → IsEngineRead meaning old new before after (IsErrOf result DiskFault)
  short_read {T} {old} {new} {before} {after} result is read =
      subst (λ (r : Result T ShipErr). IsEngineRead meaning old new before after (IsErrOf r DiskFault)) (sym (error_from result Memory is)) (read_as (λ none. absurd none, λ is. cc) read)

  -- a read that is done, and another after it
  pub read_then : {old mid new : Disk} {before here after : EngineView} {F : Type 0} → IsEngineRead meaning old mid before here ⊥ → IsEngineRead meaning mid new here after F → IsEngineRead meaning old new before after F
  read_then {after = after} first second = record {
    kept = stays_then first.kept second.kept;
    engine = second.engine ∙ ap (λ (e : EngineView). record e { broken = after.broken }) first.engine;
    broken = second.broken;
    shows = λ p w shows. ⊎_elim (λ fails. absurd fails) (λ now. second.shows p w now) (first.shows p w shows);
  }

  module _ (bounded : (b : Bounds) → HasBounds b (meaning b)) (lawful : (b : Bounds) → IsSmall b → IsLawful (meaning b)) where
    -- each record of a store in use has a code
    pub codes_of : (it : Parts) → ArePartsInUse it → IsInRange it.volatile.objects.slots.params → HasCodes (meaning it.log.bounds)
    codes_of it used range = subst (λ (b : Bounds). HasCodes (meaning b)) (sym used.bounds) (codes_in meaning bounded lawful it.volatile.objects.slots.params range)

  -- where only reads were made, no record of an attached engine's log breaks its format
  pub log_undamaged : {old new : Disk} (engine : EngineView) → HasCodes (meaning engine.parts.log.bounds) → Stays old new → old.tells_files → IsAttached meaning old engine → (file : FileNo) (place : ℕ)
      → IsTailFault (meaning engine.parts.log.bounds) new engine.parts.log.log file place → ⊥
  log_undamaged {old} {new} engine codes stays told attached file place fault =
      let log = engine.parts.log.log in
      let keeps = (attached told).1.keeps in
      let here = subst (λ (f : Files). IsRecordLog (meaning engine.parts.log.bounds) log.header keeps.groups (f log.active)) (sym (stays.reads told)) keeps.file in
      no_record_fault (meaning engine.parts.log.bounds) codes log.header keeps.groups (new.reads log.active) place here
      (fault.1 new.reads (stays.ends.agreeing (stays.time.files_told.0 told)) (map (payload_of (meaning engine.parts.log.bounds)) keeps.groups) here.log)

  -- So far the log was read from an LSN on: the bytes are those that were there and the frames of what the reader gave.
  pub record HasShipped (old now : Disk) (before here : EngineView) (from : ℕ) (reader : BlockReaderView) (were bytes : List ℕ) : Type 0 where
    pub reached : base_of before ≤ from
    pub read : IsEngineRead meaning old now before here ⊥
    pub from_is : reader.from ≡ from
    pub bounds : reader.records.bounds ≡ before.parts.log.bounds
    pub given : List (List ℕ)
    pub reading : IsReadingBlocks (meaning before.parts.log.bounds) now before.parts.log.log reader given
    pub bytes_are : bytes ≡ were ++ frames given

  pub ship_started : {old now : Disk} {before here : EngineView} (from : ℕ) (reader : BlockReaderView) (were : List ℕ) → base_of before ≤ from → IsEngineRead meaning old now before here ⊥ → IsReaderFrom meaning now before from reader
      → HasShipped old now before here from reader were were
  ship_started from reader were reached read is = record {
    reached = reached;
    read = read;
    from_is = is.from_is;
    bounds = is.bounds;
    given = [];
    reading = is.reading;
    bytes_are = sym (append-nil were);
  }

  module _ {old now : Disk} {before here : EngineView} {from : ℕ} {reader : BlockReaderView} {were bytes : List ℕ} (so : HasShipped old now before here from reader were bytes) where
    log_still : before.parts.log.log ≡ here.parts.log.log
    log_still = ap (λ (e : EngineView). e.parts.log.log) (sym so.read.engine)

    -- what the next call reads on
    pub reads_on : IsReadingBlocks (meaning reader.records.bounds) now here.parts.log.log reader so.given
    reads_on =
        subst (λ (b : Bounds). IsReadingBlocks (meaning b) now here.parts.log.log reader so.given) (sym so.bounds)
        (subst (λ (log : LogView). IsReadingBlocks (meaning before.parts.log.bounds) now log reader so.given) log_still so.reading)

    -- why it fails
    pub ship_failed : (new : Disk) (e : ReadErr) → FailsBy (Rises now.disk_faults new.disk_faults) (IsTailFault (meaning reader.records.bounds) new here.parts.log.log) e
        → FailsBy (Rises old.disk_faults new.disk_faults) (IsTailFault (meaning before.parts.log.bounds) new before.parts.log.log) e
    ship_failed new of_read.DiskFault rises = λ low. let more = rises low in omega (arith, more, so.read.kept.time.disk_faults)
    ship_failed new (of_read.Damaged file place) fault =
        subst (λ (log : LogView). IsTailFault (meaning before.parts.log.bounds) new log file place) (sym log_still)
        (subst (λ (b : Bounds). IsTailFault (meaning b) new here.parts.log.log file place) so.bounds fault)
    ship_failed new of_read.Memory short = tt

    pub ship_more : {new : Disk} {after : EngineView} {next : BlockReaderView} (payload longer : List ℕ) → IsEngineRead meaning now new here after ⊥ → next ≡ record reader { records = next.records } → next.records.bounds ≡ reader.records.bounds
        → IsReadingBlocks (meaning reader.records.bounds) new here.parts.log.log next (so.given ++ payload ∷ []) → longer ≡ bytes ++ frame payload → HasShipped old new before after from next were longer
    ship_more {new} {after} {next} payload longer read same bounds reading is = record {
      reached = so.reached;
      read = read_then so.read read;
      from_is = ap (λ (r : BlockReaderView). r.from) same ∙ so.from_is;
      bounds = bounds ∙ so.bounds;
      given = so.given ++ payload ∷ [];
      reading = subst (λ (log : LogView). IsReadingBlocks (meaning before.parts.log.bounds) new log next (so.given ++ payload ∷ [])) (sym log_still)
          (subst (λ (b : Bounds). IsReadingBlocks (meaning b) new here.parts.log.log next (so.given ++ payload ∷ [])) so.bounds reading);
      bytes_are = is ∙ ap (λ (l : List ℕ). l ++ frame payload) so.bytes_are ∙ append_assoc were (frames so.given) (frame payload)
          ∙ ap (λ (l : List ℕ). were ++ l) (sym (flat_map-append frame so.given (payload ∷ []) ∙ ap (λ (l : List ℕ). frames so.given ++ l) (append-nil (frame payload))));
    }

    -- after the last one they are the frames of what the log's blocks have
    pub ship_ended : {new : Disk} {next : BlockReaderView} → HasCodes (meaning before.parts.log.bounds) → old.tells_files → Stays old new → next ≡ record reader { records = next.records }
        → AreAllBlocks (meaning reader.records.bounds) new here.parts.log.log next.from so.given → (said : List ℕ) × AreFramesFrom meaning old before from said × (bytes ≡ were ++ said)
    ship_ended {new} {next} codes told stays same all = (
      frames so.given,
      λ groups log.
          let m = meaning before.parts.log.bounds in
          let there : IsRecordLog m before.parts.log.log.header groups (new.reads before.parts.log.log.active) =
          subst (λ (f : Files). IsRecordLog m before.parts.log.log.header groups (f before.parts.log.log.active)) (sym (stays.reads told)) log in
          let from_is : next.from ≡ from = ap (λ (r : BlockReaderView). r.from) same ∙ so.from_is in
          let whole : AreAllBlocks m new before.parts.log.log from so.given =
          subst (λ (n : ℕ). AreAllBlocks m new before.parts.log.log n so.given) from_is
          (subst (λ (view : LogView). AreAllBlocks m new view next.from so.given) (sym log_still) (subst (λ (b : Bounds). AreAllBlocks (meaning b) new here.parts.log.log next.from so.given) so.bounds all)) in
          ap (λ (payloads : List (List ℕ)). frames payloads) (blocks_given m codes new before.parts.log.log from so.given groups (stays.ends.agreeing (stays.time.files_told.0 told)) there whole),
      so.bytes_are,
    )
