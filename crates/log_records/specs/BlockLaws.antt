-- What a reader of blocks has given in all, and that it may go on after other files have changed.
use Rattle.std.proofs.Common.{◌≡◌, ◌≢◌, ℕ, List, [], map, sym, ap, ◌∙◌, subst}
use Rattle.disk_model.specs.Disk.{Files, Disk, OthersStay}
use Rattle.disk_model.specs.declared.machine.FileNo.{FileNo}
use Rattle.oper_core.specs.Meaning.{Meaning}
use Rattle.formats.specs.Log.{IsWholeLog}
use Rattle.formats.specs.Records.{payload_of, IsRecordLog}
use Rattle.formats.specs.declared.record.Record.{Record}
use Rattle.log_blocks.specs.LogView.{LogView}
use Rattle.log_blocks.specs.Payloads.{IsInLog}
use Rattle.log_records.specs.BlockReader.{AreAllBlocks, BlockReaderView, IsReadingBlocks, payloads_from}
use Rattle.log_records.specs.CodecLaws.{HasCodes}
use Rattle.log_records.specs.LsnReaderLaws.{reading_beside}
use Rattle.log_records.specs.Uniqueness.{same_groups}

module _ {O : Type 0} (m : Meaning O) where
  -- where what is read may be the files, they are those of the blocks that the log has there
  pub blocks_given : HasCodes m → (d : Disk) (log : LogView) (from : ℕ) (given : List (List ℕ)) (groups : List (List (Record O))) → d.agrees d.reads → IsRecordLog m log.header groups (d.reads log.active) → AreAllBlocks m d log from given
      → given ≡ payloads_from m from groups
  blocks_given codes d log from given groups agree holds all =
      let base = log.header.base in
      let same = same_groups m codes base base base base all.groups groups all.placed holds.placed (sym (all.read d.reads agree (map (payload_of m) groups) holds.log)) in
      all.given_are ∙ ap (payloads_from m from) same

  -- a reader goes on where another file alone has changed
  pub blocks_beside : (old new : Disk) (file : FileNo) (log : LogView) (it : BlockReaderView) (given : List (List ℕ)) → log.active ≢ file → ((now : Files) → new.agrees now → (was : Files) × old.agrees was × OthersStay file was now)
      → IsReadingBlocks m old log it given → IsReadingBlocks m new log it given
  blocks_beside old new file log it given apart beside is = record {
    groups = is.groups;
    given_are = is.given_are;
    reading = record {
      reading = reading_beside m old new file log it.records _ apart beside is.reading.reading;
      stands = λ now agree payloads whole.
          let was = beside now agree in
          let same = was.2 log.active apart in
          let stood = is.reading.stands was.0 was.1 payloads (subst (λ (f : List ℕ). IsWholeLog log.header payloads f) same whole) in
          (stood.0, subst (λ (f : List ℕ). IsInLog f it.records.payloads payloads (map (payload_of m) is.groups) [] stood.0) (sym same) stood.1);
    };
  }
