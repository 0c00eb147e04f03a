-- The log of an engine, or of files, as what a store ships.
use Rattle.std.proofs.Common.{◌≡◌, ◌∙◌, sym, subst, ap, ℕ, ◌≤◌, List, refl, arith}
use Rattle.disk_model.specs.Disk.{Disk, Files}
use Rattle.disk_model.specs.declared.machine.FileNo.{FileNo}
use Rattle.oper_core.specs.Meaning.{Meaning}
use Rattle.oper_core.specs.declared.bounds.Bounds.{Bounds}
use Rattle.formats.specs.Log.{Header}
use Rattle.formats.specs.Records.{HoldsRecordLog, IsRecordLog}
use Rattle.formats.specs.declared.params.Params.{Params}
use Rattle.formats.specs.declared.record.Record.{Record}
use Rattle.frame_stream.specs.Frames.{frames}
use Rattle.log_records.specs.BlockReader.{payloads_from}
use Rattle.log_records.specs.CodecLaws.{HasCodes}
use Rattle.log_records.specs.Uniqueness.{one_records}
use Rattle.explain_core.specs.World.{World}
use Rattle.standing.specs.Members.{members_of}
use Rattle.standing.specs.Standing.{FilesShow}
use Rattle.store_engine.specs.Engine.{EngineView, ShowsIn}
use Rattle.store_engine.specs.Shipping.{AreFramesFrom, base_of}
use Rattle.store_engine.specs.Store.{meaning_in}
use Rattle.standby_node.specs.OnePrimary.{IsShipped}

pub engine_shipped : {O : Type 0} (meaning : Bounds → Meaning O) (p : Params) (d : Disk) (engine : EngineView) (w : World O) (from : ℕ) (bytes : List ℕ) → ShowsIn meaning p d engine w → base_of engine ≤ from → AreFramesFrom meaning d engine from bytes
    → IsShipped (meaning_in meaning p) w from bytes
engine_shipped {O} meaning p d engine w from bytes shows reached are =
    let log = shows.shows.log in
    let bounds = shows.shows.bounds in
    let header = engine.parts.log.log.header in
    let file = d.reads engine.parts.log.log.active in
    let groups = log.keeps.groups in
    record {
      file = file;
      header = header;
      groups = groups;
      log = log.keeps.file;
      base = log.base;
      members = ap (λ (rs : List (Record O)). members_of rs) log.keeps.stable_are ∙ log.forced;
      reached = omega (arith, log.base, reached);
      frames_are = subst (λ (b : Bounds). bytes ≡ frames (payloads_from (meaning b) from groups)) bounds (are groups (subst (λ (b : Bounds). IsRecordLog (meaning b) header groups file) (sym bounds) log.keeps.file));
    }

pub files_shipped : {O : Type 0} (m : Meaning O) (p : Params) (files : Files) (w : World O) (active : FileNo) (header : Header) (groups : List (List (Record O))) (from : ℕ) → HasCodes m → FilesShow m p files w → HoldsRecordLog m active header groups files → header.base ≤ from
    → IsShipped m w from (frames (payloads_from m from groups))
files_shipped {O} m p files w active header groups from codes shows holds reached =
    let same = one_records m codes active shows.active header shows.header groups shows.groups files holds shows.log in
    let base : header.base ≡ w.base = ap (λ (h : Header). h.base) same.1 ∙ shows.base in
    record {
      file = files active;
      header = header;
      groups = groups;
      log = holds.log;
      base = base;
      members = ap (λ (rs : List (Record O)). members_of rs) same.2 ∙ shows.members;
      reached = omega (arith, base, reached);
      frames_are = refl;
    }
