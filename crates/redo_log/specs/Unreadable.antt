-- Bytes of a log that are no record.
use Rattle.std.specs.Prelude.{◌≡◌, ◌<◌, ⊤, ℕ, All, List, ◌++◌, length}
use Rattle.disk_model.specs.Disk.{Disk, Files}
use Rattle.disk_model.specs.declared.machine.FileNo.{FileNo}
use Rattle.oper_core.specs.Meaning.{Meaning}
use Rattle.op_codec.specs.AllOps.{AllOps}
use Rattle.formats.specs.InForce.{HoldsLog}
use Rattle.formats.specs.Log.{Header}
use Rattle.formats.specs.Records.{IsRecord, payload_of}
use Rattle.formats.specs.declared.record.Record.{Record}
use Rattle.log_blocks.specs.Forcing.{with_block}
use Rattle.log_blocks.specs.Payloads.{IsInLog, PayloadReaderView, remaining}
use Rattle.log_records.specs.Codec.{StartsWithRecord}
use Rattle.tool_output.specs.declared.stop.Stop.{Stop}
use Rattle.tool_output.specs.declared.stop.Stop.TheVariants as stops

-- the bytes begin with no record
abbrev pub StartsWithNone : {O : Type 0} → Meaning O → List ℕ → Type 0
StartsWithNone {O = O} m bytes = (r : Record O) → StartsWithRecord m bytes r → ⊥

-- the bytes in hand begin with no record, and all of the payload is in memory
pub record FindsNone (m : Meaning AllOps) (d : Disk) (old it : PayloadReaderView) : Type 0 where
  pub whole : it.left ≡ 0
  pub none : StartsWithNone m it.bytes
  pub all : remaining it ≡ remaining old
  pub read : (files : Files) → d.agrees files → (all passed : List (List ℕ)) (taken : List ℕ) (later : List (List ℕ)) → IsInLog (files old.file) old all passed taken later → IsInLog (files it.file) it all passed taken later

-- behind the bytes that were taken of a payload stand others, with which no record begins
pub record HasNoRecord {O : Type 0} (m : Meaning O) (all passed : List (List ℕ)) (taken : List ℕ) (later : List (List ℕ)) : Type 0 where
  pub rest : List ℕ
  pub some : 0 < length rest
  pub here : all ≡ with_block passed (taken ++ rest) ++ later
  pub none : StartsWithNone m rest

-- the same behind some records of a payload
pub record IsUnreadable {O : Type 0} (m : Meaning O) (all passed later : List (List ℕ)) : Type 0 where
  pub part : List (Record O)
  pub in_grammar : All (IsRecord m) part
  pub behind : HasNoRecord m all passed (payload_of m part) later

-- one of these payloads is no list of records
abbrev pub AreUnreadable : {O : Type 0} → Meaning O → List (List ℕ) → Type 0
AreUnreadable m all = (passed later : List (List ℕ)) × IsUnreadable m all passed later

-- what was read of a log is broken: some bytes of it begin with no record
abbrev pub IsBroken : {O : Type 0} → Meaning O → List (List ℕ) → Stop → Type 0
IsBroken m payloads stops.NotAStore = ⊥
IsBroken m payloads (stops.Damaged file place) = AreUnreadable m payloads
IsBroken m payloads stop = ⊤

-- each payload of the log in force is a list of records
abbrev pub AreReadable : {O : Type 0} → Meaning O → Files → Type 0
AreReadable m files = (active : FileNo) (header : Header) (payloads : List (List ℕ)) → HoldsLog active header payloads files → AreUnreadable m payloads → ⊥
