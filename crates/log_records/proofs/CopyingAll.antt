-- How far the records of a log are put into one of another machine.
use Rattle.std.proofs.Common.{◌≡◌, ◌∙◌, ℕ, Option, Some, List, [], ◌∷◌, ◌++◌, sym, subst}
use Rattle.disk_model.specs.Disk.{Disk, In, Runs, Same, Stays}
use Rattle.disk_model.specs.Moments.{agreed_before, stays_twice}
use Rattle.disk_model.specs.declared.machine.FileNo.{FileNo}
use Rattle.oper_core.specs.Meaning.{Meaning}
use Rattle.oper_core.specs.declared.bounds.Bounds.{Bounds}
use Rattle.formats.specs.Reading.{FailsBy, TellsDamage}
use Rattle.formats.specs.declared.read_err.ReadErr.{ReadErr}
use Rattle.formats.specs.declared.read_err.ReadErr.TheVariants as of_read
use Rattle.formats.specs.declared.record.Record.{Record}
use Rattle.log_blocks.specs.LogView.{LogView}
use Rattle.log_blocks.specs.RewriteLaws.{keeps_twice}
use Rattle.log_blocks.specs.Rewriting.{KeepsClosed}
use Rattle.log_blocks.specs.Writing.{LogWriterView}
use Rattle.log_records.specs.Copying.{IsLaid, PutFails}
use Rattle.log_records.specs.Laying.{codes_of}
use Rattle.log_records.specs.LogCopy.{CopyFails, CopyFindsDamage, copy_from_put, copy_from_read}
use Rattle.log_records.specs.RecordReader.{RecordReaderView, AreAll, IsReading, HasFound}
use Rattle.log_records.specs.Rewriting.{from_lsn}
use Rattle.log_records.specs.declared.blocks_left.BlocksLeft.{BlocksLeft}
use Rattle.log_records.specs.declared.copy_err.CopyErr.{CopyErr}
use Rattle.log_records.specs.declared.copy_err.CopyErr.TheVariants.{LogFull, DiskFault, TargetFault, Damaged, Memory}
use Rattle.log_records.specs.declared.put_err.PutErr.{PutErr}
use Rattle.log_records.specs.declared.put_err.PutErr.TheVariants as put_err
use Rattle.log_records.proofs.Copies.{codes_then, laid_then}
use Rattle.log_records.proofs.Passing.{next_found}

-- those with an LSN of the records that were read of one machine were put into the other's log
pub record IsCopyingAll {O : Type 0} (meaning : Bounds → Meaning O) (b : Bounds) (log : LogView) (source here first now : Disk) (it : RecordReaderView) (out out' : LogWriterView) (blocks blocks' : BlocksLeft) : Type 0 where
  pub stays : Stays source here
  pub kept : Runs (In out.file KeepsClosed) Same first now
  pub file : out'.file ≡ out.file
  pub bounds : it.bounds ≡ b
  pub records : List (Record O)
  pub reading : IsReading (meaning b) here log it records
  pub laid : IsLaid first now out out' blocks blocks' (codes_of (meaning b) (from_lsn log.header.base records))

-- one record more
pub copied_more : {O : Type 0} (meaning : Bounds → Meaning O) (b : Bounds) (log : LogView) (source here read first now new : Disk) (it it' : RecordReaderView) (out out' out'' : LogWriterView) (blocks blocks' blocks'' : BlocksLeft) (found : Option (Record O)) (r : Record O) (base : ℕ)
    → base ≡ log.header.base → found ≡ Some r → IsCopyingAll meaning b log source here first now it out out' blocks blocks' → Stays here read → it'.bounds ≡ it.bounds
    → ((log : LogView) (records : List (Record O)) → IsReading (meaning it.bounds) here log it records → HasFound (meaning it.bounds) read log it' records found)
    → Runs (In out'.file KeepsClosed) Same now new → out''.file ≡ out'.file → IsLaid now new out' out'' blocks' blocks'' (codes_of (meaning b) (from_lsn base (r ∷ [])))
    → IsCopyingAll meaning b log source read first new it' out out'' blocks blocks''
copied_more {O = O} meaning b log source here read first now new it it' out out' out'' blocks blocks' blocks'' found r base base_is is inv kept same finds run file put =
    let m = meaning b in
    let done = codes_of m (from_lsn log.header.base inv.records) in
    let one = codes_of m (from_lsn log.header.base (r ∷ [])) in
    record {
      stays = stays_twice source here read inv.stays kept;
      kept = keeps_twice first now new out.file inv.kept (subst (λ (f : FileNo). Runs (In f KeepsClosed) Same now new) inv.file run);
      file = file ∙ inv.file;
      bounds = same ∙ inv.bounds;
      records = inv.records ++ r ∷ [];
      reading = next_found meaning b here read log it it' inv.records inv.bounds inv.reading found r is finds;
      laid = subst (λ (l : List (List ℕ)). IsLaid first new out out'' blocks blocks'' l) (sym (codes_then m log.header.base inv.records (r ∷ [])))
          (laid_then first now new out out' out'' blocks blocks' blocks'' done one inv.kept.time.files_told.0 inv.laid
          (subst (λ (k : ℕ). IsLaid now new out' out'' blocks' blocks'' (codes_of m (from_lsn k (r ∷ [])))) base_is put));
    }

-- the records of a log stay its records where no file changes
pub all_stays : {O : Type 0} (m : Meaning O) (old new : Disk) (log : LogView) (records : List (Record O)) → Stays old new → AreAll m old log records → AreAll m new log records
all_stays m old new log records kept all = record { placed = all.placed; short = all.short; read = λ files agree payloads whole. all.read files (agreed_before kept files agree) payloads whole }

-- a call that could not read, one that could not write, and one that hands on why another failed
pub copy_read_fails : (rises rises' target : Type 0) (fault fault' : FileNo → ℕ → Type 0) (long : ℕ → ℕ → ℕ → Type 0) (e : ReadErr) → (rises → rises') → ((file : FileNo) (place : ℕ) → fault file place → fault' file place)
    → FailsBy rises fault e → CopyFails rises' target fault' long (copy_from_read e)
copy_read_fails rises rises' target fault fault' long of_read.DiskFault risen there fails = risen fails
copy_read_fails rises rises' target fault fault' long (of_read.Damaged file place) risen there fails = there file place fails
copy_read_fails rises rises' target fault fault' long of_read.Memory risen there fails = tt

pub copy_put_fails : (rises target target' : Type 0) (fault : FileNo → ℕ → Type 0) (long : ℕ → ℕ → ℕ → Type 0) (e : PutErr) → (target → target') → PutFails target e → CopyFails rises target' fault long (copy_from_put e)
copy_put_fails rises target target' fault long put_err.DiskFault risen fails = risen fails
copy_put_fails rises target target' fault long put_err.Memory risen fails = tt

pub copy_fails_on : (rises rises' target target' : Type 0) (fault fault' : FileNo → ℕ → Type 0) (long long' : ℕ → ℕ → ℕ → Type 0) (e : CopyErr) → (rises → rises') → (target → target') → ((file : FileNo) (place : ℕ) → fault file place → fault' file place)
    → ((used need limit : ℕ) → long used need limit → long' used need limit) → CopyFails rises target fault long e → CopyFails rises' target' fault' long' e
copy_fails_on rises rises' target target' fault fault' long long' (LogFull used need limit) risen risen' there full fails = full used need limit fails
copy_fails_on rises rises' target target' fault fault' long long' DiskFault risen risen' there full fails = risen fails
copy_fails_on rises rises' target target' fault fault' long long' TargetFault risen risen' there full fails = risen' fails
copy_fails_on rises rises' target target' fault fault' long long' (Damaged file place) risen risen' there full fails = there file place fails
copy_fails_on rises rises' target target' fault fault' long long' Memory risen risen' there full fails = tt

-- where no fault is there, none is reported
pub copy_none_told : (rises target : Type 0) (fault : FileNo → ℕ → Type 0) (long : ℕ → ℕ → ℕ → Type 0) (e : CopyErr) → ((file : FileNo) (place : ℕ) → fault file place → ⊥) → CopyFails rises target fault long e → CopyFindsDamage e → ⊥
copy_none_told rises target fault long (LogFull used need limit) none fails found = found
copy_none_told rises target fault long DiskFault none fails found = found
copy_none_told rises target fault long TargetFault none fails found = found
copy_none_told rises target fault long (Damaged file place) none fails found = none file place fails
copy_none_told rises target fault long Memory none fails found = found

pub copy_none_read : (e : ReadErr) → (TellsDamage e → ⊥) → CopyFindsDamage (copy_from_read e) → ⊥
copy_none_read of_read.DiskFault none found = found
copy_none_read (of_read.Damaged file place) none found = none found
copy_none_read of_read.Memory none found = found
