use Rattle.std.proofs.Common.{◌≡◌, ℕ, List}
use Rattle.disk_model.specs.Disk.{Files, Disk, Stays}
use Rattle.log_blocks.specs.Payloads.{PayloadReaderView, IsInLog, remaining, ahead}
use Rattle.log_records.proofs.record_reader.find_record.Given as goal

-- since the search began only bytes came into memory
pub record IsSearching (first now : Disk) (old it : PayloadReaderView) : Type 0 where
  pub kept : Stays first now
  pub file : it.file ≡ old.file
  pub all : (remaining it ≡ remaining old) × (ahead it ≡ ahead old)
  pub read : (files : Files) → now.agrees files → (all passed : List (List ℕ)) (taken : List ℕ) (later : List (List ℕ)) → IsInLog (files old.file) old all passed taken later → IsInLog (files it.file) it all passed taken later

abbrev pub invariant-loop-found : goal.invariant-loop-found
invariant-loop-found g l = IsSearching (g.M.Machine.disk l.fn.m) (g.M.Machine.disk l.m) l.fn.payloads l.payloads

abbrev pub decreases-loop-found : goal.decreases-loop-found
decreases-loop-found g l = l.payloads.left
