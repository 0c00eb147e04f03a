-- Why the reading of a log fails, by what its parts say.
use Rattle.std.proofs.Common.{◌≡◌, ℕ, ◌+◌, List, length, sym, subst, arith}
use Rattle.disk_model.specs.Disk.{Files, Disk, Stays, Rises}
use Rattle.disk_model.specs.Moments.{agreed_before}
use Rattle.disk_model.specs.declared.machine.FileNo.{FileNo}
use Rattle.formats.specs.Image.{IsBlockFault}
use Rattle.formats.specs.Reading.{FailsBy}
use Rattle.formats.specs.declared.read_err.ReadErr.{ReadErr}
use Rattle.log_blocks.specs.Reading.{fails_on, IsBroken, IsReadTo}
use Rattle.log_blocks.proofs.ReadTo.{block_fault}

-- why a read of blocks fails, once those before a gate are read
pub at_gate : (old mid new : Disk) (file : FileNo) (size gate : ℕ) (e : ReadErr) → Stays old mid → Stays mid new
    → ((files : Files) → mid.agrees files → size ≡ length (files file) → (payloads : List (List ℕ)) × IsReadTo (files file) gate payloads)
    → FailsBy (Rises mid.disk_faults new.disk_faults) (λ f place. (f ≡ file) × (place ≡ gate + 1) × ((files : Files) → new.agrees files → size ≡ length (files file) → IsBroken gate (files file))) e
    → FailsBy (Rises old.disk_faults new.disk_faults) (λ f place. (f ≡ file) × ((files : Files) → new.agrees files → size ≡ length (files file) → IsBlockFault (files file) place)) e
at_gate old mid new file size gate e kept last so_far fails = fails_on _ _ _ _ e (λ later below. let rose = later below in omega (arith, rose, kept.time.disk_faults))
    (λ f place there. (
      there.0,
      λ files agree long.
          let read = so_far files (agreed_before last files agree) long in
          subst (λ (n : ℕ). IsBlockFault (files file) n) (sym there.1) (block_fault (files file) gate read.0 read.1 (there.2 files agree long)),
    ))
    fails
