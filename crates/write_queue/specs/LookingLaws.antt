-- Laws of what calls make of files.
use Rattle.std.proofs.Common.{◌≡◌, ℕ, List, [], ◌∷◌, ◌++◌, refl, sym, ◌∙◌, ap}
use Rattle.disk_model.specs.Disk.{Files}
use Rattle.disk_model.specs.Call.{Call, Write, Sync, Say}
use Rattle.disk_model.specs.Calls.{DiskState, disk_after, disk_start, disk_step}
use Rattle.disk_model.specs.declared.machine.FileNo.{FileNo}
use Rattle.disk_model.specs.declared.machine.FileNo.TheVariants.{Objects, LogA, LogB}
use Rattle.write_queue.specs.Before.{Makes}
use Rattle.write_queue.specs.Looking.{file_step, file_after}

-- it is what the disk model says of that file
by_step : (file : FileNo) (call : Call) (st : DiskState) → (disk_step call st).reads file ≡ file_step file call (st.reads file)
by_step Objects (Write Objects at bytes) st = refl
by_step Objects (Write LogA at bytes) st = refl
by_step Objects (Write LogB at bytes) st = refl
by_step LogA (Write Objects at bytes) st = refl
by_step LogA (Write LogA at bytes) st = refl
by_step LogA (Write LogB at bytes) st = refl
by_step LogB (Write Objects at bytes) st = refl
by_step LogB (Write LogA at bytes) st = refl
by_step LogB (Write LogB at bytes) st = refl
by_step file (Sync other) st = refl
by_step file (Say bytes) st = refl

by_model : (file : FileNo) (calls : List Call) (st : DiskState) → (disk_after st calls).reads file ≡ file_after file (st.reads file) calls
by_model file [] st = refl
by_model file (call ∷ calls) st = by_model file calls (disk_step call st) ∙ ap (λ (l : List ℕ). file_after file l calls) (by_step file call st)

-- some calls, and then others
pub after_both : (file : FileNo) (old : List ℕ) (a b : List Call) → file_after file old (a ++ b) ≡ file_after file (file_after file old a) b
after_both file old [] b = refl
after_both file old (call ∷ a) b = after_both file (file_step file call old) a b

-- what files became by calls becomes by more calls what all of them make
pub makes_through : (first lent : Files) (taken waiting : List Call) → Makes first taken lent → Makes first (taken ++ waiting) (λ file. file_after file (lent file) waiting)
makes_through first lent taken waiting made file =
    ap (λ (l : List ℕ). file_after file l waiting) (made file ∙ by_model file taken (disk_start first))
    ∙ sym (after_both file (first file) taken waiting)
    ∙ sym (by_model file (taken ++ waiting) (disk_start first))
