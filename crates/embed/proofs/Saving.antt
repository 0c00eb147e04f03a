-- What is said of a backup that was finished.
use Rattle.std.proofs.Common.{◌≡◌, ℕ, Result, Ok, Err, IfOk}
use Rattle.std.specs.Prelude.{OnOk}
use Rattle.disk_model.specs.Disk.{Disk, Files}
use Rattle.store_engine.specs.Engine.{InEachImage}

-- both things that hold of its files
pub saved_so : {E : Type 0} (d : Disk) (n : ℕ) (told : Type 0) (stands shows : Files → Type 0) (made : Result ℕ E) → IfOk made (λ k. (k ≡ n) × (told → InEachImage d stands)) → (told → OnOk made (InEachImage d shows))
    → IfOk made (λ k. (k ≡ n) × (told → InEachImage d (λ files. stands files × shows files)))
saved_so d n told stands shows (Ok k) first second = (first.0, λ t. let one = first.1 t in let two = second t in ((one.0, two.0), λ moments files said left. (one.1 moments files said left, two.1 moments files said left)))
saved_so d n told stands shows (Err why) first second = tt
