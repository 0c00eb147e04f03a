use Rattle.std.proofs.Common.{◌≡◌, ◌*◌, ℕ, List, length}
use Rattle.disk_model.specs.Disk.{Files, Disk, Stays}
use Rattle.disk_model.specs.declared.machine.FileNo.TheVariants.{Objects}
use Rattle.formats.specs.declared.layout.Layout.{Layout}
use Rattle.stable_objects.specs.Heads.{ShowsFile, AreWholePairs}
use Rattle.stable_objects.proofs.heads.read_heads.Given as goal

pub record ReadSo (first now : Disk) (layout : Layout) (size n : ℕ) (heads lengths : List ℕ) (place : ℕ) (bytes : List ℕ) : Type 0 where
  pub kept : Stays first now
  pub shows : ShowsFile now place bytes
  pub count : length heads ≡ 2 * n
  pub counted : length lengths ≡ n
  pub pairs : (files : Files) → now.agrees files → AreWholePairs layout size (files Objects) n heads lengths

abbrev pub invariant-loop-object : goal.invariant-loop-object
invariant-loop-object g l = ReadSo (g.M.Machine.disk l.fn.machine) (g.M.Machine.disk l.machine) l.layout l.size l.object l.heads.items l.lengths.items l.window.place l.window.bytes.items
