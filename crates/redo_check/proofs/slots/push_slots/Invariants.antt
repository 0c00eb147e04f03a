use Rattle.std.proofs.Common.{◌≡◌, ◌++◌, ℕ, List, length}
use Rattle.std.specs.Prelude.{codes, nat_lt}
use Rattle.disk_model.specs.Disk.{Disk, Files, Stays}
use Rattle.disk_model.specs.declared.machine.FileNo.TheVariants.{Objects}
use Rattle.formats.specs.Objects.{last_slot}
use Rattle.formats.specs.declared.layout.Layout.{Layout}
use Rattle.redo_check.specs.Lines.{number_line}
use Rattle.redo_check.specs.Slots.{pairs_lines}
use Rattle.redo_check.proofs.slots.push_slots.Given as goal

-- the lines of so many objects were added
pub record IsPushing (first now : Disk) (layout : Layout) (size n : ℕ) (old text : List ℕ) : Type 0 where
  pub kept : Stays first now
  pub lines : (files : Files) → now.agrees files
      → (size ≡ length (files Objects)) × (text ≡ old ++ (number_line Objects 0 (codes "length") size (nat_lt (last_slot layout) size) ++ pairs_lines layout (files Objects) n))

abbrev pub invariant-loop-object : goal.invariant-loop-object
invariant-loop-object g l = IsPushing (g.M.Machine.disk l.fn.machine) (g.M.Machine.disk l.machine) l.layout l.size l.object l.fn.text.items l.text.items
