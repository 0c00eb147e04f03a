-- A call that is made of several: what is left of it after some of them is a course, and who takes that takes the whole.
use Rattle.std.proofs.Common.{◌≡◌, ℕ}
use Rattle.disk_model.specs.Disk.{Disk}
use Rattle.oper_core.specs.Meaning.{Meaning}
use Rattle.oper_core.specs.declared.bounds.Bounds.{Bounds}
use Rattle.formats.specs.declared.params.Params.{Params}
use Rattle.log_blocks.specs.LogView.{used_of}
use Rattle.explain_core.specs.World.{World}
use Rattle.running_store.specs.Courses.{Course}
use Rattle.running_store.specs.Steps.Finished.{IsQuiet}
use Rattle.running_store.specs.Parts.{Parts, Shows, meaning_in}
use Rattle.running_store.specs.Taking.{Ending, Takes}
use Rattle.running_store.specs.Taking.Ending.{Done}
use Rattle.running_store.specs.Taking.Laws.{both, takes_both, takes_same}

-- To take the rest from the machine and the parts as they are now is to take the whole from those before. (It goes over machines,
-- each of which has a disk, and not over disks, so that a loop's invariant can say it.)
abbrev pub IsRest : {M O : Type 0} → (M → Disk) → (Bounds → Meaning O) → M → Parts → (Meaning O → World O → ℕ → Course O) → M → Parts → (Meaning O → World O → ℕ → Course O) → Type 0
IsRest {M} disk meaning old before whole now here rest = (new : M) (after : Parts) (ending : Ending) → Takes meaning (disk now) (disk new) here after rest ending → Takes meaning (disk old) (disk new) before after whole ending

module _ {M O : Type 0} (disk : M → Disk) (meaning : Bounds → Meaning O) (old now : M) (before here : Parts) (whole : Meaning O → World O → ℕ → Course O) where
  -- a course that is the same in each world that is shown is left too
  pub rest_same : (rest other : Meaning O → World O → ℕ → Course O)
      → ((p : Params) (w : World O) → Shows (meaning_in meaning p) p (disk now) here w → other (meaning_in meaning p) w (used_of here.log.log) ≡ rest (meaning_in meaning p) w (used_of here.log.log))
      → IsRest disk meaning old before whole now here rest → IsRest disk meaning old before whole now here other
  rest_same rest other same is = λ new after ending takes. is new after ending (takes_same meaning (disk now) (disk new) here after other rest ending same takes)

  -- the first of two courses is taken, and the second is left
  pub rest_next : (first second : Meaning O → World O → ℕ → Course O) (mid : M) (there : Parts) → IsQuiet (disk now) (disk mid) → Takes meaning (disk now) (disk mid) here there first Done
      → IsRest disk meaning old before whole now here (both meaning first second) → IsRest disk meaning old before whole mid there second
  rest_next first second mid there quiet takes is = λ new after ending more. is new after ending (takes_both meaning first second (disk now) (disk mid) (disk new) here there after ending quiet takes more)
