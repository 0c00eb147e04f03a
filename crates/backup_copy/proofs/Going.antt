-- The copying goes on beside a call of the engine.
use Rattle.std.proofs.Common.{◌≡◌, ◌∙◌, ℕ, List, Option, subst}
use Rattle.disk_model.specs.Disk.{Disk}
use Rattle.oper_core.specs.Cell.{Cell}
use Rattle.oper_core.specs.Meaning.{Meaning, IsSmall}
use Rattle.oper_core.specs.declared.bounds.Bounds.{Bounds}
use Rattle.formats.specs.Objects.{bounds_of}
use Rattle.formats.specs.declared.params.Params.{Params}
use Rattle.explain_core.specs.Backup.{IsCopied}
use Rattle.explain_core.specs.RunLaws.{Begins}
use Rattle.explain_core.specs.Sound.{IsSound}
use Rattle.explain_core.specs.World.{World, Step, run}
use Rattle.store_engine.specs.Beside.{MayGoBeside}
use Rattle.store_engine.specs.Engine.{EngineView, ShowsIn, so_far}
use Rattle.store_engine.specs.Grouping.{ungrouped}
use Rattle.store_engine.specs.Store.{meaning_in}
use Rattle.backup_copy.specs.Copies.{Copies}
use Rattle.backup_copy.proofs.Shown.{small_shown}

module _ {O : Type 0} (meaning : Bounds → Meaning O) where
  -- where the cells are a copy of another world too, which engine and files show now, the copying stands as it stood
  pub kept_copies : (p : Params) (old new t : Disk) (before after : EngineView) (w v : World O) → (is : Copies meaning p old before w t) → ShowsIn meaning p new after v → after.copied ≡ before.copied
      → IsCopied (meaning_in meaning p) (ungrouped v) is.done is.cells → Copies meaning p new after v t
  kept_copies p old new t before after w v is shows same copied = record { shows = shows; done = is.done; so_far = same ∙ is.so_far; within = is.within; cells = is.cells; copied = copied; target = is.target }

  -- what was copied of a world stays a copy under some first steps of a course that may go beside it
  abbrev pub CopyGoesOn : Type 0
  CopyGoesOn = (b : Bounds) (copied : ℕ) (cells : ℕ → Cell) (w : World O) (steps taken : List (Step O)) → IsSmall b → IsSound (meaning b) w
      → IsCopied (meaning b) (ungrouped w) copied cells → MayGoBeside (meaning b) copied w steps → Begins steps taken
      → IsCopied (meaning b) (ungrouped (run (meaning b) w taken)) copied cells

  pub gone_on : (p : Params) (old new t : Disk) (before after : EngineView) (w : World O) (steps taken : List (Step O)) → CopyGoesOn
      → Copies meaning p old before w t → MayGoBeside (meaning_in meaning p) (so_far before.copied) w steps → Begins steps taken
      → ShowsIn meaning p new after (run (meaning_in meaning p) w taken) → after.copied ≡ before.copied
      → Copies meaning p new after (run (meaning_in meaning p) w taken) t
  gone_on p old new t before after w steps taken goes is may begins shows same =
      let beside = subst (λ (c : Option ℕ). MayGoBeside (meaning_in meaning p) (so_far c) w steps) is.so_far may in
      kept_copies p old new t before after w (run (meaning_in meaning p) w taken) is shows same
      (goes (bounds_of p) is.done is.cells w steps taken (small_shown meaning p old before w is.shows) is.shows.sound is.copied beside begins)
