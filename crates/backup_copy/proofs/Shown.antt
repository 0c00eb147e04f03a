-- What an engine and files that show a world say of the objects file.
use Rattle.std.proofs.Common.{ℕ, subst, Option}
use Rattle.disk_model.specs.Disk.{Disk}
use Rattle.disk_model.specs.declared.machine.FileNo.TheVariants.{Objects}
use Rattle.oper_core.specs.Meaning.{Meaning, IsSmall}
use Rattle.oper_core.specs.declared.bounds.Bounds.{Bounds}
use Rattle.formats.specs.Objects.{IsObjectsFile, bounds_of}
use Rattle.formats.specs.declared.params.Params.{Params}
use Rattle.explain_core.specs.World.{World}
use Rattle.running_store.specs.Laid.Among.{small_bounds}
use Rattle.store_engine.specs.Engine.{EngineView, ShowsIn}

module _ {O : Type 0} (meaning : Bounds → Meaning O) (p : Params) (d : Disk) (engine : EngineView) (w : World O) (shows : ShowsIn meaning p d engine w) where
  -- it is that of a store with these numbers
  pub objects_shown : IsObjectsFile p (d.reads Objects)
  objects_shown = subst (λ (q : Params). IsObjectsFile q (d.reads Objects)) shows.shows.store.params shows.shows.store.laid.slots.whole

  pub small_shown : IsSmall (bounds_of p)
  small_shown = small_bounds p objects_shown.in_range

  -- how many objects are copied is no part of the world
  pub shows_copied : (copied : Option ℕ) → ShowsIn meaning p d (record engine { copied = copied }) w
  shows_copied copied = record { unbroken = shows.unbroken; sound = shows.sound; group = shows.group; shows = shows.shows; no_checkpoint = shows.no_checkpoint }
