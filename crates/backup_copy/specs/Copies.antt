-- The copying as it stands.
use Rattle.std.specs.Prelude.{◌≡◌, ◌≤◌, ℕ, Some}
use Rattle.disk_model.specs.Disk.{Disk}
use Rattle.oper_core.specs.Cell.{Cell}
use Rattle.oper_core.specs.Meaning.{Meaning}
use Rattle.oper_core.specs.declared.bounds.Bounds.{Bounds}
use Rattle.formats.specs.declared.params.Params.{Params}
use Rattle.explain_core.specs.Backup.{IsCopied}
use Rattle.explain_core.specs.World.{World}
use Rattle.store_engine.specs.Engine.{EngineView, ShowsIn}
use Rattle.store_engine.specs.Grouping.{ungrouped}
use Rattle.store_engine.specs.Store.{meaning_in}
use Rattle.backup_copy.specs.Target.{IsPartCopy}

module _ {O : Type 0} (meaning : Bounds → Meaning O) where
  -- Engine and files show the world, whose slots are copied: those of the objects below a number were copied while the world
  -- went on, and the target, if it reports its files, has just these.
  pub record Copies (p : Params) (d : Disk) (engine : EngineView) (w : World O) (t : Disk) : Type 0 where
    pub shows : ShowsIn meaning p d engine w
    pub done : ℕ
    pub so_far : engine.copied ≡ Some done
    pub within : done ≤ p.objects
    pub cells : ℕ → Cell
    pub copied : IsCopied (meaning_in meaning p) (ungrouped w) done cells
    pub target : t.tells_files → IsPartCopy p done cells t
