-- What is loaded of a world just after a crash.
use Rattle.std.specs.Prelude.{◌≡◌, List, []}
use Rattle.disk_model.specs.Disk.{Disk}
use Rattle.disk_model.specs.declared.machine.FileNo.TheVariants.{Objects}
use Rattle.oper_core.specs.Meaning.{Meaning}
use Rattle.formats.specs.Objects.{bounds_of}
use Rattle.formats.specs.declared.params.Params.{Params}
use Rattle.formats.specs.declared.record.Record.{Record}
use Rattle.stable_objects.specs.SlotsView.{AreOf}
use Rattle.log_records.specs.RecordLog.{Keeps}
use Rattle.explain_core.specs.History.{commands_of}
use Rattle.explain_core.specs.World.{World}
use Rattle.standing.specs.Standing.{IsFound}
use Rattle.analysis_pass.specs.Analysis.{PlanView}
use Rattle.running_store.specs.Parts.{Parts}
use Rattle.restart.specs.Loading.{IsPlanned}

-- The machine reports its files, and the world is the one that a restart finds in them. The slots are those of the objects file, the log is that of the
-- files, in which nothing waits, and the plan is by its records.
pub record IsToRedo {O : Type 0} (m : Meaning O) (p : Params) (d : Disk) (it : Parts) (plan : PlanView) (w : World O) : Type 0 where
  pub told : d.tells_files
  pub found : IsFound m p d.reads (commands_of w.history) w
  pub params : it.volatile.objects.slots.params ≡ p
  pub bounds : it.log.bounds ≡ bounds_of p
  pub of_file : AreOf it.volatile.objects.slots (d.reads Objects)
  pub stable : List (Record O)
  pub keeps : Keeps m d it.log stable []
  pub planned : IsPlanned it.log.log.header.base stable plan
