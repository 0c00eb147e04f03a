use Rattle.std.proofs.Common.{subst}
use Rattle.disk_model.specs.declared.machine.FileNo.TheVariants.{Objects}
use Rattle.formats.specs.Objects.{bounds_of}
use Rattle.explain_core.specs.Stable.{world_of}
use Rattle.standing.specs.OneStable.{small_store}
use Rattle.standing.specs.Standing.{IsFound}
use Rattle.standing.proofs.Found.{found}
use Rattle.standing.proofs.standing_files.files_show_a_world.Goals as goal

pub returns : goal.returns
returns g c = λ p files commands it.
    let b = bounds_of p in
    let m = g.O.Oper.meaning b in
    let w = world_of m it.parts it.history it.installed in
    let sound = c.stable_parts_stand.ensures.sound b it.parts it.history it.installed (small_store p (files Objects) it.holds.objects) it.stable in (
      w,
      subst (λ l. IsFound m p files l w) it.commands_are
          (found m it.parts it.history it.installed it.stable p files it.holds sound (c.stable_parts_stand.ensures.crash b w)),
    )
