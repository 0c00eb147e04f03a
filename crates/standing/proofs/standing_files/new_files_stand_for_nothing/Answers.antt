use Rattle.std.proofs.Common.{[]}
use Rattle.disk_model.specs.declared.machine.FileNo.TheVariants.{Objects}
use Rattle.formats.specs.Objects.{bounds_of}
use Rattle.explain_core.specs.World.{new_world, run}
use Rattle.standing.specs.OneStable.{small_store}
use Rattle.standing.proofs.NewStore.{new_shown}
use Rattle.standing.proofs.standing_files.new_files_stand_for_nothing.Goals as goal

pub returns : goal.returns
unfolding run
returns g c = record {
  shows = λ p files objects log. new_shown (g.O.Oper.meaning (bounds_of p)) p files objects log;
  stands = λ p files objects log.
      let b = bounds_of p in
      c.image_stands.ensures p files (new_world _) (c.every_run_keeps.ensures.from_new b [] (small_store p (files Objects) objects.whole) tt) (new_shown (g.O.Oper.meaning b) p files objects log);
}
