use Rattle.std.proofs.Common.{ap, ℕ, Bool}
use Rattle.disk_model.specs.declared.machine.FileNo.TheVariants.{Objects}
use Rattle.formats.specs.Objects.{bounds_of}
use Rattle.standing.specs.Crashed.{crashed-graph, crashed-stable}
use Rattle.standing.specs.OneStable.{small_store}
use Rattle.redo_pass.proofs.Ends.{ended}
use Rattle.redo_pass.proofs.redo_laws.a_redo_ends.Goals as goal

pub returns : goal.returns
returns g c p files it marks w sound crashed so_far =
    let m = g.O.Oper.meaning (bounds_of p) in
    let small = small_store p (files Objects) so_far.shown.files_show.objects in
    ended m marks w p files it (λ n. ap (λ (f : ℕ → Bool). f n) (crashed-graph m w crashed))
    (λ n x live. c.turns_keep.ensures.map (bounds_of p) w marks n x small sound (crashed-stable m w crashed sound) live) so_far
