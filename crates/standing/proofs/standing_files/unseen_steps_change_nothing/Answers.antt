use Rattle.std.proofs.Common.{subst, sym}
use Rattle.formats.specs.Objects.{bounds_of}
use Rattle.standing.specs.Shown.{unseen-stable}
use Rattle.standing.specs.Standing.{HoldsStable}
use Rattle.standing.proofs.standing_files.unseen_steps_change_nothing.Goals as goal

pub returns : goal.returns
returns g c = λ p files w next sound unseen shows.
    let m = g.O.Oper.meaning (bounds_of p) in
    subst (λ parts. HoldsStable m p files parts) (sym (unseen-stable m w next sound.forced unseen)) shows
