use Rattle.std.proofs.Common.{refl}
use Rattle.std.specs.Prelude.{take}
use Rattle.formats.specs.Objects.{bounds_of}
use Rattle.explain_core.specs.Stable.{stable_of}
use Rattle.standing.proofs.standing_files.image_stands.Goals as goal

pub returns : goal.returns
returns g c = λ p files w sound shows. record {
  parts = stable_of w;
  holds = shows;
  history = take w.forced w.history;
  installed = w.installed;
  stable = c.stable_parts_stand.ensures.stands (bounds_of p) w sound;
  commands_are = refl;
}
