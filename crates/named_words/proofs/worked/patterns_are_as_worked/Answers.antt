use Rattle.std.proofs.Common.{refl}
use Rattle.named_words.proofs.worked.patterns_are_as_worked.Goals as goal

pub returns : goal.returns
returns c = record { star = refl; star_none = refl; one = refl; class = refl; outside = refl; backslash = refl; two_stars = refl; unclosed = refl }
