use Rattle.std.proofs.Common.{◌∙◌, sym}
use Rattle.named_words.specs.Patterns.{fits_pieces, pieces_of}
use Rattle.named_words.proofs.Matching.{whole_is_end}
use Rattle.named_words.proofs.pattern.some_end_fits.Goals as goal

pub returns-in-Fits : goal.returns-in-Fits
returns-in-Fits c = sym (whole_is_end (fits_pieces (pieces_of c.loop-behind.pattern.now)) c.loop-behind.text.now c.in-Fits.ensures.front) ∙ c.loop-behind.invariant
