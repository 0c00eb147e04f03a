use Rattle.std.proofs.Common.{◌≡◌, None, length}
use Rattle.std.specs.Option.{option_map}
use Rattle.named_words.specs.Forms.{texts}
use Rattle.named_words.specs.Reading.{scan_asked}
use Rattle.named_words.proofs.options.scan_from.Given as goal

abbrev pub invariant-loop-rest : goal.invariant-loop-rest
invariant-loop-rest l = scan_asked l.cursor (option_map (λ text. text.now) l.pattern) l.count (texts l.rest) ≡ scan_asked l.cursor None 10 (texts l.options)

abbrev pub decreases-loop-rest : goal.decreases-loop-rest
decreases-loop-rest l = length l.rest
