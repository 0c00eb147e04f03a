use Rattle.std.proofs.Common.{◌≡◌, drop}
use Rattle.named_words.specs.Effects.{hash_from}
use Rattle.name_ranges.proofs.keys.place.Given as goal

abbrev pub invariant-loop-byte : goal.invariant-loop-byte
invariant-loop-byte l = record {
  value : hash_from l.hash (drop l.byte-index l.name) ≡ hash_from 14695981039346656037 l.name;
}
