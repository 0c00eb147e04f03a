use Rattle.std.proofs.Common.{◌≡◌, drop}
use Rattle.named_words.specs.Verbs.{verb_in}
use Rattle.named_words.proofs.verb.find.Given as goal

abbrev pub invariant-loop-verb : goal.invariant-loop-verb
invariant-loop-verb l = verb_in (drop l.verb-index l.verbs) l.word ≡ verb_in l.verbs l.word
