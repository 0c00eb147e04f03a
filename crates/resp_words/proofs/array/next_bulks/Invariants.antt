use Rattle.std.proofs.Common.{◌≡◌, ◌++◌, length, map}
use Rattle.std.specs.List.{AllByRecursion, flat_map}
use Rattle.resp_words.specs.Commands.{IsShort, bulk}
use Rattle.resp_words.proofs.array.next_bulks.Given as goal

abbrev pub invariant-loop : goal.invariant-loop
invariant-loop l =
    let words = map (λ word. word.now) l.words.items in
    record {
      is : l.bytes ≡ flat_map bulk words ++ l.rest;
      all : length words ≡ l.counter;
      short : AllByRecursion (IsShort l.most) words;
    }
