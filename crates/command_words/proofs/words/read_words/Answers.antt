use Rattle.std.proofs.Common.{◌≡◌, ◌∙◌, ⊎_elim, List, Option, true, ap, map, refl, string_bytes, subst, sym}
use Rattle.std.proofs.lemmas.Bool.{false≢true}
use Rattle.clap.specs.Words.{App, IsAmong, Row, Text, fault_of, is_simple, is_simple_and_free, kind_of, subcommand_of}
use Rattle.command_words.specs.Commands.{redo}
use Rattle.command_words.specs.Words.{NamesForm}
use Rattle.command_words.proofs.words.read_words.Goals as goal

simple : is_simple redo ≡ true
simple = refl

free : is_simple_and_free redo ≡ true
free = refl

pub returns-in-Some-clause-ok : goal.returns-in-Some-clause-ok
returns-in-Some-clause-ok c =
    let words = map string_bytes c.args.words.now in
    let is = c.in_ok-redo.ensures in
    let named = (c.in-Ok.ensures.matches (ap is_simple is ∙ simple)).1 ∙ ap (λ (a : App). subcommand_of a words) is in
    record {
      faultless = ap (λ (a : App). fault_of a words) (sym is) ∙ c.in-Ok.ensures.kinds (ap is_simple_and_free is ∙ free);
      named = subst (λ (n : Option (Text × List Row)). NamesForm n c.in-Some.asked) named c.in-Some.ensures.some;
    }

pub returns-in-Ok-clause-refused : goal.returns-in-Ok-clause-refused
returns-in-Ok-clause-refused c = λ refusal asked asks.
    let words = map string_bytes c.args.words.now in
    let is = c.in_ok-redo.ensures in
    let named = (c.in-Ok.ensures.matches (ap is_simple is ∙ simple)).1 ∙ ap (λ (a : App). subcommand_of a words) is in
    c.in-None.ensures.none asked (subst (λ (n : Option (Text × List Row)). NamesForm n asked) (sym named) asks.named)

pub returns-clause-refused : goal.returns-clause-refused
returns-clause-refused c = λ refusal asked asks.
    let words = map string_bytes c.args.words.now in
    let is = c.in_ok-redo.ensures in
    ⊎_elim (λ memory. false≢true (c.if-is_want_of_memory.ensures.1 memory)) (λ among. subst (IsAmong (kind_of c.in-Err.error)) (ap (λ (a : App). fault_of a words) is ∙ asks.faultless) among)
    (c.in-Err.ensures.kinds (ap is_simple_and_free is ∙ free))
