use Rattle.std.proofs.Common.{◌≡◌, ◌∙◌, ⊎_elim, List, true, ap, map, refl, string_bytes, subst, sym}
use Rattle.std.proofs.lemmas.Bool.{false≢true}
use Rattle.clap.specs.Words.{App, IsAmong, Row, fault_of, is_simple, is_simple_and_free, kind_of, matches_of}
use Rattle.redo_log.specs.Commands.{redo_log}
use Rattle.redo_log.specs.Asking.{Gives}
use Rattle.redo_log.proofs.options.read_words.Goals as goal

simple : is_simple redo_log ≡ true
simple = refl

free : is_simple_and_free redo_log ≡ true
free = refl

pub returns-in-Some-clause-ok : goal.returns-in-Some-clause-ok
returns-in-Some-clause-ok c =
    let words = map string_bytes c.args.words.now in
    let is = c.in_ok-redo_log.ensures in
    let rows = (c.in-Ok.ensures.matches (ap is_simple is ∙ simple)).0 ∙ ap (λ (a : App). matches_of a words) is in
    record {
      faultless = ap (λ (a : App). fault_of a words) (sym is) ∙ c.in-Ok.ensures.kinds (ap is_simple_and_free is ∙ free);
      gives = subst (λ (r : List Row). Gives r c.in-Some.asked) rows c.in-Some.ensures.some;
    }

pub returns-in-Ok-clause-refused : goal.returns-in-Ok-clause-refused
returns-in-Ok-clause-refused c = λ refusal it asks.
    let words = map string_bytes c.args.words.now in
    let is = c.in_ok-redo_log.ensures in
    let rows = (c.in-Ok.ensures.matches (ap is_simple is ∙ simple)).0 ∙ ap (λ (a : App). matches_of a words) is in
    c.in-None.ensures.none it (subst (λ (r : List Row). Gives r it) (sym rows) asks.gives)

pub returns-clause-refused : goal.returns-clause-refused
returns-clause-refused c = λ refusal it asks.
    let words = map string_bytes c.args.words.now in
    let is = c.in_ok-redo_log.ensures in
    ⊎_elim (λ memory. false≢true (c.if-is_want_of_memory.ensures.1 memory)) (λ among. subst (IsAmong (kind_of c.in-Err.error)) (ap (λ (a : App). fault_of a words) is ∙ asks.faultless) among)
    (c.in-Err.ensures.kinds (ap is_simple_and_free is ∙ free))
