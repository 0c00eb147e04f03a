use Rattle.std.proofs.Common.{List, [], ℕ, map, subst}
use Rattle.std.proofs.lemmas.List.{append-nil}
use Rattle.resp_words.specs.Lines.{AreWords}
use Rattle.resp_words.proofs.line.words_in_line.Goals as goal

pub returns : goal.returns
returns c =
    let words : List (List ℕ) = map (λ word. word.now) c.loop-word.words.items in
    subst (λ (l : List (List ℕ)). AreWords c.args.line.now l) (append-nil words) (c.loop-word.invariant [] c.in_default.ensures.none)
