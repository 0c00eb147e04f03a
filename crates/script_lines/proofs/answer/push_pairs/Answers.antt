use Rattle.std.proofs.Common.{◌∙◌, ◌++◌, List, ℕ, sym, ap, arith}
use Rattle.std.proofs.lemmas.Grind.{common_steps}
use Rattle.std.proofs.lemmas.List.{take_all}
use Rattle.script_lines.specs.Replies.{Pair, pair_text}
use Rattle.script_lines.proofs.ReplyLemmas.{none_text, some_said}
use Rattle.script_lines.proofs.answer.push_pairs.Goals as goal

pub returns-in_ok-push-in-empty : goal.returns-in_ok-push-in-empty
returns-in_ok-push-in-empty c =
    c.in_ok-push-in-empty.ensures.items ∙ ap (λ (l : List ℕ). c.args.text.now.items ++ l) (sym (none_text c.args.pairs.now (omega (arith, c.in-empty.len_below))))

pub returns-in_ok-push_spaced_pairs-in-len1-up : goal.returns-in_ok-push_spaced_pairs-in-len1-up
returns-in_ok-push_spaced_pairs-in-len1-up c =
    some_said _ _ _ c.args.pairs.now _ c.first-item.result c.in-len1-up.len_at_least c.first-item.is (take_all _ _ (grind (arith, common_steps)))
    (c.in_ok-push_pair-in-len1-up.ensures ∙ ap (λ (p : Pair). c.args.text.now.items ++ pair_text p) (λ i. (c.as_slice.ensures.value i, c.as_slice-in-len1-up.ensures.value i))) c.in_ok-push_spaced_pairs-in-len1-up.ensures
