use Rattle.std.proofs.Common.{rules, nat_lt}
use Rattle.std.proofs.lemmas.List.Sorted.{answers_always}
use Rattle.analysis_pass.proofs.Objects.{rise_if_told}
use Rattle.analysis_pass.proofs.analysing.rise.Goals as goal

pub returns : goal.returns
returns c = rise_if_told _ _ (c.is_sorted_by.ensures.cases (λ s t. nat_lt s.0 t.0) (answers_always _ _ _ (λ f a r g called. search rules)))
