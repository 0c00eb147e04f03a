use Rattle.std.proofs.Common.{rules, tests, ◌∙◌}
use Rattle.std.specs.List.{slice_split}
use Rattle.std.proofs.lemmas.Iterator.Consumers.{count_from_yields_List, YieldsList-at, YieldsList-from_filter}
use Rattle.std.proofs.lemmas.Iterator.Splits.{YieldsList-from_slice_split}
use Rattle.std.proofs.lemmas.List.Sums.{length-filter}
use Rattle.redo_shell.specs.Demo.{is_newline, is_refusal}
use Rattle.redo_shell.proofs.tally.refusal_count.Goals as goal

pub returns : goal.returns
returns c =
    count_from_yields_List c.filter.result c.count.result c.count.ensures.ran
    (YieldsList-from_filter _ is_refusal
    (YieldsList-at c.filter.ensures.source (YieldsList-from_slice_split _ is_newline c.args.bytes.now c.split.ensures.rest c.split.ensures.done c.split.ensures.closure (λ x b q k. search (rules, tests))))
    c.filter.ensures.closure (λ x r q k. search (rules, tests)))
    ∙ length-filter is_refusal (slice_split is_newline c.args.bytes.now)
