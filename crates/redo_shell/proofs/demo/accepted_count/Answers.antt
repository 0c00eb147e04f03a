use Rattle.std.proofs.Common.{◌∙◌}
use Rattle.redo_shell.proofs.demo.accepted_count.Goals as goal

pub returns-in-Ok-clause-quiet : goal.returns-in-Ok-clause-quiet
returns-in-Ok-clause-quiet c = λ p commands opens. (c.open_store.ensures.opens p commands opens).quiet

pub returns-in-Ok-clause-count : goal.returns-in-Ok-clause-count
returns-in-Ok-clause-count c = λ p commands opens.
    let files = c.open_store.ensures.opens p commands opens in
    let opened = c.in-Ok.ensures.ok p commands opens in
    c.accepted-accepted.ensures ∙ (opened.shows files.first.0 files.first.1).0.says.accepted

pub returns-in-Err-clause-quiet : goal.returns-in-Err-clause-quiet
returns-in-Err-clause-quiet c = λ p commands opens. (c.open_store.ensures.opens p commands opens).quiet
