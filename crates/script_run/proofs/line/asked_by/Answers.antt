use Rattle.script_run.proofs.line.asked_by.Goals as goal

pub returns-in-Err-Bad : goal.returns-in-Err-Bad
returns-in-Err-Bad c = c.in-Err-Bad.ensures.bad (cc (c.in-Err-Bad.field-0-is))
