use Rattle.graph_view.proofs.asked.Asked.of_line.Goals as goal

pub returns-in-Err-Bad : goal.returns-in-Err-Bad
returns-in-Err-Bad c = c.parse_line.ensures.bad (cc (c.in-Err-Bad.is, c.in-Err-Bad.field-0-is))
