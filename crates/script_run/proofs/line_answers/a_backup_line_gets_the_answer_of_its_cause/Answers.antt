use Rattle.script_run.proofs.DenialLemmas.{copies_exactly, denied_exactly, found_exactly, saves_exactly, starts_exactly}
use Rattle.script_run.proofs.line_answers.a_backup_line_gets_the_answer_of_its_cause.Goals as goal

pub returns-clause-denied : goal.returns-clause-denied
returns-clause-denied c = λ p before after line reply why leads other. denied_exactly p line (c.a_line_asks_one_thing.ensures line) before after why other reply leads.added leads.replies leads.goes

pub returns-clause-found : goal.returns-clause-found
returns-clause-found c = λ files earlier p before after line reply leads finds. found_exactly p line (c.a_line_asks_one_thing.ensures line) before after _ reply leads.added leads.replies leads.goes finds

pub returns-clause-starts : goal.returns-clause-starts
returns-clause-starts c = λ files earlier p before after line reply leads finds. starts_exactly p line (c.a_line_asks_one_thing.ensures line) before after _ reply leads.added leads.replies leads.goes finds

pub returns-clause-copies : goal.returns-clause-copies
returns-clause-copies c = λ p before after line reply count n leads. copies_exactly p line (c.a_line_asks_one_thing.ensures line) before after reply leads.added count n leads.replies leads.goes

pub returns-clause-saves : goal.returns-clause-saves
returns-clause-saves c = λ p before after line reply leads. saves_exactly p line (c.a_line_asks_one_thing.ensures line) before after reply leads.added leads.replies leads.goes
