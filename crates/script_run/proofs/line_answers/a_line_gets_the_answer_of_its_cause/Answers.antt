use Rattle.script_run.proofs.CauseLemmas.{bad_exactly, refused_exactly, no_object_exactly, value_exactly, forced_exactly, silence_exactly, full_exactly, stat_exactly, in_group_exactly, no_group_exactly}
use Rattle.script_run.proofs.line_answers.a_line_gets_the_answer_of_its_cause.Goals as goal

pub returns-clause-bad : goal.returns-clause-bad
returns-clause-bad c = λ p group commands line reply added. bad_exactly p group commands line reply added

pub returns-clause-refused : goal.returns-clause-refused
returns-clause-refused c = λ p group commands line reply added op why. refused_exactly p group commands line (c.a_line_asks_one_thing.ensures line) reply added op why

pub returns-clause-no_object : goal.returns-clause-no_object
returns-clause-no_object c = λ p group commands line reply added object. no_object_exactly p group commands line (c.a_line_asks_one_thing.ensures line) reply added object

pub returns-clause-value : goal.returns-clause-value
returns-clause-value c = λ p group commands line reply added object. value_exactly p group commands line (c.a_line_asks_one_thing.ensures line) reply added object

pub returns-clause-forced : goal.returns-clause-forced
returns-clause-forced c = λ p group commands line reply added. forced_exactly p group commands line (c.a_line_asks_one_thing.ensures line) reply added

pub returns-clause-silence : goal.returns-clause-silence
returns-clause-silence c = λ p group commands line reply added. silence_exactly p group commands line (c.a_line_asks_one_thing.ensures line) reply added

pub returns-clause-full : goal.returns-clause-full
returns-clause-full c = λ p group commands line reply added op before after. full_exactly p group commands line (c.a_line_asks_one_thing.ensures line) reply added op before after

pub returns-clause-counts : goal.returns-clause-counts
returns-clause-counts c = λ p group commands line reply added. stat_exactly p group commands line (c.a_line_asks_one_thing.ensures line) reply added

pub returns-clause-in_group : goal.returns-clause-in_group
returns-clause-in_group c = λ p group commands line reply added. in_group_exactly p group commands line (c.a_line_asks_one_thing.ensures line) reply added

pub returns-clause-no_group : goal.returns-clause-no_group
returns-clause-no_group c = λ p group commands line reply added. no_group_exactly p group commands line (c.a_line_asks_one_thing.ensures line) reply added
