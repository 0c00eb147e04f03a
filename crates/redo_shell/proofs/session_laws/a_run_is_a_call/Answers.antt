use Rattle.std.proofs.Common.{⊎_elim}
use Rattle.restart.specs.Starts.{at_start}
use Rattle.command_words.specs.declared.asked.Asked.TheVariants.{Run}
use Rattle.script_lines.specs.Grammar.{lines_of}
use Rattle.script_run.specs.Answers.{Moment}
use Rattle.redo_shell.proofs.session_laws.a_run_is_a_call.Goals as goal

pub returns-clause-run : goal.returns-clause-run
returns-clause-run g c = λ budget words old new input rest status call tend asks. call (Run tend) asks

pub returns-clause-images : goal.returns-clause-images
returns-clause-images g c = λ budget words old new input rest status call p commands tend asks opens told moments. ⊎_elim
    (λ run. (run.script p commands opens told).images moments)
    (λ unread. at_start (g.M.Machine.disk old) (g.M.Machine.disk new) (Moment p commands (lines_of (g.S.Source.left input)) (g.M.Machine.disk old).said) unread.stays moments)
    (call (Run tend) asks)
