use Rattle.redo_shell.proofs.FuseLemmas.{inside, around}
use Rattle.redo_shell.proofs.session_laws.a_fuse_is_its_machine.Goals as goal

pub returns-clause-inside : goal.returns-clause-inside
returns-clause-inside g c = λ first last sizes runs. inside g.M.Machine.disk

pub returns-clause-around : goal.returns-clause-around
returns-clause-around g c = λ first last end sizes runs is sessions. let a = around g.M.Machine.disk sessions end is in (a.begin, a.begins, a.calls)

pub returns-clause-stands : goal.returns-clause-stands
returns-clause-stands g c = λ p commands fuse here. here
