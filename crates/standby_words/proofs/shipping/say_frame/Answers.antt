use Rattle.std.proofs.Common.{List, ℕ, subst}
use Rattle.disk_model.specs.Disk.{Runs, Same, SaysFront}
use Rattle.shell_base.specs.KeepLaws.{says_behind, says_more}
use Rattle.standby_words.proofs.shipping.say_frame.Goals as goal

pub returns-in_err-say_line-clause-says : goal.returns-in_err-say_line-clause-says
returns-in_err-say_line-clause-says g c = subst (λ (l : List ℕ). Runs Same (SaysFront l) (g.M.Machine.disk c.args.machine.now) (g.M.Machine.disk c.say_line.new.machine)) c.frame_head.ensures (says_more c.args.payload.now c.say_line.ensures.runs)

pub returns-in_err-say_line-2-clause-says : goal.returns-in_err-say_line-2-clause-says
returns-in_err-say_line-2-clause-says g c =
    subst (λ (l : List ℕ). Runs Same (SaysFront l) (g.M.Machine.disk c.args.machine.now) (g.M.Machine.disk c.say_line-2.new.machine)) c.frame_head.ensures
    (says_behind c.say_line.ensures.runs (λ told. c.in_ok-say_line.ensures.all told) c.say_line-2.ensures.runs)

pub returns-clause-says : goal.returns-clause-says
returns-clause-says g c =
    subst (λ (l : List ℕ). Runs Same (SaysFront l) (g.M.Machine.disk c.args.machine.now) (g.M.Machine.disk c.say_line-2.new.machine)) c.frame_head.ensures
    (says_behind c.say_line.ensures.runs (λ told. c.in_ok-say_line.ensures.all told) c.say_line-2.ensures.runs)
