use Rattle.explain_core.specs.World.{step}
use Rattle.explain_core.specs.World.Step.{Crash}
use Rattle.restart.proofs.Reopens.{now_stable, later_running, all_allowed, reopened}
use Rattle.restart.proofs.Restarts.{crash_twice}
use Rattle.restart.proofs.restart_laws.a_restart_may_be_made.Goals as goal

pub returns-clause-allowed : goal.returns-clause-allowed
returns-clause-allowed g c b w marks used small is =
    let m = g.O.Oper.meaning b in
    let sound = c.crash_keeps.ensures b w small is in
    let stable = now_stable m marks used w sound in
    let running = later_running m marks used w sound (c.turns_keep.ensures.sound b (step m w Crash) marks _ small sound stable) (c.a_redo_leaves_nothing.ensures b (step m w Crash) marks (crash_twice m w)) in
    all_allowed m marks used w sound (c.turns_keep.ensures.allowed b (step m w Crash) marks _ small sound stable) (λ n. c.closing_checkpoint_may_be_taken.ensures b _ n small running)

pub returns-clause-reopened : goal.returns-clause-reopened
returns-clause-reopened g c b w marks used small is =
    let m = g.O.Oper.meaning b in
    let sound = c.crash_keeps.ensures b w small is in
    let stable = now_stable m marks used w sound in
    let running = later_running m marks used w sound (c.turns_keep.ensures.sound b (step m w Crash) marks _ small sound stable) (c.a_redo_leaves_nothing.ensures b (step m w Crash) marks (crash_twice m w)) in
    reopened m marks used w sound (λ n. c.closing_checkpoint_may_be_taken.ensures b _ n small running)
