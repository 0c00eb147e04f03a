use Rattle.std.proofs.Common.{ap, arith, sym, subst, refl, Some, Result, Ok, Err}
use Rattle.disk_model.specs.declared.machine.FileNo.TheVariants.{Objects}
use Rattle.explain_core.specs.declared.marks.Marks.{Marks}
use Rattle.formats.specs.Objects.{bounds_of}
use Rattle.restart.specs.Courses.{restart_course}
use Rattle.restart.specs.Opening.{OpensThrough}
use Rattle.running_store.specs.Courses.Stop.{Full}
use Rattle.running_store.specs.Taking.{IsAfter}
use Rattle.script_lines.specs.declared.answer.Answer.{Answer}
use Rattle.script_lines.specs.declared.answer.Answer.TheVariants as answers
use Rattle.script_lines.specs.declared.line.Grouping.TheVariants.{Abort as abort_group}
use Rattle.script_lines.specs.declared.line.Line.TheVariants.{Group}
use Rattle.script_lines.specs.Replies.{reply_of}
use Rattle.shell_base.specs.First.{marks_of}
use Rattle.shell_base.specs.Store.{meaning_in}
use Rattle.shell_base.specs.declared.budget.Budget.TheVariants.{Usual}
use Rattle.shell_base.specs.declared.stop.Stop.{Stop}
use Rattle.standing.specs.OneStable.{small_store}
use Rattle.store_engine.specs.Engine.{EngineView, used_in}
use Rattle.script_run.specs.Finding.{FindsAnswer, IsLineOf}
use Rattle.script_run.proofs.AbortLemmas.{abort_fails, abort_finds}
use Rattle.script_run.proofs.grouping.given_up.Goals as goal

pub returns-in-Ok : goal.returns-in-Ok
returns-in-Ok g c =
    let old = g.M.Machine.disk c.args.machine.now in
    let now = g.M.Machine.disk c.restart.new.machine in
    subst (λ (e : EngineView). FindsAnswer reply_of (IsLineOf (Some (Group abort_group))) old now c.args.engine.now e (Ok answers.Done)) (sym c.swap.ensures.x_after)
    (abort_finds (g.met.M.Machine.lawful c.args.machine.now) c.requires.inside
    (λ p w shows grouped. c.stop_is_said.ensures.within p w 0 (Full (used_in c.args.engine.now) 1 0) shows grouped (refl, omega arith, refl))
    c.restart.result c.restart.ensures.opening c.restart.ensures.images
    (λ told p used w found. subst (λ (n : Marks). OpensThrough (meaning_in p) p old now w (restart_course (meaning_in p) n w used).steps) (c.tuning.ensures.marks p) (c.restart.ensures.steps told p used w found))
    c.in-Ok.fresh c.in-Ok.ensures.ready (λ p commands opens. (c.in-Ok.ensures.holds p commands opens).1)
    (λ p used w found. subst (λ (n : Marks). IsAfter (meaning_in p) p now c.in-Ok.fresh.parts w (restart_course (meaning_in p) n w used)) (c.tuning.ensures.marks p) (c.in-Ok.ensures.follows p used w found))
    (λ p d used w found. c.a_restart_may_be_made.ensures.reopened (bounds_of p) w (marks_of Usual p) used (small_store p (d.reads Objects) found.shows.objects) found.sound))

pub returns-in-Err : goal.returns-in-Err
returns-in-Err g c =
    let old = g.M.Machine.disk c.args.machine.now in
    let now = g.M.Machine.disk c.restart.new.machine in
    subst (λ (r : Result Answer Stop). FindsAnswer reply_of (IsLineOf (Some (Group abort_group))) old now c.args.engine.now c.args.engine.now r) (ap (λ (s : Stop). Err s) (sym c.unopened.ensures))
    (abort_fails (g.met.M.Machine.lawful c.args.machine.now) c.requires.inside
    (λ p w shows grouped. c.stop_is_said.ensures.within p w 0 (Full (used_in c.args.engine.now) 1 0) shows grouped (refl, omega arith, refl))
    c.restart.result c.restart.ensures.opening c.restart.ensures.images
    (λ told p used w found. subst (λ (n : Marks). OpensThrough (meaning_in p) p old now w (restart_course (meaning_in p) n w used).steps) (c.tuning.ensures.marks p) (c.restart.ensures.steps told p used w found))
    c.args.engine.now c.in-Err.cause c.in-Err.is)
