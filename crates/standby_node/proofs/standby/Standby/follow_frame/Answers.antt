use Rattle.std.proofs.Common.{◌∙◌, refl}
use Rattle.std.specs.Prelude.{Ok, Err}
use Rattle.redo_pass.specs.Endings.{as_error}
use Rattle.standby_node.specs.Steps.{AnyWorld, IsFrameFollowed}
use Rattle.standby_node.proofs.Going.{goes_nowhere, goes_twice, not_failed}
use Rattle.standby_node.proofs.standby.Standby.follow_frame.Goals as goal

pub loop-self-init : goal.loop-self-init
loop-self-init g c =
    goes_nowhere g.O.Oper.meaning (g.M.Machine.disk c.args.machine.now) (g.met.M.Machine.lawful c.args.machine.now) c.args.self.now c.requires.unbroken (λ p files w. c.image_stands.ensures p files w) _ AnyWorld (Ok tt)
    (λ same. not_failed same) (λ file place same. not_failed same) (refl, c.requires.within) (λ p first bytes f. (f, tt))

pub loop-self-preserved : goal.loop-self-preserved
loop-self-preserved g c =
    let disk = g.M.Machine.disk in
    goes_twice g.O.Oper.meaning (disk c.args.machine.now) (disk c.loop-self.machine) (disk c.follow_record.new.machine) (g.met.M.Machine.lawful c.args.machine.now) (g.met.M.Machine.lawful c.follow_record.new.machine)
    c.args.self.now c.loop-self.self c.follow_record.new.self _ _ _ AnyWorld AnyWorld AnyWorld (Ok tt) (λ start reached. (reached.0 ∙ start.0, reached.2)) (λ m w any. any) c.loop-self.invariant c.in_ok-follow_record.ensures

pub returns-in_err-follow_record : goal.returns-in_err-follow_record
returns-in_err-follow_record g c =
    let disk = g.M.Machine.disk in
    let e = c.in_err-follow_record.field-0.0 in
    as_error (λ r. IsFrameFollowed g.O.Oper.meaning (disk c.args.machine.now) (disk c.follow_record.new.machine) c.args.self.now c.follow_record.new.self c.args.size r) c.from_residual.result e c.from_residual.ensures.1
    (goes_twice g.O.Oper.meaning (disk c.args.machine.now) (disk c.loop-self.machine) (disk c.follow_record.new.machine) (g.met.M.Machine.lawful c.args.machine.now) (g.met.M.Machine.lawful c.follow_record.new.machine)
    c.args.self.now c.loop-self.self c.follow_record.new.self _ _ _ AnyWorld AnyWorld AnyWorld (Err e) (λ start reached. tt) tt c.loop-self.invariant c.in_err-follow_record.ensures)
