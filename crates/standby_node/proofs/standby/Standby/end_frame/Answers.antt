use Rattle.std.proofs.Common.{◌≡◌, ◌∙◌, sym, subst}
use Rattle.std.specs.Prelude.{false, Ok, Err}
use Rattle.redo_pass.specs.Endings.{as_error}
use Rattle.store_engine.specs.Calls.{IsForcing}
use Rattle.standby_node.specs.Feeding.{must_relieve}
use Rattle.standby_node.specs.Standby.{StandbyView}
use Rattle.standby_node.specs.Steps.{AnyWorld, GoesOn, HasWholeFrame, IsFrameEnded}
use Rattle.standby_node.proofs.Ended.{IsForcedIn, force_fails_from, force_from, passed_then}
use Rattle.standby_node.proofs.Going.{goes_twice}
use Rattle.standby_node.proofs.KeptUp.{is_forced, not_forced}
use Rattle.standby_node.proofs.standby.Standby.end_frame.Goals as goal

pub returns-then-is_err : goal.returns-then-is_err
returns-then-is_err g c =
    let meaning = g.O.Oper.meaning in
    let old = g.M.Machine.disk c.args.machine.now in
    let new = g.M.Machine.disk c.force.new.machine in
    let inside = c.self.inside in
    let parts : StandbyView = record { engine = inside.engine; frames = inside.frames; done = inside.done; stopped = inside.stopped } in
    let call = c.force.ensures.alone c.self.invariant.0.group in
    let failed = not_forced (λ a. IsForcing meaning old new inside.engine c.force.new.self a) c.force.result call.0 call.1 (sym c.is_err.ensures.value ∙ c.if-is_err.true) call.2 in
    let through : HasWholeFrame c.args.self.now c.args.self.now.done = subst (λ n. HasWholeFrame c.args.self.now n) (sym c.requires.through) c.requires.whole in
    force_fails_from meaning old new c.args.self.now parts c.self.view_is c.force.new.self through (λ p files w. c.image_stands.ensures p files w) (λ m w. must_relieve m w ≡ false) c.args.size failed.0 failed.1

pub returns-in_err-relieve : goal.returns-in_err-relieve
returns-in_err-relieve g c =
    let meaning = g.O.Oper.meaning in
    let disk = g.M.Machine.disk in
    let old = disk c.args.machine.now in
    let mid = disk c.force.new.machine in
    let new = disk c.relieve.new.machine in
    let inside = c.self.inside in
    let parts : StandbyView = record { engine = inside.engine; frames = inside.frames; done = inside.done; stopped = inside.stopped } in
    let here : StandbyView = record parts { engine = c.force.new.self } in
    let call = c.force.ensures.alone c.self.invariant.0.group in
    let made = is_forced (λ a. IsForcing meaning old mid inside.engine c.force.new.self a) c.force.result call.0 call.1 (sym c.is_err.ensures.value ∙ c.if-is_err.false) call.2 in
    let through : HasWholeFrame c.args.self.now c.args.self.now.done = subst (λ n. HasWholeFrame c.args.self.now n) (sym c.requires.through) c.requires.whole in
    let e = c.in_err-relieve.field-0.0 in
    let first = force_from meaning old mid c.args.self.now parts c.self.view_is c.force.new.self through (λ p files w. c.image_stands.ensures p files w) made.0 made.1 in
    as_error (λ r. IsFrameEnded meaning old new c.args.self.now c.relieve.new.self c.args.size r) c.from_residual.result e c.from_residual.ensures.1
    (goes_twice meaning old mid new (g.met.M.Machine.lawful c.args.machine.now) (g.met.M.Machine.lawful c.relieve.new.machine) c.args.self.now here c.relieve.new.self _ _ _ AnyWorld (λ m w. must_relieve m w ≡ false)
    (λ m w. must_relieve m w ≡ false) (Err e) (λ start reached. tt) tt first c.in_err-relieve.ensures)

pub returns : goal.returns
returns g c =
    let meaning = g.O.Oper.meaning in
    let disk = g.M.Machine.disk in
    let old = disk c.args.machine.now in
    let mid = disk c.force.new.machine in
    let new = disk c.relieve.new.machine in
    let now = c.args.self.now in
    let inside = c.self.inside in
    let parts : StandbyView = record { engine = inside.engine; frames = inside.frames; done = inside.done; stopped = inside.stopped } in
    let here : StandbyView = record parts { engine = c.force.new.self } in
    let later = c.self-2.inside in
    let limited : StandbyView = record { engine = later.engine; frames = later.frames; done = later.done; stopped = later.stopped } in
    let call = c.force.ensures.alone c.self.invariant.0.group in
    let made = is_forced (λ a. IsForcing meaning old mid inside.engine c.force.new.self a) c.force.result call.0 call.1 (sym c.is_err.ensures.value ∙ c.if-is_err.false) call.2 in
    let through : HasWholeFrame now now.done = subst (λ n. HasWholeFrame now n) (sym c.requires.through) c.requires.whole in
    let first = force_from meaning old mid now parts c.self.view_is c.force.new.self through (λ p files w. c.image_stands.ensures p files w) made.0 made.1 in
    let both = goes_twice meaning old mid new (g.met.M.Machine.lawful c.args.machine.now) (g.met.M.Machine.lawful c.relieve.new.machine) now here c.relieve.new.self _ _ (IsForcedIn now c.relieve.new.self) AnyWorld
    (λ m w. must_relieve m w ≡ false) (λ m w. must_relieve m w ≡ false) (Ok tt) (λ start reached. (reached.0 ∙ start.0, reached.1 ∙ start.1, reached.2)) (λ m w none. none) first c.in_ok-relieve.ensures in
    passed_then meaning old new now limited c.pass.new.self c.args.size c.requires.whole c.requires.through (λ m w. must_relieve m w ≡ false)
    (subst (λ (s : StandbyView). GoesOn meaning old new now s (IsForcedIn now s) (λ m w. must_relieve m w ≡ false) (Ok tt)) (sym c.self-2.view_is) both) c.pass.ensures.is c.pass.ensures.passed
