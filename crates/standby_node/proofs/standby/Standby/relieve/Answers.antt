use Rattle.std.proofs.Common.{◌≡◌, ◌∙◌, arith, subst, sym}
use Rattle.std.specs.Prelude.{true, false, Ok, Err}
use Rattle.redo_pass.specs.Endings.{as_error}
use Rattle.store_engine.specs.Following.{HasTendedThin}
use Rattle.store_engine.specs.Store.{meaning_in}
use Rattle.standby_node.specs.Failures.{follow_from_store}
use Rattle.standby_node.specs.Feeding.{dirty_limit, low_mark, must_relieve, waiting_limit}
use Rattle.standby_node.specs.Standby.{StandbyView}
use Rattle.standby_node.specs.Steps.{IsRelieved}
use Rattle.standby_node.proofs.Ended.{installed_then, is_over_in, limits_begin, limits_more, none_must, not_above, relieved_by, still_above}
use Rattle.standby_node.proofs.standby.Standby.relieve.Goals as goal

pub loop-self-init : goal.loop-self-init
loop-self-init g c =
    let inside = c.self.inside in
    let parts : StandbyView = record { engine = inside.engine; frames = inside.frames; done = inside.done; stopped = inside.stopped } in
    limits_begin g.O.Oper.meaning (g.M.Machine.disk c.args.machine.now) (g.met.M.Machine.lawful c.args.machine.now) c.args.self.now parts c.self.view_is c.self.invariant.0 c.requires.unbroken c.requires.through c.requires.forced
    (λ p files w. c.image_stands.ensures p files w)

pub returns-in_err-tend_thin : goal.returns-in_err-tend_thin
returns-in_err-tend_thin g c =
    let disk = g.M.Machine.disk in
    let old = disk c.args.machine.now in
    let new = disk c.tend_thin.new.machine in
    let inside = c.loop-self.self-inside in
    let here : StandbyView = record { engine = inside.engine; frames = inside.frames; done = inside.done; stopped = inside.stopped } in
    let over = is_over_in g.O.Oper.meaning (disk c.loop-self.machine) inside.engine c.loop-self.invariant.alone c.stat.result (λ p file w. c.stat.ensures.shown p file w) low_mark true
    (still_above low_mark c.most_left-most.result c.stat.result.dirty c.stat.result.uninstalled c.most_left-most.ensures.least (sym c.is_over.ensures ∙ c.loop-self-test.true)) in
    let e = c.in_err-tend_thin.field-0.0 in
    as_error (λ r. IsRelieved g.O.Oper.meaning old new c.args.self.now (record here { engine = c.tend_thin.new.self }) r) c.from_residual.result (follow_from_store e) c.from_residual.ensures.1
    (installed_then g.O.Oper.meaning old (disk c.loop-self.machine) new (g.met.M.Machine.lawful c.args.machine.now) (g.met.M.Machine.lawful c.tend_thin.new.machine) c.args.self.now here c.loop-self.invariant over c.tend_thin.new.self
    (λ p files w. c.image_stands.ensures p files w) (Err e) (λ m w. must_relieve m w ≡ false) tt c.in_err-tend_thin.ensures.tended)

pub returns-then-branch-eq0 : goal.returns-then-branch-eq0
returns-then-branch-eq0 g c =
    let disk = g.M.Machine.disk in
    let old = disk c.args.machine.now in
    let new = disk c.tend_thin.new.machine in
    let inside = c.loop-self.self-inside in
    let here : StandbyView = record { engine = inside.engine; frames = inside.frames; done = inside.done; stopped = inside.stopped } in
    let over = is_over_in g.O.Oper.meaning (disk c.loop-self.machine) inside.engine c.loop-self.invariant.alone c.stat.result (λ p file w. c.stat.ensures.shown p file w) low_mark true
    (still_above low_mark c.most_left-most.result c.stat.result.dirty c.stat.result.uninstalled c.most_left-most.ensures.least (sym c.is_over.ensures ∙ c.loop-self-test.true)) in
    installed_then g.O.Oper.meaning old (disk c.loop-self.machine) new (g.met.M.Machine.lawful c.args.machine.now) (g.met.M.Machine.lawful c.tend_thin.new.machine) c.args.self.now here c.loop-self.invariant over c.tend_thin.new.self
    (λ p files w. c.image_stands.ensures p files w) (Ok 0) (λ m w. must_relieve m w ≡ false) (λ m w none. none)
    (subst (λ n. HasTendedThin g.O.Oper.meaning (disk c.loop-self.machine) new inside.engine c.tend_thin.new.self dirty_limit (Ok n)) c.if-branch-eq0.true c.in_ok-tend_thin.ensures.tended)

pub loop-self-preserved : goal.loop-self-preserved
loop-self-preserved g c =
    let disk = g.M.Machine.disk in
    let old = disk c.args.machine.now in
    let new = disk c.tend_thin.new.machine in
    let inside = c.loop-self.self-inside in
    let here : StandbyView = record { engine = inside.engine; frames = inside.frames; done = inside.done; stopped = inside.stopped } in
    let over = is_over_in g.O.Oper.meaning (disk c.loop-self.machine) inside.engine c.loop-self.invariant.alone c.stat.result (λ p file w. c.stat.ensures.shown p file w) low_mark true
    (still_above low_mark c.most_left-most.result c.stat.result.dirty c.stat.result.uninstalled c.most_left-most.ensures.least (sym c.is_over.ensures ∙ c.loop-self-test.true)) in
    limits_more g.O.Oper.meaning old (disk c.loop-self.machine) new (g.met.M.Machine.lawful c.args.machine.now) (g.met.M.Machine.lawful c.tend_thin.new.machine) c.args.self.now here c.loop-self.invariant over c.tend_thin.new.self
    (λ p files w. c.image_stands.ensures p files w) c.in_ok-tend_thin.field-0 (omega (arith, c.if-branch-eq0.false)) c.in_ok-tend_thin.ensures.tended

pub returns : goal.returns
returns g c =
    let inside = c.loop-self.self-inside in
    let here : StandbyView = record { engine = inside.engine; frames = inside.frames; done = inside.done; stopped = inside.stopped } in
    let now = g.M.Machine.disk c.loop-self.machine in
    relieved_by g.O.Oper.meaning (g.M.Machine.disk c.args.machine.now) now c.args.self.now here c.loop-self.invariant
    (λ p first bytes f. none_must (meaning_in g.O.Oper.meaning p) f.world
    (is_over_in g.O.Oper.meaning now inside.engine c.loop-self.invariant.alone c.stat.result (λ p file w. c.stat.ensures.shown p file w) waiting_limit false
    (not_above c.most_left-most.result waiting_limit c.stat.result.dirty c.stat.result.uninstalled c.most_left-most.ensures.most (sym c.is_over.ensures ∙ c.loop-self-test.false)) p f.world f.shows))
