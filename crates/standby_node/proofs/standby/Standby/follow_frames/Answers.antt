use Rattle.std.proofs.Common.{◌≡◌, inl, inr, ◌⊎◌, refl}
use Rattle.std.specs.Prelude.{false, ⊤, Ok, Err}
use Rattle.std.proofs.lemmas.Bool.{false_from_ne_true}
use Rattle.redo_pass.specs.Endings.{as_error}
use Rattle.oper_core.specs.Meaning.{Meaning}
use Rattle.explain_core.specs.World.{World}
use Rattle.standby_node.specs.Feeding.{must_relieve}
use Rattle.standby_node.specs.Standby.{StandbyView}
use Rattle.standby_node.specs.Steps.{AnyWorld, AreFramesFollowed}
use Rattle.standby_node.proofs.Going.{goes_nowhere, goes_twice, not_failed, reached_also}
use Rattle.standby_node.proofs.Recorded.{no_frame_read}
use Rattle.standby_node.proofs.InHand.{none_read, none_within, whole_read, within_whole}
use Rattle.standby_node.proofs.standby.Standby.follow_frames.Goals as goal

-- no frame was passed, or no thin node is left that has to be installed
abbrev LeftSo : {O : Type 0} → StandbyView → StandbyView → Meaning O → World O → Type 0
LeftSo before here m w = (here.frames.passed ≡ before.frames.passed) ⊎ (must_relieve m w ≡ false)

pub loop-size-init : goal.loop-size-init
loop-size-init g c =
    let d = g.M.Machine.disk c.args.machine.now in
    let now = c.args.self.now in
    goes_nowhere g.O.Oper.meaning d (g.met.M.Machine.lawful c.args.machine.now) now c.requires.unbroken (λ p files w. c.image_stands.ensures p files w) ⊤ (LeftSo now now) (Ok tt)
    (λ same. not_failed same) (λ file place same. not_failed same) tt (λ p first bytes f. (f, inl refl))

pub returns-in_err-size : goal.returns-in_err-size
returns-in_err-size g c =
    let disk = g.M.Machine.disk in
    let old = disk c.args.machine.now in
    let mid = disk c.loop-size.machine in
    let before = c.args.self.now in
    let here = c.loop-size.self in
    let e = c.in_err-size.field-0.0 in
    let unbroken = false_from_ne_true here.engine.broken (λ set. not_failed (c.loop-size.invariant.broken.0 set)) in
    let lawful = g.met.M.Machine.lawful c.loop-size.machine in
    as_error (λ r. AreFramesFollowed g.O.Oper.meaning old mid before here r) c.from_residual.result e c.from_residual.ensures.1
    (goes_twice g.O.Oper.meaning old mid mid (g.met.M.Machine.lawful c.args.machine.now) lawful before here here ⊤ ⊤ _ (LeftSo before here) AnyWorld (LeftSo before here) (Err e) (λ start reached. tt) tt c.loop-size.invariant
    (no_frame_read g.O.Oper.meaning mid lawful here unbroken (λ p files w. c.image_stands.ensures p files w) ⊤ AnyWorld e c.in_err-size.ensures.reading))

pub follow_frame-requires-clause-within : goal.follow_frame-requires-clause-within
follow_frame-requires-clause-within g c = within_whole c.loop-size.self c.in-Some.size c.next_frame.ensures.within (whole_read c.loop-size.self c.in_ok-size.field-0 c.in-Some.size c.in-Some.is c.in_ok-size.ensures.reading)

pub returns-in_err-follow_frame : goal.returns-in_err-follow_frame
returns-in_err-follow_frame g c =
    let disk = g.M.Machine.disk in
    let old = disk c.args.machine.now in
    let mid = disk c.loop-size.machine in
    let new = disk c.follow_frame.new.machine in
    let before = c.args.self.now in
    let here = c.loop-size.self in
    let after = c.follow_frame.new.self in
    let e = c.in_err-follow_frame.field-0.0 in
    as_error (λ r. AreFramesFollowed g.O.Oper.meaning old new before after r) c.from_residual-in_err-follow_frame.result e c.from_residual-in_err-follow_frame.ensures.1
    (goes_twice g.O.Oper.meaning old mid new (g.met.M.Machine.lawful c.args.machine.now) (g.met.M.Machine.lawful c.follow_frame.new.machine) before here after ⊤ _ _ (LeftSo before here) AnyWorld (LeftSo before after) (Err e) (λ start reached. tt) tt
    c.loop-size.invariant c.in_err-follow_frame.ensures)

pub returns-in_err-end_frame : goal.returns-in_err-end_frame
returns-in_err-end_frame g c =
    let disk = g.M.Machine.disk in
    let old = disk c.args.machine.now in
    let mid = disk c.loop-size.machine in
    let then = disk c.follow_frame.new.machine in
    let new = disk c.end_frame.new.machine in
    let before = c.args.self.now in
    let here = c.loop-size.self in
    let through = c.follow_frame.new.self in
    let after = c.end_frame.new.self in
    let e = c.in_err-end_frame.field-0.0 in
    let first = goes_twice g.O.Oper.meaning old mid then (g.met.M.Machine.lawful c.args.machine.now) (g.met.M.Machine.lawful c.follow_frame.new.machine) before here through ⊤ _ ⊤ (LeftSo before here) AnyWorld AnyWorld (Ok tt) (λ start reached. tt) (λ m w any. any)
    c.loop-size.invariant c.in_ok-follow_frame.ensures in
    as_error (λ r. AreFramesFollowed g.O.Oper.meaning old new before after r) c.from_residual-in_err-end_frame.result e c.from_residual-in_err-end_frame.ensures.1
    (goes_twice g.O.Oper.meaning old then new (g.met.M.Machine.lawful c.args.machine.now) (g.met.M.Machine.lawful c.end_frame.new.machine) before through after ⊤ _ _ AnyWorld _ (LeftSo before after) (Err e) (λ start reached. tt) tt first c.in_err-end_frame.ensures)

pub loop-size-preserved : goal.loop-size-preserved
loop-size-preserved g c =
    let disk = g.M.Machine.disk in
    let old = disk c.args.machine.now in
    let mid = disk c.loop-size.machine in
    let then = disk c.follow_frame.new.machine in
    let new = disk c.end_frame.new.machine in
    let before = c.args.self.now in
    let here = c.loop-size.self in
    let through = c.follow_frame.new.self in
    let after = c.end_frame.new.self in
    let first = goes_twice g.O.Oper.meaning old mid then (g.met.M.Machine.lawful c.args.machine.now) (g.met.M.Machine.lawful c.follow_frame.new.machine) before here through ⊤ _ ⊤ (LeftSo before here) AnyWorld AnyWorld (Ok tt) (λ start reached. tt) (λ m w any. any)
    c.loop-size.invariant c.in_ok-follow_frame.ensures in
    goes_twice g.O.Oper.meaning old then new (g.met.M.Machine.lawful c.args.machine.now) (g.met.M.Machine.lawful c.end_frame.new.machine) before through after ⊤ _ ⊤ AnyWorld (λ m w. must_relieve m w ≡ false) (LeftSo before after) (Ok tt)
    (λ start reached. tt) (λ m w none. inr none) first c.in_ok-end_frame.ensures

pub returns : goal.returns
returns g c =
    let disk = g.M.Machine.disk in
    let before = c.args.self.now in
    let here = c.loop-size.self in
    let none = none_read here c.in_ok-size.field-0 c.in_default.is c.in_ok-size.ensures.reading in
    reached_also g.O.Oper.meaning (disk c.args.machine.now) (disk c.loop-size.machine) before here ⊤ _ (LeftSo before here) (none, none_within here c.next_frame.ensures.within none.0) c.loop-size.invariant
