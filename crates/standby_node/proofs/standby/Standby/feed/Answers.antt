use Rattle.std.proofs.Common.{◌≡◌, ◌∙◌, ap, sym, subst, refl}
use Rattle.std.specs.Prelude.{Ok, Err}
use Rattle.redo_pass.specs.Endings.{as_error}
use Rattle.frame_stream.specs.FrameBuffer.{FrameBufferView}
use Rattle.store_engine.specs.Engine.{accepted_in}
use Rattle.standby_node.specs.Feeding.{IsFed}
use Rattle.standby_node.specs.Standby.{StandbyView}
use Rattle.standby_node.specs.Steps.{AreFramesFollowed}
use Rattle.standby_node.specs.declared.follow_err.FollowErr.TheVariants.{Memory}
use Rattle.standby_node.proofs.Fed.{fed_from, not_taken, noted_as}
use Rattle.standby_node.proofs.standby.Standby.feed.Goals as goal

pub returns-in_err-take-clause-fed : goal.returns-in_err-take-clause-fed
returns-in_err-take-clause-fed g c none =
    let old = g.M.Machine.disk c.args.machine.now in
    let now = c.args.self.now in
    let inside = c.self.inside in
    let with_frames : FrameBufferView → StandbyView = λ (f : FrameBufferView). record { engine = inside.engine; frames = f; done = inside.done; stopped = inside.stopped } in
    let same : with_frames c.take.new.self ≡ now = ap with_frames c.in_err-take.ensures.unmoved ∙ c.self.view_is in
    as_error (λ r. IsFed g.O.Oper.meaning old old now (with_frames c.take.new.self) c.args.piece.now r) c.from_residual.result Memory c.from_residual.ensures.1
    (subst (λ (s : StandbyView). IsFed g.O.Oper.meaning old old now s c.args.piece.now (Err Memory)) (sym same)
    (not_taken g.O.Oper.meaning old (g.met.M.Machine.lawful c.args.machine.now) now c.args.piece.now (c.requires.unbroken none) none (λ p files w. c.image_stands.ensures p files w)))

pub returns-in_err-answer-clause-fed : goal.returns-in_err-answer-clause-fed
returns-in_err-answer-clause-fed g c none =
    let meaning = g.O.Oper.meaning in
    let old = g.M.Machine.disk c.args.machine.now in
    let new = g.M.Machine.disk c.follow_frames-answer.new.machine in
    let now = c.args.self.now in
    let inside = c.self.inside in
    let parts : StandbyView = record { engine = inside.engine; frames = inside.frames; done = inside.done; stopped = inside.stopped } in
    let after = c.follow_frames-answer.new.self in
    let e = c.in_err-answer.field-0.0 in
    let is = c.in_err-answer.was in
    let left_is = noted_as meaning after c.note.new.self c.follow_frames-answer.result (Err e) c.note.ensures is in
    as_error (λ r. IsFed meaning old new now c.note.new.self c.args.piece.now r) c.from_residual-in_err-answer.result e c.from_residual-in_err-answer.ensures.1
    (fed_from meaning old new parts c.args.piece.now c.take.new.self c.in_ok-take.ensures.taken c.in_ok-take.ensures.passed after (accepted_in after.engine) (Err e) now c.self.view_is c.note.new.self left_is refl
    (subst (λ r. AreFramesFollowed meaning old new (record parts { frames = c.take.new.self }) after r) is c.follow_frames-answer.ensures))

pub returns-clause-fed : goal.returns-clause-fed
returns-clause-fed g c none =
    let meaning = g.O.Oper.meaning in
    let old = g.M.Machine.disk c.args.machine.now in
    let new = g.M.Machine.disk c.follow_frames-answer.new.machine in
    let now = c.args.self.now in
    let inside = c.self.inside in
    let parts : StandbyView = record { engine = inside.engine; frames = inside.frames; done = inside.done; stopped = inside.stopped } in
    let after = c.follow_frames-answer.new.self in
    let is = c.in_ok-answer.was in
    let left_is = noted_as meaning after c.note.new.self c.follow_frames-answer.result (Ok tt) c.note.ensures is in
    let count = c.accepted.ensures ∙ ap (λ (s : StandbyView). accepted_in s.engine) (c.self-2.view_is ∙ c.note.ensures) in
    fed_from meaning old new parts c.args.piece.now c.take.new.self c.in_ok-take.ensures.taken (λ bytes payloads. c.in_ok-take.ensures.passed bytes payloads) after c.accepted.result (Ok tt) now c.self.view_is c.note.new.self left_is count
    (subst (λ r. AreFramesFollowed meaning old new (record parts { frames = c.take.new.self }) after r) is c.follow_frames-answer.ensures)
