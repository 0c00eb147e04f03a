use Rattle.std.proofs.Common.{◌∙◌, arith}
use Rattle.redo_pass.specs.Endings.{as_error}
use Rattle.standby_node.specs.Failures.{follow_from_record}
use Rattle.standby_node.specs.Standby.{StandbyView}
use Rattle.standby_node.specs.Steps.{IsRecordFollowed}
use Rattle.standby_node.proofs.Recorded.{followed_from, not_read, record_ends, refused_from, short_record, within_frame}
use Rattle.standby_node.proofs.standby.Standby.follow_record.Goals as goal

pub returns-in_err-logged : goal.returns-in_err-logged
returns-in_err-logged g c =
    let old = g.M.Machine.disk c.args.machine.now in
    let now = c.args.self.now in
    let e = c.in_err-logged.field-0.0 in
    as_error (λ r. IsRecordFollowed g.O.Oper.meaning old old now now c.args.size r) c.from_residual.result e c.from_residual.ensures.1
    (not_read g.O.Oper.meaning old old now now.engine c.args.size c.requires.whole c.requires.left e c.in_err-logged.ensures (g.met.M.Machine.lawful c.args.machine.now) c.requires.unbroken (λ p files w. c.image_stands.ensures p files w))

pub follow-requires-clause-short : goal.follow-requires-clause-short
follow-requires-clause-short g c =
    let old = g.M.Machine.disk c.args.machine.now in
    let inside = c.self.inside in
    let parts : StandbyView = record { engine = inside.engine; frames = inside.frames; done = inside.done; stopped = inside.stopped } in
    let read = c.in_ok-logged.ensures in
    short_record g.O.Oper.meaning old old c.args.self.now parts c.self.view_is parts.engine c.args.size c.requires.whole c.requires.left c.in_ok-logged.logged read.1 read.0

pub returns-in_err-follow : goal.returns-in_err-follow
returns-in_err-follow g c =
    let old = g.M.Machine.disk c.args.machine.now in
    let new = g.M.Machine.disk c.follow.new.machine in
    let inside = c.self.inside in
    let parts : StandbyView = record { engine = inside.engine; frames = inside.frames; done = inside.done; stopped = inside.stopped } in
    let read = c.in_ok-logged.ensures in
    let e = c.in_err-follow.field-0.0 in
    as_error (λ r. IsRecordFollowed g.O.Oper.meaning old new c.args.self.now (record parts { engine = c.follow.new.self }) c.args.size r) c.from_residual-in_err-follow.result (follow_from_record e) c.from_residual-in_err-follow.ensures.1
    (refused_from g.O.Oper.meaning old new c.args.self.now parts c.self.view_is c.follow.new.self c.args.size c.requires.whole c.requires.left c.in_ok-logged.logged read.1 read.0
    (λ b w sound live. c.records_are_judged.ensures.judged b w c.in_ok-logged.logged sound live) (λ p files w. c.image_stands.ensures p files w) e c.in_err-follow.ensures.followed)

pub overflow_add-self : goal.overflow_add-self
overflow_add-self g c =
    let old = g.M.Machine.disk c.args.machine.now in
    let inside = c.self.inside in
    let parts : StandbyView = record { engine = inside.engine; frames = inside.frames; done = inside.done; stopped = inside.stopped } in
    let read = c.in_ok-logged.ensures in
    let ends = record_ends g.O.Oper.meaning old old c.args.self.now parts c.self.view_is parts.engine c.args.size c.requires.whole c.requires.left c.in_ok-logged.logged read.1 read.0 c.in_ok-logged.n read.2 in
    omega (arith, ends, c.requires.whole.2.short, c.requires.whole.3)

pub invariant_of-self-2 : goal.invariant_of-self-2
invariant_of-self-2 g c =
    let old = g.M.Machine.disk c.args.machine.now in
    let inside = c.self.inside in
    let parts : StandbyView = record { engine = inside.engine; frames = inside.frames; done = inside.done; stopped = inside.stopped } in
    let read = c.in_ok-logged.ensures in
    let it = c.in_ok-follow.ensures.followed in (
      record { group = it.group ∙ c.self.invariant.0.group; copied = it.call.copied ∙ c.self.invariant.0.copied },
      within_frame g.O.Oper.meaning old old c.args.self.now parts c.self.view_is parts.engine c.args.size c.requires.whole c.requires.left c.in_ok-logged.logged read.1 read.0 c.in_ok-logged.n read.2,
    )

pub returns : goal.returns
returns g c =
    let old = g.M.Machine.disk c.args.machine.now in
    let new = g.M.Machine.disk c.follow.new.machine in
    let inside = c.self.inside in
    let parts : StandbyView = record { engine = inside.engine; frames = inside.frames; done = inside.done; stopped = inside.stopped } in
    let read = c.in_ok-logged.ensures in
    followed_from g.O.Oper.meaning old new c.args.self.now parts c.self.view_is c.follow.new.self c.args.size c.requires.whole c.requires.left c.in_ok-logged.logged read.1 read.0
    (λ b w sound live. c.records_are_judged.ensures.judged b w c.in_ok-logged.logged sound live) (λ p files w. c.image_stands.ensures p files w) c.in_ok-logged.n read.2 c.in_ok-follow.field-0 c.in_ok-follow.ensures.followed
