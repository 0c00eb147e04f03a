use Rattle.std.proofs.Common.{◌∙◌, arith, ap, map, sym}
use Rattle.std.proofs.lemmas.List.{length-map}
use Rattle.client_sessions.specs.Seen.{client_of}
use Rattle.client_sessions.specs.Sessions.{aware}
use Rattle.client_sessions.specs.declared.session.Session.{Session}
use Rattle.client_sessions.proofs.Slots.{note_step}
use Rattle.client_sessions.proofs.watching.note_all.Goals as goal

pub loop-session-preserved : goal.loop-session-preserved
loop-session-preserved c =
    let all = c.loop-session.sessions in
    let old = c.args.sessions.now in
    let at = c.loop-session.session-index in
    note_step (aware (map (λ name. name.items) c.args.names.now)) all (map client_of old) at c.session-item.result c.note.new.self
    (omega (arith, c.loop-session-test.true, c.loop-session.auto.sessions, c.loop-session.auto.session-index-end))
    (omega (arith, c.loop-session-test.true, c.loop-session.auto.session-index-end, length-map old client_of)) c.loop-session.invariant c.session-item.is
    (c.note.ensures ∙ ap (λ (s : Session). aware (map (λ name. name.items) c.args.names.now) (client_of s)) (sym c.session-item.is))
