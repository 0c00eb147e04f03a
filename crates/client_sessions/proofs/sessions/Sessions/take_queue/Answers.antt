use Rattle.std.proofs.Common.{◌∙◌, ap, refl, sym}
use Rattle.std.specs.Vec.{with_item}
use Rattle.client_sessions.specs.Seen.{server_of}
use Rattle.client_sessions.specs.Sessions.{Client, ended, with_client}
use Rattle.client_sessions.proofs.Slots.{at_seen, set_seen}
use Rattle.client_sessions.proofs.sessions.Sessions.take_queue.Goals as goal

pub returns-clause-is : goal.returns-clause-is
returns-clause-is c names =
    let old = c.args.self.now in
    let at = c.args.client in
    let one = c.take_queue.new.self in
    set_seen names old (record old { sessions = with_item old.sessions at one }) at one refl refl
    ∙ ap (λ (client : Client). with_client at client (server_of names old)) (c.take_queue.ensures.is ∙ ap ended (sym (at_seen old.sessions.items at c.index_mut-session.result.now c.requires c.index_mut-session.ensures.value)))
