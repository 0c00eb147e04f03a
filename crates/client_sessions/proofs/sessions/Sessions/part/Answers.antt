use Rattle.std.proofs.Common.{◌∙◌, ap, map, refl}
use Rattle.std.specs.Vec.{with_item}
use Rattle.client_sessions.specs.Events.{last_frame}
use Rattle.client_sessions.specs.Seen.{client_of, server_of}
use Rattle.client_sessions.specs.Sessions.{Client, client_at, with_client}
use Rattle.client_sessions.proofs.Slots.{set_large, set_seen}
use Rattle.client_sessions.proofs.sessions.Sessions.part.Goals as goal

pub returns : goal.returns
returns c =
    let old = c.args.self.now in
    let at = c.args.client in
    let one = c.go.new.self in
    let new = record old { sessions = with_item old.sessions at one } in
    record {
      frames = last_frame at (client_at (map client_of old.sessions.items) at);
      is = λ names sizes. (refl, set_seen names old new at one refl refl ∙ ap (λ (client : Client). with_client at client (server_of names old)) c.go.ensures);
      bytes = c.in_ok-last_frame.ensures;
      large = set_large old new at one refl refl;
    }
