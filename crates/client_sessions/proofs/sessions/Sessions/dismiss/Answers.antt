use Rattle.std.proofs.Common.{◌∙◌, ap, true, false, length, refl, subst, sym, ◌<◌, ◌++◌, ℕ, List}
use Rattle.std.specs.Vec.{with_item}
use Rattle.named_words.specs.Effects.{Names}
use Rattle.resp_words.specs.Replies.{error, reply_bytes}
use Rattle.client_sessions.specs.Seen.{server_of}
use Rattle.client_sessions.specs.Sessions.{Client, with_client}
use Rattle.client_sessions.proofs.Partings.{dismissed_settled, leaving_at}
use Rattle.client_sessions.proofs.Slots.{at_seen, more_large, set_large, set_seen}
use Rattle.client_sessions.proofs.sessions.Sessions.dismiss.Goals as goal

pub returns : goal.returns
returns c =
    let old = c.args.self.now in
    let mid = c.open.new.self in
    let at = c.args.client in
    let one = c.dismiss.new.self in
    let new = record mid { sessions = with_item mid.sessions at one } in
    let inside : at < length mid.sessions.items = subst (λ (n : ℕ). at < n) (sym c.in_ok-open.ensures.count) c.requires in
    let let_go = λ (names : Names). set_seen names mid new at one refl refl
    ∙ ap (λ (client : Client). with_client at client (server_of names mid))
    (c.dismiss.ensures ∙ ap (λ (client : Client). record client { leaving = true }) (sym (at_seen mid.sessions.items at c.index_mut-session.result.now inside c.index_mut-session.ensures.value))) in
    dismissed_settled old.limits at c.args.told.now old mid new c.args.out.now.items c.push_frames.new.into.items c.push_end.new.into.items c.deref.result.now
    (leaving_at old.sessions.items at c.index.result.now false c.requires c.index.ensures c.if-index.false) c.in_ok-open.ensures.is let_go
    (c.deref.ensures.value ∙ c.in_ok-push.ensures.ok ∙ ap (λ (l : List ℕ). l ++ reply_bytes (error c.args.told.now)) c.new-said.ensures.items) c.in_ok-push_frames.ensures.ok c.in_ok-push_end.ensures.ok
    (more_large old mid new (record { limits = c.in_ok-open.ensures.limits; count = c.in_ok-open.ensures.count }) (set_large mid new at one refl refl))
