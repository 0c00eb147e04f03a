use Rattle.std.proofs.Common.{[], refl, false}
use Rattle.std.specs.Vec.{with_item}
use Rattle.std.proofs.lemmas.Result.{on_ok_weaker}
use Rattle.client_sessions.specs.Answers.{unguarded}
use Rattle.client_sessions.specs.Sessions.{Client}
use Rattle.client_sessions.specs.Steps.{done}
use Rattle.client_sessions.proofs.Slots.{own_set}
use Rattle.client_sessions.proofs.sessions.Sessions.unguard.Goals as goal

pub returns : goal.returns
returns c =
    let old = c.args.self.now in
    let at = c.args.client in
    let was = c.index_mut-session.result.now in
    let one = c.unguard.new.self in
    on_ok_weaker c.push.result (λ is. own_set (unguarded at) (λ (client : Client). record client { watched = []; stale = false }) done old (record old { sessions = with_item old.sessions at one }) at was one
    c.args.into.now.items c.push.new.into.items (λ names. refl) c.requires c.index_mut-session.ensures.value refl refl refl c.unguard.ensures is) c.push.ensures.ok
