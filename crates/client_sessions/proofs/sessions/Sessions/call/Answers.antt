use Rattle.std.proofs.Common.{◌≡◌, ◌∙◌, ℕ, List, true, refl, sym, ap}
use Rattle.std.specs.List.{list_all}
use Rattle.std.specs.Vec.{with_item}
use Rattle.std.proofs.lemmas.Result.{on_ok_weaker}
use Rattle.client_sessions.specs.Answers.{called, is_graphic}
use Rattle.client_sessions.specs.Seen.{client_of, server_of}
use Rattle.client_sessions.specs.Sessions.{Client}
use Rattle.client_sessions.specs.Steps.{done}
use Rattle.client_sessions.proofs.Slots.{called_is, own_set}
use Rattle.client_sessions.proofs.sessions.Sessions.call.Goals as goal

pub returns : goal.returns
returns c =
    let old = c.args.self.now in
    let at = c.args.client in
    let title : List ℕ = c.args.title.now in
    let was = c.index_mut-session.result.now in
    let one = c.call_it.new.self in
    let graphic : list_all is_graphic title ≡ true = sym c.are_graphic.ensures ∙ c.if-not-are_graphic.false in
    let kept = ap (λ (l : List ℕ). record (client_of was) { title = l }) c.in_ok-kept.ensures in
    on_ok_weaker c.push-2.result (λ is. own_set (called at title) (λ (client : Client). record client { title = title }) done old (record old { sessions = with_item old.sessions at one }) at was one
    c.args.into.now.items c.push-2.new.into.items (λ names. called_is at title (server_of names old) graphic) c.requires c.index_mut-session.ensures.value refl refl refl (c.call_it.ensures ∙ kept) is) c.push-2.ensures.ok
