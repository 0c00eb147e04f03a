use Rattle.std.proofs.Common.{◌≡◌, ◌∙◌, ℕ, List, [], Vec, Global, map, sym, subst}
use Rattle.client_sessions.specs.Seen.{client_of}
use Rattle.client_sessions.specs.Sessions.{Client, aware}
use Rattle.client_sessions.proofs.Slots.{aware_nothing, nil_if}
use Rattle.client_sessions.proofs.sessions.Sessions.note.Goals as goal

pub returns-then-is_empty-clause-clients : goal.returns-then-is_empty-clause-clients
returns-then-is_empty-clause-clients c =
    let names = c.args.names.now in
    let all : List Client = map client_of c.args.self.now.sessions.items in
    let none : names ≡ [] = nil_if names (sym c.is_empty.ensures ∙ c.if-is_empty.true) in
    subst (λ (ns : List (Vec ℕ Global)). all ≡ map (aware (map (λ name. name.items) ns)) all) (sym none) (aware_nothing all)
