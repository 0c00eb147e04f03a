use Rattle.std.proofs.Common.{◌∙◌, ◌++◌, ℕ, List, ap, sym}
use Rattle.client_turns.proofs.Turned.{rest_seen}
use Rattle.client_turns.proofs.desk.Desk.joined.Goals as goal

pub returns : goal.returns
returns c =
    let rest = rest_seen c.args.self.now.rests.items c.args.client c.index.result.now c.requires c.index.ensures in
    c.in_ok-extend_from_slice.ensures.items ∙ ap (λ (l : List ℕ). l ++ c.args.piece.now) (c.in_ok-bytes.ensures.items ∙ c.deref.ensures.value ∙ sym rest)
