use Rattle.std.proofs.lemmas.List.{map-set}
use Rattle.client_turns.proofs.desk.Desk.keep.Goals as goal

pub returns-clause-rests : goal.returns-clause-rests
returns-clause-rests c = map-set (λ rest. rest.items) c.args.self.now.rests.items c.args.client c.args.left
