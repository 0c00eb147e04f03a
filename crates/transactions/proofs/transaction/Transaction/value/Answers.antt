use Rattle.std.proofs.Common.{◌≡◌, ◌++◌, ◌∷◌, [], subst, List, ℕ, OnOk}
use Rattle.transactions.proofs.transaction.Transaction.value.Goals as goal

pub returns-clause-value : goal.returns-clause-value
returns-clause-value g c = λ p commands holds staged.
    subst (λ (v : List ℕ). OnOk c.push_value.result (c.push_value.new.values ≡ c.args.into.now ++ v ∷ [])) (staged.values c.args.object) (c.push_value.ensures.value p commands holds)
