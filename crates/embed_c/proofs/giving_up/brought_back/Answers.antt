use Rattle.std.proofs.Common.{Option, Some, subst, sym}
use Rattle.transactions.specs.declared.snapshot.Snapshot.{Snapshot}
use Rattle.embed_c.specs.GivenUp.{BringsBack}
use Rattle.embed_c.proofs.giving_up.brought_back.Goals as goal

pub returns-in-Some : goal.returns-in-Some
returns-in-Some c = subst (λ (o : Option Snapshot). BringsBack c.args.store.now o (Some c.bring_back.new.snapshot)) (sym c.in-Some.is) (record { back = c.bring_back.ensures.back; stands = c.bring_back.ensures.stands })
