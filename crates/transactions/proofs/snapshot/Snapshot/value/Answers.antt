use Rattle.std.proofs.Common.{◌≡◌, ◌++◌, ◌∷◌, [], List, ℕ, subst}
use Rattle.transactions.proofs.GoingOn.{keeps_in}
use Rattle.transactions.proofs.Kept.{state_kept}
use Rattle.transactions.proofs.Reading.{reads_none, reads_so}
use Rattle.transactions.proofs.snapshot.Snapshot.value.Goals as goal

pub returns-in_default-clause-reads : goal.returns-in_default-clause-reads
returns-in_default-clause-reads g c = reads_none g.O.Oper.meaning (g.M.Machine.disk c.args.machine.now) c.args.engine.now _ (g.met.M.Machine.lawful c.args.machine.now) c.requires.unbroken (λ none. absurd none)

pub returns-in-Ok-clause-reads : goal.returns-in-Ok-clause-reads
returns-in-Ok-clause-reads g c = let disk = g.M.Machine.disk in reads_so g.O.Oper.meaning (disk c.args.machine.now) (disk c.push_value.new.machine) c.args.engine.now c.push_value.new.engine _ _ (λ failed. absurd failed) (λ none. absurd none) c.in-Ok.ensures.reads

pub returns-in-Ok-clause-value : goal.returns-in-Ok-clause-value
returns-in-Ok-clause-value g c = λ p base commands holds it there.
    subst (λ (v : List ℕ). c.push_value.new.values ≡ c.args.into.now ++ v ∷ [])
    (state_kept g.O.Oper.meaning p c.in-Some.kept base commands (keeps_in g.O.Oper.meaning p c.args.self.now c.in-Some.kept base commands c.in-Some.is it) c.args.object there)
    (c.in-Ok.ensures.value p commands holds)

pub returns-in-Err-clause-reads : goal.returns-in-Err-clause-reads
returns-in-Err-clause-reads g c = let disk = g.M.Machine.disk in reads_so g.O.Oper.meaning (disk c.args.machine.now) (disk c.push_value.new.machine) c.args.engine.now c.push_value.new.engine _ _ (λ failed. failed) (λ failed. failed) c.in-Err.ensures.reads
