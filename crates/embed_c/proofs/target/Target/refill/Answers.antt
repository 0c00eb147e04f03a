use Rattle.std.proofs.Common.{◌∙◌, List, ◌++◌, ap, sym, refl}
use Rattle.std.proofs.lemmas.List.{append-nil}
use Rattle.disk_model.specs.Call as disk
use Rattle.write_queue.specs.Memory.{waiting_in}
use Rattle.embed_c.proofs.Left.{fails}
use Rattle.embed_c.proofs.target.Target.refill.Goals as goal

pub returns-then-not-is_empty-clause-first : goal.returns-then-not-is_empty-clause-first
returns-then-not-is_empty-clause-first c = λ none. fails c.if-not-is_empty.true (c.is_empty.ensures.1 none)

pub returns-then-not-is_empty-clause-machine : goal.returns-then-not-is_empty-clause-machine
returns-then-not-is_empty-clause-machine c = record { first = refl; calls = refl; files = refl; disk_faults = refl; say_faults = refl }

pub returns-clause-pending : goal.returns-clause-pending
returns-clause-pending c =
    let waiting = waiting_in c.args.self.now.machine in
    (λ i. (c.of.ensures ∙ c.take.ensures.calls) i ++ c.take.ensures.none i) ∙ append-nil waiting
    ∙ sym (ap (λ (l : List disk.Call). l ++ waiting) (c.is_empty.ensures.0 c.if-not-is_empty.false))

pub returns-clause-first : goal.returns-clause-first
returns-clause-first c = λ none. c.take.ensures.none

pub returns-clause-machine : goal.returns-clause-machine
returns-clause-machine c = c.take.ensures.same
