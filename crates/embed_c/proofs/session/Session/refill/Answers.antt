use Rattle.std.proofs.Common.{◌∙◌, List, ◌++◌, ap, sym, refl}
use Rattle.std.proofs.lemmas.List.{append-nil}
use Rattle.disk_model.specs.Call as disk
use Rattle.write_queue.specs.Memory.{waiting_in}
use Rattle.embed_c.proofs.Left.{fails}
use Rattle.embed_c.proofs.session.Session.refill.Goals as goal

pub returns-then-not-is_empty-clause-first : goal.returns-then-not-is_empty-clause-first
returns-then-not-is_empty-clause-first c = λ none. fails c.if-not-is_empty.true (c.is_empty.ensures.1 none)

pub returns-then-not-is_empty-clause-store : goal.returns-then-not-is_empty-clause-store
returns-then-not-is_empty-clause-store c = record {
  engine = refl;
  same = record { first = refl; calls = refl; files = refl; disk_faults = refl; say_faults = refl };
  holds = λ p commands holds. holds;
}

pub returns-clause-pending : goal.returns-clause-pending
returns-clause-pending c =
    let waiting = waiting_in c.args.self.now.store.machine in
    (λ i. (c.of.ensures ∙ c.take.ensures.calls) i ++ c.take.ensures.none i) ∙ append-nil waiting
    ∙ sym (ap (λ (l : List disk.Call). l ++ waiting) (c.is_empty.ensures.0 c.if-not-is_empty.false))

pub returns-clause-first : goal.returns-clause-first
returns-clause-first c = λ none. c.take.ensures.none

pub returns-clause-store : goal.returns-clause-store
returns-clause-store c = record {
  engine = c.take.ensures.engine;
  same = c.take.ensures.same;
  holds = c.take.ensures.holds;
}
