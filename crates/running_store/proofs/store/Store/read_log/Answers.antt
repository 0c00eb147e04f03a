use Rattle.running_store.specs.Calls.Faults.{has_failed, is_read_fault}
use Rattle.running_store.proofs.Inside.{read_same}
use Rattle.running_store.proofs.store.Store.read_log.Goals as goal

pub returns-clause-kept : goal.returns-clause-kept
returns-clause-kept g c = record {
  stays = c.next-answer.ensures.kept;
  store = read_same c.self.inside.log c.self.inside.objects c.self.inside.graph.entries c.self.inside.identities c.self.inside.broken c.args.self.now c.self.view_is
      c.note.new.broken (has_failed is_read_fault c.next-answer.result) c.requires.unbroken c.note.ensures;
}

pub returns-clause-reader : goal.returns-clause-reader
returns-clause-reader g c = record { same = c.next-answer.ensures.same; bounds = c.next-answer.ensures.bounds }
