use Rattle.std.proofs.Common.{◌∙◌, ap, sym}
use Rattle.formats.specs.declared.params.Params.{Params}
use Rattle.store_engine.specs.Engine.{records_of}
use Rattle.transactions.proofs.transaction.Transaction.commit_lazily.Goals as goal

pub returns-clause-left : goal.returns-clause-left
returns-clause-left g c = λ p commands holds staged lsns.
    c.commit_lazily.ensures.left p commands holds staged.accepted (staged.bytes_are ∙ ap (λ (q : Params). records_of g.O.Oper.meaning q c.args.self.now.ops.items) (sym holds.shows.shows.store.params)) lsns

pub returns-clause-images : goal.returns-clause-images
returns-clause-images g c = λ told p commands holds staged lsns.
    c.commit_lazily.ensures.images told p commands holds staged.accepted (staged.bytes_are ∙ ap (λ (q : Params). records_of g.O.Oper.meaning q c.args.self.now.ops.items) (sym holds.shows.shows.store.params)) lsns

pub returns-clause-time : goal.returns-clause-time
returns-clause-time g c = c.commit_lazily.ensures.time
