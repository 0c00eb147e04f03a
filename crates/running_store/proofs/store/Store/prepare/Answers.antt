use Rattle.std.proofs.Common.{[]}
use Rattle.disk_model.specs.Disk.{Disk}
use Rattle.formats.specs.declared.params.Params.{Params}
use Rattle.explain_core.specs.World.{World}
use Rattle.standing.specs.Moments.{TakesSome}
use Rattle.running_store.specs.Parts.{VolatileShows, meaning_in}
use Rattle.running_store.specs.StoreView.{view_of}
use Rattle.running_store.proofs.PrepareLemmas.{EndsPrepare, prepare_ends, prepare_taken, prepare_takes}
use Rattle.running_store.proofs.store.Store.prepare.Given.{Over}
use Rattle.running_store.proofs.store.Store.prepare.Goals.{After-note}
use Rattle.running_store.proofs.store.Store.prepare.Goals as goal

module _ (g : Over) (c : After-note g) where
  abbrev old : Disk
  old = g.M.Machine.disk c.args.machine.now

  abbrev new : Disk
  new = g.M.Machine.disk c.prepare-answer.new.machine

  ends : EndsPrepare g.O.Oper.meaning old new c.args.self.now (view_of c.self.inside.log c.prepare-answer.new.self c.self.inside.graph.entries c.self.inside.identities c.note.new.broken) c.prepare-answer.result
  ends =
      let is = c.prepare-answer.ensures in
      prepare_ends g.O.Oper.meaning old new c.self.inside.log c.self.inside.objects c.self.inside.graph.entries c.self.inside.identities c.self.inside.broken c.args.self.now c.self.view_is c.requires.unbroken c.self.invariant
      c.note.new.broken c.prepare-answer.new.self is.cache is.runs is.slots c.prepare-answer.result c.note.ensures is.settled is.laid is.unseen is.cause

  taken : old.tells_moments → (p : Params) (w : World g.row.O.Denot) → VolatileShows (meaning_in g.O.Oper.meaning p) p old c.args.self.now.parts.volatile w → TakesSome (meaning_in g.O.Oper.meaning p) p old new w []
  taken =
      prepare_taken g.O.Oper.meaning old new c.self.inside.log c.self.inside.objects c.self.inside.graph.entries c.self.inside.identities c.self.inside.broken c.args.self.now c.self.view_is c.prepare-answer.ensures.any_moment

pub invariant_of-self : goal.invariant_of-self
invariant_of-self g c = (ends g (goal.at.invariant_of-self g c).After-note).usable

pub returns-clause-call : goal.returns-clause-call
returns-clause-call g c = (ends g (goal.at.returns-clause-call g c).After-note).call

pub returns-clause-beside : goal.returns-clause-beside
returns-clause-beside g c = (ends g (goal.at.returns-clause-beside g c).After-note).beside

pub returns-clause-shows : goal.returns-clause-shows
returns-clause-shows g c = (ends g (goal.at.returns-clause-shows g c).After-note).shows

pub returns-clause-steps : goal.returns-clause-steps
returns-clause-steps g c = taken g (goal.at.returns-clause-steps g c).After-note

pub returns-clause-takes : goal.returns-clause-takes
returns-clause-takes g c =
    let at = (goal.at.returns-clause-takes g c).After-note in
    prepare_takes g.O.Oper.meaning (g.M.Machine.disk c.args.machine.now) (g.M.Machine.disk c.prepare-answer.new.machine) c.args.self.now _ c.prepare-answer.result (ends g at) (taken g at)
