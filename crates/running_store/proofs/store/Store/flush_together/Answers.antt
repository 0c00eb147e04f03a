use Rattle.std.proofs.Common.{◌≡◌, List, ℕ, sym, subst, true}
use Rattle.std.specs.Prelude.{All}
use Rattle.disk_model.specs.Disk.{Disk}
use Rattle.formats.specs.declared.params.Params.{Params}
use Rattle.dirty_cache.specs.Contents.{is_dirty}
use Rattle.explain_core.specs.RoundGates.{Gate, gates_of}
use Rattle.explain_core.specs.World.{World}
use Rattle.standing.specs.Moments.{TakesSome}
use Rattle.running_store.specs.Parts.{VolatileShows, meaning_in}
use Rattle.running_store.specs.Steps.RoundImages.{objects_of}
use Rattle.running_store.specs.StoreView.{StoreView, view_of}
use Rattle.running_store.proofs.Inside.{usable_before}
use Rattle.running_store.proofs.OfRounds.Ends.{EndsTogether, ends_together, taken_together, used_later}
use Rattle.running_store.proofs.store.Store.flush_together.Given.{Over}
use Rattle.running_store.proofs.store.Store.flush_together.Goals.{After-note}
use Rattle.running_store.proofs.store.Store.flush_together.Goals as goal

module _ (g : Over) (c : After-note g) where
  abbrev old : Disk
  old = g.M.Machine.disk c.args.machine.now

  abbrev new : Disk
  new = g.M.Machine.disk c.flush_together-answer.new.machine

  abbrev objects : List ℕ
  objects = c.args.objects.now

  dirty : All (λ x. is_dirty c.self.inside.objects.cache x ≡ true) objects
  dirty = subst (λ (s : StoreView). All (λ x. is_dirty s.parts.volatile.objects.cache x ≡ true) objects) (sym c.self.view_is) c.requires.dirty

  ends : EndsTogether g.O.Oper.meaning old new c.args.self.now (view_of c.self.inside.log c.flush_together-answer.new.self c.self.inside.graph.entries c.self.inside.identities c.note.new.broken) objects c.flush_together-answer.result
  ends =
      let is = c.flush_together-answer.ensures in
      ends_together g.O.Oper.meaning old new c.self.inside.log c.self.inside.objects c.self.inside.graph.entries c.self.inside.identities c.self.inside.broken c.args.self.now c.self.view_is objects dirty
      c.requires.unbroken c.self.invariant c.note.new.broken c.flush_together-answer.new.self is.runs is.layout c.flush_together-answer.result c.note.ensures is.flushed is.replaced is.settled is.cause c.slot_gate_keeps.ensures

  taken : old.tells_moments → (p : Params) (w : World g.row.O.Denot) (gates : List Gate) → VolatileShows (meaning_in g.O.Oper.meaning p) p old c.args.self.now.parts.volatile w → objects_of gates ≡ objects
      → TakesSome (meaning_in g.O.Oper.meaning p) p old new w (gates_of gates)
  taken =
      taken_together g.O.Oper.meaning old new c.self.inside.log c.self.inside.objects c.self.inside.graph.entries c.self.inside.identities c.self.inside.broken c.args.self.now c.self.view_is objects dirty
      c.flush_together-answer.ensures.any_moment c.any_gates_are_shown.ensures

pub flush_together-answer-requires-clause-later : goal.flush_together-answer-requires-clause-later
flush_together-answer-requires-clause-later g c =
    let l = c.self.inside.log in
    let o = c.self.inside.objects in
    let e = c.self.inside.graph.entries in
    let n = c.self.inside.identities in
    used_later l o e n (usable_before l o e n c.self.inside.broken c.args.self.now c.self.view_is c.self.invariant c.requires.unbroken)

pub flush_together-answer-requires-clause-dirty : goal.flush_together-answer-requires-clause-dirty
flush_together-answer-requires-clause-dirty g c = subst (λ (s : StoreView). All (λ x. is_dirty s.parts.volatile.objects.cache x ≡ true) c.args.objects.now) (sym c.self.view_is) c.requires.dirty

pub invariant_of-self : goal.invariant_of-self
invariant_of-self g c = (ends g (goal.at.invariant_of-self g c).After-note).usable

pub returns-clause-call : goal.returns-clause-call
returns-clause-call g c = (ends g (goal.at.returns-clause-call g c).After-note).call

pub returns-clause-beside : goal.returns-clause-beside
returns-clause-beside g c = (ends g (goal.at.returns-clause-beside g c).After-note).beside

pub returns-clause-flushed : goal.returns-clause-flushed
returns-clause-flushed g c = (ends g (goal.at.returns-clause-flushed g c).After-note).flushed

pub returns-clause-shows : goal.returns-clause-shows
returns-clause-shows g c = (ends g (goal.at.returns-clause-shows g c).After-note).shows

pub returns-clause-steps : goal.returns-clause-steps
returns-clause-steps g c = taken g (goal.at.returns-clause-steps g c).After-note
