use Rattle.std.proofs.Common.{◌∙◌, sym, subst, ap}
use Rattle.formats.specs.Objects.{bounds_of}
use Rattle.oper_core.specs.Meaning.{FitsReads, IsInGrammar, IsSmall}
use Rattle.oper_core.specs.declared.bounds.Bounds.{Bounds}
use Rattle.dirty_cache.specs.Contents.{Contents}
use Rattle.running_store.specs.Laid.Among.{small_bounds}
use Rattle.running_store.specs.Laid.{Laid}
use Rattle.running_store.specs.Laid.Lent.{inputs_in}
use Rattle.running_store.proofs.DoneLemmas.{same_fetched, same_held, same_kept, same_laid}
use Rattle.running_store.proofs.objects.Objects.check.Goals as goal

pub check_inputs-requires-clause-small : goal.check_inputs-requires-clause-small
check_inputs-requires-clause-small g c = subst (λ (b : Bounds). IsSmall b) (sym c.bounds-bounds.ensures) (small_bounds c.args.self.now.slots.params c.params-params.ensures.range)

pub check_inputs-requires-clause-grammar : goal.check_inputs-requires-clause-grammar
check_inputs-requires-clause-grammar g c = subst (λ (b : Bounds). IsInGrammar (g.O.Oper.meaning b) c.args.op.now) (sym c.bounds-bounds.ensures) c.requires.grammar

pub check_inputs-requires-clause-fits : goal.check_inputs-requires-clause-fits
check_inputs-requires-clause-fits g c =
    subst (λ (b : Bounds). FitsReads (g.O.Oper.meaning b) c.args.op.now (inputs_in c.self.inside.cache ((g.O.Oper.meaning b).reads c.args.op.now) c.args.copies.now)) (sym c.bounds-bounds.ensures)
    (subst (λ (k : Contents). FitsReads (g.O.Oper.meaning (bounds_of c.args.self.now.slots.params)) c.args.op.now (inputs_in k ((g.O.Oper.meaning (bounds_of c.args.self.now.slots.params)).reads c.args.op.now) c.args.copies.now)) (ap (λ (l : Laid). l.cache) (sym c.self.view_is)) c.requires.fits)

pub invariant_of-self : goal.invariant_of-self
invariant_of-self g c = same_kept c.self.inside.slots c.self.inside.cache c.check_inputs.new.cache c.check_inputs.ensures.same c.self.inside.empties.marks c.self.invariant

pub returns-clause-answer : goal.returns-clause-answer
returns-clause-answer g c =
    c.check_inputs.ensures.answer
    ∙ ap (λ (b : Bounds). (g.O.Oper.meaning b).check c.args.op.now (inputs_in c.self.inside.cache ((g.O.Oper.meaning b).reads c.args.op.now) c.args.copies.now)) c.bounds-bounds.ensures
    ∙ ap (λ (k : Contents). (g.O.Oper.meaning (bounds_of c.args.self.now.slots.params)).check c.args.op.now (inputs_in k ((g.O.Oper.meaning (bounds_of c.args.self.now.slots.params)).reads c.args.op.now) c.args.copies.now)) (ap (λ (l : Laid). l.cache) c.self.view_is)

pub returns-clause-entries : goal.returns-clause-entries
returns-clause-entries g c = rw (← c.self.view_is) (same_held c.self.inside.slots c.self.inside.cache c.check_inputs.new.cache c.check_inputs.ensures.same)

pub returns-clause-fetched : goal.returns-clause-fetched
returns-clause-fetched g c = rw (← c.self.view_is) (same_fetched c.self.inside.slots c.self.inside.cache c.check_inputs.new.cache c.check_inputs.ensures.same)

pub returns-clause-laid : goal.returns-clause-laid
returns-clause-laid g c = rw (← c.self.view_is) (same_laid c.self.inside.slots c.self.inside.cache c.check_inputs.new.cache c.check_inputs.ensures.same)
