use Rattle.std.proofs.Common.{◌≡◌, ◌∙◌, ◌<◌, ◌≤◌, ◌||◌, ℕ, List, All, length, sym, subst, ap, arith}
use Rattle.formats.specs.Objects.{bounds_of}
use Rattle.oper_core.specs.Meaning.{FitsReads, IsInGrammar, IsLawful, IsSmall, Meaning}
use Rattle.oper_core.specs.declared.bounds.Bounds.{Bounds}
use Rattle.oper_core.specs.State.{is_among}
use Rattle.dirty_cache.specs.Contents.{Contents, HasRoom, held, is_dirty}
use Rattle.running_store.specs.Laid.Among.{small_bounds}
use Rattle.running_store.specs.Laid.{Laid, with_entries}
use Rattle.running_store.specs.Laid.Lent.{KeepsOthers, inputs_in}
use Rattle.running_store.specs.Laid.Ran.{HasRun}
use Rattle.running_store.proofs.DoneLemmas.{dirty_done, entries_done, kept_done, laid_done, same_fetched, same_held, same_kept, same_laid}
use Rattle.running_store.proofs.LentLemmas.{on_err}
use Rattle.running_store.proofs.objects.Objects.run.Given.{Over}
use Rattle.running_store.proofs.objects.Objects.run.Goals.{In_ok-made}
use Rattle.running_store.proofs.objects.Objects.run.Goals as goal

pub apply_inputs-requires-clause-small : goal.apply_inputs-requires-clause-small
apply_inputs-requires-clause-small g c = subst (λ (b : Bounds). IsSmall b) (sym c.bounds-bounds.ensures) (small_bounds c.args.self.now.slots.params c.params-params.ensures.range)

pub apply_inputs-requires-clause-grammar : goal.apply_inputs-requires-clause-grammar
apply_inputs-requires-clause-grammar g c = subst (λ (b : Bounds). IsInGrammar (g.O.Oper.meaning b) c.args.op) (sym c.bounds-bounds.ensures) c.requires.ready.shape

pub apply_inputs-requires-clause-fits : goal.apply_inputs-requires-clause-fits
apply_inputs-requires-clause-fits g c =
    subst (λ (b : Bounds). FitsReads (g.O.Oper.meaning b) c.args.op (inputs_in c.self.inside.cache ((g.O.Oper.meaning b).reads c.args.op) c.args.copies)) (sym c.bounds-bounds.ensures)
    (subst (λ (k : Contents). FitsReads (g.O.Oper.meaning (bounds_of c.args.self.now.slots.params)) c.args.op (inputs_in k ((g.O.Oper.meaning (bounds_of c.args.self.now.slots.params)).reads c.args.op) c.args.copies)) (ap (λ (l : Laid). l.cache) (sym c.self.view_is)) c.requires.ready.fits)

-- without memory all is as it was
pub invariant_of-self : goal.invariant_of-self
invariant_of-self g c = same_kept c.self.inside.slots c.self.inside.cache c.apply_inputs.new.cache c.in_err-made.ensures.same c.self.inside.empties.marks c.self.invariant

pub returns-in_err-made-clause-laid : goal.returns-in_err-made-clause-laid
returns-in_err-made-clause-laid g c = rw (← c.self.view_is) (same_laid c.self.inside.slots c.self.inside.cache c.apply_inputs.new.cache c.in_err-made.ensures.same)

pub returns-in_err-made-clause-same : goal.returns-in_err-made-clause-same
returns-in_err-made-clause-same g c = rw (← c.self.view_is) (on_err c.from_residual.result (same_held c.self.inside.slots c.self.inside.cache c.apply_inputs.new.cache c.in_err-made.ensures.same))

pub returns-in_err-made-clause-fetched : goal.returns-in_err-made-clause-fetched
returns-in_err-made-clause-fetched g c = rw (← c.self.view_is) (on_err c.from_residual.result (same_fetched c.self.inside.slots c.self.inside.cache c.apply_inputs.new.cache c.in_err-made.ensures.same))

-- the values are made
module _ (g : Over) (c : In_ok-made g) where
  abbrev p : Bounds
  p = bounds_of c.self.inside.slots.params

  abbrev m : Meaning g.row.O.Denot
  m = g.O.Oper.meaning p

  abbrev objects : List ℕ
  objects = c.args.writes.now

  abbrev values : List (List ℕ)
  values = inputs_in c.self.inside.cache (m.reads c.args.op) c.args.copies

  bounds_are : c.bounds-bounds.result ≡ p
  bounds_are = c.bounds-bounds.ensures ∙ ap (λ (l : Laid). bounds_of l.slots.params) (sym c.self.view_is)

  objects_are : objects ≡ m.writes c.args.op
  objects_are = subst (λ (l : Laid). objects ≡ (g.O.Oper.meaning (bounds_of l.slots.params)).writes c.args.op) (sym c.self.view_is) c.requires.writes

  laws : IsLawful m
  laws = g.met.O.Oper.lawful p (subst (λ (l : Laid). IsSmall (bounds_of l.slots.params)) (sym c.self.view_is) (small_bounds c.args.self.now.slots.params c.params-params.ensures.range))

  grammar : IsInGrammar m c.args.op
  grammar = subst (λ (l : Laid). IsInGrammar (g.O.Oper.meaning (bounds_of l.slots.params)) c.args.op) (sym c.self.view_is) c.requires.ready.shape

  fits : FitsReads m c.args.op values
  fits =
      subst (λ (l : Laid). FitsReads (g.O.Oper.meaning (bounds_of l.slots.params)) c.args.op (inputs_in l.cache ((g.O.Oper.meaning (bounds_of l.slots.params)).reads c.args.op) c.args.copies)) (sym c.self.view_is) c.requires.ready.fits

  made_are : c.in_ok-made.made ≡ m.effect c.args.op values
  made_are = c.in_ok-made.ensures.made ∙ ap (λ (b : Bounds). (g.O.Oper.meaning b).effect c.args.op (inputs_in c.self.inside.cache ((g.O.Oper.meaning b).reads c.args.op) c.args.copies)) bounds_are

  keeps : KeepsOthers objects c.self.inside.cache c.apply_inputs.new.cache
  keeps = subst (λ (l : List ℕ). KeepsOthers l c.self.inside.cache c.apply_inputs.new.cache) (sym (objects_are ∙ ap (λ (b : Bounds). (g.O.Oper.meaning b).writes c.args.op) (sym bounds_are))) c.in_ok-made.ensures.kept

  below : All (λ x. x < c.self.inside.slots.params.objects) objects
  below =
      let there = subst (λ (l : List ℕ). All (λ x. x < m.objects) l) (sym objects_are) (laws.writes_below c.args.op grammar) in
      λ k d within. omega (arith, there k d within, (g.met.O.Oper.bounded p).objects)

  count : length c.in_ok-made.made ≡ length objects
  count = ap length made_are ∙ (laws.made c.args.op values grammar fits).0 ∙ ap length (sym objects_are)

  short : All (λ v. length v ≤ c.self.inside.slots.params.cap) c.in_ok-made.made
  short =
      let there = subst (λ (l : List (List ℕ)). All (λ v. length v ≤ m.cap) l) (sym made_are) (laws.made c.args.op values grammar fits).1 in
      λ k d within. omega (arith, there k d within, (g.met.O.Oper.bounded p).cap)

  room : All (HasRoom c.self.inside.cache) objects
  room = subst (λ (l : Laid). All (HasRoom l.cache) objects) (sym c.self.view_is) c.requires.room

pub put_values-requires-clause-below : goal.put_values-requires-clause-below
put_values-requires-clause-below g c =
    let at = (goal.at.put_values-requires-clause-below g c).In_ok-made in
    λ k d within. omega (arith, below g at k d within, c.self.invariant.empties.count)

pub put_values-requires-clause-room : goal.put_values-requires-clause-room
put_values-requires-clause-room g c =
    let at = (goal.at.put_values-requires-clause-room g c).In_ok-made in
    λ k d within. (keeps g at).rooms _ (room g at k d within)

pub put_values-requires-clause-count : goal.put_values-requires-clause-count
put_values-requires-clause-count g c = count g (goal.at.put_values-requires-clause-count g c).In_ok-made

pub invariant_of-self-2 : goal.invariant_of-self-2
invariant_of-self-2 g c =
    let at = (goal.at.invariant_of-self-2 g c).In_ok-made in
    kept_done c.self.inside.slots c.self.inside.cache c.apply_inputs.new.cache c.put_values.new.cache c.args.lsn c.args.writes.now c.in_ok-made.made (keeps g at) c.put_values.ensures.entries c.put_values.ensures.dirty c.self.inside.empties.marks
    c.put_values.new.empties.marks c.self.invariant (below g at) (short g at) c.put_values.ensures.count c.put_values.ensures.marks

pub returns-clause-laid : goal.returns-clause-laid
returns-clause-laid g c =
    let at = (goal.at.returns-clause-laid g c).In_ok-made in
    rw (← c.self.view_is) (laid_done c.self.inside.slots c.self.inside.cache c.apply_inputs.new.cache c.put_values.new.cache c.args.lsn c.args.writes.now c.in_ok-made.made (keeps g at) c.put_values.ensures.entries c.put_values.ensures.dirty)

pub returns-clause-done : goal.returns-clause-done
returns-clause-done g c =
    let at = (goal.at.returns-clause-done g c).In_ok-made in
    let new : Laid = record { slots = c.self.inside.slots; cache = c.put_values.new.cache } in
    let entries = entries_done c.self.inside.slots c.self.inside.cache c.apply_inputs.new.cache c.put_values.new.cache c.args.lsn c.args.writes.now c.in_ok-made.made (keeps g at) c.put_values.ensures.entries c.put_values.ensures.dirty in
    let dirty = dirty_done c.self.inside.slots c.self.inside.cache c.apply_inputs.new.cache c.put_values.new.cache c.args.lsn c.args.writes.now c.in_ok-made.made (keeps g at) c.put_values.ensures.entries c.put_values.ensures.dirty in
    subst (λ (l : Laid). HasRun g.O.Oper.meaning l new c.args.lsn c.args.op c.args.copies) c.self.view_is (record {
      entries = λ x. entries x ∙ (λ i. with_entries (held c.self.inside.cache) c.args.lsn (objects_are g at i) (made_are g at i) x);
      dirty = λ x. dirty x ∙ (λ i. is_among x (objects_are g at i) || is_dirty c.self.inside.cache x);
    })
