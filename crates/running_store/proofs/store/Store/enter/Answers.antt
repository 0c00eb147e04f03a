use Rattle.std.proofs.Common.{◌∙◌, ◌∷◌, ◌++◌, ◌<◌, [], ap, sym, subst, refl, arith, ℕ, List, Option, ◌&&◌, ◌||◌}
use Rattle.std.specs.Prelude.{All}
use Rattle.oper_core.specs.State.{is_among}
use Rattle.dirty_cache.specs.Contents.{held, is_dirty}
use Rattle.dirty_cache.specs.declared.entry.Entry.{Entry as Pair}
use Rattle.install_order.specs.declared.entry.Entry.{Entry}
use Rattle.write_graph.specs.Graph.{lsns}
use Rattle.running_store.specs.Calls.Entered.{IsEntered, IsEntry}
use Rattle.running_store.specs.Laid.{object_lsn, with_chosen}
use Rattle.running_store.specs.Parts.{Parts, parts}
use Rattle.running_store.specs.StoreView.{StoreView, next_of, view_of}
use Rattle.running_store.proofs.Commanded.{entry_usable}
use Rattle.running_store.proofs.Inside.{usable_before}
use Rattle.running_store.proofs.store.Store.enter.Given.{Over}
use Rattle.running_store.proofs.store.Store.enter.Goals.{After-add}
use Rattle.running_store.proofs.store.Store.enter.Goals as goal

pub add-requires-clause-above : goal.add-requires-clause-above
add-requires-clause-above g c =
    subst (λ (l : List Entry). All (λ n. n < c.args.entry.lsn) (lsns l)) (ap (λ (s : StoreView). s.parts.volatile.entries) (sym c.self.view_is) ∙ sym c.make_room-2.ensures.same) c.requires.above.0

module _ (g : Over) (c : After-add g) where
  abbrev before : Parts
  before = parts c.self.inside.log c.self.inside.objects c.self.inside.graph.entries

  abbrev after : Parts
  after = parts c.self.inside.log c.set_chosen.new.self c.add.new.self.entries

  done : IsEntered before.volatile after.volatile c.args.due.now c.args.entry c.args.made
  done =
      let e = c.args.entry in
      let due = c.args.due.now in
      record {
        slots = c.set_chosen.ensures.slots ∙ c.make_room.ensures.slots;
        held = λ x.
            c.set_chosen.ensures.entries x
            ∙ ap (λ (ws : List ℕ). with_chosen (held c.make_room.new.self.cache) e.lsn due ws c.args.made x) c.as_slice-2.ensures.value
            ∙ ap (λ (f : ℕ → Option Pair). with_chosen f e.lsn due e.writes c.args.made x) (λ i y. c.make_room.ensures.entries y i);
        dirty = λ x.
            c.set_chosen.ensures.dirty x
            ∙ ap (λ (ws : List ℕ). (is_among x due && is_among x ws) || is_dirty c.make_room.new.self.cache x) c.as_slice-2.ensures.value
            ∙ ap (λ b. (is_among x due && is_among x e.writes) || b) (c.make_room.ensures.fetched.dirty x);
        entries = c.add.ensures ∙ ap (λ es. es ++ e ∷ []) c.make_room-2.ensures.same;
      }

pub invariant_of-self-2 : goal.invariant_of-self-2
invariant_of-self-2 g c = λ fine.
    let at = (goal.at.invariant_of-self-2 g c).After-add in
    let used = usable_before c.self.inside.log c.self.inside.objects c.self.inside.graph.entries c.self.inside.identities c.self.inside.broken c.args.self.now c.self.view_is c.self.invariant c.requires.unbroken in
    entry_usable (before g at) (after g at) c.self.inside.identities used c.args.due.now c.args.entry c.args.made (done g at) refl
    (omega (arith, ap (λ (s : StoreView). next_of s) c.self.view_is, c.requires.above.1)) (subst (λ (s : StoreView). All (λ x. object_lsn s.parts.volatile.objects x < c.args.entry.lsn) c.args.due.now) (sym c.self.view_is) c.requires.later)

pub returns : goal.returns
returns g c =
    let at = (goal.at.returns g c).After-add in
    subst (λ (s : StoreView). IsEntry s (view_of c.self.inside.log (after g at).volatile.objects (after g at).volatile.entries c.self.inside.identities c.self.inside.broken) c.args.due.now c.args.entry c.args.made) c.self.view_is (record {
      entered = done g at;
      laid = λ file laid. c.set_chosen.ensures.laid file (c.make_room.ensures.laid file laid);
      log = refl;
      counted = refl;
      flag = refl;
    })
