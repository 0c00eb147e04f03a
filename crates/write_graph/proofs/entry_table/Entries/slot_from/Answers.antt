use Rattle.std.proofs.Common.{ap, sym, subst, ℕ, List, ◌<◌, ◌≤◌, length, arith}
use Rattle.std.specs.Prelude.{slice_index}
use Rattle.std.proofs.lemmas.List.{length-map}
use Rattle.install_order.specs.declared.entry.Entry.{Entry}
use Rattle.write_graph.specs.Heads.{Entries}
use Rattle.write_graph.specs.Places.{NeverFall}
use Rattle.write_graph.proofs.Tabled.{lsns-seen}
use Rattle.write_graph.proofs.entry_table.Entries.slot_from.Goals as goal

pub slot_from-requires-clause-rising : goal.slot_from-requires-clause-rising
slot_from-requires-clause-rising c = subst (λ (ns : List ℕ). NeverFall ns) (sym (lsns-seen c.self.inside.lsns.items c.self.inside.heads.items c.self.inside.objects.items c.args.self.now.items c.as_slice.result.now c.self.invariant.count (ap (λ (v : Entries). v.items) c.self.view_is) c.as_slice.ensures.value)) c.requires.rising

pub slot_from-requires-clause-small : goal.slot_from-requires-clause-small
slot_from-requires-clause-small c = omega (arith, c.requires.small, ap length (lsns-seen c.self.inside.lsns.items c.self.inside.heads.items c.self.inside.objects.items c.args.self.now.items c.as_slice.result.now c.self.invariant.count (ap (λ (v : Entries). v.items) c.self.view_is) c.as_slice.ensures.value), length-map c.args.self.now.items (λ (e : Entry). e.lsn))

pub returns-clause-below : goal.returns-clause-below
returns-clause-below c = omega (arith, c.slot_from.ensures.below, ap length (lsns-seen c.self.inside.lsns.items c.self.inside.heads.items c.self.inside.objects.items c.args.self.now.items c.as_slice.result.now c.self.invariant.count (ap (λ (v : Entries). v.items) c.self.view_is) c.as_slice.ensures.value), length-map c.args.self.now.items (λ (e : Entry). e.lsn))

pub returns-clause-before : goal.returns-clause-before
returns-clause-before c = subst (λ (ns : List ℕ). (i : ℕ) → i < c.slot_from.result → slice_index ns i < c.args.n) (lsns-seen c.self.inside.lsns.items c.self.inside.heads.items c.self.inside.objects.items c.args.self.now.items c.as_slice.result.now c.self.invariant.count (ap (λ (v : Entries). v.items) c.self.view_is) c.as_slice.ensures.value) c.slot_from.ensures.before

pub returns-clause-after : goal.returns-clause-after
returns-clause-after c i le lt = subst (λ (ns : List ℕ). c.args.n ≤ slice_index ns i) (lsns-seen c.self.inside.lsns.items c.self.inside.heads.items c.self.inside.objects.items c.args.self.now.items c.as_slice.result.now c.self.invariant.count (ap (λ (v : Entries). v.items) c.self.view_is) c.as_slice.ensures.value) (c.slot_from.ensures.after i le (omega (arith, lt, ap length (lsns-seen c.self.inside.lsns.items c.self.inside.heads.items c.self.inside.objects.items c.args.self.now.items c.as_slice.result.now c.self.invariant.count (ap (λ (v : Entries). v.items) c.self.view_is) c.as_slice.ensures.value), length-map c.args.self.now.items (λ (e : Entry). e.lsn))))
