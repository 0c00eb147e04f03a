use Rattle.std.proofs.Common.{ap, sym, subst, ℕ, List, length, arith}
use Rattle.std.proofs.lemmas.List.{length-map}
use Rattle.install_order.specs.declared.entry.Entry.{Entry}
use Rattle.write_graph.specs.Heads.{Entries}
use Rattle.write_graph.specs.Places.{NeverFall, IsSlotOfLsn}
use Rattle.write_graph.proofs.Tabled.{lsns-seen}
use Rattle.write_graph.proofs.entry_table.Entries.slot_of.Goals as goal

pub slot_of-requires-clause-rising : goal.slot_of-requires-clause-rising
slot_of-requires-clause-rising c = subst (λ (ns : List ℕ). NeverFall ns) (sym (lsns-seen c.self.inside.lsns.items c.self.inside.heads.items c.self.inside.objects.items c.args.self.now.items c.as_slice.result.now c.self.invariant.count (ap (λ (v : Entries). v.items) c.self.view_is) c.as_slice.ensures.value)) c.requires.rising

pub slot_of-requires-clause-small : goal.slot_of-requires-clause-small
slot_of-requires-clause-small c = omega (arith, c.requires.small, ap length (lsns-seen c.self.inside.lsns.items c.self.inside.heads.items c.self.inside.objects.items c.args.self.now.items c.as_slice.result.now c.self.invariant.count (ap (λ (v : Entries). v.items) c.self.view_is) c.as_slice.ensures.value), length-map c.args.self.now.items (λ (e : Entry). e.lsn))

pub returns : goal.returns
returns c = subst (λ (ns : List ℕ). IsSlotOfLsn ns c.args.n c.slot_of.result) (lsns-seen c.self.inside.lsns.items c.self.inside.heads.items c.self.inside.objects.items c.args.self.now.items c.as_slice.result.now c.self.invariant.count (ap (λ (v : Entries). v.items) c.self.view_is) c.as_slice.ensures.value) c.slot_of.ensures
