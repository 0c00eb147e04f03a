use Rattle.std.proofs.Common.{◌∙◌, ap, sym, subst, ℕ, List, ◌≤◌, ◌^◌, length, map, min, arith}
use Rattle.std.proofs.lemmas.List.{length-map}
use Rattle.write_graph.specs.Graph.{lsns}
use Rattle.write_graph.specs.Heads.{Entries, entries_of}
use Rattle.write_graph.specs.Lowered.{lowered}
use Rattle.write_graph.specs.Places.{NeverFall}
use Rattle.write_graph.proofs.Tabled.{length-kept, lsns-kept, kept-lowered, heads-lowered}
use Rattle.write_graph.proofs.entry_table.Entries.lower.Goals as goal

pub lower_last-requires-clause-rising : goal.lower_last-requires-clause-rising
lower_last-requires-clause-rising c = subst (λ (ns : List ℕ). NeverFall ns) (lsns-kept c.self.inside.lsns.items c.self.inside.heads.items c.self.inside.objects.items c.self.invariant.count) (subst (λ (v : Entries). NeverFall (lsns v.items)) (sym c.self.view_is) c.requires.rising)

pub lower_last-requires-clause-small : goal.lower_last-requires-clause-small
lower_last-requires-clause-small c =
    let small = subst (λ (v : Entries). length v.items ≤ 2 ^ 28) (sym c.self.view_is) c.requires.small in
    omega (arith, small, length-kept c.self.inside.lsns.items c.self.inside.heads.items c.self.inside.objects.items c.self.invariant.count)

pub invariant_of-self : goal.invariant_of-self
invariant_of-self c = heads-lowered c.self.inside.lsns.items c.lower_last.new.lsns.items c.self.inside.heads.items c.self.inside.objects.items (ap length c.lower_last.ensures.lowered ∙ length-map c.self.inside.lsns.items (λ k. min k c.args.n)) c.self.invariant

pub returns-clause-lowered : goal.returns-clause-lowered
returns-clause-lowered c = ap (λ (ns : List ℕ). entries_of ns c.self.inside.heads.items c.self.inside.objects.items) c.lower_last.ensures.lowered ∙ kept-lowered c.args.n c.self.inside.lsns.items c.self.inside.heads.items c.self.inside.objects.items ∙ ap (λ (v : Entries). map (lowered c.args.n) v.items) c.self.view_is
