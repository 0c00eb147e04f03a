use Rattle.std.proofs.Common.{◌≡◌, sym, subst, ℕ, List, take, arith}
use Rattle.std.specs.Prelude.{IsTrue, ◌↔◌, nat_eq, slice_index}
use Rattle.std.specs.List.{dedup}
use Rattle.std.proofs.lemmas.List.{take_all}
use Rattle.std.proofs.lemmas.List.Filters.{dedup_is}
use Rattle.oper_core.specs.State.{is_among}
use Rattle.write_graph.specs.Graph.{Lists}
use Rattle.write_graph.specs.Listing.{IsLsnOf}
use Rattle.write_graph.proofs.Held.{at-among}
use Rattle.write_graph.proofs.Loops.{get-index}
use Rattle.write_graph.proofs.Listed.{sorted-lists, lsns-on}
use Rattle.write_graph.proofs.listing.lsns_of.Goals as goal

pub lsn-requires : goal.lsn-requires
lsn-requires c = c.requires.below (slice_index c.args.slots.now c.loop-slot.slot-index) (at-among c.args.slots.now c.loop-slot.slot-index (omega (arith, c.loop-slot-test.true)))

pub loop-slot-preserved : goal.loop-slot-preserved
loop-slot-preserved c =
    let slot = slice_index c.args.slots.now c.loop-slot.slot-index in
    rw c.in_ok-push.ensures.items (
    lsns-on c.args.entries.now.items c.args.slots.now c.loop-slot.found.items c.loop-slot.slot-index slot _ (get-index c.args.slots.now c.loop-slot.slot-index (omega (arith, c.loop-slot-test.true))) c.lsn.ensures c.loop-slot.invariant)

pub returns : goal.returns
returns c =
    let all : take c.loop-slot.slot-index c.args.slots.now ≡ c.args.slots.now = take_all c.loop-slot.slot-index c.args.slots.now c.loop-slot-test.false in
    let has : (k : ℕ) → IsTrue (is_among k c.loop-slot.found.items) ↔ IsLsnOf c.args.entries.now.items c.args.slots.now k = λ k. subst (λ (xs : List ℕ). IsTrue (is_among k c.loop-slot.found.items) ↔ IsLsnOf c.args.entries.now.items xs k) all (c.loop-slot.invariant k) in
    let once : c.dedup.new.self.items ≡ dedup nat_eq c.sort.new.self.items = dedup_is nat_eq c.sort.new.self.items c.dedup.new.self.items c.dedup.ensures.filtered in
    subst (λ (xs : List ℕ). Lists (IsLsnOf c.args.entries.now.items c.args.slots.now) xs) (sym once) (sorted-lists (IsLsnOf c.args.entries.now.items c.args.slots.now) c.loop-slot.found.items c.sort.new.self.items has c.in_ok-sort.ensures.permutation c.in_ok-sort.ensures.sorted)
