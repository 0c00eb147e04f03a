use Rattle.std.proofs.Common.{subst, ℕ, List, ◌<◌, ◌≤◌, length, arith}
use Rattle.std.specs.Prelude.{slice_index}
use Rattle.write_graph.proofs.Lowered.{lowering-none, lowering-on, lowering-all}
use Rattle.write_graph.proofs.lowering.lower_last.Goals as goal

pub loop-slot-init : goal.loop-slot-init
loop-slot-init c = lowering-none c.args.n c.slot_after-from.result c.args.lsns.now.items (subst (λ (ns : List ℕ). (i : ℕ) → i < c.slot_after-from.result → slice_index ns i ≤ c.args.n) c.as_slice.ensures.value c.slot_after-from.ensures.before)

pub loop-slot-preserved : goal.loop-slot-preserved
loop-slot-preserved c =
    let old = c.args.lsns.now.items in
    let low : c.loop-slot.slot < length old = omega (arith, c.loop-slot-test.true, c.len-slot-end.ensures, c.args.lsns.now.ok.0) in
    let after = subst (λ (ns : List ℕ). (i : ℕ) → c.slot_after-from.result ≤ i → i < length ns → c.args.n < slice_index ns i) c.as_slice.ensures.value c.slot_after-from.ensures.after in
    lowering-on c.args.n c.loop-slot.slot old c.loop-slot.lsns.items c.loop-slot.invariant low (after c.loop-slot.slot c.loop-slot.auto.slot low)

pub returns-clause-lowered : goal.returns-clause-lowered
returns-clause-lowered c = lowering-all c.args.n c.loop-slot.slot c.args.lsns.now.items c.loop-slot.lsns.items c.loop-slot.invariant (omega (arith, c.loop-slot-test.false, c.len-slot-end.ensures, c.args.lsns.now.ok.0))
