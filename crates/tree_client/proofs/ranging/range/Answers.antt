use Rattle.std.proofs.Common.{◌≡◌, ◌≤◌, ◌<◌, refl, sym, ap, ◌∙◌, subst, ℕ, List, [], Err, None, arith}
use Rattle.formats.specs.Objects.{bounds_of}
use Rattle.formats.specs.declared.params.Params.{Params}
use Rattle.logical_btree.specs.Plan.{range_answer}
use Rattle.logical_btree.specs.Walk.{scan, scan_from, size}
use Rattle.running_store.specs.Taking.Ending.{Done}
use Rattle.store_engine.specs.Lists.{ending_of}
use Rattle.tree_client.specs.Answers.{cause_of, told}
use Rattle.tree_client.specs.Scanning.{AreWithin, span}
use Rattle.range_calls.specs.Store.{state_of}
use Rattle.tree_client.specs.declared.part.Part.{Part}
use Rattle.tree_client.specs.Answers.{TreeErr}
use Rattle.tree_client.proofs.PlanLemmas.{is_within}
use Rattle.range_calls.specs.ReadLaws.{adds_passed, calls_passed, passed, refused_passed}
use Rattle.tree_client.proofs.ScanLemmas.{begins_scan, less_left, none_left, range_bad, range_found, scan_goes_on, scan_is_bad}
use Rattle.tree_client.proofs.ranging.range.Goals as goal

pub returns-in_err-meet-clause-adds : goal.returns-in_err-meet-clause-adds
returns-in_err-meet-clause-adds g c = λ p commands holds.
    adds_passed g.S.Store.view c.from_residual.result c.in_err-meet.field-0.0 (passed c.from_residual.result c.in_err-meet.field-0.0 c.from_residual.ensures.1) (c.in_err-meet.ensures.reads.adds p commands holds [] (λ done. refl))

pub returns-in_err-meet-clause-refused : goal.returns-in_err-meet-clause-refused
returns-in_err-meet-clause-refused g c = λ p commands holds.
    let s = state_of p commands in
    let lo = c.args.tree.now.lo in
    let hi = c.args.tree.now.hi in
    let fits = ap (λ (q : Params). q.objects) (c.params.ensures.value ∙ (g.S.Store.view.numbers p (g.M.Machine.disk c.args.machine.now) c.args.store.now commands holds)) in
    let order : lo ≤ hi = omega (arith, c.last-last.ensures.order, c.last-last.ensures.value) in
    let there = is_within (bounds_of p) lo hi order (omega (arith, c.if-last-params.false, c.last-last.ensures.value, fits)) in
    let below : c.root.result < p.objects = omega (arith, c.root.ensures, order, c.if-last-params.false, c.last-last.ensures.value, fits) in
    refused_passed c.from_residual.result c.in_err-meet.field-0.0 (λ (e : TreeErr). ending_of (cause_of e) ≡ Done → told (range_answer (bounds_of p) lo hi s c.args.from.now c.args.to.now) ≡ Err e)
    (passed c.from_residual.result c.in_err-meet.field-0.0 c.from_residual.ensures.1)
    (λ done.
    let bad = c.in_err-meet.ensures.bad p commands holds below done in
    let whole : scan lo hi s (span c.args.from.now c.args.to.now) ≡ scan_from lo hi s c.size.result (span c.args.from.now c.args.to.now) c.root.result =
    sym (ap (λ (n : ℕ). scan_from lo hi s n (span c.args.from.now c.args.to.now) c.root.result) c.size.ensures.value ∙ ap (λ (x : ℕ). scan_from lo hi s (size lo hi) (span c.args.from.now c.args.to.now) x) c.root.ensures) in
    range_bad (bounds_of p) lo hi s c.args.from.now c.args.to.now there c.in_err-meet.field-0.0 (bad.0, whole ∙ bad.1, bad.2))

pub loop-part-init : goal.loop-part-init
loop-part-init g c = record {
  reads = c.in_ok-meet.ensures.reads;
  same = λ p commands holds.
      let s = state_of p commands in
      let lo = c.args.tree.now.lo in
      let hi = c.args.tree.now.hi in
      let fits = ap (λ (q : Params). q.objects) (c.params.ensures.value ∙ (g.S.Store.view.numbers p (g.M.Machine.disk c.args.machine.now) c.args.store.now commands holds)) in
      let order : lo ≤ hi = omega (arith, c.last-last.ensures.order, c.last-last.ensures.value) in
      let below : c.root.result < p.objects = omega (arith, c.root.ensures, order, c.if-last-params.false, c.last-last.ensures.value, fits) in
      let whole : scan lo hi s (span c.args.from.now c.args.to.now) ≡ scan_from lo hi s c.size.result (span c.args.from.now c.args.to.now) c.root.result =
      sym (ap (λ (n : ℕ). scan_from lo hi s n (span c.args.from.now c.args.to.now) c.root.result) c.size.ensures.value ∙ ap (λ (x : ℕ). scan_from lo hi s (size lo hi) (span c.args.from.now c.args.to.now) x) c.root.ensures) in
      begins_scan (bounds_of p) lo hi s c.args.from.now c.args.to.now (scan_from lo hi s c.size.result (span c.args.from.now c.args.to.now) c.root.result) c.new-parts.result.items c.meet.new.scan.parts.items c.new-pairs.result.items c.meet.new.scan.pairs.items
      c.new-parts.ensures.items c.new-pairs.ensures.items whole (c.in_ok-meet.ensures.ok p commands holds below (subst (λ (l : List Part). AreWithin lo hi l) (sym c.new-parts.ensures.items) refl));
  within = λ p commands holds.
      let lo = c.args.tree.now.lo in
      let hi = c.args.tree.now.hi in
      let fits = ap (λ (q : Params). q.objects) (c.params.ensures.value ∙ (g.S.Store.view.numbers p (g.M.Machine.disk c.args.machine.now) c.args.store.now commands holds)) in
      let order : lo ≤ hi = omega (arith, c.last-last.ensures.order, c.last-last.ensures.value) in
      let below : c.root.result < p.objects = omega (arith, c.root.ensures, order, c.if-last-params.false, c.last-last.ensures.value, fits) in
      let goes = c.in_ok-meet.ensures.ok p commands holds below (subst (λ (l : List Part). AreWithin lo hi l) (sym c.new-parts.ensures.items) refl) in
      goes.within;
}

pub loop-part-smaller : goal.loop-part-smaller
loop-part-smaller g c = less_left c.loop-part.scan.parts.items c.pop.new.self.items c.meet_part.new.scan.parts.items c.in-Some.part c.in-Some.ensures.items c.in_ok-meet_part.ensures.lighter

pub loop-part-preserved : goal.loop-part-preserved
loop-part-preserved g c = let inv = c.loop-part.invariant in record {
  reads = c.reads_go_on.ensures.behind c.args.machine.now c.loop-part.machine c.meet_part.new.machine c.args.store.now c.loop-part.store c.meet_part.new.store (λ p commands. []) None inv.reads c.in_ok-meet_part.ensures.reads;
  same = λ p commands holds.
      let lo = c.args.tree.now.lo in
      let hi = c.args.tree.now.hi in
      let within = subst (λ (l : List Part). AreWithin lo hi l) c.in-Some.ensures.items (inv.within p commands holds) in
      scan_goes_on (bounds_of p) lo hi (state_of p commands) c.args.from.now c.args.to.now c.in-Some.part c.loop-part.scan.parts.items c.pop.new.self.items c.meet_part.new.scan.parts.items c.loop-part.scan.pairs.items c.meet_part.new.scan.pairs.items
      c.in-Some.ensures.items (inv.same p commands holds) (c.in_ok-meet_part.ensures.ok p commands (c.reads_go_on.ensures.holds p c.args.machine.now c.loop-part.machine c.args.store.now c.loop-part.store commands inv.reads holds) within);
  within = λ p commands holds.
      let lo = c.args.tree.now.lo in
      let hi = c.args.tree.now.hi in
      let within = subst (λ (l : List Part). AreWithin lo hi l) c.in-Some.ensures.items (inv.within p commands holds) in
      let goes = c.in_ok-meet_part.ensures.ok p commands (c.reads_go_on.ensures.holds p c.args.machine.now c.loop-part.machine c.args.store.now c.loop-part.store commands inv.reads holds) within in
      goes.within;
}

pub returns-in_err-meet_part-clause-calls : goal.returns-in_err-meet_part-clause-calls
returns-in_err-meet_part-clause-calls g c =
    let reads = c.reads_go_on.ensures.behind c.args.machine.now c.loop-part.machine c.meet_part.new.machine c.args.store.now c.loop-part.store c.meet_part.new.store (λ p commands. []) (cause_of c.in_err-meet_part.field-0.0) c.loop-part.invariant.reads c.in_err-meet_part.ensures.reads in
    calls_passed g.S.Store.view c.from_residual-in_err-meet_part.result c.in_err-meet_part.field-0.0 (passed c.from_residual-in_err-meet_part.result c.in_err-meet_part.field-0.0 c.from_residual-in_err-meet_part.ensures.1) reads.calls

pub returns-in_err-meet_part-clause-adds : goal.returns-in_err-meet_part-clause-adds
returns-in_err-meet_part-clause-adds g c = λ p commands holds.
    let reads = c.reads_go_on.ensures.behind c.args.machine.now c.loop-part.machine c.meet_part.new.machine c.args.store.now c.loop-part.store c.meet_part.new.store (λ p commands. []) (cause_of c.in_err-meet_part.field-0.0) c.loop-part.invariant.reads c.in_err-meet_part.ensures.reads in
    adds_passed g.S.Store.view c.from_residual-in_err-meet_part.result c.in_err-meet_part.field-0.0 (passed c.from_residual-in_err-meet_part.result c.in_err-meet_part.field-0.0 c.from_residual-in_err-meet_part.ensures.1) (reads.adds p commands holds [] (λ done. refl))

pub returns-in_err-meet_part-clause-refused : goal.returns-in_err-meet_part-clause-refused
returns-in_err-meet_part-clause-refused g c = λ p commands holds.
    let s = state_of p commands in
    let lo = c.args.tree.now.lo in
    let hi = c.args.tree.now.hi in
    let inv = c.loop-part.invariant in
    let fits = ap (λ (q : Params). q.objects) (c.params.ensures.value ∙ (g.S.Store.view.numbers p (g.M.Machine.disk c.args.machine.now) c.args.store.now commands holds)) in
    let order : lo ≤ hi = omega (arith, c.last-last.ensures.order, c.last-last.ensures.value) in
    let there = is_within (bounds_of p) lo hi order (omega (arith, c.if-last-params.false, c.last-last.ensures.value, fits)) in
    let within = subst (λ (l : List Part). AreWithin lo hi l) c.in-Some.ensures.items (inv.within p commands holds) in
    refused_passed c.from_residual-in_err-meet_part.result c.in_err-meet_part.field-0.0 (λ (e : TreeErr). ending_of (cause_of e) ≡ Done → told (range_answer (bounds_of p) lo hi s c.args.from.now c.args.to.now) ≡ Err e)
    (passed c.from_residual-in_err-meet_part.result c.in_err-meet_part.field-0.0 c.from_residual-in_err-meet_part.ensures.1)
    (λ done. range_bad (bounds_of p) lo hi s c.args.from.now c.args.to.now there c.in_err-meet_part.field-0.0
    (scan_is_bad (bounds_of p) lo hi s c.args.from.now c.args.to.now c.in-Some.part c.loop-part.scan.parts.items c.pop.new.self.items c.loop-part.scan.pairs.items c.in_err-meet_part.field-0.0 c.in-Some.ensures.items (inv.same p commands holds)
    (c.in_err-meet_part.ensures.bad p commands (c.reads_go_on.ensures.holds p c.args.machine.now c.loop-part.machine c.args.store.now c.loop-part.store commands inv.reads holds) within done)))

pub returns-clause-calls : goal.returns-clause-calls
returns-clause-calls g c = c.loop-part.invariant.reads.calls

pub returns-clause-adds : goal.returns-clause-adds
returns-clause-adds g c = λ p commands holds. c.loop-part.invariant.reads.adds p commands holds [] (λ done. refl)

pub returns-clause-pairs : goal.returns-clause-pairs
returns-clause-pairs g c = λ p commands holds.
    let lo = c.args.tree.now.lo in
    let hi = c.args.tree.now.hi in
    let fits = ap (λ (q : Params). q.objects) (c.params.ensures.value ∙ (g.S.Store.view.numbers p (g.M.Machine.disk c.args.machine.now) c.args.store.now commands holds)) in
    let order : lo ≤ hi = omega (arith, c.last-last.ensures.order, c.last-last.ensures.value) in
    let there = is_within (bounds_of p) lo hi order (omega (arith, c.if-last-params.false, c.last-last.ensures.value, fits)) in
    range_found (bounds_of p) lo hi (state_of p commands) c.args.from.now c.args.to.now there c.loop-part.scan.pairs.items c.loop-part.scan.parts.items (none_left c.loop-part.scan.parts.items (sym c.loop-part.scan.parts.ok.0 ∙ c.in_default.ensures.cases.0)) (c.loop-part.invariant.same p commands holds)
