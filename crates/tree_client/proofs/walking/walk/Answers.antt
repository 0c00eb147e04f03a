use Rattle.std.proofs.Common.{◌≡◌, ◌≤◌, ◌<◌, refl, sym, ap, ◌∙◌, subst, ℕ, ◌-◌, None, Some, List, [], arith}
use Rattle.formats.specs.declared.params.Params.{Params}
use Rattle.logical_btree.specs.Below.{below_in}
use Rattle.logical_btree.specs.Walk as walks
use Rattle.tree_client.specs.Finding.{way_end}
use Rattle.range_calls.specs.Store.{Command, state_of}
use Rattle.range_calls.specs.JoinLaws.{nothing_reads}
use Rattle.range_calls.specs.ReadLaws.{answers_passed, makes_err, passed}
use Rattle.tree_client.proofs.WalkLemmas.{at_end, below_within, ends_here, goes_on_below, no_below, some_below, told_no_error}
use Rattle.tree_client.proofs.walking.walk.Goals as goal

pub loop-step-init : goal.loop-step-init
loop-step-init g c = record {
  reads = nothing_reads g.S.Store.view (g.M.Machine.disk c.args.machine.now) c.args.store.now c.nothing_is_made.ensures.front (c.nothing_is_made.ensures.calls c.requires.unbroken);
  within = λ p commands holds. subst (λ (x : ℕ). x ≤ c.args.tree.now.hi) (sym c.root-object.ensures) c.size-step-end.ensures.order;
  way = λ p commands holds.
      let s = state_of p commands in
      let lo = c.args.tree.now.lo in
      let hi = c.args.tree.now.hi in
      let all : walks.size lo hi ≡ walks.size lo hi - 0 = omega arith in
      ap (λ (x : ℕ). way_end None None (walks.walk_from lo hi s c.args.key (walks.size lo hi) x)) (sym c.root-object.ensures)
      ∙ ap (λ (n : ℕ). way_end None None (walks.walk_from lo hi s c.args.key n c.root-object.result)) all;
}

pub returns-in_err-found-clause-reads : goal.returns-in_err-found-clause-reads
returns-in_err-found-clause-reads g c =
    makes_err c.from_residual.result c.in_err-found.field-0.0 (passed c.from_residual.result c.in_err-found.field-0.0 c.from_residual.ensures.1)
    (c.reads_go_on.ensures.behind c.args.machine.now c.loop-step.machine c.below_of.new.machine c.args.store.now c.loop-step.store c.below_of.new.store (λ p commands. []) _ c.loop-step.invariant.reads c.in_err-found.ensures.reads)

pub returns-in_err-found-clause-answer : goal.returns-in_err-found-clause-answer
returns-in_err-found-clause-answer g c = λ p commands holds.
    let s = state_of p commands in
    let lo = c.args.tree.now.lo in
    let hi = c.args.tree.now.hi in
    let inv = c.loop-step.invariant in
    let fits = ap (λ (q : Params). q.objects) (g.S.Store.view.numbers p (g.M.Machine.disk c.args.machine.now) c.args.store.now commands holds) in
    let below : c.loop-step.object < p.objects = omega (arith, inv.within p commands holds, c.requires.there, fits) in
    answers_passed c.from_residual.result c.in_err-found.field-0.0 (way_end None None (walks.walk lo hi s c.args.key))
    (passed c.from_residual.result c.in_err-found.field-0.0 c.from_residual.ensures.1)
    (λ done. told_no_error c.in_err-found.field-0.0 (below_in c.args.key (walks.node_at lo hi s c.loop-step.object)) (way_end None None (walks.walk lo hi s c.args.key))
    (c.in_err-found.ensures.answer p commands (c.reads_go_on.ensures.holds p c.args.machine.now c.loop-step.machine c.args.store.now c.loop-step.store commands inv.reads holds) below done))

pub returns-in-None-clause-reads : goal.returns-in-None-clause-reads
returns-in-None-clause-reads g c =
    let seen = c.reads_go_on.ensures.behind c.args.machine.now c.loop-step.machine c.below_of.new.machine c.args.store.now c.loop-step.store c.below_of.new.store (λ p commands. []) None c.loop-step.invariant.reads c.in_ok-found.ensures.reads in
    c.reads_go_on.ensures.behind c.args.machine.now c.below_of.new.machine c.end_at.new.machine c.args.store.now c.below_of.new.store c.end_at.new.store (λ p commands. []) _ seen c.end_at.ensures.reads

pub returns-in-None-clause-answer : goal.returns-in-None-clause-answer
returns-in-None-clause-answer g c = λ p commands holds done.
    let s = state_of p commands in
    let lo = c.args.tree.now.lo in
    let hi = c.args.tree.now.hi in
    let inv = c.loop-step.invariant in
    let fits = ap (λ (q : Params). q.objects) (g.S.Store.view.numbers p (g.M.Machine.disk c.args.machine.now) c.args.store.now commands holds) in
    let below : c.loop-step.object < p.objects = omega (arith, inv.within p commands holds, c.requires.there, fits) in
    let turn : c.loop-step._step < walks.size lo hi = omega (arith, c.loop-step-test.true, c.size-step-end.ensures.value) in
    let met = c.reads_go_on.ensures.holds p c.args.machine.now c.loop-step.machine c.args.store.now c.loop-step.store commands inv.reads holds in
    let none : None ≡ below_in c.args.key (walks.node_at lo hi s c.loop-step.object) = no_below c.in_ok-found.found (below_in c.args.key (walks.node_at lo hi s c.loop-step.object)) (c.in_ok-found.ensures.answer p commands met below refl) c.in-None.is in
    c.end_at.ensures.answer p commands (c.reads_go_on.ensures.holds p c.loop-step.machine c.below_of.new.machine c.loop-step.store c.below_of.new.store commands c.in_ok-found.ensures.reads met) below done
    ∙ ends_here lo hi s c.args.key c.loop-step._step c.loop-step.object c.loop-step.full c.loop-step.parent turn none
    ∙ sym (inv.way p commands holds)

pub loop-step-preserved : goal.loop-step-preserved
loop-step-preserved g c =
    let lo = c.args.tree.now.lo in
    let hi = c.args.tree.now.hi in
    let inv = c.loop-step.invariant in
    let turn : c.loop-step._step < walks.size lo hi = omega (arith, c.loop-step-test.true, c.size-step-end.ensures.value) in
    let below : (p : Params) (commands : List Command) → g.S.Store.view.holds p (g.M.Machine.disk c.args.machine.now) c.args.store.now commands → c.loop-step.object < p.objects =
    λ p commands holds. let fits = ap (λ (q : Params). q.objects) (g.S.Store.view.numbers p (g.M.Machine.disk c.args.machine.now) c.args.store.now commands holds) in omega (arith, inv.within p commands holds, c.requires.there, fits) in
    let some : (p : Params) (commands : List Command) → g.S.Store.view.holds p (g.M.Machine.disk c.args.machine.now) c.args.store.now commands
    → Some c.in-Some.below ≡ below_in c.args.key (walks.node_at lo hi (state_of p commands) c.loop-step.object) =
    λ p commands holds.
    some_below c.in_ok-found.found c.in-Some.below (below_in c.args.key (walks.node_at lo hi (state_of p commands) c.loop-step.object)) (c.in_ok-found.ensures.answer p commands (c.reads_go_on.ensures.holds p c.args.machine.now c.loop-step.machine c.args.store.now c.loop-step.store commands inv.reads holds) (below p commands holds) refl) c.in-Some.is in
    record {
      reads = c.reads_go_on.ensures.behind c.args.machine.now c.loop-step.machine c.below_of.new.machine c.args.store.now c.loop-step.store c.below_of.new.store (λ p commands. []) None inv.reads c.in_ok-found.ensures.reads;
      within = λ p commands holds. below_within lo hi (state_of p commands) c.args.key c.loop-step.object c.in-Some.below (some p commands holds);
      way = λ p commands holds.
          inv.way p commands holds
          ∙ goes_on_below lo hi (state_of p commands) c.args.key c.loop-step._step c.loop-step.object c.loop-step.full c.loop-step.parent c.in-Some.below c.note_full-full.result turn (some p commands holds) c.note_full-full.ensures;
    }

pub returns-clause-answer : goal.returns-clause-answer
returns-clause-answer g c = λ p commands holds done.
    let lo = c.args.tree.now.lo in
    let hi = c.args.tree.now.hi in
    let inv = c.loop-step.invariant in
    let out : walks.size lo hi - c.loop-step._step ≡ 0 = omega (arith, c.loop-step-test.false, c.size-step-end.ensures.value) in
    sym (inv.way p commands holds ∙ at_end lo hi (state_of p commands) c.args.key (walks.size lo hi - c.loop-step._step) c.loop-step.object c.loop-step.full c.loop-step.parent out)
