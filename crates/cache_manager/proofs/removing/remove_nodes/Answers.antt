use Rattle.std.proofs.Common.{sym, subst, ℕ, ◌+◌, List, drop, slice_index}
use Rattle.std.proofs.lemmas.List.{drop_all}
use Rattle.running_store.specs.Calls.Laws.{failed_force, unbroken_after}
use Rattle.running_store.specs.Calls.{Never}
use Rattle.running_store.specs.Taking.{Ending}
use Rattle.running_store.specs.Taking.Ending.{Done, Failed}
use Rattle.cache_manager.specs.RoundNodes.{AreRemoved, NameMinimal}
use Rattle.cache_manager.proofs.Lists.{first_left}
use Rattle.cache_manager.proofs.Removal.Entries.{minimal_left, removed_failed, removed_next, removed_none}
use Rattle.cache_manager.proofs.removing.remove_nodes.Goals as goal

pub loop-n-init : goal.loop-n-init
loop-n-init g c = record { unbroken = c.requires.unbroken; minimal = c.requires.minimal; rest = λ new after ending is. is }

pub finish-requires-clause-unbroken : goal.finish-requires-clause-unbroken
finish-requires-clause-unbroken g c = c.loop-n.invariant.unbroken

pub finish-requires-clause-named : goal.finish-requires-clause-named
finish-requires-clause-named g c =
    (subst (λ (l : List ℕ). NameMinimal c.loop-n.store.parts.volatile.entries l) (first_left c.args.names.now c.loop-n.n-index c.loop-n-test.true) c.loop-n.invariant.minimal).0

pub loop-n-preserved : goal.loop-n-preserved
loop-n-preserved g c =
    let meaning = g.O.Oper.meaning in
    let disk = g.M.Machine.disk in
    let so_far = c.loop-n.invariant in
    let before = c.loop-n.store in
    let here = c.finish.new.self in
    let names = c.args.names.now in
    let i = c.loop-n.n-index in
    let n = slice_index names i in
    let more = drop (i + 1) names in
    let old = disk c.loop-n.machine in
    let mid = disk c.finish.new.machine in
    let split = first_left names i c.loop-n-test.true in
    let done = c.in_ok-finish.ensures in
    let minimal = subst (λ (l : List ℕ). NameMinimal before.parts.volatile.entries l) split so_far.minimal in
    record {
      unbroken = unbroken_after meaning old mid before here 0 Never done.call;
      minimal = minimal_left meaning old mid before here n more minimal done.beside done.steps done.call done.shows done.entries done.dirty;
      rest = λ new after ending later. so_far.rest new after ending (subst (λ (l : List ℕ). AreRemoved meaning old (disk new) before after l ending) (sym split)
          (removed_next meaning old mid before here n more minimal done.beside done.steps done.call done.shows done.entries done.dirty (disk new) after ending later));
    }

pub returns-in_err-finish : goal.returns-in_err-finish
returns-in_err-finish g c =
    let meaning = g.O.Oper.meaning in
    let disk = g.M.Machine.disk in
    let before = c.loop-n.store in
    let names = c.args.names.now in
    let i = c.loop-n.n-index in
    let split = first_left names i c.loop-n-test.true in
    let minimal = subst (λ (l : List ℕ). NameMinimal before.parts.volatile.entries l) split c.loop-n.invariant.minimal in
    let failed = c.in_err-finish.ensures in
    subst (λ (k : Ending). AreRemoved meaning (disk c.args.machine.now) (disk c.finish.new.machine) c.args.store.now c.finish.new.self names k) (failed_force _ c.from_residual.result c.from_residual.ensures.1)
    (c.loop-n.invariant.rest c.finish.new.machine c.finish.new.self Failed (subst (λ (l : List ℕ). AreRemoved meaning (disk c.loop-n.machine) (disk c.finish.new.machine) before c.finish.new.self l Failed) (sym split)
    (removed_failed meaning (disk c.loop-n.machine) (disk c.finish.new.machine) before c.finish.new.self (slice_index names i) (drop (i + 1) names) minimal failed.beside failed.steps failed.call)))

pub returns : goal.returns
returns g c =
    let meaning = g.O.Oper.meaning in
    let disk = g.M.Machine.disk in
    let here = c.loop-n.store in
    c.loop-n.invariant.rest c.loop-n.machine here Done
    (subst (λ (l : List ℕ). AreRemoved meaning (disk c.loop-n.machine) (disk c.loop-n.machine) here here l Done) (sym (drop_all c.loop-n.n-index c.args.names.now c.loop-n-test.false))
    (removed_none meaning (disk c.loop-n.machine) here (g.met.M.Machine.lawful c.loop-n.machine) c.loop-n.invariant.unbroken))
