use Rattle.std.proofs.Common.{sym, subst, ℕ, ◌+◌, None, List, [], ◌∷◌, drop, slice_index}
use Rattle.std.specs.Prelude.{⊤}
use Rattle.std.proofs.lemmas.List.{drop_all}
use Rattle.op_codec.specs.AllOps.{page}
use Rattle.page_ops.specs.declared.page_op.PageOp.TheVariants.{Free}
use Rattle.range_calls.specs.ComesLaws.{comes_none, comes_passed, failed, ran, ran_on, ran_short}
use Rattle.range_calls.specs.JoinLaws.{nothing_reads}
use Rattle.range_calls.specs.ReadLaws.{passed}
use Rattle.range_calls.specs.Rounds.{Comes}
use Rattle.range_calls.specs.Store.{Command}
use Rattle.map_client.proofs.SweepLemmas.{finished, freed_so, frees, next_freed}
use Rattle.map_client.proofs.upkeep.free_all.Goals as goal

pub loop-object-init : goal.loop-object-init
loop-object-init g c = record { calls = c.nothing_is_made.ensures.calls c.requires.unbroken; whole = λ new after r comes. comes }

pub loop-object-preserved : goal.loop-object-preserved
loop-object-preserved g c =
    let inv = c.loop-object.invariant in
    let xs = c.args.objects.now in
    let i = c.loop-object.object-index in
    let view = g.S.Store.view in
    let disk = g.M.Machine.disk in
    record {
      calls = c.calls_go_on.ensures.calls c.args.machine.now c.loop-object.machine c.run.new.machine c.args.store.now c.loop-object.store c.run.new.store None inv.calls c.in_ok-run.ensures.makes.calls;
      whole = λ new after r rest.
          inv.whole new after r
          (subst (λ (ops : List Command). Comes view (disk c.loop-object.machine) (disk new) c.loop-object.store after (ran ops) r) (sym (next_freed xs i c.loop-object-test.true))
          (ran_on view disk c.calls_go_on.ensures c.loop-object.machine c.run.new.machine new c.loop-object.store c.run.new.store after (page (Free (slice_index xs i)) ∷ []) (frees (drop (i + 1) xs)) tt r (freed_so view (slice_index xs i) c.page_op.result finished c.page_op.ensures c.in_ok-run.ensures) rest));
    }

pub returns-in_err-run : goal.returns-in_err-run
returns-in_err-run g c =
    let xs = c.args.objects.now in
    let i = c.loop-object.object-index in
    let view = g.S.Store.view in
    let disk = g.M.Machine.disk in
    let e = c.in_err-run.field-0.0 in
    let r = c.from_residual.result in
    c.loop-object.invariant.whole c.run.new.machine c.run.new.store r
    (subst (λ (ops : List Command). Comes view (disk c.loop-object.machine) (disk c.run.new.machine) c.loop-object.store c.run.new.store (ran ops) r) (sym (next_freed xs i c.loop-object-test.true))
    (comes_passed view r e (passed r e c.from_residual.ensures.1) (ran_short view (page (Free (slice_index xs i)) ∷ []) (frees (drop (i + 1) xs)) e (freed_so view (slice_index xs i) c.page_op.result (failed ⊤ e) c.page_op.ensures c.in_err-run.ensures))))

pub returns : goal.returns
returns g c =
    let view = g.S.Store.view in
    let disk = g.M.Machine.disk in
    let here = c.loop-object.store in
    let inv = c.loop-object.invariant in
    inv.whole c.loop-object.machine here finished
    (subst (λ (xs : List ℕ). Comes view (disk c.loop-object.machine) (disk c.loop-object.machine) here here (ran (frees xs)) finished) (sym (drop_all c.loop-object.object-index c.args.objects.now c.loop-object-test.false))
    (comes_none view (disk c.loop-object.machine) here tt (nothing_reads view (disk c.loop-object.machine) here c.nothing_is_made-2.ensures.front (c.nothing_is_made-2.ensures.calls (inv.calls.unbroken (λ failed. failed))))))
