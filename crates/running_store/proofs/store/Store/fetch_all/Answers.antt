use Rattle.std.proofs.Common.{◌≡◌, ◌∙◌, sym, subst, slice_index, All, IsSome}
use Rattle.std.proofs.lemmas.Result.{err_from_is_err_and}
use Rattle.stable_objects.specs.SlotsView.{SlotsView, lsn_in}
use Rattle.dirty_cache.specs.Contents.{held}
use Rattle.running_store.specs.Laid.{Laid}
use Rattle.running_store.proofs.FetchLemmas.{fetch_twice, handed_on, one_fails}
use Rattle.running_store.proofs.store.Store.fetch_all.Goals as goal

pub returns-in_err-fetch-clause-call : goal.returns-in_err-fetch-clause-call
returns-in_err-fetch-clause-call g c =
    let old = g.M.Machine.disk c.args.machine.now in
    let new = g.M.Machine.disk c.fetch.new.machine in
    handed_on old new c.args.self.now c.fetch.new.self c.from_residual.result _ c.from_residual.ensures.1
    (fetch_twice old (g.M.Machine.disk c.loop-object.machine) new c.args.self.now c.loop-object.self c.fetch.new.self _ c.loop-object.invariant.read c.in_err-fetch.ensures.call)

pub returns-in_err-fetch-clause-cause : goal.returns-in_err-fetch-clause-cause
returns-in_err-fetch-clause-cause g c =
    let so_far = c.loop-object.invariant.read.read in
    let e = err_from_is_err_and c.from_residual.result c.from_residual.ensures.1 in
    rw (e.1, e.2) (one_fails (g.M.Machine.disk c.args.machine.now) (g.M.Machine.disk c.loop-object.machine) (g.M.Machine.disk c.fetch.new.machine) c.args.self.now.parts.volatile.objects.slots c.loop-object.self.parts.volatile.objects.slots
    c.args.objects.now c.loop-object.object-index _ c.loop-object-test.true so_far.stays so_far.fetched.slots c.in_err-fetch.ensures.cause)

pub loop-object-preserved : goal.loop-object-preserved
loop-object-preserved g c =
    let so_far = c.loop-object.invariant in
    let i = c.loop-object.object-index in
    let objects = c.args.objects.now in
    record {
      read = fetch_twice (g.M.Machine.disk c.args.machine.now) (g.M.Machine.disk c.loop-object.machine) (g.M.Machine.disk c.fetch.new.machine) c.args.self.now c.loop-object.self c.fetch.new.self _ so_far.read c.in_ok-fetch.ensures.call;
      none = λ all.
          let none : lsn_in c.loop-object.self.parts.volatile.objects.slots (slice_index objects i) ≡ 0 = subst (λ (s : SlotsView). lsn_in s (slice_index objects i) ≡ 0) (sym so_far.read.read.fetched.slots) (all i 0 c.loop-object-test.true) in
          (c.fetch.ensures.none none).0 ∙ so_far.none all;
    }

pub returns-clause-held : goal.returns-clause-held
returns-clause-held g c = λ all. subst (λ (l : Laid). All (λ x. IsSome (held l.cache x)) c.args.objects.now) c.objects-2.ensures (c.holds_all.ensures all)
