use Rattle.std.proofs.Common.{◌≡◌, ◌<◌, ◌≤◌, ◌+◌, ◌∙◌, All, ap, sym, subst, length, map, take, slice_index, ℕ, List, [], ◌∷◌, length-append}
use Rattle.std.proofs.lemmas.List.{take_all}
use Rattle.std.proofs.lemmas.List.Elements.{All-push}
use Rattle.std.proofs.lemmas.Result.{err_from_is_err_and}
use Rattle.disk_model.specs.declared.machine.FileNo.TheVariants.{Objects}
use Rattle.formats.specs.declared.read_err.ReadErr.TheVariants.{Memory}
use Rattle.stable_objects.specs.SlotsView.{SlotsView, lsn_in}
use Rattle.running_store.specs.Laid.{Laid, values_in}
use Rattle.running_store.proofs.FetchLemmas.{fetch_twice, handed_on, one_fails, values_next}
use Rattle.running_store.proofs.store.Store.values_of.Goals as goal

pub returns-in_err-fetch-clause-call : goal.returns-in_err-fetch-clause-call
returns-in_err-fetch-clause-call g c =
    let old = g.M.Machine.disk c.args.machine.now in
    let new = g.M.Machine.disk c.fetch.new.machine in
    handed_on old new c.args.self.now c.fetch.new.self c.from_residual.result _ c.from_residual.ensures.1
    (fetch_twice old (g.M.Machine.disk c.loop-object.machine) new c.args.self.now c.loop-object.self c.fetch.new.self _ c.loop-object.invariant.read c.in_err-fetch.ensures.call)

pub returns-in_err-push-clause-call : goal.returns-in_err-push-clause-call
returns-in_err-push-clause-call g c =
    let old = g.M.Machine.disk c.args.machine.now in
    let new = g.M.Machine.disk c.fetch.new.machine in
    handed_on old new c.args.self.now c.fetch.new.self c.from_residual-in_err-push.result Memory c.from_residual-in_err-push.ensures.1
    (fetch_twice old (g.M.Machine.disk c.loop-object.machine) new c.args.self.now c.loop-object.self c.fetch.new.self _ c.loop-object.invariant.read c.in_ok-fetch.ensures.call)

pub returns-clause-values : goal.returns-clause-values
returns-clause-values g c = λ told laid.
    let whole : take c.loop-object.object-index c.args.objects.now ≡ c.args.objects.now = take_all c.loop-object.object-index c.args.objects.now c.loop-object-test.false in
    c.loop-object.invariant.values told laid ∙ ap (map (values_in c.args.self.now.parts.volatile.objects ((g.M.Machine.disk c.args.machine.now).reads Objects))) whole

pub returns-in_err-fetch-clause-cause : goal.returns-in_err-fetch-clause-cause
returns-in_err-fetch-clause-cause g c =
    let so_far = c.loop-object.invariant.read.read in
    let e = err_from_is_err_and c.from_residual.result c.from_residual.ensures.1 in
    rw (e.1, e.2) (one_fails (g.M.Machine.disk c.args.machine.now) (g.M.Machine.disk c.loop-object.machine) (g.M.Machine.disk c.fetch.new.machine) c.args.self.now.parts.volatile.objects.slots c.loop-object.self.parts.volatile.objects.slots
    c.args.objects.now c.loop-object.object-index _ c.loop-object-test.true so_far.stays so_far.fetched.slots c.in_err-fetch.ensures.cause)

pub loop-object-preserved : goal.loop-object-preserved
loop-object-preserved g c =
    let so_far = c.loop-object.invariant in
    let old = g.M.Machine.disk c.args.machine.now in
    let i = c.loop-object.object-index in
    let objects = c.args.objects.now in
    let before = c.args.self.now.parts.volatile.objects in
    let after = c.fetch.new.self.parts.volatile.objects in
    let below : slice_index objects i < before.slots.params.objects = c.requires.below i 0 c.loop-object-test.true in
    let read = fetch_twice old (g.M.Machine.disk c.loop-object.machine) (g.M.Machine.disk c.fetch.new.machine) c.args.self.now c.loop-object.self c.fetch.new.self _ so_far.read c.in_ok-fetch.ensures.call in
    let short : length c.value.result.now ≤ before.slots.params.cap = subst (λ (s : SlotsView). length c.value.result.now ≤ s.params.cap) (ap (λ (l : Laid). l.slots) c.objects.ensures ∙ read.read.fetched.slots) c.value.ensures.short in
    let value = c.value.ensures.value (old.reads Objects) ∙ ap (λ (l : Laid). values_in l (old.reads Objects) (slice_index objects i)) c.objects.ensures in
    record {
      read = read;
      count = ap length c.in_ok-push.ensures.ok ∙ length-append c.loop-object.values (c.value.result.now ∷ []) ∙ ap (λ (n : ℕ). n + 1) so_far.count;
      short = subst (λ (l : List (List ℕ)). All (λ v. length v ≤ before.slots.params.cap) l) (sym c.in_ok-push.ensures.ok) (All-push (λ v. length v ≤ before.slots.params.cap) c.loop-object.values c.value.result.now so_far.short short);
      values = λ told laid. c.in_ok-push.ensures.ok ∙ values_next (old.reads Objects) before after objects c.loop-object.values c.value.result.now i c.loop-object-test.true below
          (so_far.values told laid) value (read.read.cells told laid).0;
      none = λ all.
          let none : lsn_in c.loop-object.self.parts.volatile.objects.slots (slice_index objects i) ≡ 0 = subst (λ (s : SlotsView). lsn_in s (slice_index objects i) ≡ 0) (sym so_far.read.read.fetched.slots) (all i 0 c.loop-object-test.true) in
          (c.fetch.ensures.none none).0 ∙ so_far.none all;
    }
