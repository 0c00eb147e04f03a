use Rattle.std.proofs.Common.{◌≡◌, ◌<◌, ◌∙◌, refl, ap, arith}
use Rattle.disk_model.specs.Moments.{stays_twice}
use Rattle.formats.specs.declared.params.Params.{Params}
use Rattle.shell_base.specs.Store.{state_of}
use Rattle.shell_base.specs.StopLaws.{passed_whole}
use Rattle.store_words.proofs.DumpLemmas.{rows_more, whole_table}
use Rattle.store_words.proofs.dumping.table.Goals as goal

pub loop-object-preserved : goal.loop-object-preserved
loop-object-preserved g c = let inv = c.loop-object.invariant in record {
  kept = stays_twice _ _ _ inv.kept c.push_object.ensures.kept;
  unbroken = c.in_ok-push_object.ensures.unbroken;
  attached = λ attached. c.in_ok-push_object.ensures.attached (inv.attached attached);
  holds = λ p commands holds. c.in_ok-push_object.ensures.holds p commands (inv.holds p commands holds);
  rows = λ p commands holds.
      let all = ap (λ (q : Params). q.objects) (c.params-object-end.ensures.value ∙ holds.shows.shows.store.params) in
      let below : c.loop-object.object < p.objects = omega (arith, c.loop-object-test.true, all) in
      rows_more (state_of p commands) c.loop-object.object c.loop-object.table.items c.push_object.new.table.items (inv.rows p commands holds)
      (c.in_ok-push_object.ensures.row p commands (inv.holds p commands holds) below);
}

pub returns-clause-rows : goal.returns-clause-rows
returns-clause-rows g c = λ p commands holds.
    let inv = c.loop-object.invariant in
    let here = inv.holds p commands holds in
    let all = ap (λ (q : Params). q.objects) (c.params-object-end.ensures.value ∙ holds.shows.shows.store.params) in
    let whole : c.loop-object.object ≡ p.objects = omega (arith, c.loop-object-test.false, c.loop-object.auto.object-end, all) in
    whole_table p commands c.loop-object.object c.accepted.result c.loop-object.table.items _ c.push_count.new.table.items whole (c.accepted.ensures ∙ here.says.accepted) (inv.rows p commands holds) refl c.in_ok-push_count.ensures

pub returns-in_err-push_object-clause-undamaged : goal.returns-in_err-push_object-clause-undamaged
returns-in_err-push_object-clause-undamaged g c = λ told attached.
    let inv = c.loop-object.invariant in
    passed_whole c.from_residual.result c.push_object.result _ c.from_residual.ensures.1 c.in_err-push_object.was (c.push_object.ensures.undamaged (inv.kept.time.files_told.0 told) (inv.attached attached))
