use Rattle.std.proofs.Common.{◌≡◌, ◌∙◌, sym, refl, subst, ℕ, ◌<◌, true, true≢false, List, slice_index}
use Rattle.std.specs.Prelude.{IsSome}
use Rattle.std.proofs.lemmas.List.{take_all}
use Rattle.std.proofs.lemmas.List.Elements.{All-nil}
use Rattle.dirty_cache.specs.Contents.{Contents, held}
use Rattle.formats.specs.declared.params.Params.{Params}
use Rattle.store_engine.specs.Engine.{params_of}
use Rattle.transactions.specs.Snapshots.{AreKept}
use Rattle.transactions.proofs.Committed.{is_true}
use Rattle.transactions.proofs.Kept.{kept_next, not_done, old_twice, values_same, values_twice}
use Rattle.transactions.proofs.Reading.{holds_still, reads_none, reads_so, reads_twice}
use Rattle.transactions.proofs.keeping.keep_all.Goals as goal

pub loop-object-init : goal.loop-object-init
loop-object-init g c = record {
  unbroken = c.requires.unbroken;
  reads = reads_none g.O.Oper.meaning (g.M.Machine.disk c.args.machine.now) c.args.engine.now ⊥ (g.met.M.Machine.lawful c.args.machine.now) c.requires.unbroken (λ none. none);
  kept = All-nil (λ x. x < (params_of c.args.engine.now).objects → IsSome (held c.args.kept.now x));
  stands = λ are. refl;
  same = λ x some. refl;
  values = λ p commands holds. values_same g.O.Oper.meaning p commands c.args.kept.now c.args.kept.now (λ x. refl);
}

pub loop-object-preserved : goal.loop-object-preserved
loop-object-preserved g c =
    let disk = g.M.Machine.disk in
    let so_far = c.loop-object.invariant in
    let count = (params_of c.args.engine.now).objects in
    let done = is_true c.keep_one.result c.if-not-keep_one.false in
    let whole = c.keep_one.ensures.whole done in
    let here : slice_index c.args.objects.now c.loop-object.object-index < count → IsSome (held c.keep_one.new.kept (slice_index c.args.objects.now c.loop-object.object-index)) =
    subst (λ (p : Params). slice_index c.args.objects.now c.loop-object.object-index < p.objects → IsSome (held c.keep_one.new.kept (slice_index c.args.objects.now c.loop-object.object-index))) so_far.reads.params (c.keep_one.ensures.kept done) in
    record {
      unbroken = whole;
      reads = reads_twice g.O.Oper.meaning (disk c.args.machine.now) (disk c.loop-object.machine) (disk c.keep_one.new.machine) c.args.engine.now c.loop-object.engine c.keep_one.new.engine ⊥ so_far.reads
          (reads_so g.O.Oper.meaning (disk c.loop-object.machine) (disk c.keep_one.new.machine) c.loop-object.engine c.keep_one.new.engine (c.keep_one.new.engine.broken ≡ true) ⊥ (λ broken. true≢false (sym broken ∙ whole)) (λ none. absurd none) c.keep_one.ensures.reads);
      kept = kept_next count c.loop-object.kept c.keep_one.new.kept c.keep_one.ensures.same c.args.objects.now c.loop-object.object-index so_far.kept c.loop-object-test.true here;
      stands = λ are.
          let so = so_far.stands are in
          let one : slice_index c.args.objects.now c.loop-object.object-index < (params_of c.loop-object.engine).objects → IsSome (held c.loop-object.kept (slice_index c.args.objects.now c.loop-object.object-index)) =
          λ there. subst (λ (k : Contents). IsSome (held k (slice_index c.args.objects.now c.loop-object.object-index))) (sym so)
          (are c.loop-object.object-index 0 c.loop-object-test.true (subst (λ (p : Params). slice_index c.args.objects.now c.loop-object.object-index < p.objects) so_far.reads.params there)) in
          (c.keep_one.ensures.stands one).1 ∙ so;
      same = old_twice c.args.kept.now c.loop-object.kept c.keep_one.new.kept so_far.same c.keep_one.ensures.same;
      values = λ p commands holds.
          values_twice g.O.Oper.meaning p commands c.args.kept.now c.loop-object.kept c.keep_one.new.kept (so_far.values p commands holds) c.keep_one.ensures.same
          (c.keep_one.ensures.values p commands (holds_still g.O.Oper.meaning (disk c.args.machine.now) (disk c.loop-object.machine) c.args.engine.now c.loop-object.engine so_far.reads p commands holds));
    }

pub returns-then-not-keep_one-clause-reads : goal.returns-then-not-keep_one-clause-reads
returns-then-not-keep_one-clause-reads g c =
    let disk = g.M.Machine.disk in
    reads_twice g.O.Oper.meaning (disk c.args.machine.now) (disk c.loop-object.machine) (disk c.keep_one.new.machine) c.args.engine.now c.loop-object.engine c.keep_one.new.engine _ c.loop-object.invariant.reads c.keep_one.ensures.reads

pub returns-then-not-keep_one-clause-same : goal.returns-then-not-keep_one-clause-same
returns-then-not-keep_one-clause-same g c = old_twice c.args.kept.now c.loop-object.kept c.keep_one.new.kept c.loop-object.invariant.same c.keep_one.ensures.same

pub returns-then-not-keep_one-clause-values : goal.returns-then-not-keep_one-clause-values
returns-then-not-keep_one-clause-values g c = λ p commands holds.
    let disk = g.M.Machine.disk in
    let so_far = c.loop-object.invariant in
    values_twice g.O.Oper.meaning p commands c.args.kept.now c.loop-object.kept c.keep_one.new.kept (so_far.values p commands holds) c.keep_one.ensures.same
    (c.keep_one.ensures.values p commands (holds_still g.O.Oper.meaning (disk c.args.machine.now) (disk c.loop-object.machine) c.args.engine.now c.loop-object.engine so_far.reads p commands holds))

pub returns-then-not-keep_one-clause-stands : goal.returns-then-not-keep_one-clause-stands
returns-then-not-keep_one-clause-stands g c = λ are.
    let so_far = c.loop-object.invariant in
    let one : slice_index c.args.objects.now c.loop-object.object-index < (params_of c.loop-object.engine).objects → IsSome (held c.loop-object.kept (slice_index c.args.objects.now c.loop-object.object-index)) =
    λ there. subst (λ (k : Contents). IsSome (held k (slice_index c.args.objects.now c.loop-object.object-index))) (sym (so_far.stands are))
    (are c.loop-object.object-index 0 c.loop-object-test.true (subst (λ (p : Params). slice_index c.args.objects.now c.loop-object.object-index < p.objects) so_far.reads.params there)) in
    absurd (not_done c.keep_one.result c.if-not-keep_one.true (c.keep_one.ensures.stands one).0)

pub returns-clause-stands : goal.returns-clause-stands
returns-clause-stands g c = λ are. (refl, c.loop-object.invariant.stands are)

pub returns-clause-reads : goal.returns-clause-reads
returns-clause-reads g c =
    let disk = g.M.Machine.disk in
    reads_so g.O.Oper.meaning (disk c.args.machine.now) (disk c.loop-object.machine) c.args.engine.now c.loop-object.engine _ _ (λ failed. absurd failed) (λ broken. true≢false (sym broken ∙ c.loop-object.invariant.unbroken)) c.loop-object.invariant.reads

pub returns-clause-kept : goal.returns-clause-kept
returns-clause-kept g c = λ done.
    subst (λ (l : List ℕ). AreKept (params_of c.args.engine.now).objects c.loop-object.kept l) (take_all c.loop-object.object-index c.args.objects.now c.loop-object-test.false) c.loop-object.invariant.kept
