use Rattle.std.proofs.Common.{◌∙◌, refl, sym, ap, subst, true≢false, Option, Some}
use Rattle.std.specs.Prelude.{IfSome}
use Rattle.dirty_cache.specs.Contents.{Contents}
use Rattle.store_engine.specs.Engine.{params_of}
use Rattle.transactions.specs.Snapshots.{AreKept}
use Rattle.transactions.proofs.Committed.{is_true}
use Rattle.transactions.proofs.GoingOn.{given_up, keeps_in}
use Rattle.transactions.proofs.Kept.{keeps_more, not_done}
use Rattle.transactions.proofs.Reading.{reads_none}
use Rattle.transactions.proofs.snapshot.Snapshot.keep.Goals as goal

pub returns-in_default-clause-reads : goal.returns-in_default-clause-reads
returns-in_default-clause-reads g c = reads_none g.O.Oper.meaning (g.M.Machine.disk c.args.machine.now) c.args.engine.now _ (g.met.M.Machine.lawful c.args.machine.now) c.requires.unbroken (λ broken. true≢false (sym broken ∙ c.requires.unbroken))

pub returns-in_default-clause-snapshot : goal.returns-in_default-clause-snapshot
returns-in_default-clause-snapshot g c = λ p base commands holds it. given_up g.O.Oper.meaning p c.args.self.now (record c.args.self.now { kept = c.replace.new.dest }) base commands it refl c.replace.ensures.after

pub returns-then-not-keep_all-clause-snapshot : goal.returns-then-not-keep_all-clause-snapshot
returns-then-not-keep_all-clause-snapshot g c = λ p base commands holds it. given_up g.O.Oper.meaning p c.args.self.now (record c.args.self.now { kept = c.replace.new.dest }) base commands it refl c.replace.ensures.after

pub returns-then-not-keep_all-clause-stands : goal.returns-then-not-keep_all-clause-stands
returns-then-not-keep_all-clause-stands g c = λ all.
    absurd (not_done c.keep_all.result c.if-not-keep_all.true (c.keep_all.ensures.stands (subst (λ (o : Option Contents). IfSome o (λ kept. AreKept (params_of c.args.engine.now).objects kept c.args.objects.now)) (sym c.in-Some.ensures.value) all)).0)

pub returns-clause-stands : goal.returns-clause-stands
returns-clause-stands g c = λ all.
    let same = (c.keep_all.ensures.stands (subst (λ (o : Option Contents). IfSome o (λ kept. AreKept (params_of c.args.engine.now).objects kept c.args.objects.now)) (sym c.in-Some.ensures.value) all)).1 in
    ap (λ (o : Option Contents). record c.args.self.now { kept = o }) (ap (λ (k : Contents). Some k) same ∙ c.in-Some.ensures.value)

pub returns-clause-whole : goal.returns-clause-whole
returns-clause-whole g c = λ some. c.keep_all.ensures.whole (is_true c.keep_all.result c.if-not-keep_all.false)

pub returns-clause-kept : goal.returns-clause-kept
returns-clause-kept g c = c.keep_all.ensures.kept (is_true c.keep_all.result c.if-not-keep_all.false)

pub returns-clause-on : goal.returns-clause-on
returns-clause-on g c = (c.in-Some.kept, sym c.in-Some.ensures.value, c.keep_all.ensures.same)

pub returns-clause-snapshot : goal.returns-clause-snapshot
returns-clause-snapshot g c = λ p base commands holds it. record {
  begun = it.begun;
  keeps = keeps_more g.O.Oper.meaning p commands c.in-Some.kept c.keep_all.new.kept base c.keep_all.ensures.same (c.keep_all.ensures.values p commands holds) (keeps_in g.O.Oper.meaning p c.args.self.now c.in-Some.kept base commands (sym c.in-Some.ensures.value) it);
}
