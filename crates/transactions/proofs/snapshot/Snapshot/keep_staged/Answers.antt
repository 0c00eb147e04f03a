use Rattle.std.proofs.Common.{◌≡◌, ◌∙◌, refl, sym, subst, List, false, true≢false}
use Rattle.std.proofs.lemmas.List.{take_all}
use Rattle.formats.specs.Objects.{bounds_of}
use Rattle.store_engine.specs.Engine.{params_of}
use Rattle.transactions.specs.Snapshots.{Covers}
use Rattle.transactions.specs.declared.snapshot.Snapshot.{Snapshot}
use Rattle.transactions.proofs.GoingOn.{covered_at, covers_broken, covers_next, covers_none, on_none, on_twice, one_covered}
use Rattle.transactions.proofs.Reading.{holds_still, reads_none, reads_so, reads_twice}
use Rattle.transactions.proofs.snapshot.Snapshot.keep_staged.Goals as goal

pub loop-op-init : goal.loop-op-init
loop-op-init g c = record {
  reads = reads_none g.O.Oper.meaning (g.M.Machine.disk c.args.machine.now) c.args.engine.now _ (g.met.M.Machine.lawful c.args.machine.now) c.requires.unbroken (λ broken. true≢false (sym broken ∙ c.requires.unbroken));
  whole = λ some. c.requires.unbroken;
  on = on_none c.args.self.now;
  stands = λ covers. refl;
  covers = covers_none g.O.Oper.meaning (params_of c.args.engine.now) c.args.self.now;
  snapshot = λ p base commands holds it. it;
}

pub loop-op-preserved : goal.loop-op-preserved
loop-op-preserved g c =
    let disk = g.M.Machine.disk in
    let so_far = c.loop-op.invariant in
    let q = params_of c.args.engine.now in
    let fine : c.loop-op.engine.broken ≡ false = sym c.is_broken.ensures ∙ c.if-is_broken.false in
    let reads = reads_so g.O.Oper.meaning (disk c.args.machine.now) (disk c.loop-op.machine) c.args.engine.now c.loop-op.engine _ ⊥ (λ broken. true≢false (sym broken ∙ fine)) (λ none. absurd none) so_far.reads in
    record {
      reads = reads_twice g.O.Oper.meaning (disk c.args.machine.now) (disk c.loop-op.machine) (disk c.keep.new.machine) c.args.engine.now c.loop-op.engine c.keep.new.engine _ reads c.keep.ensures.reads;
      whole = c.keep.ensures.whole;
      on = on_twice c.args.self.now c.loop-op.self c.keep.new.self so_far.on c.keep.ensures.on;
      stands = λ covers.
          c.keep.ensures.stands
          (covered_at g.O.Oper.meaning q (params_of c.loop-op.engine) so_far.reads.params c.loop-op.self c.args.transaction.now.ops.items c.loop-op.next c.in-Some.op.now c.as_slice.result.now (c.as_slice.ensures.value ∙ c.writes.ensures (bounds_of q)) c.in-Some.ensures.item.3.0
          c.in-Some.ensures.lookup (subst (λ (s : Snapshot). Covers g.O.Oper.meaning q s c.args.transaction.now.ops.items) (sym (so_far.stands covers)) covers))
          ∙ so_far.stands covers;
      covers = covers_next g.O.Oper.meaning q c.loop-op.self c.keep.new.self c.args.transaction.now.ops.items c.loop-op.next c.in-Some.op.now c.keep.ensures.on so_far.covers c.in-Some.ensures.item.3.0 c.in-Some.ensures.lookup
          (one_covered g.O.Oper.meaning q (params_of c.loop-op.engine) so_far.reads.params c.keep.new.self c.in-Some.op.now c.as_slice.result.now (c.as_slice.ensures.value ∙ c.writes.ensures (bounds_of q)) c.keep.ensures.kept);
      snapshot = λ p base commands holds it.
          c.keep.ensures.snapshot p base commands (holds_still g.O.Oper.meaning (disk c.args.machine.now) (disk c.loop-op.machine) c.args.engine.now c.loop-op.engine reads p commands holds) (so_far.snapshot p base commands holds it);
    }

pub returns-then-is_broken-clause-reads : goal.returns-then-is_broken-clause-reads
returns-then-is_broken-clause-reads g c = c.loop-op.invariant.reads

pub returns-then-is_broken-clause-covers : goal.returns-then-is_broken-clause-covers
returns-then-is_broken-clause-covers g c =
    covers_broken g.O.Oper.meaning (params_of c.args.engine.now) c.loop-op.self c.loop-op.engine.broken c.args.transaction.now.ops.items c.loop-op.invariant.whole (sym c.is_broken.ensures ∙ c.if-is_broken.true)

pub returns-then-is_broken-clause-snapshot : goal.returns-then-is_broken-clause-snapshot
returns-then-is_broken-clause-snapshot g c = c.loop-op.invariant.snapshot

pub returns-then-is_broken-clause-whole : goal.returns-then-is_broken-clause-whole
returns-then-is_broken-clause-whole g c = c.loop-op.invariant.whole

pub returns-then-is_broken-clause-on : goal.returns-then-is_broken-clause-on
returns-then-is_broken-clause-on g c = c.loop-op.invariant.on

pub returns-then-is_broken-clause-stands : goal.returns-then-is_broken-clause-stands
returns-then-is_broken-clause-stands g c = c.loop-op.invariant.stands

pub returns-clause-whole : goal.returns-clause-whole
returns-clause-whole g c = c.loop-op.invariant.whole

pub returns-clause-on : goal.returns-clause-on
returns-clause-on g c = c.loop-op.invariant.on

pub returns-clause-stands : goal.returns-clause-stands
returns-clause-stands g c = c.loop-op.invariant.stands

pub returns-clause-reads : goal.returns-clause-reads
returns-clause-reads g c = c.loop-op.invariant.reads

pub returns-clause-snapshot : goal.returns-clause-snapshot
returns-clause-snapshot g c = c.loop-op.invariant.snapshot

pub returns-clause-covers : goal.returns-clause-covers
returns-clause-covers g c =
    subst (λ (l : List _). Covers g.O.Oper.meaning (params_of c.args.engine.now) c.loop-op.self l) (take_all c.loop-op.next c.args.transaction.now.ops.items c.in_default.ensures.item.3) c.loop-op.invariant.covers
