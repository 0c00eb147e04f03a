use Rattle.std.proofs.Common.{◌∙◌, ap, ℕ, ◌&&◌, List, arith}
use Rattle.std.specs.Prelude.{nat_lt, nat_le}
use Rattle.std.proofs.lemmas.List.{take_all}
use Rattle.oper_core.specs.State.{is_among}
use Rattle.dirty_page_table.specs.RedoStarts.{redo_from}
use Rattle.running_store.specs.Laid.{object_lsn}
use Rattle.redo_pass.proofs.Dues.{due_next}
use Rattle.redo_pass.proofs.choosing.due_among.Goals as goal

pub loop-x-preserved : goal.loop-x-preserved
loop-x-preserved c =
    let so_far = c.loop-x.invariant in
    record {
      few = omega (arith, so_far.few, c.push_due.ensures.count);
      among = due_next (λ x. nat_lt (object_lsn c.args.objects.now x) c.args.lsn && nat_le (redo_from c.args.plan.now.table x) c.args.lsn) c.args.writes.now c.loop-x.x-index
          (λ x. is_among x c.loop-x.due) (λ x. is_among x c.push_due.new.due) c.loop-x-test.true so_far.among c.push_due.ensures.among;
    }

pub returns : goal.returns
returns c = λ x.
    c.loop-x.invariant.among x
    ∙ ap (λ (l : List ℕ). is_among x l && (nat_lt (object_lsn c.args.objects.now x) c.args.lsn && nat_le (redo_from c.args.plan.now.table x) c.args.lsn)) (take_all c.loop-x.x-index c.args.writes.now c.loop-x-test.false)
