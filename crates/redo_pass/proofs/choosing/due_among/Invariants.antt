use Rattle.std.proofs.Common.{◌≡◌, ◌≤◌, ◌&&◌, ℕ, length, take}
use Rattle.std.specs.Prelude.{nat_lt, nat_le}
use Rattle.oper_core.specs.State.{is_among}
use Rattle.dirty_page_table.specs.RedoStarts.{redo_from}
use Rattle.running_store.specs.Laid.{object_lsn}
use Rattle.redo_pass.proofs.choosing.due_among.Given as goal

abbrev pub invariant-loop-x : goal.invariant-loop-x
invariant-loop-x l = record {
  few : length l.due ≤ l.x-index;
  among : (x : ℕ) → is_among x l.due ≡ (is_among x (take l.x-index l.writes) && (nat_lt (object_lsn l.objects x) l.lsn && nat_le (redo_from l.plan.table x) l.lsn));
}
