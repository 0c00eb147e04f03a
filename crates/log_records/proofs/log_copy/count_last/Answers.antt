use Rattle.std.proofs.Common.{◌∙◌, length, refl, ap, arith}
use Rattle.dirty_page_table.specs.declared.table.DirtyPageTable.{DirtyPageTable}
use Rattle.log_records.proofs.LogCopies.{last_none, last_some}
use Rattle.log_records.proofs.log_copy.count_last.Goals as goal

pub returns-then-so_far-gt0 : goal.returns-then-so_far-gt0
returns-then-so_far-gt0 g c b records is = last_none (g.O.Oper.meaning b) c.args.base records c.args.so_far.now is c.if-so_far-gt0.true

pub returns : goal.returns
returns g c b records is =
    let was = c.args.so_far.now in
    let none = c.new-2.ensures ∙ c.new.ensures.items in
    let table : DirtyPageTable = record { next = c.args.base; starts = c.new-2.result } in
    last_some (g.O.Oper.meaning b) c.args.base records was is (record { commands = was.commands; full = was.full; filled = c.checkpoint_length-so_far.result }) table (omega (arith, c.if-so_far-gt0.false)) (omega (arith, c.ranges.base))
    (λ i. record { next = c.args.base; starts = none i }) refl (omega (arith, c.checkpoint_length-so_far.ensures, ap length none))
