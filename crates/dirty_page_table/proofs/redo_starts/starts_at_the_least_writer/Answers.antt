use Rattle.dirty_page_table.proofs.Starting.{start_or-least, start_or-writes, start_or-unwritten}
use Rattle.dirty_page_table.proofs.redo_starts.starts_at_the_least_writer.Goals as goal

pub returns-clause-skips_nothing : goal.returns-clause-skips_nothing
returns-clause-skips_nothing c writes table are n x wrote =
    start_or-least writes table.next table.starts n x (are.every n x wrote) are.least wrote

pub returns-clause-written : goal.returns-clause-written
returns-clause-written c writes table are n x wrote =
    start_or-writes writes table.next table.starts x (are.every n x wrote) are.writer

pub returns-clause-unwritten : goal.returns-clause-unwritten
returns-clause-unwritten c writes table are x none = start_or-unwritten writes table.next table.starts x none are.writer
