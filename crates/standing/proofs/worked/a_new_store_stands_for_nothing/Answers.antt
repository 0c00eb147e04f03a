use Rattle.standing.specs.Worked.{small, new_files}
use Rattle.standing.proofs.WorkedNew.{new_whole, new_log}
use Rattle.standing.proofs.worked.a_new_store_stands_for_nothing.Goals as goal

pub returns : goal.returns
returns c = record {
  whole = (new_whole, new_log);
  shows = c.new_files_stand_for_nothing.ensures.shows small new_files new_whole new_log;
  stands = c.new_files_stand_for_nothing.ensures.stands small new_files new_whole new_log;
}
