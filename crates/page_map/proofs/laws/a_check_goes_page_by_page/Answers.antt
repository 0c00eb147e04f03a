use Rattle.page_map.proofs.CheckLemmas.{is_bad, is_done, is_next}
use Rattle.page_map.proofs.laws.a_check_goes_page_by_page.Goals as goal

pub returns : goal.returns
returns c = record {
  met = is_next;
  bad = is_bad;
  done = is_done;
}
