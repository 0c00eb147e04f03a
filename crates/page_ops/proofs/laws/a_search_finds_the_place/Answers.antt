use Rattle.page_ops.proofs.CellLemmas.{cell_at_is}
use Rattle.page_ops.proofs.PartLemmas.{page_opens}
use Rattle.page_ops.proofs.SearchLemmas.{seek_is, stands_is, got_is, under_is, set_at, delete_at, put_at, may_stand_at}
use Rattle.page_ops.proofs.laws.a_search_finds_the_place.Goals as goal

pub returns : goal.returns
returns c = record {
  place = seek_is;
  there = stands_is;
  cell = λ page i short inside. cell_at_is page.level page.cells short i inside;
  opens = λ page short. page_opens page.level page.cells short;
  got = got_is;
  under = under_is;
  set = λ key value cells rise is. set_at key value cells rise is;
  delete = delete_at;
  put = λ key value cells rise is. put_at key value cells rise is;
  goes = may_stand_at;
}
