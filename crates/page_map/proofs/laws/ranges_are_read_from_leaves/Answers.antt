use Rattle.page_map.proofs.MapLemmas.{Searches}
use Rattle.page_map.proofs.CutLemmas.{ReadsCells}
use Rattle.page_map.proofs.RangeLemmas.{back_read, count_read, range_read}
use Rattle.page_map.proofs.laws.ranges_are_read_from_leaves.Goals as goal

pub returns : goal.returns
returns c =
    let search = c.a_search_finds_the_place.ensures in
    let searches : Searches = record { opens = search.opens; under = search.under; cell = λ page i short inside. (search.cell page i short inside).0; beside = λ page i short inside. (search.cell page i short inside).2; got = search.got } in
    let reads : ReadsCells = λ page i short inside. ((search.cell page i short inside).1, (search.cell page i short inside).2) in
    record {
      range = λ lo hi s span most small is. range_read searches search.place reads lo hi small s is span most;
      back = λ lo hi s span most small is. back_read searches search.place reads lo hi small s is span most;
      count = λ lo hi s span small is. count_read searches search.place reads lo hi small s is span;
    }
