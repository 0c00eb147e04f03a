use Rattle.page_map.proofs.MapLemmas.{get_is}
use Rattle.page_map.proofs.laws.a_get_finds_what_the_map_has.Goals as goal

pub returns : goal.returns
returns c = λ lo hi s key small is.
    let search = c.a_search_finds_the_place.ensures in
    get_is (record { opens = search.opens; under = search.under; cell = λ page i short inside. (search.cell page i short inside).0; beside = λ page i short inside. (search.cell page i short inside).2; got = search.got }) lo hi small s key is
