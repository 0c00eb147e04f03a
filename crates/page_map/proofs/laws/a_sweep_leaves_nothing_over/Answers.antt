use Rattle.page_map.proofs.MapLemmas.{Searches}
use Rattle.page_map.proofs.CutLemmas.{ReadsCells}
use Rattle.page_map.proofs.ChangeLemmas.{Changes}
use Rattle.page_map.proofs.SweepLemmas.{sweep_is}
use Rattle.page_map.proofs.laws.a_sweep_leaves_nothing_over.Goals as goal

pub returns : goal.returns
returns c =
    let search = c.a_search_finds_the_place.ensures in
    let acts = c.operations_are_on_cells.ensures in
    let searches : Searches = record { opens = search.opens; under = search.under; cell = λ page i short inside. (search.cell page i short inside).0; beside = λ page i short inside. (search.cell page i short inside).2; got = search.got } in
    let changes : Changes = record {
      place = search.place;
      there = search.there;
      set = search.set;
      delete = search.delete;
      put_new = search.put;
      goes = search.goes;
      short = acts.short;
      check = acts.check;
      effect = acts.effect;
      empty_check = λ b x i key value. (acts.empty b x i key value).0;
      empty_effect = λ b x i key value. (acts.empty b x i key value).1;
    } in
    let reads : ReadsCells = λ page i short inside. ((search.cell page i short inside).1, (search.cell page i short inside).2) in
    λ b lo hi s small admits is. sweep_is searches changes reads b lo hi small admits s is
