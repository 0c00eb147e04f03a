use Rattle.page_map.proofs.MapLemmas.{Searches}
use Rattle.page_map.proofs.ChangeLemmas.{Changes}
use Rattle.page_map.proofs.SetLemmas.{set_fills}
use Rattle.page_map.proofs.laws.whole_sets_leave_no_leaf_empty.Goals as goal

pub returns : goal.returns
returns c =
    let search = c.a_search_finds_the_place.ensures in
    let acts = c.operations_are_on_cells.ensures in
    let searches : Searches = record { opens = search.opens; under = search.under; cell = λ page i short inside. (search.cell page i short inside).0; beside = λ page i short inside. (search.cell page i short inside).2; got = search.got } in
    let changes : Changes = record {
      place = search.place;
      there = search.there;
      set = search.set;
      delete = search.delete;
      put_new = search.put;
      goes = search.goes;
      short = acts.short;
      check = acts.check;
      effect = acts.effect;
      empty_check = λ b x i key value. (acts.empty b x i key value).0;
      empty_effect = λ b x i key value. (acts.empty b x i key value).1;
    } in
    λ b lo hi s key value small admits is none done.
    set_fills searches changes (λ page i short inside. ((search.cell page i short inside).1, (search.cell page i short inside).2)) b lo hi small admits key value s is none done
