use Rattle.page_map.proofs.CheckLemmas.{check_complete, check_sound}
use Rattle.page_map.proofs.laws.a_check_finds_a_map.Goals as goal

pub returns : goal.returns
returns c =
    let search = c.a_search_finds_the_place.ensures in
    record {
      sound = check_sound;
      complete = λ range s small is. check_complete (λ page i short inside. ((search.cell page i short inside).1, (search.cell page i short inside).2)) range small s is;
    }
