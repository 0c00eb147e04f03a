use Rattle.name_ranges.specs.Directory.{key_of}
use Rattle.name_ranges.proofs.Putting.{before, puts, still_spare}
use Rattle.name_ranges.proofs.Untouched.{below_all}
use Rattle.name_ranges.proofs.laws.a_name_is_given_a_value.Goals as goal

pub returns : goal.returns
returns c = λ b lo hi s names is name bytes spare writing has writes.
    puts b lo hi s names is name bytes spare writing writes
    (λ none.
    c.a_name_is_given_an_object.ensures b lo hi _ names (before b lo hi s names is name bytes spare writing writes none).named name spare has
    (still_spare b lo hi s names is name bytes spare writing writes none))
    (c.a_get_finds_what_the_map_has.ensures lo hi s (key_of name) (below_all b hi has) is.kept.map)
