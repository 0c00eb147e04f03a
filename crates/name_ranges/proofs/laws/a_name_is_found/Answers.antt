use Rattle.std.proofs.Common.{◌∙◌, sym}
use Rattle.name_ranges.specs.Directory.{key_of}
use Rattle.name_ranges.proofs.Calls.{is_found, same_ok}
use Rattle.name_ranges.proofs.laws.a_name_is_found.Goals as goal

pub returns : goal.returns
returns c = λ b lo hi s names is name found small answer.
    is_found b lo hi s names is name found (same_ok (sym (c.a_get_finds_what_the_map_has.ensures lo hi s (key_of name) small is.kept.map) ∙ answer))
