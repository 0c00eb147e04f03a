use Rattle.std.proofs.Common.{◌∙◌, ap, arith, codes, refl, sym, true≢false, option_map}
use Rattle.std.proofs.lemmas.Slice.Eq.{bytes_eq-Decides}
use Rattle.std.specs.FinMap.{empty, get-empty}
use Rattle.key_entries.specs.Entries.{byte_order}
use Rattle.name_ranges.specs.Directory.{key_of, number_in}
use Rattle.name_ranges.proofs.Directories.{object_given, object_given_other}
use Rattle.name_ranges.proofs.Sample.{given_spare}
use Rattle.name_ranges.proofs.worked.directories_are_as_worked.Goals as goal

pub returns : goal.returns
returns c = record {
  there = object_given empty (codes "a") 5 (omega arith);
  missing = object_given_other empty (codes "a") 5 (codes "b") (λ same. true≢false (sym ((bytes_eq-Decides (codes "b") (codes "a")).1 same)))
      ∙ ap (option_map number_in) (get-empty byte_order (key_of (codes "b")));
  spare = given_spare;
  shortest = refl;
  longest = refl;
}
