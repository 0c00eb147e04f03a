-- The small store of the worked rows.
use Rattle.std.proofs.Common.{◌≡◌, ◌≤◌, ◌<◌, ◌+◌, inl, inr, refl, sym, ap, ◌∙◌, arith, codes, ℕ, ◌==◌, Bool, true, false, if◌then◌else◌, None, List, [], ◌∷◌, length, option_map}
use Rattle.std.specs.FinMap.{empty, get, get-empty}
use Rattle.key_entries.specs.Entries.{byte_order}
use Rattle.key_entries.specs.EntryLaws.{same_some}
use Rattle.page_map.specs.Map.{IsMap}
use Rattle.page_map.specs.Sets.{IsKept}
use Rattle.name_ranges.specs.Directory.{IsDirectory, IsSpare, key_of, number_bytes, number_in, object_of}
use Rattle.name_ranges.specs.Named.{IsNamed}
use Rattle.name_ranges.specs.Worked.{bounds, of_a, only_a, sample}
use Rattle.name_ranges.proofs.Directories.{directory_given, given_here, given_other, object_given, object_given_other, tells}
use Rattle.name_ranges.proofs.Naming.{are_named}

no_object : (name : List ℕ) → object_of empty name ≡ None
no_object name = ap (option_map number_in) (get-empty byte_order (key_of name))

empty_directory : IsDirectory 3 100 empty
empty_directory = record {
  whole = λ key number found. cc (sym (get-empty byte_order key) ∙ found);
  apart = λ name other x found. cc (sym (no_object name) ∙ found);
  within = λ name x found. cc (sym (no_object name) ∙ found);
}

all_spare : (x : ℕ) → 3 < x → x < 100 → IsSpare 3 100 empty x
all_spare x behind before = record { behind = behind; before = before; nameless = λ name found. cc (sym (no_object name) ∙ found) }

is_of_a : IsDirectory 3 100 of_a
is_of_a = directory_given empty (codes "a") 5 (omega arith) 3 100 empty_directory (all_spare 5 (omega arith) (omega arith))

pub given_spare : IsSpare 3 100 of_a 6
given_spare = record {
  behind = omega arith;
  before = omega arith;
  nameless = λ name found. elim (tells name (codes "a")) [
    | inl here ↦ absurd (omega (arith, same_some 5 6 (sym (ap (object_of of_a) here ∙ object_given empty (codes "a") 5 (omega arith)) ∙ found)))
    | inr apart ↦ cc (sym (object_given_other empty (codes "a") 5 name apart ∙ no_object name) ∙ found)
  ];
}

short_values : (x : ℕ) → length (sample x) ≤ 1024
short_values x = by_tests (x == 0) (x == 5)
  where
    by_tests : (first fifth : Bool) → length (if first then sample 0 else if fifth then codes "10" else []) ≤ 1024
    by_tests true fifth = omega arith
    by_tests false true = omega arith
    by_tests false false = omega arith

one_at_most : (t : Bool) → (if t then 1 else 0) + 0 ≤ 1
one_at_most true = omega arith
one_at_most false = omega arith

sample_map : IsMap 0 3 sample
sample_map = record {
  order = omega arith;
  level = 0;
  tree = record { object = 0; cells = (key_of (codes "a"), number_bytes 5) ∷ []; past = [] };
  root = refl;
  holds = record { code = refl; short = omega arith; rise = tt };
  stand = (refl, refl);
  once = λ x. one_at_most (0 == x);
}

pub sample_is_named : IsNamed bounds 0 3 sample only_a
unfolding sample_map
sample_is_named =
    let kept : IsKept bounds 0 3 sample = record { map = sample_map; short = refl; values_fit = short_values } in
    (are_named bounds 0 3 sample only_a of_a kept refl is_of_a
    (λ name. elim (tells name (codes "a")) [
      | inl here ↦
          ap (get only_a) here ∙ given_here empty (codes "a") (codes "10")
          ∙ sym (ap (λ n. option_map sample (object_of of_a n)) here ∙ ap (option_map sample) (object_given empty (codes "a") 5 (omega arith)))
      | inr apart ↦
          given_other empty (codes "a") name (codes "10") apart ∙ get-empty byte_order name
          ∙ sym (ap (option_map sample) (object_given_other empty (codes "a") 5 name apart ∙ no_object name))
    ])).named
