-- Names as they are read from a directory, which has them in the order of their places.
use Rattle.std.specs.Prelude.{ℕ, true, List, map}
use Rattle.std.specs.FinMap.{from_entries, keys}
use Rattle.key_entries.specs.Entries.{byte_order}
use Rattle.page_ops.specs.Page.{Cell}
use Rattle.name_ranges.specs.Directory.{name_in}

-- texts in their order, each once
abbrev pub in_order : List (List ℕ) → List (List ℕ)
in_order texts = keys (from_entries {R = byte_order} (map (λ text. (text, true)) texts))

-- the names of pairs of a directory
abbrev pub names_read : List Cell → List (List ℕ)
names_read pairs = map (λ pair. name_in pair.0) pairs
