-- Small pages.
use Rattle.std.specs.Prelude.{ℕ, List, [], ◌∷◌}
use Rattle.page_ops.specs.Page.{Cell, page_of}

abbrev pub leaf_of : List Cell → List ℕ
leaf_of = page_of 0

abbrev pub inner_of : List Cell → List ℕ
inner_of = page_of 1

abbrev pub a : Cell
a = (1 ∷ [], 11 ∷ 12 ∷ [])

abbrev pub b : Cell
b = (2 ∷ 9 ∷ [], [])

abbrev pub c : Cell
c = (3 ∷ [], 31 ∷ [])

abbrev pub d : Cell
d = (7 ∷ 7 ∷ [], 71 ∷ 72 ∷ 73 ∷ [])

abbrev pub child : List ℕ → ℕ → Cell
child key object = (key, object ∷ 0 ∷ 0 ∷ 0 ∷ [])
