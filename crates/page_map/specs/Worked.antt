-- Pairs of 380 bytes with the place of their cell, which is as many as a pair may have in a page of 1,024 bytes.
use Rattle.std.specs.Prelude.{ℕ, List, [], ◌∷◌, replicate}
use Rattle.page_ops.specs.Page.{Cell}

abbrev pub key_of : ℕ → List ℕ
key_of b = replicate 120 b

abbrev pub value : List ℕ
value = replicate 256 0

abbrev pub two : List Cell
two = (key_of 2, value) ∷ (key_of 3, value) ∷ []
