-- No two families share a tag: each has a range of its own, and the ranges rise.
use Rattle.std.proofs.Common.{◌≡◌, ◌<◌, ℕ, Bool, true, false, refl, ◌∙◌, ap, arith}
use Rattle.std.specs.Prelude.{nat_le, ◌&&◌, ◌||◌}
use Rattle.std.proofs.lemmas.Bool.{and_parts, leb-true}
use Rattle.op_meaning.specs.Table.{is_plain_tag}
use Rattle.btree_ops.specs.Operation.{is_node_tag}
use Rattle.app_program.specs.Table.{is_program_tag}
use Rattle.hash_ops.specs.Operation.{is_hash_tag}
use Rattle.page_ops.specs.Operation.{is_page_tag}
use Rattle.op_codec.specs.Sum.{either_tag}

-- what is below a range is not in it
below_range : (from tag : ℕ) (rest : Bool) (starts : Bool) → nat_le from tag ≡ starts → tag < from → starts && rest ≡ false
below_range from tag rest true is below = absurd (omega (arith, leb-true from tag is, below))
below_range from tag rest false is below = refl

-- nor is what a range holds whose last number lies below it
apart : (first last from most tag : ℕ) → last < from → nat_le first tag && nat_le tag last ≡ true → nat_le from tag && nat_le tag most ≡ false
apart first last from most tag rises in_range =
    let high = leb-true tag last (and_parts (nat_le first tag) (nat_le tag last) in_range).1 in
    below_range from tag (nat_le tag most) (nat_le from tag) refl (omega (arith, high, rises))

-- where both families of a sum are apart, it is
neither : (a b : Bool) → a ≡ false → b ≡ false → a || b ≡ false
neither a b first second = ap (λ (x : Bool). x || b) first ∙ second

-- the tags of a family and of those behind it
abbrev from_hashes : ℕ → Bool
from_hashes = either_tag is_hash_tag is_page_tag

abbrev from_programs : ℕ → Bool
from_programs = either_tag is_program_tag from_hashes

pub pages_from_hashes : (tag : ℕ) → is_hash_tag tag ≡ true → is_page_tag tag ≡ false
pages_from_hashes tag is = apart 17 20 21 31 tag (omega arith) is

pub later_from_programs : (tag : ℕ) → is_program_tag tag ≡ true → from_hashes tag ≡ false
later_from_programs tag is = neither (is_hash_tag tag) (is_page_tag tag) (apart 14 16 17 20 tag (omega arith) is) (apart 14 16 21 31 tag (omega arith) is)

pub later_from_nodes : (tag : ℕ) → is_node_tag tag ≡ true → from_programs tag ≡ false
later_from_nodes tag is =
    neither (is_program_tag tag) (from_hashes tag) (apart 10 13 14 16 tag (omega arith) is)
    (neither (is_hash_tag tag) (is_page_tag tag) (apart 10 13 17 20 tag (omega arith) is) (apart 10 13 21 31 tag (omega arith) is))

pub others_from_plain : (tag : ℕ) → is_plain_tag tag ≡ true → either_tag is_node_tag from_programs tag ≡ false
others_from_plain tag is =
    neither (is_node_tag tag) (from_programs tag) (apart 1 9 10 13 tag (omega arith) is)
    (neither (is_program_tag tag) (from_hashes tag) (apart 1 9 14 16 tag (omega arith) is)
    (neither (is_hash_tag tag) (is_page_tag tag) (apart 1 9 17 20 tag (omega arith) is) (apart 1 9 21 31 tag (omega arith) is)))
