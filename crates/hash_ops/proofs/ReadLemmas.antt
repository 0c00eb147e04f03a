-- What the bytes of a directory are read as.
use Rattle.std.proofs.Common.{◌≡◌, ◌≤◌, ℕ, ◌*◌, ◌^◌, ◌==◌, ◌&&◌, Some, None, List, [], ◌∷◌, length, drop, slice_index_or, sym, ap, ◌∙◌, arith}
use Rattle.std.specs.Prelude.{IsTrue, nat_le}
use Rattle.std.proofs.lemmas.Bool.{le-leb}
use Rattle.key_entries.specs.EntryLaws.{true_both, if_true}
use Rattle.hash_ops.specs.BlockLaws.{is_same}
use Rattle.hash_ops.specs.Blocks.{directory, directory_in, numbers_in}

-- bytes that meet the tests are a directory
pub directory_read : (bytes items : List ℕ) → 2 ≤ length bytes → slice_index_or bytes 0 0 ≡ 3 → slice_index_or bytes 1 0 ≤ 6 → length (drop 2 bytes) ≡ 4 * 2 ^ slice_index_or bytes 1 0
    → items ≡ numbers_in (drop 2 bytes) → Some (directory (slice_index_or bytes 1 0) items) ≡ directory_in bytes
directory_read [] items long three shallow size is = absurd (omega (arith, long))
directory_read (kind ∷ []) items long three shallow size is = absurd (omega (arith, long))
directory_read (kind ∷ depth ∷ body) items long three shallow size is =
    let tests : IsTrue (kind == 3 && (nat_le depth 6 && length body == 4 * 2 ^ depth)) =
    true_both (kind == 3) (nat_le depth 6 && length body == 4 * 2 ^ depth) (is_same kind 3 three)
    (true_both (nat_le depth 6) (length body == 4 * 2 ^ depth) (le-leb depth 6 shallow) (is_same (length body) (4 * 2 ^ depth) size)) in
    ap (λ (l : List ℕ). Some (directory depth l)) is ∙ sym (if_true (kind == 3 && (nat_le depth 6 && length body == 4 * 2 ^ depth)) (Some (directory depth (numbers_in body))) None tests)
