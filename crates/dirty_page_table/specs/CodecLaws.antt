-- No table's code is the beginning of another's, and how long a code is.
use Rattle.std.proofs.Common.{◌≡◌, ℕ, ◌+◌, ◌*◌, List, [], ◌∷◌, ◌++◌, length, refl, sym, ◌∙◌, arith, append_assoc}
use Rattle.std.specs.Prelude.{All}
use Rattle.std.specs.List.{flat_map}
use Rattle.std.proofs.lemmas.List.Elements.{All-tail}
use Rattle.byteorder.specs.Endian.{little_bytes}
use Rattle.oper_core.specs.LittleEndian.{little_bytes-split}
use Rattle.dirty_page_table.specs.declared.table.DirtyPageTable.{DirtyPageTable}
use Rattle.dirty_page_table.specs.Codec.{start_code, table_code, FitsStart, StartsWithTable}

-- the first pair's numbers, each beside the rest
first_start : (s : ℕ × ℕ) (starts : List (ℕ × ℕ)) (rest : List ℕ)
    → flat_map start_code (s ∷ starts) ++ rest ≡ little_bytes 4 s.0 ++ (little_bytes 8 s.1 ++ (flat_map start_code starts ++ rest))
first_start s starts rest = simp append_assoc

-- the fields of a table, each beside the rest
pub table_fields : (table : DirtyPageTable) (rest : List ℕ)
    → table_code table ++ rest ≡ little_bytes 8 table.next ++ (little_bytes 4 (length table.starts) ++ (flat_map start_code table.starts ++ rest))
table_fields table rest = simp append_assoc

-- bytes begin with the codes of at most one list of so many pairs
same_starts : (first second : List (ℕ × ℕ)) (rest more : List ℕ) → All FitsStart first → All FitsStart second → length first ≡ length second
    → flat_map start_code first ++ rest ≡ flat_map start_code second ++ more → first ≡ second
same_starts [] [] rest more fits fit number same = refl
same_starts [] (t ∷ second) rest more fits fit number same = absurd (omega arith)
same_starts (s ∷ first) [] rest more fits fit number same = absurd (omega arith)
same_starts (s ∷ first) (t ∷ second) rest more fits fit number same =
    let one = fits 0 s (omega arith) in
    let other = fit 0 t (omega arith) in
    let fields = sym (first_start s first rest) ∙ same ∙ first_start t second more in
    let objects = little_bytes-split 4 s.0 t.0 _ _ (omega arith) (omega arith) fields in
    let numbers = little_bytes-split 8 s.1 t.1 _ _ (omega arith) (omega arith) objects.1 in
    let others = same_starts first second rest more (All-tail FitsStart s first fits) (All-tail FitsStart t second fit) (omega arith) numbers.1 in
    λ i. (objects.0 i, numbers.0 i) ∷ others i

-- bytes begin with the code of at most one table
pub same_table : (first second : DirtyPageTable) (bytes : List ℕ) → StartsWithTable bytes first → StartsWithTable bytes second → first ≡ second
same_table first second bytes one two =
    let a = one.in_grammar in
    let b = two.in_grammar in
    let next = a.next in
    let next' = b.next in
    let few = a.few in
    let few' = b.few in
    let fields = sym (table_fields first one.rest) ∙ sym one.split ∙ two.split ∙ table_fields second two.rest in
    let nexts = little_bytes-split 8 first.next second.next _ _ (omega arith) (omega arith) fields in
    let counts = little_bytes-split 4 (length first.starts) (length second.starts) _ _ (omega arith) (omega arith) nexts.1 in
    let starts = same_starts first.starts second.starts one.rest two.rest a.starts b.starts counts.0 counts.1 in
    λ i. record { next = nexts.0 i; starts = starts i }

-- each pair has twelve bytes
pub length-starts : (starts : List (ℕ × ℕ)) → length (flat_map start_code starts) ≡ 12 * length starts
length-starts [] = refl
length-starts (s ∷ starts) = omega (arith, length-starts starts)

-- a table has twelve bytes, and twelve for each pair
pub length-table_code : (table : DirtyPageTable) → length (table_code table) ≡ 12 + 12 * length table.starts
length-table_code table = omega (arith, length-starts table.starts)
