-- Where a redo starts for each object.
use Rattle.std.specs.Prelude.{◌==◌, ◌≤◌, ℕ, Bool, IsTrue, if◌then◌else◌, List, [], ◌∷◌, All, map}
use Rattle.oper_core.specs.State.{is_among}
use Rattle.dirty_page_table.specs.declared.table.DirtyPageTable.{DirtyPageTable}

-- the number beside x, of several the first, or the other number where x has none
abbrev pub start_or : ℕ → List (ℕ × ℕ) → ℕ → ℕ
start_or other [] x = other
start_or other (s ∷ starts) x = if x == s.0 then s.1 else start_or other starts x

-- the number from which a redo applies what is written to x
abbrev pub redo_from : DirtyPageTable → ℕ → ℕ
redo_from table x = start_or table.next table.starts x

-- the objects are those that some operation writes, and beside each stands the least number of such an operation;
-- writes n x says that the operation n is not installed and writes x
pub record AreLeastWriters (writes : ℕ → ℕ → Bool) (starts : List (ℕ × ℕ)) : Type 0 where
  pub every : (n x : ℕ) → IsTrue (writes n x) → IsTrue (is_among x (map (λ s. s.0) starts))
  pub writer : All (λ s. IsTrue (writes s.1 s.0)) starts
  pub least : All (λ s. (n : ℕ) → IsTrue (writes n s.0) → s.1 ≤ n) starts
