-- The least of a table's next LSN and its redo starts is where the redo of a world with that table starts.
use Rattle.std.proofs.Common.{◌≡◌, ℕ, zero, suc, ◌<◌, ◌≤◌, List, [], ◌∷◌, get_or, map, ap, inl, inr, arith}
use Rattle.std.specs.Prelude.{All}
use Rattle.std.specs.List.Sorted.{IsStrictlyIncreasing}
use Rattle.std.proofs.Math.Nat.{min-le_left, min-le_right, le-min}
use Rattle.std.proofs.lemmas.Bool.{cases_eq}
use Rattle.std.proofs.lemmas.Bool.Decides.{eqb_tells}
use Rattle.std.proofs.lemmas.List.Elements.{All-head, All-tail}
use Rattle.std.proofs.lemmas.List.{get_or_default}
use Rattle.dirty_page_table.specs.RedoStarts.{start_or, redo_from}
use Rattle.dirty_page_table.specs.declared.table.DirtyPageTable.{DirtyPageTable}
use Rattle.explain_core.specs.World.{least_of, start_of}
use Rattle.analysis_pass.specs.Analysis.{least_start}
use Rattle.analysis_pass.proofs.Objects.{start_at}

-- it is no later than the next LSN, nor than the start of any object
least_start-next : (next : ℕ) (starts : List (ℕ × ℕ)) → least_start next starts ≤ next
least_start-next next [] = omega arith
least_start-next next (s ∷ starts) = omega (arith, min-le_right s.1 (least_start next starts), least_start-next next starts)

least_start-each : (next : ℕ) (starts : List (ℕ × ℕ)) (x : ℕ) → least_start next starts ≤ start_or next starts x
least_start-each next [] x = omega arith
least_start-each next (s ∷ starts) x = elim (eqb_tells x s.0) [
  | inl same ↦ rw same.0 (min-le_left s.1 (least_start next starts))
  | inr apart ↦ rw apart.0 (omega (arith, min-le_right s.1 (least_start next starts), least_start-each next starts x))
]

-- what is no later than these is no later than it
least_start-bound : (k next : ℕ) (starts : List (ℕ × ℕ)) → k ≤ next → All (λ s. k ≤ s.1) starts → k ≤ least_start next starts
least_start-bound k next [] le all = le
least_start-bound k next (s ∷ starts) le all =
    le-min (All-head (λ (s : ℕ × ℕ). k ≤ s.1) s starts all) (least_start-bound k next starts le (All-tail (λ (s : ℕ × ℕ). k ≤ s.1) s starts all))

-- the same three of the least of a function's values
least_of-one : (f : ℕ → ℕ) (n one : ℕ) → least_of f n one ≤ one
least_of-one f zero one = omega arith
least_of-one f (suc n) one = omega (arith, min-le_right (f n) (least_of f n one), least_of-one f n one)

least_of-at : (f : ℕ → ℕ) (n one x : ℕ) → x < n → least_of f n one ≤ f x
least_of-at f zero one x less = absurd (omega (arith, less))
least_of-at f (suc n) one x less = elim (cases_eq x n) [
  | inl same ↦ omega (arith, min-le_left (f n) (least_of f n one), ap f same)
  | inr other ↦ omega (arith, min-le_right (f n) (least_of f n one), least_of-at f n one x (omega (arith, less, other)))
]

least_of-bound : (f : ℕ → ℕ) (n one k : ℕ) → k ≤ one → ((x : ℕ) → k ≤ f x) → k ≤ least_of f n one
least_of-bound f zero one k le each = le
least_of-bound f (suc n) one k le each = le-min (each n) (least_of-bound f n one k le each)

pub least_start-is : (objects : ℕ) (table : DirtyPageTable) → IsStrictlyIncreasing (map (λ s. s.0) table.starts) → All (λ s. s.0 < objects) table.starts
    → least_start table.next table.starts ≡ start_of objects (record { redo_from = redo_from table; next = table.next })
least_start-is objects table rising there =
    let f : ℕ → ℕ = λ x. start_or table.next table.starts x in
    let one = least_of-bound f objects table.next (least_start table.next table.starts) (least_start-next table.next table.starts) (λ x. least_start-each table.next table.starts x) in
    let other = least_start-bound (least_of f objects table.next) table.next table.starts (least_of-one f objects table.next) (λ k d within.
    let s : ℕ × ℕ = get_or table.starts k (0, 0) in
    omega (
      arith,
      least_of-at f objects table.next s.0 (there k (0, 0) within),
      start_at table.starts rising table.next k within,
      ap (λ (t : ℕ × ℕ). t.1) (get_or_default table.starts k d (0, 0) within),
    )) in
    omega (arith, one, other)

-- where no object has a start of its own, it is the next LSN
pub least_start-none : (objects next : ℕ) → next ≡ least_of (λ x. next) objects next
least_start-none objects next =
    omega (arith, least_of-one (λ x. next) objects next, least_of-bound (λ x. next) objects next next (omega arith) (λ x. omega arith))
