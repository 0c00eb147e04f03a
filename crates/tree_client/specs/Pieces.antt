-- The pairs of a tree that stand in one leaf, and where the next ones begin.
use Rattle.std.specs.Prelude.{ℕ, Option, Some, Result, Err, List, [], ◌∷◌, if◌then◌else◌}
use Rattle.std.specs.Ordering.{is_lt}
use Rattle.oper_core.specs.State.{State}
use Rattle.oper_core.specs.declared.bounds.Bounds.{Bounds}
use Rattle.key_entries.specs.Entries.{byte_order}
use Rattle.logical_btree.specs.Plan.{is_there, range_on}
use Rattle.logical_btree.specs.Walk.{Pair, Span, lower_end, scan}
use Rattle.logical_btree.specs.declared.refusal.TreeRefusal.{TreeRefusal}
use Rattle.logical_btree.specs.declared.refusal.TreeRefusal.TheVariants.{NoObject}

-- the pairs of a span of keys, which may have no end; where it has one they are what a range answers
abbrev pub span_answer : Bounds → ℕ → ℕ → State → Span → Result (List Pair) TreeRefusal
span_answer b lo hi s span = if is_there b lo hi then range_on (scan lo hi s span) else Err NoObject

-- Where the keys end that stand under the same child as a key, of those below an end: at the first separator above the key.
abbrev pub end_below : List ℕ → Option (List ℕ) → List (List ℕ × ℕ) → Option (List ℕ)
end_below key end [] = end
end_below key end (b ∷ branches) = if is_lt (byte_order key b.0) then Some (lower_end b.0 end) else end_below key end branches
