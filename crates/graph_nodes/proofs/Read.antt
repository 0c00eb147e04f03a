-- What the code reads of a cell.
use Rattle.std.proofs.Common.{◌≡◌, ◌∙◌, sym, ℕ, ◌*◌, ◌/◌, ◌<◌, List, length, arith, inl, inr}
use Rattle.std.specs.Prelude.{Option, None, Some}
use Rattle.std.proofs.lemmas.Bool.{cases_lt}
use Rattle.std.proofs.Math.ListN.{get_or-eq_default}
use Rattle.graph_nodes.specs.Arcs.{arc_at}
use Rattle.graph_nodes.proofs.Options.{none-some}

-- a cell with an arc is there
pub arc-cell : (arcs : List (Option ℕ)) (c j : ℕ) → arc_at arcs c ≡ Some j → c < length arcs
arc-cell arcs c j arc = elim (cases_lt c (length arcs)) [ inl lt ↦ lt | inr ge ↦ absurd (none-some j (sym (get_or-eq_default arcs None ge) ∙ arc)) ]

-- and so is its slot
pub arc-slot : (arcs : List (Option ℕ)) (c j n : ℕ) → length arcs ≡ 8 * n → arc_at arcs c ≡ Some j → c / 8 < n
arc-slot arcs c j n size arc = omega (arith, arc-cell arcs c j arc, size)
