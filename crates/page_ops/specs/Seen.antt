-- The page that is made, as definitions see it.
use Rattle.std.specs.Prelude.{ℕ, Option, None, Some, Result, Ok, Err, List, [], ◌∷◌}
use Rattle.byteorder.specs.Endian.{little_bytes}
use Rattle.oper_core.specs.declared.refusal.Refusal.{Refusal}
use Rattle.page_ops.specs.Page.{Cell}
use Rattle.page_ops.specs.Layout.{Cells, Layout, numbers_in}
use Rattle.page_ops.specs.declared.layout.Cells.{Cells as CellsOfCode}
use Rattle.page_ops.specs.declared.layout.NewCells.{NewCells}
use Rattle.page_ops.specs.declared.layout.NewCells.TheVariants.{Nothing, Entry, Child, Children}
use Rattle.page_ops.specs.declared.layout.Layout.{Layout as LayoutOfCode}

abbrev pub cells_seen : CellsOfCode → Cells
cells_seen cells = record { bytes = cells.bytes.now; from = cells.from; places = numbers_in cells.places.now }

-- a cell of an inner page
abbrev pub child_cell : List ℕ → ℕ → Cell
child_cell key child = (key, little_bytes 4 child)

abbrev pub new_seen : NewCells → List Cell
new_seen Nothing = []
new_seen (Entry key value) = (key.now, value.now) ∷ []
new_seen (Child key child) = child_cell key.now child ∷ []
new_seen (Children key child second_key second) = child_cell key.now child ∷ child_cell second_key.now second ∷ []

abbrev pub seen : LayoutOfCode → Layout
seen page = record { level = page.level; front = cells_seen page.front; new = new_seen page.new; back = cells_seen page.back }

abbrev pub made_seen : Result (Option LayoutOfCode) Refusal → Result (Option Layout) Refusal
made_seen (Ok (Some page)) = Ok (Some (seen page))
made_seen (Ok None) = Ok None
made_seen (Err r) = Err r
