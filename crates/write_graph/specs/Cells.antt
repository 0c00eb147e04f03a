-- Slots for entries, each with eight cells: one for each object that it reads, and from the fifth on those for what it writes.
use Rattle.std.specs.Prelude.{◌≡◌, ℕ, zero, suc, ◌+◌, ◌*◌, ◌/◌, ◌%◌, ◌-◌, ◌≤◌, ◌⊎◌, Bool, false, ◌&&◌, if◌then◌else◌, IsTrue, List, [], ◌∷◌, Some, slice_get}
use Rattle.oper_core.specs.State.{is_among}
use Rattle.install_order.specs.declared.entry.Entry.{Entry}
use Rattle.install_order.specs.Order.{Access}
use Rattle.install_order.specs.Arcs.{IsWriterBefore, IsWriterAfter, NoneBefore}
use Rattle.graph_nodes.specs.Arcs.{held_at}
use Rattle.write_graph.specs.Places.{place_in}

-- what the entry of a slot reads
abbrev pub reads_of : List Entry → ℕ → List ℕ
reads_of [] i = []
reads_of (e ∷ entries) zero = e.reads
reads_of (e ∷ entries) (suc i) = reads_of entries i

-- what the entry of a slot writes
abbrev pub writes_of : List Entry → ℕ → List ℕ
writes_of [] i = []
writes_of (e ∷ entries) zero = e.writes
writes_of (e ∷ entries) (suc i) = writes_of entries i

-- whether the entry of a slot is an identity write
abbrev pub identity_of : List Entry → ℕ → Bool
identity_of [] i = false
identity_of (e ∷ entries) zero = e.identity
identity_of (e ∷ entries) (suc i) = identity_of entries i

-- who reads and who writes, by the slots that are held
abbrev pub slot_access : List Entry → List Bool → Access
slot_access entries held = record {
  reads = λ i x. held_at held i && is_among x (reads_of entries i);
  writes = λ i x. held_at held i && is_among x (writes_of entries i);
}

-- the entries of the slots that pass
abbrev pub chosen_entries : (ℕ → Bool) → List Entry → List Entry
chosen_entries t [] = []
chosen_entries t (e ∷ entries) = if t zero then e ∷ chosen_entries (λ i. t (suc i)) entries else chosen_entries (λ i. t (suc i)) entries

-- the entries of the slots that are held
abbrev pub held_entries : List Bool → List Entry → List Entry
held_entries held entries = chosen_entries (held_at held) entries

-- the cell is one for the read of x
abbrev pub IsReadCell : List Entry → ℕ → ℕ → Type 0
IsReadCell entries c x = slice_get (reads_of entries (c / 8)) (c % 8) ≡ Some x

-- the cell is one for the write of x
abbrev pub IsWriteCell : List Entry → ℕ → ℕ → Type 0
IsWriteCell entries c x = (4 ≤ c % 8) × (slice_get (writes_of entries (c / 8)) (c % 8 - 4) ≡ Some x)

-- the first cell for the write of x by the slot's entry
abbrev pub write_cell : List Entry → ℕ → ℕ → ℕ
write_cell entries i x = 8 * i + 4 + place_in x (writes_of entries i)

-- o reads a version of x that is overwritten, and p wrote it, or nobody did and p is the first who writes x
abbrev pub ReadLeads : Access → ℕ → ℕ → ℕ → Type 0
ReadLeads a x o p = IsTrue (a.reads o x) × ((IsWriterBefore a x p o × ((later : ℕ) × (o ≤ later) × IsTrue (a.writes later x))) ⊎ (NoneBefore a x o × IsWriterAfter a x o p))

-- o writes x, and p is the next who does
abbrev pub WriteLeads : Access → ℕ → ℕ → ℕ → Type 0
WriteLeads a x o p = IsTrue (a.writes o x) × IsWriterAfter a x o p

-- the cell's arc leads to p
abbrev pub CellLeads : Access → List Entry → ℕ → ℕ → Type 0
CellLeads a entries c p = (x : ℕ) × ((IsReadCell entries c x × ReadLeads a x (c / 8) p) ⊎ (IsWriteCell entries c x × WriteLeads a x (c / 8) p))
