-- How an entry is linked: its reads wait, the last writers lead to it, and who waited for its writes gets an arc.
use Rattle.std.specs.Prelude.{◌≡◌, ℕ, ◌+◌, ◌*◌, ◌/◌, ◌≤◌, ◌⊎◌, Bool, IsTrue, List, [], length, Some, IsSome, slice_get}
use Rattle.std.specs.Option.{unwrap_or}
use Rattle.oper_core.specs.State.{is_among}
use Rattle.graph_nodes.specs.Arcs.{arc_at, held_at}
use Rattle.graph_nodes.specs.Named.{Graph}
use Rattle.write_graph.specs.Places.{place_in}
use Rattle.write_graph.specs.Rows.{last_cell_of, waiting_of, Rows, AreSameLast, last_held}

-- as many slots and cells, the same of them held, and all arcs that were there
pub record IsGrown (old new : Graph) : Type 0 where
  pub arcs : (c p : ℕ) → arc_at old.arcs c ≡ Some p → arc_at new.arcs c ≡ Some p
  pub cells : length new.arcs ≡ length old.arcs
  pub slots : length new.node ≡ length old.node
  pub held : new.held ≡ old.held
  pub room : old.room ≤ new.room

-- each arc was there before, or passes
abbrev pub AddsOnly : (ℕ → ℕ → Type 0) → Graph → Graph → Type 0
AddsOnly P old new = (c p : ℕ) → arc_at new.arcs c ≡ Some p → (arc_at old.arcs c ≡ Some p) ⊎ P c p

-- the cells that pass have arcs: those that say so, where they had none
pub record AreLed (P : ℕ → ℕ → Type 0) (old new : Graph) : Type 0 where
  pub grown : IsGrown old new
  pub here : (c p : ℕ) → P c p → IsSome (arc_at new.arcs c)
  pub only : AddsOnly P old new

-- the cell has an arc: to the slot, if it had none
abbrev pub IsLed : Graph → ℕ → ℕ → Graph → Type 0
IsLed old cell to new = AreLed (λ c p. (c ≡ cell) × (p ≡ to)) old new

-- the cell is that of the last write of x, and its slot is held
abbrev pub IsOverwritten : List Bool → Rows → ℕ → ℕ → Type 0
IsOverwritten held rows x c = (last_cell_of rows x ≡ Some c) × IsTrue (held_at held (c / 8))

-- the cell of the last write of x has an arc: to the slot, if it had none
abbrev pub IsWriterLed : Rows → ℕ → ℕ → Graph → Graph → Type 0
IsWriterLed rows x slot old new = AreLed (λ c p. IsOverwritten old.held rows x c × (p ≡ slot)) old new

-- the same for each of the objects
abbrev pub AreWritersLed : Rows → List ℕ → ℕ → Graph → Graph → Type 0
AreWritersLed rows objects slot old new = AreLed (λ c p. ((x : ℕ) × IsTrue (is_among x objects) × IsOverwritten old.held rows x c) × (p ≡ slot)) old new

-- the cell has an arc to the slot, if it had none, and its own slot is held and not this one
abbrev pub IsReaderLed : Graph → ℕ → ℕ → Graph → Type 0
IsReaderLed old cell to new = AreLed (λ c p. (c ≡ cell) × IsTrue (held_at old.held (cell / 8)) × (cell / 8 ≡ to → ⊥) × (p ≡ to)) old new

-- the cell waits for the write of x, and its slot is held and not this one
abbrev pub WaitsFor : List Bool → Rows → ℕ → ℕ → ℕ → Type 0
WaitsFor held rows x slot c = IsTrue (is_among c (waiting_of rows x)) × IsTrue (held_at held (c / 8)) × (c / 8 ≡ slot → ⊥)

-- the other rows are as they were, and in all the last writers
pub record OthersStay (old : Rows) (x : ℕ) (new : Rows) : Type 0 where
  pub waiting : (y : ℕ) → (y ≡ x → ⊥) → waiting_of new y ≡ waiting_of old y
  pub last : AreSameLast old new
  pub cells : new.cells ≡ old.cells
  pub row_room : new.row_room ≡ old.row_room
  pub cell_room : new.cell_room ≡ old.cell_room

-- what waited for the write of x has an arc: to the slot, where it had none
pub record IsAnswered (x to : ℕ) (old : Graph) (old_rows : Rows) (new : Graph) (rows : Rows) : Type 0 where
  pub led : AreLed (λ c p. WaitsFor old.held old_rows x to c × (p ≡ to)) old new
  pub empty : waiting_of rows x ≡ []
  pub others : OthersStay old_rows x rows

-- who wrote the version that the slot overwrites, or the slot itself where no writer is held
abbrev pub version_of : List Bool → Rows → ℕ → ℕ → ℕ
version_of held rows slot x = unwrap_or (last_held held rows x) slot

-- the cell waits for the write of one of the objects, and its arc is to lead to p
abbrev pub IsReader : List Bool → Rows → List ℕ → ℕ → ℕ → ℕ → Type 0
IsReader held rows objects slot c p = (x : ℕ) × IsTrue (is_among x objects) × WaitsFor held rows x (version_of held rows slot x) c × (p ≡ version_of held rows slot x)

-- the cell is that of the slot for x, which is one of all that it writes
abbrev pub IsCellFor : List ℕ → ℕ → ℕ → ℕ → Type 0
IsCellFor all slot x c = (c ≡ 8 * slot + 4 + place_in x all) × (c / 8 ≡ slot)

-- the cell of the last write of x is that of the slot
pub record IsLastCell (all : List ℕ) (slot x : ℕ) (rows : Rows) : Type 0 where
  pub cell : ℕ
  pub last : last_cell_of rows x ≡ Some cell
  pub own : IsCellFor all slot x cell

-- what waited for the write of one of the objects has an arc, nothing waits for one, and the slot, which writes all these and maybe
-- more, is their last writer
pub record AreAnswered (all objects : List ℕ) (slot : ℕ) (old : Graph) (old_rows : Rows) (new : Graph) (rows : Rows) : Type 0 where
  pub led : AreLed (IsReader old.held old_rows objects slot) old new
  pub written : (x : ℕ) → IsTrue (is_among x objects) → (waiting_of rows x ≡ []) × IsLastCell all slot x rows
  pub others : (x : ℕ) → (IsTrue (is_among x objects) → ⊥) → (waiting_of rows x ≡ waiting_of old_rows x) × (last_cell_of rows x ≡ last_cell_of old_rows x)
  pub cells : rows.cells ≡ old_rows.cells
  pub row_room : old_rows.row_room ≤ rows.row_room + length objects
  pub cell_room : rows.cell_room ≡ old_rows.cell_room

-- the cell is that of the object at its place, from the slot's first cell on
abbrev pub IsCellOf : List ℕ → ℕ → ℕ → ℕ → Type 0
IsCellOf objects slot x c = (k : ℕ) × (c ≡ 8 * slot + k) × (slice_get objects k ≡ Some x)

-- the slot's cells wait for the writes of the objects
pub record AreWaiting (objects : List ℕ) (slot : ℕ) (old new : Rows) : Type 0 where
  pub there : (x c : ℕ) → (IsTrue (is_among c (waiting_of old x)) ⊎ IsCellOf objects slot x c) → IsTrue (is_among c (waiting_of new x))
  pub only : (x c : ℕ) → IsTrue (is_among c (waiting_of new x)) → IsTrue (is_among c (waiting_of old x)) ⊎ IsCellOf objects slot x c
  pub last : AreSameLast old new
  pub cells : new.cells ≡ old.cells
  pub row_room : old.row_room ≤ new.row_room + length objects
  pub cell_room : new.cell_room ≡ old.cell_room
