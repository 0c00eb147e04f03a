-- The checks that may be taken of a log.
use Rattle.std.specs.Prelude.{◌≡◌, ◌&&◌, ℕ, Bool, nat_lt, nat_le, All, List, map}
use Rattle.disk_model.specs.Disk.{Disk}
use Rattle.oper_core.specs.Meaning.{Meaning}
use Rattle.oper_core.specs.declared.bounds.Bounds.{Bounds}
use Rattle.dirty_page_table.specs.declared.table.DirtyPageTable.{DirtyPageTable}
use Rattle.formats.specs.declared.params.Params.{Params}
use Rattle.install_order.specs.Entries.{accesses}
use Rattle.install_order.specs.declared.entry.Entry.{Entry}
use Rattle.write_graph.specs.Graph.{Lists, IsLeast}
use Rattle.write_graph.specs.Objects.{IsWriter, IsWritten}
use Rattle.explain_core.specs.Sound.{IsSound}
use Rattle.explain_core.specs.World.{World, end_of, table_now}
use Rattle.standing.specs.Members.{table_of}
use Rattle.running_store.specs.Parts.{Parts, Shows, ShowsVolatile, meaning_in}

-- the start's object is there, and its LSN is not below the base
abbrev pub is_in_log : ℕ → ℕ → ℕ × ℕ → Bool
is_in_log objects base s = nat_lt s.0 objects && nat_le base s.1

-- The checkpoint is the one that the world would take now, by the redo starts of the graph with these entries.
pub record IsTakenNow {O : Type 0} (m : Meaning O) (w : World O) (entries : List Entry) (table : DirtyPageTable) : Type 0 where
  pub now : table_of table ≡ table_now m w
  pub objects : Lists (IsWritten (accesses entries)) (map (λ s. s.0) table.starts)
  pub least : All (λ s. IsLeast (IsWriter (accesses entries) s.0) s.1) table.starts

-- it is the one that each sound world takes now which has these objects, this graph and the log's LSNs
abbrev pub IsTakenBy : {O : Type 0} → (Bounds → Meaning O) → Parts → DirtyPageTable → Type 0
IsTakenBy {O} meaning it table = (p : Params) (file : List ℕ) (w : World O) → IsSound (meaning_in meaning p) w → ShowsVolatile (meaning_in meaning p) p file it.volatile w → it.log.next ≡ end_of w → it.log.log.header.base ≡ w.base
    → IsTakenNow (meaning_in meaning p) w it.volatile.entries table

-- it is the one of each world that is shown
abbrev pub IsTableNow : {O : Type 0} → (Bounds → Meaning O) → Disk → Parts → DirtyPageTable → Type 0
IsTableNow {O} meaning d it table = (p : Params) (w : World O) → Shows (meaning_in meaning p) p d it w → table_of table ≡ table_now (meaning_in meaning p) w
