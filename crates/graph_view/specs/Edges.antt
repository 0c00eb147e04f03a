-- The edges of a list of entries, each with its kind.
use Rattle.std.specs.Prelude.{ℕ, nat_lt, ◌==◌, Bool, not, ◌&&◌, ◌≡◌, List, codes}
use Rattle.std.specs.List.{list_any}
use Rattle.install_order.specs.declared.entry.Entry.{Entry}
use Rattle.install_order.specs.Order.{Access, Edge}
use Rattle.install_order.specs.Order.Edge.{Read_write, Write_write, Lost_version}
use Rattle.install_order.specs.Entries.{accesses, reads_at, writes_at}
use Rattle.install_order.specs.Tests.{is_written_between, is_written_from}
use Rattle.graph_view.specs.declared.kind.Kind.{Kind}
use Rattle.graph_view.specs.declared.kind.Kind.TheVariants.{ReadWrite, WriteWrite, LostVersion}

-- the kind of an edge
abbrev pub kind_of : {a : Access} {o p : ℕ} → Edge a o p → Kind
kind_of (Read_write x before reads writes) = ReadWrite
kind_of (Write_write x before first second) = WriteWrite
kind_of (Lost_version x later before writes none reads from overwrites) = LostVersion

-- an edge of the kind goes from o to p
abbrev pub IsEdge : List Entry → Kind → ℕ → ℕ → Type 0
IsEdge entries kind o p = (edge : Edge (accesses entries) o p) × (kind_of edge ≡ kind)

-- the same as a test, over an object that p writes
abbrev pub is_over : List Entry → Kind → ℕ → ℕ → ℕ → Bool
is_over entries ReadWrite o p x = nat_lt o p && reads_at entries o x
is_over entries WriteWrite o p x = nat_lt o p && writes_at entries o x
is_over entries LostVersion o p x =
    nat_lt p o && (reads_at entries o x && (not (is_written_between entries p o x) && is_written_from entries o x))

-- the same as a test
abbrev pub has_edge : List Entry → Kind → ℕ → ℕ → Bool
has_edge entries kind o p = list_any (λ e. (e.lsn == p) && list_any (is_over entries kind o p) e.writes) entries

-- how an edge of the kind looks, in the DOT language
abbrev pub kind_text : Kind → List ℕ
kind_text ReadWrite = codes "label=\"read-write\""
kind_text WriteWrite = codes "label=\"write-write\", style=dashed"
kind_text LostVersion = codes "label=\"lost version\", style=dotted"
