-- Which records of a log are listed.
use Rattle.std.specs.Prelude.{ℕ, Bool, true, false, not, ◌&&◌, ◌||◌, ◌==◌, nat_le, Option, None, Some, is_some}
use Rattle.std.specs.List.{list_any}
use Rattle.oper_core.specs.Meaning.{Meaning}
use Rattle.op_codec.specs.AllOps.{AllOps}
use Rattle.formats.specs.declared.record.Record.{Record}
use Rattle.formats.specs.declared.record.Record.TheVariants.{Command, Identity, Checkpoint}
use Rattle.redo_log.specs.Kinds.{kind_of}
use Rattle.redo_log.specs.declared.choice.Choice.{Choice}

-- nothing is asked of a record
abbrev pub is_all : Choice → Bool
is_all w = not (is_some w.from) && not (is_some w.to) && not (is_some w.object) && not (is_some w.kind)

-- the number of a record: its LSN; of a check, the LSN that comes next
abbrev pub number_of : {O : Type 0} → Record O → ℕ
number_of (Command lsn op) = lsn
number_of (Identity lsn x value) = lsn
number_of (Checkpoint table) = table.next

-- it is not below a number, or not above one, if one is asked
abbrev pub is_from : Option ℕ → ℕ → Bool
is_from None n = true
is_from (Some from) n = nat_le from n

abbrev pub is_to : Option ℕ → ℕ → Bool
is_to None n = true
is_to (Some to) n = nat_le n to

-- its command reads or writes an object, or it is an identity write of it
abbrev pub has_object : Meaning AllOps → ℕ → Record AllOps → Bool
has_object m x (Command lsn op) = list_any (λ y. y == x) (m.reads op) || list_any (λ y. y == x) (m.writes op)
has_object m x (Identity lsn y value) = y == x
has_object m x (Checkpoint table) = false

-- the same, if one is asked
abbrev pub is_about : Meaning AllOps → Option ℕ → Record AllOps → Bool
is_about m None r = true
is_about m (Some x) r = has_object m x r

-- it is of a kind, if one is asked
abbrev pub is_of_kind : Option ℕ → Record AllOps → Bool
is_of_kind None r = true
is_of_kind (Some k) r = kind_of r == k

-- it is all that is asked
abbrev pub admits : Choice → Meaning AllOps → Record AllOps → Bool
admits w m r = is_from w.from (number_of r) && is_to w.to (number_of r) && is_about m w.object r && is_of_kind w.kind r
