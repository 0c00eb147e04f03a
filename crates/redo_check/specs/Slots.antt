-- The lines of slots: two for each that is open.
use Rattle.std.specs.Prelude.{ℕ, zero, suc, ◌+◌, ◌^◌, ◌++◌, ◌&&◌, Bool, true, false, not, ◌||◌, nat_eq, nat_lt, nat_le, if◌then◌else◌, List, [], codes, length}
use Rattle.disk_model.specs.Padded.{padded}
use Rattle.disk_model.specs.declared.machine.FileNo.TheVariants.{Objects}
use Rattle.formats.specs.Bytes.{byte_at, number_at}
use Rattle.formats.specs.Objects.{last_slot, slot_place}
use Rattle.formats.specs.declared.layout.Layout.{Layout}
use Rattle.script_lines.specs.Replies.{spaced}
use Rattle.redo_check.specs.Lines.{number_line}
use Rattle.redo_check.specs.declared.slot.Slot.{Slot}
use Rattle.redo_check.specs.declared.slot.Found.{Found}

-- what the 13 bytes at the front of a slot say; a closed one has the identifier 0 and no bytes
abbrev pub slot_of : List ℕ → Slot
slot_of head = if nat_eq (byte_at 0 head) 1 then record { is_open = true; lsn = number_at 8 1 head; length = number_at 4 9 head } else record { is_open = false; lsn = 0; length = 0 }

-- the identifier is the number of a record, and not that of the slot before it
abbrev pub has_own_lsn : Found → Bool
has_own_lsn it = nat_le 1 it.slot.lsn && nat_lt it.slot.lsn (2 ^ 62) && not (nat_eq it.slot.lsn it.rival)

-- the value is no longer than CAP and, where it has some byte, within the file
abbrev pub has_value : ℕ → ℕ → Found → Bool
has_value cap size it = nat_le it.slot.length cap && (nat_eq it.slot.length 0 || nat_le (it.place + 13 + it.slot.length) size)

-- which slot it is
abbrev pub slot_words : Found → List ℕ
slot_words it = codes "object" ++ spaced it.object ++ codes " slot" ++ spaced it.number ++ (if it.holds then codes " holds" else [])

-- of an open one
abbrev pub open_lines : ℕ → ℕ → Found → List ℕ
open_lines cap size it =
    number_line Objects (it.place + 1) (slot_words it ++ codes " identifier") it.slot.lsn (has_own_lsn it) ++ number_line Objects (it.place + 9) (slot_words it ++ codes " length") it.slot.length (has_value cap size it)

abbrev pub slot_lines : ℕ → ℕ → Found → List ℕ
slot_lines cap size it = if it.slot.is_open then open_lines cap size it else []

-- those of both slots of an object: of two that are open the one with the greater identifier holds it
abbrev pub pair_lines : Layout → ℕ → ℕ → Slot → Slot → List ℕ
pair_lines layout size x first second =
    slot_lines layout.params.cap size (record { object = x; number = 0; place = slot_place layout x 0; slot = first; rival = 0; holds = nat_le second.lsn first.lsn })
    ++ slot_lines layout.params.cap size (record { object = x; number = 1; place = slot_place layout x 1; slot = second; rival = first.lsn; holds = nat_lt first.lsn second.lsn })

-- those of the first n objects of a file
abbrev pub pairs_lines : Layout → List ℕ → ℕ → List ℕ
pairs_lines layout file zero = []
pairs_lines layout file (suc n) =
    pairs_lines layout file n ++ pair_lines layout (length file) n (slot_of (padded file (slot_place layout n 0) 13)) (slot_of (padded file (slot_place layout n 1) 13))

-- the file reaches to the last slot's gate; and the slots
abbrev pub slots_lines : Layout → List ℕ → List ℕ
slots_lines layout file = number_line Objects 0 (codes "length") (length file) (nat_lt (last_slot layout) (length file)) ++ pairs_lines layout file layout.params.objects
