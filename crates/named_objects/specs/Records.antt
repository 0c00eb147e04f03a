-- How many bytes of the log the changes of names take at most.
use Rattle.std.specs.Prelude.{ℕ, ◌+◌, ◌*◌, List, length}
use Rattle.oper_core.specs.State.{State}
use Rattle.formats.specs.declared.params.Params.{Params}
use Rattle.op_codec.specs.AllOps.{all_meaning}
use Rattle.page_map.specs.Map.{bytes_at}
use Rattle.page_map.specs.Sets.{room_of}
use Rattle.page_ops.specs.Reading.{level_in}
use Rattle.range_calls.specs.Store.{Command}
use Rattle.store_engine.specs.Engine.{records_of}
use Rattle.named_objects.specs.declared.given.Given.{Given}
use Rattle.named_objects.specs.declared.given.Given.TheVariants.{Bytes, CopyOf, Longer}

-- the records of commands, in a store of these numbers
abbrev pub record_bytes : Params → List Command → ℕ
record_bytes p commands = records_of all_meaning p commands

-- how many levels a map has above its leaves
abbrev pub levels_of : ℕ → State → ℕ
levels_of lo s = level_in (bytes_at lo s lo)

-- the record of an accepted command on pages: what it makes has its texts, and is no longer than a page
abbrev pub page_most : ℕ → ℕ
page_most cap = room_of cap + 26

-- the record of the operation that writes what a name is given
abbrev pub given_bytes : Given → ℕ
given_bytes (Bytes value) = length value + 18
given_bytes (CopyOf y) = 18
given_bytes (Longer y) = 18

-- a put, and a take, in a map of so many levels
abbrev pub put_most : ℕ → ℕ → Given → ℕ
put_most cap levels given = given_bytes given + (6 * levels + 7) * page_most cap

abbrev pub take_most : ℕ → ℕ → ℕ
take_most cap levels = (2 * levels + 5) * page_most cap
