-- Why a tool stops, from why a call failed.
use Rattle.formats.specs.declared.read_err.ReadErr.{ReadErr}
use Rattle.formats.specs.declared.read_err.ReadErr.TheVariants as reads
use Rattle.stable_objects.specs.declared.open_err.OpenErr.{OpenErr}
use Rattle.stable_objects.specs.declared.open_err.OpenErr.TheVariants as opens
use Rattle.tool_output.specs.declared.stop.Stop.{Stop}
use Rattle.tool_output.specs.declared.stop.Stop.TheVariants.{NotAStore, Damaged, DiskFault, Memory}

abbrev pub stop_from_open : OpenErr → Stop
stop_from_open opens.NotAStore = NotAStore
stop_from_open opens.DiskFault = DiskFault
stop_from_open (opens.Damaged file place) = Damaged file place
stop_from_open opens.Memory = Memory

abbrev pub stop_from_read : ReadErr → Stop
stop_from_read reads.DiskFault = DiskFault
stop_from_read (reads.Damaged file place) = Damaged file place
stop_from_read reads.Memory = Memory
