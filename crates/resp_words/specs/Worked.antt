-- A number of a worked reply.
use Rattle.std.specs.Prelude.{ℤ}
use lib.IntN.{negsuc}

abbrev pub minus_seven : ℤ
minus_seven = negsuc 6
